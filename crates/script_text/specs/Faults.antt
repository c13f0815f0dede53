-- The lines that no script may have, and the first of them.
use Rattle.std.specs.Prelude.{ℕ, ◌+◌, not, nat_lt, Option, Some, None, List, [], ◌∷◌, length, position, if◌then◌else◌}
use Rattle.std.specs.Option.{option_or, option_map}
use Rattle.script_text.specs.Lines.{lines, may_stand}
use Rattle.script_text.specs.declared.token.TokenRefusal.{TokenRefusal}
use Rattle.script_text.specs.declared.token.TokenRefusal.TheVariants.{LongLine, BadByte}

-- the fault of a line: it is longer than 200 bytes, or else its first byte that may not stand
abbrev pub line_fault : ℕ → List ℕ → Option TokenRefusal
line_fault number line =
    if nat_lt 200 (length line) then Some (LongLine number)
    else option_map (λ k. BadByte number (k + 1)) (position (λ b. not (may_stand b)) line)

-- the first fault of lines that are numbered from `number` on
abbrev pub fault_from : ℕ → List (List ℕ) → Option TokenRefusal
fault_from number [] = None
fault_from number (l ∷ ls) = option_or (line_fault number l) (fault_from (number + 1) ls)

-- the first fault of a text
abbrev pub first_fault : List ℕ → Option TokenRefusal
first_fault text = fault_from 1 (lines text)
