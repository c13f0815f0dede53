-- The spans of words by one walk over the bytes. What they are worth is said in `Spans`; this is
-- the meeting point of the code and of those facts.
use Rattle.std.specs.Prelude.{ℕ, ◌≡◌, ◌+◌, ◌≤◌, Bool, true, false, not, ◌||◌, ◌&&◌, Option, Some, None, List, [], ◌∷◌, ◌++◌, length, drop, if◌then◌else◌}
use Rattle.script_text.specs.Lines.{is_line_end, is_blank, begins_comment, may_stand, lines}
use Rattle.script_text.specs.declared.word.Class.{Class}
use Rattle.script_text.specs.declared.word.Class.TheVariants.{LineEnd, Blank, Comment, Word}
use Rattle.script_text.specs.declared.token.Token.{Token}

-- the word that is open at `place`, if one is, ends there
abbrev pub closing : ℕ → Option ℕ → ℕ → List Token
closing number None place = []
closing number (Some begin) place = record { start = begin; end = place; line = number } ∷ []

-- where the word that a byte at `place` belongs to begins
abbrev pub opened : Option ℕ → ℕ → ℕ
opened None place = place
opened (Some begin) place = begin

-- the spans in what is left of line `number`, from `place` on, where a word may be open
abbrev pub line_spans : ℕ → ℕ → Option ℕ → List ℕ → List Token
line_spans number place begun [] = closing number begun place
line_spans number place begun (b ∷ bs) =
    if begins_comment b then closing number begun place
    else (if is_blank b then closing number begun place ++ line_spans number (place + 1) None bs
    else line_spans number (place + 1) (Some (opened begun place)) bs)

-- the spans in lines that are numbered from `number` on, the first of which begins at `start`
abbrev pub spans : ℕ → ℕ → List (List ℕ) → List Token
spans number start [] = []
spans number start (l ∷ ls) = line_spans number start None l ++ spans (number + 1) (start + (length l + 1)) ls

-- a byte that may stand in a text: it ends a line, or may stand in one
abbrev pub fits : ℕ → Bool
fits b = is_line_end b || may_stand b

-- whether all bytes may stand in a text
abbrev pub all_fit : List ℕ → Bool
all_fit [] = true
all_fit (b ∷ bs) = fits b && all_fit bs

-- no line is longer than 200 bytes
abbrev pub AreShort : List (List ℕ) → Type 0
AreShort [] = Unit {0}
AreShort (l ∷ ls) = (length l ≤ 200) × AreShort ls

-- what a byte does where no comment is open
abbrev pub class : ℕ → Class
class b =
    if is_line_end b then LineEnd
    else (if begins_comment b then Comment else (if is_blank b then Blank else Word))

-- a blank or a line end
abbrev pub is_space : ℕ → Bool
is_space b = is_line_end b || is_blank b

-- a byte of a word
abbrev pub is_word_byte : ℕ → Bool
is_word_byte b = not (is_space b) && not (begins_comment b)

-- blanks and line ends alone
abbrev pub IsSpace : List ℕ → Type 0
IsSpace [] = Unit {0}
IsSpace (b ∷ bs) = (is_space b ≡ true) × IsSpace bs

-- how many line ends there are among the bytes
abbrev pub line_ends : List ℕ → ℕ
line_ends [] = 0
line_ends (b ∷ bs) = if is_line_end b then 1 + line_ends bs else line_ends bs

-- a byte at `place` of line `number` is passed over, with so many of the bytes below and so many line
-- ends; `before` was found in front of it, and `after` behind it
pub record IsPassed (byte : ℕ) (below : List ℕ) (number place : ℕ) (before after : List Token) (bytes ends : ℕ) : Type 0 where
  pub within : bytes ≤ length below
  pub few : ends ≤ 1 + bytes
  pub found : before ++ spans number place (lines (byte ∷ below)) ≡ after ++ spans (number + ends) (place + (1 + bytes)) (lines (drop bytes below))
  pub counted : line_ends (byte ∷ below) ≡ ends + line_ends (drop bytes below)

-- whether a text has a last line without an end
abbrev pub is_open : List ℕ → Bool
is_open [] = false
is_open (b ∷ []) = not (is_line_end b)
is_open (b ∷ (c ∷ cs)) = is_open (c ∷ cs)
