-- The grammar of scripts: what program a text is, or the line and the cause of its first fault.
use Rattle.std.specs.Prelude.{◌≡◌, ℕ, ◌+◌, Bool, false, ◌&&◌, ◌||◌, Option, Some, None, Result, Ok, Err, List, [], ◌∷◌, length, codes, bytes_eq, if◌then◌else◌}
use Rattle.script_text.specs.Faults.{first_fault}
use Rattle.script_text.specs.Lines.{Row, lines, rows}
use Rattle.script_text.specs.declared.token.TokenRefusal.{TokenRefusal}
use Rattle.script_text.specs.declared.token.TokenRefusal.TheVariants as token_refusal
use Rattle.script_tree.specs.declared.cause.Cause.{Cause}
use Rattle.script_tree.specs.declared.cause.Cause.TheVariants as cause
use Rattle.script_tree.specs.declared.form.Form.{Form}
use Rattle.script_tree.specs.declared.line.Line.{Line}
use Rattle.script_tree.specs.declared.opener.Opener.{Opener}
use Rattle.script_tree.specs.declared.refusal.Refused.{Refused}
use Rattle.script_tree.specs.Cause.{number_of}
use Rattle.script_tree.specs.Forms.{Seen, form_of, shapes}
use Rattle.script_tree.specs.Lines.{line_made}
use Rattle.script_tree.specs.Parts.{Part, words_read}
use Rattle.script_tree.specs.Reading.{State, start, fits, is_over, is_head, is_between, limit_broken, after}
use Rattle.script_tree.specs.Tree.{Tree}

-- the line that a form makes of its words
abbrev pub line_of_parts : Form → Result (List Part) Cause → Result Line Cause
line_of_parts f (Err c) = Err c
line_of_parts f (Ok parts) = Ok (line_made f parts)

-- a form at its place: where it can't stand, its first word is wrong
abbrev pub line_seen : State → Option Seen → Result Line Cause
line_seen s None = Err cause.Word
line_seen s (Some seen) =
    if fits s.top.what s.top.level.breaks seen.form
    then line_of_parts seen.form (words_read s.names (shapes seen.form) seen.rest)
    else Err cause.Word

-- behind the main text no word may stand
abbrev pub line_read : State → Opener → List (List ℕ) → Result Line Cause
line_read s o words = if is_over o then Err cause.AfterMain else line_seen s (form_of words)

-- what a line's words are comes before the limits
abbrev pub admitted : State → Line → Option Cause → Result State Cause
admitted s l (Some c) = Err c
admitted s l None = Ok (after s l)

abbrev pub stepped : State → Result Line Cause → Result State Cause
stepped s (Err c) = Err c
stepped s (Ok l) = admitted s l (limit_broken s l)

-- the state behind a line with these words, or the cause for which it is refused
abbrev pub step : State → List (List ℕ) → Result State Cause
step s words = stepped s (line_read s s.top.what words)

abbrev pub refused : ℕ → Cause → Refused
refused number c = record { line = number; cause = number_of c }

abbrev pub tree_of : State → Tree
tree_of s = record { decls = s.decls; texts = s.texts; blocks = s.blocks; events = s.events }

-- the end of the file, which counts as a line of its own
abbrev pub file_read : State → ℕ → Opener → Result Tree Refused
file_read s end o =
    if is_over o then Ok (tree_of s)
    else (if is_head o || is_between o then Err (refused end cause.NoMain) else Err (refused end cause.TextOpen))

abbrev pub then_read : ℕ → Result State Cause → (State → Result Tree Refused) → Result Tree Refused
then_read number (Err c) go = Err (refused number c)
then_read number (Ok s) go = go s

-- the rows of a script behind its first one, in a state, where the file ends with the line `end`
abbrev pub rows_read : State → List Row → ℕ → Result Tree Refused
rows_read s [] end = file_read s end s.top.what
rows_read s (r ∷ rs) end = then_read r.number (step s r.words) (λ t. rows_read t rs end)

-- the first line with words is `picos 1`
abbrev pub is_header : List (List ℕ) → Bool
is_header (a ∷ b ∷ []) = bytes_eq a (codes "picos") && bytes_eq b (codes "1")
is_header _ = false

abbrev pub script_read : List Row → ℕ → Result Tree Refused
script_read [] end = Err (refused end cause.Header)
script_read (r ∷ rs) end = if is_header r.words then rows_read start rs end else Err (refused r.number cause.Header)

-- a line that no script may have; want of memory is no fault of a text
abbrev pub fault_refused : TokenRefusal → Refused
fault_refused (token_refusal.LongLine number) = refused number cause.LongLine
fault_refused (token_refusal.BadByte number place) = refused number cause.BadByte
fault_refused token_refusal.Memory = record { line = 0; cause = 0 }

abbrev pub text_read : List ℕ → Option TokenRefusal → Result Tree Refused
text_read text (Some fault) = Err (fault_refused fault)
text_read text None = script_read (rows text) (length (lines text) + 1)

-- the program that a text is, or its first fault: first all lines are read as words
abbrev pub grammar : List ℕ → Result Tree Refused
grammar text = text_read text (first_fault text)

-- a program is what some text is
abbrev pub IsScript : Tree → Type 0
IsScript tree = (text : List ℕ) × (grammar text ≡ Ok tree)
