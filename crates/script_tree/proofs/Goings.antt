-- Reading goes on behind a line that was taken.
use Rattle.std.proofs.Common.{◌≡◌, ℕ, ◌+◌, None, Ok, List, ◌∷◌, Bor, drop, length, ap, ap₂, sym, ◌∙◌}
use Rattle.script_text.specs.Faults.{first_fault}
use Rattle.script_text.specs.Lines.{Row, lines, rows}
use Rattle.script_text.specs.Spans.{rows_of}
use Rattle.script_text.specs.declared.token.Token.{Token}
use Rattle.script_tree.specs.Grammar.{step, rows_read, then_read, script_read, text_read, grammar}
use Rattle.script_tree.specs.Reading.{State}
use Rattle.script_tree.specs.Tree.{Tree}
use Rattle.script_tree.specs.Slices.{words_of}

pub go_on : (s t : State) (number end : ℕ) (words : List (List ℕ)) (rows : List Row) → step s words ≡ Ok t
    → rows_read s (record { number = number; words = words } ∷ rows) end ≡ rows_read t rows end
go_on s t number end words rows h = ap (λ x. then_read number x (λ u. rows_read u rows end)) h

-- the same for the words of a text, seen as slices
pub goes_on : (s t : State) (text : List ℕ) (number end count : ℕ) (tokens : List Token) (slices : List (Bor (List ℕ)))
    → step s (words_of slices) ≡ Ok t → rows_of text tokens ≡ record { number = number; words = words_of slices } ∷ rows_of text (drop count tokens)
    → rows_read t (rows_of text (drop count tokens)) end ≡ rows_read s (rows_of text tokens) end
goes_on s t text number end count tokens slices taken row =
    sym (ap (λ rows. rows_read s rows end) row ∙ go_on s t number end (words_of slices) (rows_of text (drop count tokens)) taken)

-- a text without a faulty line is the program that its rows are
pub whole : (text : List ℕ) (tokens : List Token) (count : ℕ) (tree : Tree) → first_fault text ≡ None → rows_of text tokens ≡ rows text → count ≡ length (lines text)
    → script_read (rows_of text tokens) (count + 1) ≡ Ok tree → grammar text ≡ Ok tree
whole text tokens count tree faultless same counted read =
    ap (λ o. text_read text o) faultless ∙ sym (ap₂ (λ rs n. script_read rs (n + 1)) same counted) ∙ read
