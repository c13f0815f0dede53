-- What the spans of a text are worth.
use Rattle.std.proofs.Common.{◌≡◌, ◌↔◌, ℕ, List, [], length, refl, arith}
use Rattle.script_text.specs.Lines.{lines, rows}
use Rattle.script_text.specs.Scan.{spans}
use Rattle.script_text.specs.Spans.{AreApart, Covers, IsWordByte, rows_of}
use Rattle.script_text.specs.declared.token.Token.{Token}
use Rattle.script_text.proofs.Apart.{spans_apart}
use Rattle.script_text.proofs.Cover.{spans_cover}
use Rattle.script_text.proofs.Cuts.{cut}
use Rattle.script_text.proofs.Grouped.{rows_of_spans}

module _ (text : List ℕ) (ts : List Token) (are : ts ≡ spans 1 0 (lines text)) where
  pub are_apart : AreApart 0 (length text) ts
  are_apart = rw are (spans_apart (cut text) 1 0 (length text) (omega arith))

  pub cover_words : (k : ℕ) → Covers ts k ↔ IsWordByte text k
  cover_words k = rw are (spans_cover (cut text) k)

  pub make_rows : rows_of text ts ≡ rows text
  make_rows = rw are (rows_of_spans (cut text) text [] 1 0 refl refl)
