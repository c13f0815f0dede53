-- Words that stand apart in a text lie within it, and are no more than its bytes.
use Rattle.std.proofs.Common.{ℕ, ◌+◌, ◌≤◌, List, [], ◌∷◌, length, inl, inr, arith}
use Rattle.std.specs.List.{onto_first}
use Rattle.std.proofs.lemmas.Bool.{cases_Bool}
use Rattle.script_text.specs.Lines.{is_line_end, lines}
use Rattle.script_text.specs.Spans.{AreApart}
use Rattle.script_text.specs.declared.token.Token.{Token}
use Rattle.script_tree.specs.Within.{AreWithin}

pub apart_within : (text : List ℕ) (from : ℕ) (ts : List Token) → AreApart from (length text) ts → AreWithin text ts
apart_within text from [] a = tt
apart_within text from (t ∷ ts) a = (omega (arith, a.1), a.2, apart_within text (t.end + 1) ts a.3)

pub apart_few : (from to : ℕ) (ts : List Token) → from ≤ to + 1 → AreApart from to ts → length ts + from ≤ to + 1
apart_few from to [] h a = omega arith
apart_few from to (t ∷ ts) h a = omega (arith, a.0, a.1, apart_few (t.end + 1) to ts (omega (arith, a.2)) a.3)

onto_few : (b : ℕ) (ls : List (List ℕ)) → length (onto_first b ls) ≤ length ls + 1
onto_few b [] = omega arith
onto_few b (l ∷ ls) = omega arith

pub lines_few : (text : List ℕ) → length (lines text) ≤ length text
lines_few [] = omega arith
lines_few (b ∷ bs) =
    elim (cases_Bool (is_line_end b)) [
      | inl e ↦ rw e (omega (arith, lines_few bs))
      | inr e ↦ rw e (omega (arith, lines_few bs, onto_few b (lines bs)))
    ]
