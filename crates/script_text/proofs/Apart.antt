-- The spans of a text are in order, and a byte stands between each and the next.
use Rattle.std.proofs.Common.{ℕ, ◌+◌, ◌<◌, ◌≤◌, Option, Some, None, List, [], ◌∷◌, ◌++◌, length, subst, inl, inr, arith, append-nil, length-append}
use Rattle.std.proofs.lemmas.Bool.{cases_Bool}
use Rattle.script_text.specs.Lines.{is_blank, begins_comment}
use Rattle.script_text.specs.Scan.{closing, opened, line_spans, spans}
use Rattle.script_text.specs.Spans.{AreApart}
use Rattle.script_text.specs.declared.token.Token.{Token}
use Rattle.script_text.proofs.Cuts.{IsCut, none, last, more}

-- a word that is open at `place` began at or after `from`, and before `place`
abbrev pub IsOpen : ℕ → Option ℕ → ℕ → Type 0
IsOpen from None place = from ≤ place
IsOpen from (Some begin) place = (from ≤ begin) × (begin < place)

pub opened_on : (from : ℕ) (begun : Option ℕ) (place : ℕ) → IsOpen from begun place → IsOpen from (Some (opened begun place)) (place + 1)
opened_on from None place o = (o, omega arith)
opened_on from (Some begin) place o = (o.0, omega arith)

apart_from : (low from to : ℕ) (ts : List Token) → low ≤ from → AreApart from to ts → AreApart low to ts
apart_from low from to [] h a = tt
apart_from low from to (t ∷ ts) h a = (omega (arith, a.0), a.1, a.2, a.3)

apart_append : (from mid to : ℕ) (xs ys : List Token) → from ≤ mid + 1 → mid ≤ to → AreApart from mid xs → AreApart (mid + 1) to ys → AreApart from to (xs ++ ys)
apart_append from mid to [] ys h w a b = apart_from from (mid + 1) to ys h b
apart_append from mid to (t ∷ ts) ys h w a b =
    (a.0, a.1, omega (arith, a.2), apart_append (t.end + 1) mid to ts ys (omega (arith, a.2)) w a.3 b)

closing_apart : (number from place to : ℕ) (begun : Option ℕ) → IsOpen from begun place → place ≤ to → AreApart from to (closing number begun place)
closing_apart number from place to None o h = tt
closing_apart number from place to (Some begin) o h = (o.0, o.1, h, tt)

closing_then : (number from place to : ℕ) (begun : Option ℕ) (ys : List Token) → IsOpen from begun place → place ≤ to → AreApart (place + 1) to ys
    → AreApart from to (closing number begun place ++ ys)
closing_then number from place to None ys o h a = apart_from from (place + 1) to ys (omega arith) a
closing_then number from place to (Some begin) ys o h a = (o.0, o.1, h, a)

line_apart : (number from place to : ℕ) (begun : Option ℕ) (bytes : List ℕ) → IsOpen from begun place → place + length bytes ≤ to
    → AreApart from to (line_spans number place begun bytes)
line_apart number from place to begun [] o h = closing_apart number from place to begun o (omega arith)
line_apart number from place to begun (b ∷ bs) o h =
    elim (cases_Bool (begins_comment b)) [
      | inl e ↦ rw e (closing_apart number from place to begun o (omega arith))
      | inr e ↦ rw e (elim (cases_Bool (is_blank b)) [
        | inl f ↦ rw f (closing_then number from place to begun (line_spans number (place + 1) None bs) o (omega arith)
            (line_apart number (place + 1) (place + 1) to None bs (omega arith) (omega arith)))
        | inr f ↦ rw f (line_apart number from (place + 1) to (Some (opened begun place)) bs (opened_on from begun place o) (omega arith))
      ])
    ]

-- the spans of a text that begins at `start`
pub spans_apart : {text : List ℕ} {ls : List (List ℕ)} → IsCut text ls → (number start to : ℕ) → start + length text ≤ to → AreApart start to (spans number start ls)
spans_apart none number start to h = tt
spans_apart (last {b} {bs} p) number start to h =
    rw append-nil (line_apart number start start to None (b ∷ bs) (omega arith) h)
spans_apart (more line rest e {ls} p f c) number start to h =
    let long : start + (length line + (length rest + 1)) ≤ to = omega (arith, length-append line (e ∷ rest)) in
    apart_append start (start + length line) to (line_spans number start None line) (spans (number + 1) (start + (length line + 1)) ls)
    (omega arith) (omega arith) (line_apart number start start (start + length line) None line (omega arith) (omega arith))
    (let further : AreApart (start + (length line + 1)) to (spans (number + 1) (start + (length line + 1)) ls) = spans_apart c (number + 1) (start + (length line + 1)) to (omega arith) in
    subst (λ from. AreApart from to (spans (number + 1) (start + (length line + 1)) ls)) (omega arith) further)
