-- What a search for line ends finds.
use Rattle.std.proofs.Common.{◌≡◌, ℕ, ◌<◌, ◌≤◌, Bool, true, false, not, List, length, take, get_or, Option, Some, None, IfSome, inl, inr, arith, refl, ap, sym, ◌∙◌, length-take-le, get_or-take}
use Rattle.std.specs.List.{position_or_len}
use Rattle.std.proofs.lemmas.Bool.{cases_lt}
use Rattle.std.proofs.lemmas.List.Sums.{prefix_len_passes, prefix_len_stops, prefix_len-le-length}
use Rattle.memchr.specs.Find.{IsLastByte, NoneBefore, Nowhere, Passes, is_byte}
use Rattle.script_text.specs.Lines.{is_line_end}

opposite : (x : Bool) → not x ≡ false → x ≡ true
opposite true e = refl
opposite false e = absurd (cc e)

clash : (x : Bool) → x ≡ true → not x ≡ true → ⊥
clash true e f = cc f
clash false e f = cc e

other : ℕ → Bool
other b = not (is_line_end b)

-- where a line end stands and none in front of it, the first line ends
pub first_end : (text : List ℕ) (k : ℕ) → NoneBefore (Passes (is_byte 10) text) 0 (length text) k → Passes (is_byte 10) text k → k ≡ position_or_len is_line_end text
first_end text k before here =
    elim (cases_lt k (position_or_len is_line_end text)) [
      | inl low ↦ absurd (clash (is_line_end (get_or text k 0)) here (prefix_len_passes (λ b. not (is_line_end b)) text k 0 low))
      | inr high ↦ elim (cases_lt (position_or_len is_line_end text) k) [
        | inl above ↦ absurd (before.before (position_or_len is_line_end text) (omega arith) above
            (opposite _ (prefix_len_stops (λ b. not (is_line_end b)) text 0 (omega (arith, above, before.high)))))
        | inr same ↦ omega (arith, high, same)
      ]
    ]

-- where none stands, the first line is the whole
pub no_end : (text : List ℕ) → Nowhere (Passes (is_byte 10) text) 0 (length text) → length text ≡ position_or_len is_line_end text
no_end text nowhere =
    let most : position_or_len is_line_end text ≤ length text = prefix_len-le-length (λ b. not (is_line_end b)) text in
    elim (cases_lt (position_or_len is_line_end text) (length text)) [
      | inl low ↦ absurd (nowhere (position_or_len is_line_end text) (omega arith) low
          (opposite _ (prefix_len_stops (λ b. not (is_line_end b)) text 0 low)))
      | inr high ↦ omega (arith, most, high)
    ]

-- a line end among the first bytes
pub end_in_front : (text : List ℕ) (r : Option ℕ) → 200 < length text → IsLastByte (is_byte 10) (take 201 text) r
    → IfSome r (λ k. (k ≤ 200) × (k < length text) × (is_line_end (get_or text k 0) ≡ true))
end_in_front text None h last = tt
end_in_front text (Some k) h last =
    let long : length (take 201 text) ≡ 201 = length-take-le 201 text (omega (arith, h)) in
    let low : k < 201 = omega (arith, long, last.0.high) in
    (omega (arith, low), omega (arith, low, h), ap is_line_end (sym (get_or-take 201 text k 0 low)) ∙ last.1)
