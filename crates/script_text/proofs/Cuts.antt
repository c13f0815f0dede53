-- A text and its lines: the first line and what stands below it, and an induction over the lines.
use Rattle.std.proofs.Common.{◌≡◌, ℕ, ◌+◌, ◌-◌, ◌<◌, ◌≤◌, true, false, not, List, [], ◌∷◌, ◌++◌, length, take, drop, refl, inl, inr, arith, one-add, add-one, length-take, length-drop}
use Rattle.std.specs.List.{before_first, after_first, position_or_len, onto_first}
use Rattle.std.proofs.lemmas.Bool.{cases_Bool}
use Rattle.std.proofs.lemmas.List.Sums.{prefix_len-le-length}
use Rattle.script_text.specs.Lines.{is_line_end, lines}

-- no line end among the bytes
abbrev pub IsPlain : List ℕ → Type 0
IsPlain [] = Unit {0}
IsPlain (b ∷ bs) = (is_line_end b ≡ false) × IsPlain bs

-- a text, cut into its lines
pub data IsCut : List ℕ → List (List ℕ) → Type 0 where
  none : IsCut [] []
  last : {b : ℕ} {bs : List ℕ} → IsPlain (b ∷ bs) → IsCut (b ∷ bs) ((b ∷ bs) ∷ [])
  more : (line rest : List ℕ) (e : ℕ) {ls : List (List ℕ)} → IsPlain line → is_line_end e ≡ true → IsCut rest ls
      → IsCut (line ++ e ∷ rest) (line ∷ ls)

cut_onto : {b : ℕ} {bs : List ℕ} {ls : List (List ℕ)} → is_line_end b ≡ false → IsCut bs ls → IsCut (b ∷ bs) (onto_first b ls)
cut_onto e none = last (e, tt)
cut_onto e (last p) = last (e, p)
cut_onto {b} e (more line rest x p f c) = more (b ∷ line) rest x (e, p) f c

-- each text is cut into its lines
pub cut : (text : List ℕ) → IsCut text (lines text)
cut [] = none
cut (b ∷ bs) = elim (cases_Bool (is_line_end b)) [ inl e ↦ rw e (more [] bs b tt e (cut bs)) | inr e ↦ rw e (cut_onto e (cut bs)) ]

first_onto : (b : ℕ) (bs : List ℕ) (n : ℕ) → lines bs ≡ take n bs ∷ lines (drop (n + 1) bs)
    → onto_first b (lines bs) ≡ take (1 + n) (b ∷ bs) ∷ lines (drop ((1 + n) + 1) (b ∷ bs))
first_onto b bs n h = rw (h, one-add, add-one, add-one) refl

-- the lines of a text are its first line and the lines below
pub lines_first : (text : List ℕ) → 0 < length text → lines text ≡ before_first is_line_end text ∷ lines (after_first is_line_end text)
lines_first [] h = absurd (omega arith)
lines_first (b ∷ []) h = elim (cases_Bool (is_line_end b)) [ inl e ↦ rw e refl | inr e ↦ rw e refl ]
lines_first (b ∷ c ∷ bs) h =
    elim (cases_Bool (is_line_end b)) [
      | inl e ↦ rw e refl
      | inr e ↦ rw e (first_onto b (c ∷ bs) (position_or_len is_line_end (c ∷ bs)) (lines_first (c ∷ bs) (omega arith)))
    ]

-- the first line, its end and what stands below aren't longer than the text, but for the end of a last line
pub length-first : (text : List ℕ)
    → length (before_first is_line_end text) + (length (after_first is_line_end text) + 1) ≤ length text + (1 - length (after_first is_line_end text))
length-first text =
    let within : position_or_len is_line_end text ≤ length text = prefix_len-le-length (λ b. not (is_line_end b)) text in
    simp (length-take, length-drop) (omega arith)
