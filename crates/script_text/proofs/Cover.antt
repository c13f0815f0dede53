-- The spans of a text cover exactly the bytes of its words.
use Rattle.std.proofs.Common.{◌≡◌, ◌⊎◌, ◌↔◌, ◌||◌, ℕ, zero, suc, ◌+◌, ◌<◌, ◌≤◌, Bool, true, false, not, Option, Some, None, List, [], ◌∷◌, ◌++◌, length, get_or, refl, ap, subst, inl, inr, arith, append-nil, add-zero}
use Rattle.std.proofs.lemmas.Bool.{cases_Bool, cases_lt, false≢true}
use Rattle.script_text.specs.Lines.{is_line_end, is_blank, begins_comment}
use Rattle.script_text.specs.Scan.{closing, opened, line_spans, spans}
use Rattle.script_text.specs.Spans.{Covers, IsWordByte, word_bytes}
use Rattle.script_text.specs.declared.token.Token.{Token}
use Rattle.script_text.proofs.Cuts.{IsCut, none, last, more, IsPlain}
use Rattle.script_text.proofs.Apart.{IsOpen, opened_on}

-- place k is marked, where the marks begin at place `at`
abbrev pub Marks : List Bool → ℕ → ℕ → Type 0
Marks [] at k = ⊥
Marks (m ∷ ms) at k = ((k ≡ at) × (m ≡ true)) ⊎ Marks ms (at + 1) k

-- place k lies in the word that is open at `place`
abbrev pub IsWithin : Option ℕ → ℕ → ℕ → Type 0
IsWithin None place k = ⊥
IsWithin (Some begin) place k = (begin ≤ k) × (k < place)

-- lists of marks and of spans, joined
Marks-append_left : (ms ns : List Bool) (at k : ℕ) → Marks ms at k → Marks (ms ++ ns) at k
Marks-append_left [] ns at k h = absurd h
Marks-append_left (m ∷ ms) ns at k h = elim h [ inl x ↦ inl x | inr y ↦ inr (Marks-append_left ms ns (at + 1) k y) ]

Marks-append_right : (ms ns : List Bool) (at k : ℕ) → Marks ns (at + length ms) k → Marks (ms ++ ns) at k
Marks-append_right [] ns at k h = rw add-zero at h
Marks-append_right (m ∷ ms) ns at k h =
    inr (Marks-append_right ms ns (at + 1) k (let e : at + length (m ∷ ms) ≡ (at + 1) + length ms = omega arith in subst (λ j. Marks ns j k) e h))

Marks-append : (ms ns : List Bool) (at k : ℕ) → Marks (ms ++ ns) at k → Marks ms at k ⊎ Marks ns (at + length ms) k
Marks-append [] ns at k h = inr (rw add-zero h)
Marks-append (m ∷ ms) ns at k h =
    let e : (at + 1) + length ms ≡ at + length (m ∷ ms) = omega arith in
    elim h [
      | inl x ↦ inl (inl x)
      | inr y ↦ elim (Marks-append ms ns (at + 1) k y) [ inl z ↦ inl (inr z) | inr z ↦ inr (subst (λ j. Marks ns j k) e z) ]
    ]

Covers-append_left : (xs ys : List Token) (k : ℕ) → Covers xs k → Covers (xs ++ ys) k
Covers-append_left [] ys k h = absurd h
Covers-append_left (x ∷ xs) ys k h = elim h [ inl u ↦ inl u | inr v ↦ inr (Covers-append_left xs ys k v) ]

Covers-append_right : (xs ys : List Token) (k : ℕ) → Covers ys k → Covers (xs ++ ys) k
Covers-append_right [] ys k h = h
Covers-append_right (x ∷ xs) ys k h = inr (Covers-append_right xs ys k h)

Covers-append : (xs ys : List Token) (k : ℕ) → Covers (xs ++ ys) k → Covers xs k ⊎ Covers ys k
Covers-append [] ys k h = inr h
Covers-append (x ∷ xs) ys k h =
    elim h [ inl u ↦ inl (inl u) | inr v ↦ elim (Covers-append xs ys k v) [ inl w ↦ inl (inr w) | inr w ↦ inr w ] ]

-- a word that ends at `place` covers what lies in it
closing_covers : (number : ℕ) (begun : Option ℕ) (place k : ℕ) → IsWithin begun place k → Covers (closing number begun place) k
closing_covers number None place k h = absurd h
closing_covers number (Some begin) place k h = inl h

covered_by_closing : (number : ℕ) (begun : Option ℕ) (place k : ℕ) → Covers (closing number begun place) k → IsWithin begun place k
covered_by_closing number None place k h = absurd h
covered_by_closing number (Some begin) place k h = elim h [ inl x ↦ x | inr y ↦ absurd y ]

within_opened : (begun : Option ℕ) (place k : ℕ) → IsWithin (Some (opened begun place)) (place + 1) k → IsWithin begun place k ⊎ (k ≡ place)
within_opened None place k h = inr (omega arith)
within_opened (Some begin) place k h = elim (cases_lt k place) [ inl x ↦ inl (h.0, x) | inr y ↦ inr (omega arith) ]

opened_within : (begun : Option ℕ) (place k : ℕ) → IsWithin begun place k → IsWithin (Some (opened begun place)) (place + 1) k
opened_within None place k h = absurd h
opened_within (Some begin) place k h = (h.0, omega arith)

opened_at : (begun : Option ℕ) (place k : ℕ) → IsOpen 0 begun place → k ≡ place → IsWithin (Some (opened begun place)) (place + 1) k
opened_at None place k o h = (omega arith, omega arith)
opened_at (Some begin) place k o h = (omega (arith, o.1), omega arith)

-- nothing is marked in a comment, up to the line's end
comment_unmarked : (bytes : List ℕ) (at k : ℕ) → IsPlain bytes → Marks (word_bytes true bytes) at k → ⊥
comment_unmarked [] at k p h = h
comment_unmarked (b ∷ bs) at k p h =
    let marks = rw p.0 at h in
    elim marks [ inl x ↦ false≢true x.1 | inr y ↦ comment_unmarked bs (at + 1) k p.1 y ]

length-word_bytes : (comment : Bool) (bytes : List ℕ) → length (word_bytes comment bytes) ≡ length bytes
length-word_bytes comment [] = refl
length-word_bytes comment (b ∷ bs) =
    elim (cases_Bool (is_line_end b)) [
      | inl e ↦ rw e (ap suc (length-word_bytes false bs))
      | inr e ↦ rw e (elim (cases_Bool (comment || begins_comment b)) [
        | inl f ↦ rw f (ap suc (length-word_bytes true bs))
        | inr f ↦ rw f (ap suc (length-word_bytes false bs))
      ])
    ]

-- behind a line's end no comment is open
word_bytes-append : (comment : Bool) (line : List ℕ) (e : ℕ) (rest : List ℕ) → IsPlain line → is_line_end e ≡ true
    → word_bytes comment (line ++ e ∷ rest) ≡ word_bytes comment line ++ false ∷ word_bytes false rest
word_bytes-append comment [] e rest p f = rw f refl
word_bytes-append comment (b ∷ bs) e rest p f =
    rw p.0 (elim (cases_Bool (comment || begins_comment b)) [
      | inl g ↦ rw g (ap (λ ms. false ∷ ms) (word_bytes-append true bs e rest p.1 f))
      | inr g ↦ rw g (ap (λ ms. not (is_blank b) ∷ ms) (word_bytes-append false bs e rest p.1 f))
    ])

-- a line: what its spans cover lies in the word that is open, or is marked
covered_marked : (number place k : ℕ) (begun : Option ℕ) (bytes : List ℕ) → IsPlain bytes → Covers (line_spans number place begun bytes) k
    → IsWithin begun place k ⊎ Marks (word_bytes false bytes) place k
covered_marked number place k begun [] p h = inl (covered_by_closing number begun place k h)
covered_marked number place k begun (b ∷ bs) p h =
    rw p.0 (elim (cases_Bool (begins_comment b)) [
      | inl e ↦ inl (covered_by_closing number begun place k (rw e at h))
      | inr e ↦ rw e (elim (cases_Bool (is_blank b)) [
        | inl f ↦ elim (Covers-append (closing number begun place) (line_spans number (place + 1) None bs) k (rw (e, f) at h)) [
          | inl u ↦ inl (covered_by_closing number begun place k u)
          | inr v ↦ elim (covered_marked number (place + 1) k None bs p.1 v) [ inl w ↦ absurd w | inr w ↦ inr (inr w) ]
        ]
        | inr f ↦ elim (covered_marked number (place + 1) k (Some (opened begun place)) bs p.1 (rw (e, f) at h)) [
          | inl u ↦ elim (within_opened begun place k u) [ inl w ↦ inl w | inr w ↦ inr (inl (w, rw f refl)) ]
          | inr v ↦ inr (inr v)
        ]
      ])
    ])

-- and the other way round
marked_covered : (number place k : ℕ) (begun : Option ℕ) (bytes : List ℕ) → IsOpen 0 begun place → IsPlain bytes
    → IsWithin begun place k ⊎ Marks (word_bytes false bytes) place k → Covers (line_spans number place begun bytes) k
marked_covered number place k begun [] o p h = elim h [ inl u ↦ closing_covers number begun place k u | inr v ↦ absurd v ]
marked_covered number place k begun (b ∷ bs) o p h =
    let marks = rw p.0 at h in
    elim (cases_Bool (begins_comment b)) [
      | inl e ↦ rw e (elim (rw e at marks) [
        | inl u ↦ closing_covers number begun place k u
        | inr v ↦ elim v [ inl x ↦ absurd (false≢true x.1) | inr y ↦ absurd (comment_unmarked bs (place + 1) k p.1 y) ]
      ])
      | inr e ↦ rw e (elim (cases_Bool (is_blank b)) [
        | inl f ↦ rw f (elim (rw (e, f) at marks) [
          | inl u ↦ Covers-append_left (closing number begun place) (line_spans number (place + 1) None bs) k (closing_covers number begun place k u)
          | inr v ↦ elim v [
            | inl x ↦ absurd (false≢true x.1)
            | inr y ↦ Covers-append_right (closing number begun place) (line_spans number (place + 1) None bs) k
                (marked_covered number (place + 1) k None bs (omega arith) p.1 (inr y))
          ]
        ])
        | inr f ↦ rw f (marked_covered number (place + 1) k (Some (opened begun place)) bs (opened_on 0 begun place o) p.1
            (elim (rw (e, f) at marks) [
              | inl u ↦ inl (opened_within begun place k u)
              | inr v ↦ elim v [ inl x ↦ inl (opened_at begun place k o x.0) | inr y ↦ inr y ]
            ]))
      ])
    ]

-- a text that begins at `start`
text_marked : {text : List ℕ} {ls : List (List ℕ)} → IsCut text ls → (number start k : ℕ) → Covers (spans number start ls) k → Marks (word_bytes false text) start k
text_marked none number start k h = h
text_marked (last {b} {bs} p) number start k h =
    elim (covered_marked number start k None (b ∷ bs) p (rw append-nil at h)) [ inl u ↦ absurd u | inr v ↦ v ]
text_marked (more line rest e {ls} p f c) number start k h =
    rw (word_bytes-append false line e rest p f)
    (elim (Covers-append (line_spans number start None line) (spans (number + 1) (start + (length line + 1)) ls) k h) [
      | inl u ↦ Marks-append_left (word_bytes false line) (false ∷ word_bytes false rest) start k
          (elim (covered_marked number start k None line p u) [ inl w ↦ absurd w | inr w ↦ w ])
      | inr v ↦ Marks-append_right (word_bytes false line) (false ∷ word_bytes false rest) start k
          (rw length-word_bytes (inr (let at : start + (length line + 1) ≡ start + length line + 1 = omega arith in
          subst (λ j. Marks (word_bytes false rest) j k) at (text_marked c (number + 1) (start + (length line + 1)) k v))))
    ])

marked_text : {text : List ℕ} {ls : List (List ℕ)} → IsCut text ls → (number start k : ℕ) → Marks (word_bytes false text) start k → Covers (spans number start ls) k
marked_text none number start k h = h
marked_text (last {b} {bs} p) number start k h =
    rw append-nil (marked_covered number start k None (b ∷ bs) (omega arith) p (inr h))
marked_text (more line rest e {ls} p f c) number start k h =
    elim (Marks-append (word_bytes false line) (false ∷ word_bytes false rest) start k (rw (word_bytes-append false line e rest p f) at h)) [
      | inl u ↦ Covers-append_left (line_spans number start None line) (spans (number + 1) (start + (length line + 1)) ls) k
          (marked_covered number start k None line (omega arith) p (inr u))
      | inr v ↦ Covers-append_right (line_spans number start None line) (spans (number + 1) (start + (length line + 1)) ls) k
          (elim v [
            | inl x ↦ absurd (false≢true x.1)
            | inr y ↦ marked_text c (number + 1) (start + (length line + 1)) k
                (let at : start + length (word_bytes false line) + 1 ≡ start + (length line + 1) = rw length-word_bytes (omega arith) in
                subst (λ j. Marks (word_bytes false rest) j k) at y)
          ])
    ]

-- a mark, by its place among the marks
Marks-at : (ms : List Bool) (at j : ℕ) → get_or ms j false ≡ true → Marks ms at (at + j)
Marks-at [] at j h = false≢true h
Marks-at (m ∷ ms) at zero h = inl (add-zero at, h)
Marks-at (m ∷ ms) at (suc j) h = inr (let e : (at + 1) + j ≡ at + suc j = omega arith in subst (λ k. Marks ms (at + 1) k) e (Marks-at ms (at + 1) j h))

at-Marks : (ms : List Bool) (at k : ℕ) → Marks ms at k → (j : ℕ) × (k ≡ at + j) × (get_or ms j false ≡ true)
at-Marks [] at k h = absurd h
at-Marks (m ∷ ms) at k h =
    elim h [
      | inl x ↦ (0, omega (arith, x.0), x.1)
      | inr y ↦ let r = at-Marks ms (at + 1) k y in (suc r.0, omega (arith, r.1), r.2)
    ]

-- the spans of a text cover the bytes of its words
pub spans_cover : {text : List ℕ} {ls : List (List ℕ)} → IsCut text ls → (k : ℕ) → Covers (spans 1 0 ls) k ↔ IsWordByte text k
spans_cover {text} {ls} c k = (to, from)
  where
    to : Covers (spans 1 0 ls) k → IsWordByte text k
    to h = let r = at-Marks (word_bytes false text) 0 k (text_marked c 1 0 k h) in
        let e : r.0 ≡ k = omega (arith, r.1) in
        subst (λ j. get_or (word_bytes false text) j false ≡ true) e r.2

    from : IsWordByte text k → Covers (spans 1 0 ls) k
    from h = marked_text c 1 0 k (let e : 0 + k ≡ k = omega arith in subst (λ j. Marks (word_bytes false text) 0 j) e (Marks-at (word_bytes false text) 0 k h))
