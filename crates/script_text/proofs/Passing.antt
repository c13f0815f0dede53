-- What stands at the front of a text, and how its spans go on behind that.
use Rattle.std.proofs.Common.{◌≡◌, ℕ, zero, suc, ◌+◌, ◌<◌, ◌≤◌, Bool, true, false, not, List, [], ◌∷◌, ◌++◌, length, take, drop, Some, refl, ap, sym, ◌∙◌, inl, inr, arith, one-add, add-zero, get_or, ◌-◌, if◌then◌else◌, append_assoc, slice_get, take-add, length-drop, length-take-le}
use Rattle.std.specs.List.{onto_first, position_or_len, prefix_len}
use Rattle.std.proofs.lemmas.Bool.{cases_Bool, eqb-true}
use Rattle.std.proofs.lemmas.Option.{get_or_from_slice_get, slice_get_within}
use Rattle.script_text.specs.Lines.{is_line_end, is_blank, begins_comment, lines}
use Rattle.script_text.specs.Scan.{closing, line_spans, spans, class, is_word_byte, IsSpace, line_ends, is_open, IsPassed}
use Rattle.script_text.specs.declared.token.Token.{Token}
use Rattle.script_text.specs.declared.word.Class.TheVariants.{LineEnd, Blank, Comment, Word}

comment_no_blank : (b : ℕ) → begins_comment b ≡ true → is_blank b ≡ false
comment_no_blank b e = rw (eqb-true b 35 e) refl

blank_no_comment : (b : ℕ) → is_blank b ≡ true → begins_comment b ≡ false
blank_no_comment b k = elim (cases_Bool (begins_comment b)) [ inl c ↦ absurd (cc (k, comment_no_blank b c)) | inr c ↦ c ]

-- the spans behind `place`, where a word that began at `begin` is open there
abbrev pub word_spans : ℕ → ℕ → ℕ → List (List ℕ) → List Token
word_spans number begin place [] = closing number (Some begin) place
word_spans number begin place (l ∷ ls) = line_spans number place (Some begin) l ++ spans (number + 1) (place + (length l + 1)) ls

-- the spans behind `place`, where a comment is open there
abbrev pub comment_spans : ℕ → ℕ → List (List ℕ) → List Token
comment_spans number place [] = []
comment_spans number place (l ∷ ls) = spans (number + 1) (place + (length l + 1)) ls

shifted : (place n : ℕ) → place + (suc n + 1) ≡ place + 1 + (n + 1)
shifted place n = omega arith

blank_onto : (number place b : ℕ) (ls : List (List ℕ)) → begins_comment b ≡ false → is_blank b ≡ true
    → spans number place (onto_first b ls) ≡ spans number (place + 1) ls
blank_onto number place b [] c k = rw (c, k) refl
blank_onto number place b (l ∷ ls) c k = rw (c, k, shifted place (length l)) refl

word_begins : (number place b : ℕ) (ls : List (List ℕ)) → begins_comment b ≡ false → is_blank b ≡ false
    → spans number place (onto_first b ls) ≡ word_spans number place (place + 1) ls
word_begins number place b [] c k = rw (c, k) refl
word_begins number place b (l ∷ ls) c k = rw (c, k, shifted place (length l)) refl

word_onto : (number begin place b : ℕ) (ls : List (List ℕ)) → begins_comment b ≡ false → is_blank b ≡ false
    → word_spans number begin place (onto_first b ls) ≡ word_spans number begin (place + 1) ls
word_onto number begin place b [] c k = rw (c, k) refl
word_onto number begin place b (l ∷ ls) c k = rw (c, k, shifted place (length l)) refl

comment_begins : (number place b : ℕ) (ls : List (List ℕ)) → begins_comment b ≡ true
    → spans number place (onto_first b ls) ≡ comment_spans number (place + 1) ls
comment_begins number place b [] c = rw c refl
comment_begins number place b (l ∷ ls) c = rw (c, shifted place (length l)) refl

comment_onto : (number place b : ℕ) (ls : List (List ℕ)) → comment_spans number place (onto_first b ls) ≡ comment_spans number (place + 1) ls
comment_onto number place b [] = refl
comment_onto number place b (l ∷ ls) = rw (shifted place (length l)) refl

-- a word that ends in front of a blank or a comment
ends_at_comment : (number begin place b : ℕ) (ls : List (List ℕ)) → begins_comment b ≡ true
    → word_spans number begin place (onto_first b ls) ≡ record { start = begin; end = place; line = number } ∷ spans number place (onto_first b ls)
ends_at_comment number begin place b [] c = rw c refl
ends_at_comment number begin place b (l ∷ ls) c = rw c refl

ends_at_blank : (number begin place b : ℕ) (ls : List (List ℕ)) → begins_comment b ≡ false → is_blank b ≡ true
    → word_spans number begin place (onto_first b ls) ≡ record { start = begin; end = place; line = number } ∷ spans number place (onto_first b ls)
ends_at_blank number begin place b [] c k = rw (c, k) refl
ends_at_blank number begin place b (l ∷ ls) c k = rw (c, k) refl

stepped : (place n : ℕ) → place + suc n ≡ place + 1 + n
stepped place n = omega arith

word_goes_on : (number begin place : ℕ) (bs : List ℕ)
    → word_spans number begin place (lines bs)
    ≡ record { start = begin; end = place + prefix_len is_word_byte bs; line = number }
    ∷ spans number (place + prefix_len is_word_byte bs) (lines (drop (prefix_len is_word_byte bs) bs))
word_goes_on number begin place [] = rw add-zero refl
word_goes_on number begin place (b ∷ bs) =
    elim (cases_Bool (is_line_end b)) [
      | inl e ↦ rw (e, add-zero, e) refl
      | inr e ↦ elim (cases_Bool (begins_comment b)) [
        | inl c ↦ rw (e, comment_no_blank b c, c, add-zero, e) (ends_at_comment number begin place b (lines bs) c)
        | inr c ↦ elim (cases_Bool (is_blank b)) [
          | inl k ↦ rw (e, k, add-zero, e) (ends_at_blank number begin place b (lines bs) c k)
          | inr k ↦ rw (e, c, k, one-add, stepped place (prefix_len is_word_byte bs))
              (word_onto number begin place b (lines bs) c k ∙ word_goes_on number begin (place + 1) bs)
        ]
      ]
    ]

comment_goes_on : (number place : ℕ) (bs : List ℕ)
    → comment_spans number place (lines bs) ≡ spans number (place + position_or_len is_line_end bs) (lines (drop (position_or_len is_line_end bs) bs))
comment_goes_on number place [] = refl
comment_goes_on number place (b ∷ bs) =
    elim (cases_Bool (is_line_end b)) [
      | inl e ↦ rw (e, add-zero, e) refl
      | inr e ↦ rw (e, one-add, stepped place (position_or_len is_line_end bs))
          (comment_onto number place b (lines bs) ∙ comment_goes_on number (place + 1) bs)
    ]

-- blanks and line ends
space_goes_on : (n number place : ℕ) (bs : List ℕ) → IsSpace (take n bs)
    → spans number place (lines bs) ≡ spans (number + line_ends (take n bs)) (place + n) (lines (drop n bs))
space_goes_on zero number place bs s = rw (add-zero, add-zero) refl
space_goes_on (suc n) number place [] s = refl
space_goes_on (suc n) number place (b ∷ bs) s =
    elim (cases_Bool (is_line_end b)) [
      | inl e ↦ rw (e, one-add, stepped number (line_ends (take n bs)), stepped place n) (space_goes_on n (number + 1) (place + 1) bs s.1)
      | inr e ↦ let k : is_blank b ≡ true = rw e at s.0 in
          rw (e, stepped place n) (blank_onto number place b (lines bs) (blank_no_comment b k) k ∙ space_goes_on n number (place + 1) bs s.1)
    ]

-- line ends among what is passed over
counted_apart : (n : ℕ) (bs : List ℕ) → line_ends bs ≡ line_ends (take n bs) + line_ends (drop n bs)
counted_apart zero bs = omega arith
counted_apart (suc n) [] = refl
counted_apart (suc n) (b ∷ bs) =
    elim (cases_Bool (is_line_end b)) [
      | inl e ↦ rw e (let was = counted_apart n bs in omega (arith, was))
      | inr e ↦ rw e (counted_apart n bs)
    ]

none_counted : (p : ℕ → Bool) → ((b : ℕ) → p b ≡ true → is_line_end b ≡ false) → (bs : List ℕ) → line_ends bs ≡ line_ends (drop (prefix_len p bs) bs)
none_counted p free [] = refl
none_counted p free (b ∷ bs) =
    elim (cases_Bool (p b)) [
      | inl e ↦ rw (e, one-add, free b e, one-add) (none_counted p free bs)
      | inr e ↦ rw e refl
    ]

-- the lines of a text are its line ends, and one more where its last line has none
length-onto : (b : ℕ) (ls : List (List ℕ)) → 0 < length ls → length (onto_first b ls) ≡ length ls
length-onto b [] h = absurd (omega arith)
length-onto b (l ∷ ls) h = refl

some_onto : (b : ℕ) (ls : List (List ℕ)) → 0 < length (onto_first b ls)
some_onto b [] = omega arith
some_onto b (l ∷ ls) = omega arith

some_line : (b : ℕ) (bs : List ℕ) → 0 < length (lines (b ∷ bs))
some_line b bs = elim (cases_Bool (is_line_end b)) [ inl e ↦ rw e (omega arith) | inr e ↦ rw e (some_onto b (lines bs)) ]

pub lines_counted : (text : List ℕ) → length (lines text) ≡ line_ends text + (if is_open text then 1 else 0)
lines_counted [] = refl
lines_counted (b ∷ []) = elim (cases_Bool (is_line_end b)) [ inl e ↦ rw e refl | inr e ↦ rw e refl ]
lines_counted (b ∷ (c ∷ cs)) =
    let was = lines_counted (c ∷ cs) in
    elim (cases_Bool (is_line_end b)) [
      | inl e ↦ rw e (omega (arith, was))
      | inr e ↦ rw e (length-onto b (lines (c ∷ cs)) (some_line c cs) ∙ was)
    ]

pub open_last : (text : List ℕ) (b : ℕ) → Some b ≡ slice_get text (length text - 1) → not (is_line_end b) ≡ is_open text
open_last text b is =
    let read : get_or text (length text - 1) 0 ≡ b = get_or_from_slice_get text (length text - 1) b 0 (sym is) in
    let low : length text - 1 < length text = slice_get_within text (length text - 1) b (sym is) in
    ap (λ x. not (is_line_end x)) (sym read) ∙ sym (last_open text (omega (arith, low)))
  where
    last_open : (xs : List ℕ) → 0 < length xs → is_open xs ≡ not (is_line_end (get_or xs (length xs - 1) 0))
    last_open [] h = absurd (omega arith)
    last_open (x ∷ []) h = refl
    last_open (x ∷ (y ∷ ys)) h =
        let last : length (x ∷ (y ∷ ys)) - 1 ≡ suc (length (y ∷ ys) - 1) = omega arith in
        rw last (last_open (y ∷ ys) (omega arith))

-- what a class tells of its byte
comment_tells : (b : ℕ) → Comment ≡ class b → (is_line_end b ≡ false) × (begins_comment b ≡ true)
comment_tells b h = elim (cases_Bool (is_line_end b)) [
  | inl e ↦ absurd (cc (rw e at h))
  | inr e ↦ elim (cases_Bool (begins_comment b)) [
    | inl c ↦ (e, c)
    | inr c ↦ elim (cases_Bool (is_blank b)) [
      | inl k ↦ absurd (cc (rw (e, c, k) at h))
      | inr k ↦ absurd (cc (rw (e, c, k) at h))
    ]
  ]
]

blank_tells : (b : ℕ) → Blank ≡ class b → (is_line_end b ≡ false) × (begins_comment b ≡ false) × (is_blank b ≡ true)
blank_tells b h = elim (cases_Bool (is_line_end b)) [
  | inl e ↦ absurd (cc (rw e at h))
  | inr e ↦ elim (cases_Bool (begins_comment b)) [
    | inl c ↦ absurd (cc (rw (e, c) at h))
    | inr c ↦ elim (cases_Bool (is_blank b)) [ inl k ↦ (e, c, k) | inr k ↦ absurd (cc (rw (e, c, k) at h)) ]
  ]
]

word_tells : (b : ℕ) → Word ≡ class b → (is_line_end b ≡ false) × (begins_comment b ≡ false) × (is_blank b ≡ false)
word_tells b h = elim (cases_Bool (is_line_end b)) [
  | inl e ↦ absurd (cc (rw e at h))
  | inr e ↦ elim (cases_Bool (begins_comment b)) [
    | inl c ↦ absurd (cc (rw (e, c) at h))
    | inr c ↦ elim (cases_Bool (is_blank b)) [ inl k ↦ absurd (cc (rw (e, c, k) at h)) | inr k ↦ (e, c, k) ]
  ]
]

line_end_tells : (b : ℕ) → LineEnd ≡ class b → is_line_end b ≡ true
line_end_tells b h = elim (cases_Bool (is_line_end b)) [
  | inl e ↦ e
  | inr e ↦ elim (cases_Bool (begins_comment b)) [
    | inl c ↦ absurd (cc (rw (e, c) at h))
    | inr c ↦ elim (cases_Bool (is_blank b)) [ inl k ↦ absurd (cc (rw (e, c, k) at h)) | inr k ↦ absurd (cc (rw (e, c, k) at h)) ]
  ]
]

word_is_no_end : (b : ℕ) → is_word_byte b ≡ true → is_line_end b ≡ false
word_is_no_end b h = elim (cases_Bool (is_line_end b)) [ inl e ↦ absurd (cc (rw e at h)) | inr e ↦ e ]

not_true : (x : Bool) → not x ≡ true → x ≡ false
not_true true e = absurd (cc e)
not_true false e = refl

further : (place n : ℕ) → place + (1 + n) ≡ place + 1 + n
further place n = omega arith

-- what `pass` answers in each case
module _ (b : ℕ) (below : List ℕ) (number place : ℕ) (words : List Token) where
  pub line_ends_passed : (len ends : ℕ) → LineEnd ≡ class b → len ≤ length below → ends ≤ len → IsSpace (take len below) → ends ≡ line_ends (take len below)
      → IsPassed b below number place words words len (ends + 1)
  line_ends_passed len ends is within few space counted =
      let e = line_end_tells b is in
      let on : number + (ends + 1) ≡ number + 1 + ends = omega arith in
      record {
        within = within;
        few = omega (arith, few);
        found = ap (λ ts. words ++ ts) (rw (e, on, further place len, counted) (space_goes_on len (number + 1) (place + 1) below space));
        counted = rw e (let apart = counted_apart len below in omega (arith, apart, counted));
      }

  pub blank_passed : Blank ≡ class b → IsPassed b below number place words words 0 0
  blank_passed is =
      let t = blank_tells b is in
      record {
        within = omega arith;
        few = omega arith;
        found = ap (λ ts. words ++ ts) (rw (t.0, add-zero) (blank_onto number place b (lines below) t.1 t.2));
        counted = rw t.0 (omega arith);
      }

  pub comment_passed : (len : ℕ) → Comment ≡ class b → len ≤ length below → len ≡ position_or_len is_line_end below → IsPassed b below number place words words len 0
  comment_passed len is within end =
      let t = comment_tells b is in
      record {
        within = within;
        few = omega arith;
        found = ap (λ ts. words ++ ts) (rw (t.0, add-zero, further place len, end) (comment_begins number place b (lines below) t.1 ∙ comment_goes_on number (place + 1) below));
        counted = rw (t.0, end) (let none = none_counted (λ x. not (is_line_end x)) (λ x h. not_true (is_line_end x) h) below in omega (arith, none));
      }

  pub word_passed : (len : ℕ) (more : List Token) → Word ≡ class b → len ≤ length below → len ≡ prefix_len is_word_byte below
      → more ≡ words ++ (record { start = place; end = place + 1 + len; line = number } ∷ []) → IsPassed b below number place words more len 0
  word_passed len more is within end added =
      let t = word_tells b is in
      record {
        within = within;
        few = omega arith;
        found = rw (added, append_assoc) (ap (λ ts. words ++ ts) (rw (t.0, add-zero, further place len, end) (word_begins number place b (lines below) t.1 t.2 ∙ word_goes_on number place (place + 1) below)));
        counted = rw (t.0, end) (let none = none_counted is_word_byte word_is_no_end below in omega (arith, none));
      }

-- blocks of blanks and line ends
space_append : (xs ys : List ℕ) → IsSpace xs → IsSpace ys → IsSpace (xs ++ ys)
space_append [] ys s t = t
space_append (x ∷ xs) ys s t = (s.0, space_append xs ys s.1 t)

line_ends-append : (xs ys : List ℕ) → line_ends (xs ++ ys) ≡ line_ends xs + line_ends ys
line_ends-append [] ys = omega arith
line_ends-append (x ∷ xs) ys =
    let was = line_ends-append xs ys in
    elim (cases_Bool (is_line_end x)) [ inl e ↦ rw e (omega (arith, was)) | inr e ↦ rw e was ]

line_ends-le : (xs : List ℕ) → line_ends xs ≤ length xs
line_ends-le [] = omega arith
line_ends-le (x ∷ xs) =
    let was = line_ends-le xs in
    elim (cases_Bool (is_line_end x)) [ inl e ↦ rw e (omega (arith, was)) | inr e ↦ rw e (omega (arith, was)) ]

module _ (text block : List ℕ) (len more : ℕ) (is : block ≡ take 16 (drop len text)) (space : IsSpace block × (more ≡ line_ends block)) where
  pub space_more : IsSpace (take len text) → IsSpace (take (len + 16) text)
  space_more s = rw take-add (space_append (take len text) (take 16 (drop len text)) s (rw is at space.0))

  pub counted_more : (ends : ℕ) → ends ≡ line_ends (take len text) → ends + more ≡ line_ends (take (len + 16) text)
  counted_more ends e = rw (take-add, line_ends-append, space.1, is, e) refl

  pub within_more : len ≤ length text → 16 ≤ length (drop len text) → len + 16 ≤ length text
  within_more low room = let long = length-drop len text in omega (arith, low, room, long)

  pub few_more : (ends : ℕ) → ends ≤ len → 16 ≤ length (drop len text) → ends + more ≤ len + 16
  few_more ends few room =
      let long : length block ≡ 16 = rw is (length-take-le 16 (drop len text) room) in
      let most = line_ends-le block in
      omega (arith, few, long, most, space.1)

-- how many lines a text has, by whether its last line has an end
module _ (text : List ℕ) (number : ℕ) (is : number ≡ 1 + line_ends text) where
  pub open_count : true ≡ is_open text → number ≡ length (lines text)
  open_count o = rw (lines_counted, sym o) (omega (arith, is))

  pub closed_count : false ≡ is_open text → number - 1 ≡ length (lines text)
  closed_count o = rw (lines_counted, sym o) (omega (arith, is))
