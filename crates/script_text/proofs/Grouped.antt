-- The spans of a text make its rows.
use Rattle.std.proofs.Common.{◌≡◌, ℕ, ◌+◌, ◌-◌, ◌<◌, true, false, not, Option, Some, None, List, [], ◌∷◌, ◌++◌, map, length, filter, sym, refl, ap, ap₂, ◌∙◌, inl, inr, arith, append-nil, append_assoc, one-add, length-append, if◌then◌else◌, eq-eqb, ne_eqb, drop_at, take_at}
use Rattle.std.specs.List.{slice_split, onto_first, before_first}
use Rattle.std.proofs.lemmas.Bool.{cases_Bool}
use Rattle.std.proofs.lemmas.List.{map-append}
use Rattle.script_text.specs.Lines.{Row, row_before, rows_from, words, is_word, is_blank, begins_comment}
use Rattle.script_text.specs.Scan.{closing, opened, line_spans, spans}
use Rattle.script_text.specs.Spans.{bytes_of, join_row, rows_of}
use Rattle.script_text.specs.declared.token.Token.{Token}
use Rattle.script_text.proofs.Cuts.{IsCut, none, last, more}

-- the words of a line by the same walk, as texts: `cur` is the word that is open
abbrev pub ended : List ℕ → List (List ℕ)
ended [] = []
ended (c ∷ cs) = (c ∷ cs) ∷ []

abbrev pub texts : List ℕ → List ℕ → List (List ℕ)
texts cur [] = ended cur
texts cur (b ∷ bs) =
    if begins_comment b then ended cur
    else (if is_blank b then ended cur ++ texts [] bs else texts (cur ++ b ∷ []) bs)

-- where the open word begins
abbrev pub begun_at : List ℕ → ℕ → Option ℕ
begun_at [] place = None
begun_at (c ∷ cs) place = Some place

-- the walk over texts gives the words
abbrev pub onto : List ℕ → List (List ℕ) → List (List ℕ)
onto cur [] = []
onto cur (p ∷ ps) = (cur ++ p) ∷ ps

pub is_word-cons : (c : ℕ) (cs : List ℕ) → is_word (c ∷ cs) ≡ true
is_word-cons c cs = ap not (ne_eqb (length (c ∷ cs)) 0 (λ e. absurd (omega arith)))

ended_filter : (cur : List ℕ) (ps : List (List ℕ)) → filter is_word (cur ∷ ps) ≡ ended cur ++ filter is_word ps
ended_filter [] ps = refl
ended_filter (c ∷ cs) ps = rw (is_word-cons c cs) refl

onto-onto_first : (cur : List ℕ) (b : ℕ) (ps : List (List ℕ)) → 0 < length ps → onto cur (onto_first b ps) ≡ onto (cur ++ b ∷ []) ps
onto-onto_first cur b [] h = absurd (omega arith)
onto-onto_first cur b (p ∷ ps) h = ap (λ q. q ∷ ps) (sym (append_assoc cur (b ∷ []) p))

onto_nothing : (ps : List (List ℕ)) → onto [] ps ≡ ps
onto_nothing [] = refl
onto_nothing (p ∷ ps) = refl

split_some : (bytes : List ℕ) → 0 < length (slice_split is_blank bytes)
split_some [] = omega arith
split_some (b ∷ bs) =
    elim (cases_Bool (is_blank b)) [ inl e ↦ rw e (omega arith) | inr e ↦ rw e (onto_some b (slice_split is_blank bs)) ]
  where
    onto_some : (c : ℕ) (ps : List (List ℕ)) → 0 < length (onto_first c ps)
    onto_some c [] = omega arith
    onto_some c (p ∷ ps) = omega arith

before-cons : (b : ℕ) (bs : List ℕ) → begins_comment b ≡ false → before_first begins_comment (b ∷ bs) ≡ b ∷ before_first begins_comment bs
before-cons b bs e = rw (e, one-add) refl

texts_words : (cur bytes : List ℕ) → texts cur bytes ≡ filter is_word (onto cur (slice_split is_blank (before_first begins_comment bytes)))
texts_words cur [] = sym (rw append-nil (ended_filter cur [] ∙ append-nil (ended cur)))
texts_words cur (b ∷ bs) =
    elim (cases_Bool (begins_comment b)) [
      | inl e ↦ rw e (sym (rw append-nil (ended_filter cur [] ∙ append-nil (ended cur))))
      | inr e ↦ rw (before-cons b bs e) (rw e (elim (cases_Bool (is_blank b)) [
        | inl f ↦ rw f (rw append-nil (ap (λ ws. ended cur ++ ws) (texts_words [] bs ∙ ap (λ ps. filter is_word ps) (onto_nothing (slice_split is_blank (before_first begins_comment bs)))) ∙ sym (ended_filter cur (slice_split is_blank (before_first begins_comment bs)))))
        | inr f ↦ rw f (texts_words (cur ++ b ∷ []) bs ∙ ap (λ ps. filter is_word ps) (sym (onto-onto_first cur b (slice_split is_blank (before_first begins_comment bs)) (split_some (before_first begins_comment bs)))))
      ]))
    ]

-- a span over `cur` has that text
span_text : (text before cur after : List ℕ) (number place : ℕ) → text ≡ before ++ (cur ++ after) → place ≡ length before + length cur
    → bytes_of text (record { start = length before; end = place; line = number }) ≡ cur
span_text text before cur after number place is at =
    let long : place - length before ≡ length cur = omega arith in
    rw (is, long, drop_at before (cur ++ after) (length before) refl) (take_at cur after (length cur) refl)

closing_texts : (text before cur after : List ℕ) (number place : ℕ) → text ≡ before ++ (cur ++ after) → place ≡ length before + length cur
    → map (bytes_of text) (closing number (begun_at cur (length before)) place) ≡ ended cur
closing_texts text before [] after number place is at = refl
closing_texts text before (c ∷ cs) after number place is at =
    ap (λ w. w ∷ []) (span_text text before (c ∷ cs) after number place is at)

begun_more : (cur : List ℕ) (b first place : ℕ) → place ≡ first + length cur
    → begun_at (cur ++ b ∷ []) first ≡ Some (opened (begun_at cur first) place)
begun_more [] b first place at = let e : first ≡ place = omega arith in ap Some e
begun_more (c ∷ cs) b first place at = refl

spans_texts : (text before cur bytes after : List ℕ) (number place : ℕ) → text ≡ before ++ (cur ++ (bytes ++ after)) → place ≡ length before + length cur
    → map (bytes_of text) (line_spans number place (begun_at cur (length before)) bytes) ≡ texts cur bytes
spans_texts text before cur [] after number place is at = closing_texts text before cur after number place is at
spans_texts text before cur (b ∷ bs) after number place is at =
    elim (cases_Bool (begins_comment b)) [
      | inl e ↦ rw e (closing_texts text before cur (b ∷ (bs ++ after)) number place is at)
      | inr e ↦ rw e (elim (cases_Bool (is_blank b)) [
        | inl f ↦ rw f (map-append (bytes_of text) (closing number (begun_at cur (length before)) place) (line_spans number (place + 1) None bs)
            ∙ ap₂ (λ us vs. us ++ vs) (closing_texts text before cur (b ∷ (bs ++ after)) number place is at)
            (spans_texts text (before ++ (cur ++ b ∷ [])) [] bs after number (place + 1)
            (is ∙ simp append_assoc) (simp length-append (omega arith))))
        | inr f ↦ rw f (ap (λ o. map (bytes_of text) (line_spans number (place + 1) o bs)) (sym (begun_more cur b (length before) place at))
            ∙ spans_texts text before (cur ++ b ∷ []) bs after number (place + 1) (is ∙ simp append_assoc) (simp length-append (omega arith)))
      ])
    ]

-- the spans of a line have its words as texts
line_texts : (text before line after : List ℕ) (number start : ℕ) → text ≡ before ++ (line ++ after) → start ≡ length before
    → map (bytes_of text) (line_spans number start None line) ≡ words line
line_texts text before line after number start is at =
    spans_texts text before [] line after number start is (omega arith)
    ∙ texts_words [] line
    ∙ ap (λ ps. filter is_word ps) (onto_nothing (slice_split is_blank (before_first begins_comment line)))

-- spans of one line
abbrev pub AreOnLine : ℕ → List Token → Type 0
AreOnLine number [] = Unit {0}
AreOnLine number (t ∷ ts) = (t.line ≡ number) × AreOnLine number ts

closing_line : (number : ℕ) (begun : Option ℕ) (place : ℕ) (ys : List Token) → AreOnLine number ys → AreOnLine number (closing number begun place ++ ys)
closing_line number None place ys h = h
closing_line number (Some begin) place ys h = (refl, h)

line_line : (number place : ℕ) (begun : Option ℕ) (bytes : List ℕ) → AreOnLine number (line_spans number place begun bytes)
line_line number place begun [] = rw append-nil at (closing_line number begun place [] tt)
line_line number place begun (b ∷ bs) =
    elim (cases_Bool (begins_comment b)) [
      | inl e ↦ rw e (rw append-nil at (closing_line number begun place [] tt))
      | inr e ↦ rw e (elim (cases_Bool (is_blank b)) [
        | inl f ↦ rw f (closing_line number begun place (line_spans number (place + 1) None bs) (line_line number (place + 1) None bs))
        | inr f ↦ rw f (line_line number (place + 1) (Some (opened begun place)) bs)
      ])
    ]

-- rows that begin below a line
abbrev pub IsBelow : ℕ → List Row → Type 0
IsBelow number [] = Unit {0}
IsBelow number (r ∷ rs) = number < r.number

row_before_below : (number from : ℕ) (ws : List (List ℕ)) (rs : List Row) → number < from → IsBelow number rs → IsBelow number (row_before from ws rs)
row_before_below number from [] rs h b = b
row_before_below number from (w ∷ ws) rs h b = h

rows_below : (number from : ℕ) (ls : List (List ℕ)) → number < from → IsBelow number (rows_from from ls)
rows_below number from [] h = tt
rows_below number from (l ∷ ls) h = row_before_below number from (words l) (rows_from (from + 1) ls) h (rows_below number (from + 1) ls (omega arith))

join_below : (number : ℕ) (word : List ℕ) (rs : List Row) → IsBelow number rs → join_row number word rs ≡ record { number = number; words = word ∷ [] } ∷ rs
join_below number word [] h = refl
join_below number word (r ∷ rs) h = rw (ne_eqb number r.number (λ e. absurd (omega arith))) refl

join_line : (number : ℕ) (word : List ℕ) (ws : List (List ℕ)) (rs : List Row) → IsBelow number rs
    → join_row number word (row_before number ws rs) ≡ row_before number (word ∷ ws) rs
join_line number word [] rs h = join_below number word rs h
join_line number word (w ∷ ws) rs h = rw (eq-eqb number number refl) refl

rows_of_line : (text : List ℕ) (number : ℕ) (ts below : List Token) → AreOnLine number ts → IsBelow number (rows_of text below)
    → rows_of text (ts ++ below) ≡ row_before number (map (bytes_of text) ts) (rows_of text below)
rows_of_line text number [] below on h = refl
rows_of_line text number (t ∷ ts) below on h =
    rw (on.0, rows_of_line text number ts below on.1 h) (join_line number (bytes_of text t) (map (bytes_of text) ts) (rows_of text below) h)

-- one line of spans, with what stands below it
line_rows : (text before line after : List ℕ) (number start : ℕ) (below : List Token) (ls : List (List ℕ)) → text ≡ before ++ (line ++ after) → start ≡ length before
    → rows_of text below ≡ rows_from (number + 1) ls
    → rows_of text (line_spans number start None line ++ below) ≡ rows_from number (line ∷ ls)
line_rows text before line after number start below ls is at same =
    rows_of_line text number (line_spans number start None line) below (line_line number start None line)
    (rw same (rows_below number (number + 1) ls (omega arith)))
    ∙ rw (line_texts text before line after number start is at, same) refl

pub rows_of_spans : {rest : List ℕ} {ls : List (List ℕ)} → IsCut rest ls → (text before : List ℕ) (number start : ℕ) → text ≡ before ++ rest → start ≡ length before
    → rows_of text (spans number start ls) ≡ rows_from number ls
rows_of_spans none text before number start is at = refl
rows_of_spans (last {b} {bs} p) text before number start is at =
    line_rows text before (b ∷ bs) [] number start [] [] (is ∙ ap (λ rest. before ++ rest) (sym (append-nil (b ∷ bs)))) at refl
rows_of_spans (more line rest e {ls} p f c) text before number start is at =
    line_rows text before line (e ∷ rest) number start (spans (number + 1) (start + (length line + 1)) ls) ls is at
    (rows_of_spans c text (before ++ (line ++ e ∷ [])) (number + 1) (start + (length line + 1)) (is ∙ simp append_assoc) (simp length-append (omega arith)))
