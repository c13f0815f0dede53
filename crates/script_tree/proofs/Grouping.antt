-- The words of one line in front of the others.
use Rattle.std.proofs.Common.{◌≡◌, ◌≢◌, ℕ, zero, suc, ◌+◌, ◌<◌, ◌≤◌, ◌==◌, List, [], ◌∷◌, ◌++◌, map, length, take, drop, get_or, Bor, sym, refl, ap, ◌∙◌, inl, inr, arith, eq-eqb, ne_eqb, length-take, take-append-drop}
use Rattle.std.proofs.lemmas.Bool.{cases_Bool}
use Rattle.std.proofs.lemmas.List.{take_more, drop_more, drop_all, map_push, map_more}
use Rattle.script_tree.specs.Slices.{words_of}
use Rattle.script_text.specs.Lines.{Row}
use Rattle.script_text.specs.Spans.{bytes_of, join_row, rows_of}
use Rattle.script_text.specs.declared.token.Token.{Token}
use Rattle.script_tree.specs.Within.{AreWithin}

-- the first n spans are of one line
abbrev pub AreOnLine : ℕ → List Token → Type 0
AreOnLine number [] = Unit {0}
AreOnLine number (t ∷ ts) = (t.line ≡ number) × AreOnLine number ts

-- the spans begin on another line, if there are any
abbrev pub BeginElsewhere : ℕ → List Token → Type 0
BeginElsewhere number [] = Unit {0}
BeginElsewhere number (t ∷ ts) = t.line ≢ number

-- the rows begin on another line, if there are any
abbrev pub RowsElsewhere : ℕ → List Row → Type 0
RowsElsewhere number [] = Unit {0}
RowsElsewhere number (r ∷ rs) = r.number ≢ number

joined_elsewhere : (number line : ℕ) (word : List ℕ) (rs : List Row) → line ≢ number → RowsElsewhere number (join_row line word rs)
joined_elsewhere number line word [] ne = ne
joined_elsewhere number line word (r ∷ rs) ne = elim (cases_Bool (line == r.number)) [ inl e ↦ rw e ne | inr e ↦ rw e ne ]

rows_elsewhere : (text : List ℕ) (number : ℕ) (below : List Token) → BeginElsewhere number below → RowsElsewhere number (rows_of text below)
rows_elsewhere text number [] h = tt
rows_elsewhere text number (t ∷ ts) h = joined_elsewhere number t.line (bytes_of text t) (rows_of text ts) h

join_first : (number : ℕ) (word : List ℕ) (rs : List Row) → RowsElsewhere number rs → join_row number word rs ≡ record { number = number; words = word ∷ [] } ∷ rs
join_first number word [] h = refl
join_first number word (r ∷ rs) h = rw (ne_eqb number r.number (λ e. h (sym e))) refl

-- spans of one line make its row, in front of the rows of the others
rows_first : (text : List ℕ) (number : ℕ) (t : Token) (ts below : List Token) → t.line ≡ number → AreOnLine number ts → BeginElsewhere number below
    → rows_of text (t ∷ (ts ++ below)) ≡ record { number = number; words = bytes_of text t ∷ map (bytes_of text) ts } ∷ rows_of text below
rows_first text number t [] below e on other = rw e (join_first number (bytes_of text t) (rows_of text below) (rows_elsewhere text number below other))
rows_first text number t (u ∷ us) below e on other =
    rw (e, rows_first text number u us below on.0 on.1 other) (rw (eq-eqb number number refl) refl)

rows_front : (text : List ℕ) (number : ℕ) (front below : List Token) → 0 < length front → AreOnLine number front → BeginElsewhere number below
    → rows_of text (front ++ below) ≡ record { number = number; words = map (bytes_of text) front } ∷ rows_of text below
rows_front text number [] below some on other = absurd (omega arith)
rows_front text number (t ∷ ts) below some on other = rows_first text number t ts below on.0 on.1 other

-- the row of the first i spans, where the next one is on another line
pub rows_cut : (text : List ℕ) (number i : ℕ) (ts : List Token) → 0 < i → i ≤ length ts → AreOnLine number (take i ts) → BeginElsewhere number (drop i ts)
    → rows_of text ts ≡ record { number = number; words = map (bytes_of text) (take i ts) } ∷ rows_of text (drop i ts)
rows_cut text number i ts some within on other =
    let long : 0 < length (take i ts) = simp length-take (omega arith) in
    ap (rows_of text) (sym (take-append-drop i ts)) ∙ rows_front text number (take i ts) (drop i ts) long on other

AreOnLine-push : (number : ℕ) (ts : List Token) (t : Token) → AreOnLine number ts → t.line ≡ number → AreOnLine number (ts ++ t ∷ [])
AreOnLine-push number [] t on e = (e, tt)
AreOnLine-push number (u ∷ us) t on e = (on.0, AreOnLine-push number us t on.1 e)

pub on_line_more : (number i : ℕ) (ts : List Token) (d : Token) → i < length ts → AreOnLine number (take i ts) → (get_or ts i d).line ≡ number → AreOnLine number (take (i + 1) ts)
on_line_more number i ts d l on e = rw (take_more ts i d l) (AreOnLine-push number (take i ts) (get_or ts i d) on e)

pub elsewhere_at : (number i : ℕ) (ts : List Token) (d : Token) → i < length ts → (get_or ts i d).line ≢ number → BeginElsewhere number (drop i ts)
elsewhere_at number i ts d l ne = rw (drop_more ts i d l) ne

pub elsewhere_all : (number i : ℕ) (ts : List Token) → length ts ≤ i → BeginElsewhere number (drop i ts)
elsewhere_all number i ts l = rw (drop_all i ts l) tt

pub collected_more : (text : List ℕ) (i : ℕ) (ts : List Token) (d : Token) (ws : List (Bor (List ℕ))) (w : Bor (List ℕ)) → i < length ts
    → words_of ws ≡ map (bytes_of text) (take i ts) → w.now ≡ bytes_of text (get_or ts i d) → words_of (ws ++ w ∷ []) ≡ map (bytes_of text) (take (i + 1) ts)
collected_more text i ts d ws w l h e =
    map_push (λ (slice : Bor (List ℕ)). slice.now) ws w ∙ rw (h, e) (sym (map_more (bytes_of text) ts i d l))

-- where a span lies
pub within_at : (text : List ℕ) (ts : List Token) (i : ℕ) (d : Token) → AreWithin text ts → i < length ts → ((get_or ts i d).start ≤ (get_or ts i d).end) × ((get_or ts i d).end ≤ length text)
within_at text [] i d w l = absurd (omega arith)
within_at text (t ∷ ts) zero d w l = (w.0, w.1)
within_at text (t ∷ ts) (suc i) d w l = within_at text ts i d w.2 (omega arith)

pub within_drop : (text : List ℕ) (n : ℕ) (ts : List Token) → AreWithin text ts → AreWithin text (drop n ts)
within_drop text zero ts w = w
within_drop text (suc n) [] w = tt
within_drop text (suc n) (t ∷ ts) w = within_drop text n ts w.2

pub moved : (ts : List Token) (i : ℕ) (d : Token) → (get_or ts i d).line ≢ (get_or ts 0 d).line → 0 < i
moved ts zero d ne = absurd (ne refl)
moved ts (suc i) d ne = omega arith

-- the row that was collected, as `collect` counts it
pub row_collected : (text : List ℕ) (number i count : ℕ) (ts : List Token) (ws : List (Bor (List ℕ))) → count ≡ i → words_of ws ≡ map (bytes_of text) (take i ts)
    → 0 < i → i ≤ length ts → AreOnLine number (take i ts) → BeginElsewhere number (drop i ts)
    → rows_of text ts ≡ record { number = number; words = words_of ws } ∷ rows_of text (drop count ts)
row_collected text number i count ts ws same words some within on other = rw (same, words) (rows_cut text number i ts some within on other)
