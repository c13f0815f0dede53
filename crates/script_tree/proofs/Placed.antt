-- How lines of words are laid out, and that they are read as rows of the same words.
use Rattle.std.proofs.Common.{◌≡◌, ℕ, zero, suc, ◌+◌, ◌*◌, ◌<◌, ◌≤◌, Bool, true, false, not, ◌==◌, nat_lt, nat_le, None, List, [], ◌∷◌, ◌++◌, map, length, filter, flat_map, replicate, codes, refl, sym, ap, ◌∙◌, arith, append_assoc, one-add, length-append}
use Rattle.std.specs.List.{AllByRecursion, position_or_len, before_first, slice_split}
use Rattle.std.proofs.lemmas.Bool.{and_parts, or_cases, leb-true, eqb-true, le-ltb, le-leb, ne_eqb}
use Rattle.std.proofs.lemmas.List.{take_all, length-replicate}
use Rattle.script_text.specs.Faults.{line_fault, fault_from, first_fault}
use Rattle.script_text.specs.Lines.{Row, lines, words, is_word, is_line_end, is_blank, begins_comment, may_stand, row_before, rows_from, rows}
use Rattle.script_tree.specs.declared.form.Form.{Form}
use Rattle.script_tree.specs.declared.form.Form.TheVariants as form
use Rattle.script_tree.specs.Forms.{keyword, shapes}
use Rattle.script_tree.specs.Parts.{Part}
use Rattle.script_tree.specs.Spelling.{lead, part_words, spaced, joined, line_text}
use Rattle.script_tree.specs.Tree.{Tree}
use Rattle.script_tree.specs.Words.{is_name_byte, all_name_bytes}
use Rattle.script_tree.proofs.Each.{each-append, each_follows}
use Rattle.script_tree.proofs.Paths.{IsWord, AreWords}
use Rattle.script_tree.proofs.Spelled.{tested}

-- a line: how deep it stands, and its words
pub record Placed : Type 0 where
  pub depth : ℕ
  pub words : List (List ℕ)

-- its text in front of its end
abbrev pub placed_line_text : Placed → List ℕ
placed_line_text p = replicate (2 * p.depth) 32 ++ joined p.words

-- two blanks for each block or text around it, its words, and its end
abbrev pub placed_text : Placed → List ℕ
placed_text p = replicate (2 * p.depth) 32 ++ (joined p.words ++ 10 ∷ [])

-- one to five words stand at most 33 deep
pub record IsPlaced (p : Placed) : Type 0 where
  pub deep : p.depth ≤ 33
  pub words : AreWords p.words

-- rows of these words, numbered from n on
abbrev pub numbered : ℕ → List (List (List ℕ)) → List Row
numbered n [] = []
numbered n (ws ∷ wss) = record { number = n; words = ws } ∷ numbered (n + 1) wss

-- ---- the bytes of a line

-- a byte that may stand in a line, and neither ends it nor begins a comment
record IsCalm (b : ℕ) : Type 0 where
  stands : not (may_stand b) ≡ false
  goes_on : is_line_end b ≡ false
  says : begins_comment b ≡ false

blanks_calm : (n : ℕ) → AllByRecursion IsCalm (replicate n 32)
blanks_calm zero = tt
blanks_calm (suc n) = (record { stands = refl; goes_on = refl; says = refl }, blanks_calm n)

-- a byte of a word is a calm byte that is no blank
record IsPlainByte (b : ℕ) : Type 0 where
  calm : IsCalm b
  dark : is_blank b ≡ false

-- the bytes of words lie between 48 and 122
within : (b : ℕ) → is_name_byte b ≡ true → (48 ≤ b) × (b ≤ 122)
within b h = (grind (arith, or_cases, and_parts, leb-true, eqb-true), grind (arith, or_cases, and_parts, leb-true, eqb-true))

byte_plain : (b : ℕ) → 48 ≤ b → b ≤ 122 → IsPlainByte b
byte_plain b low high =
    let nine : (b == 9) ≡ false = ne_eqb b 9 (λ e. omega (arith, e)) in
    let thirteen : (b == 13) ≡ false = ne_eqb b 13 (λ e. omega (arith, e)) in
    let blank : (b == 32) ≡ false = ne_eqb b 32 (λ e. omega (arith, e)) in
    let above : nat_le 32 b ≡ true = le-leb 32 b (omega arith) in
    let below : nat_le b 126 ≡ true = le-leb b 126 (omega arith) in
    record {
      calm = record {
        stands = rw (nine, thirteen, above, below) refl;
        goes_on = ne_eqb b 10 (λ e. omega (arith, e));
        says = ne_eqb b 35 (λ e. omega (arith, e));
      };
      dark = rw (nine, thirteen, blank) refl;
    }

word_plain : (w : List ℕ) → all_name_bytes w ≡ true → AllByRecursion IsPlainByte w
word_plain [] h = tt
word_plain (b ∷ bs) h =
    let p = and_parts (is_name_byte b) (all_name_bytes bs) h in
    let r = within b p.0 in
    (byte_plain b r.0 r.1, word_plain bs p.1)

word_calm : {w : List ℕ} → IsWord w → AllByRecursion IsCalm w
word_calm {w} h = each_follows IsPlainByte IsCalm w (λ b p. p.calm) (word_plain w h.bytes)

spaced_calm : (ws : List (List ℕ)) → AllByRecursion IsWord ws → AllByRecursion IsCalm (spaced ws)
spaced_calm [] a = tt
spaced_calm (w ∷ ws) a = (record { stands = refl; goes_on = refl; says = refl }, each-append IsCalm w (spaced ws) (word_calm a.0) (spaced_calm ws a.1))

joined_calm : (ws : List (List ℕ)) → AllByRecursion IsWord ws → AllByRecursion IsCalm (joined ws)
joined_calm [] a = tt
joined_calm (w ∷ ws) a = each-append IsCalm w (spaced ws) (word_calm a.0) (spaced_calm ws a.1)

line_calm : (p : Placed) → IsPlaced p → AllByRecursion IsCalm (placed_line_text p)
line_calm p h = each-append IsCalm (replicate (2 * p.depth) 32) (joined p.words) (blanks_calm (2 * p.depth)) (joined_calm p.words h.words.each)

-- ---- its length

spaced_short : (ws : List (List ℕ)) → AllByRecursion IsWord ws → length (spaced ws) ≤ 25 * length ws
spaced_short [] a = omega arith
spaced_short (w ∷ ws) a = rw (length-append w (spaced ws)) (omega (arith, a.0.short, spaced_short ws a.1))

joined_short : (ws : List (List ℕ)) → AllByRecursion IsWord ws → length (joined ws) ≤ 25 * length ws
joined_short [] a = omega arith
joined_short (w ∷ ws) a = rw (length-append w (spaced ws)) (omega (arith, a.0.short, spaced_short ws a.1))

line_short : (p : Placed) → IsPlaced p → length (placed_line_text p) ≤ 200
line_short p h =
    let indent = length-replicate {A = ℕ} (2 * p.depth) 32 in
    let whole = length-append {A = ℕ} (replicate (2 * p.depth) 32) (joined p.words) in
    omega (arith, whole, indent, joined_short p.words h.words.each, h.words.few, h.deep)

-- ---- it has no fault

-- no byte of the line passes the test
none_found : (test : ℕ → Bool) (bs : List ℕ) → AllByRecursion (λ b. test b ≡ false) bs → position_or_len test bs ≡ length bs
none_found test [] a = refl
none_found test (b ∷ bs) a = rw (a.0, one-add) (ap suc (none_found test bs a.1))

calm_faultless : (number : ℕ) (bs : List ℕ) → AllByRecursion IsCalm bs → length bs ≤ 200 → line_fault number bs ≡ None
calm_faultless number bs a short =
    let long : nat_lt 200 (length bs) ≡ false = le-ltb 200 (length bs) short in
    let end : position_or_len (λ b. not (may_stand b)) bs ≡ length bs = none_found (λ b. not (may_stand b)) bs (each_follows IsCalm _ bs (λ b c. c.stands) a) in
    let nowhere : nat_lt (length bs) (length bs) ≡ false = le-ltb (length bs) (length bs) (omega arith) in
    rw (long, end, nowhere) refl

-- ---- its words

calm_said : (bs : List ℕ) → AllByRecursion IsCalm bs → before_first begins_comment bs ≡ bs
calm_said bs a = rw (none_found begins_comment bs (each_follows IsCalm _ bs (λ b c. c.says) a)) (take_all (length bs) bs (omega arith))

blanks_skipped : (n : ℕ) (bs : List ℕ) → filter is_word (slice_split is_blank (replicate n 32 ++ bs)) ≡ filter is_word (slice_split is_blank bs)
blanks_skipped zero bs = refl
blanks_skipped (suc n) bs = blanks_skipped n bs

split_onto : (w : List ℕ) (bs : List ℕ) (parts : List (List ℕ)) → AllByRecursion IsPlainByte w → slice_split is_blank bs ≡ [] ∷ parts → slice_split is_blank (w ++ bs) ≡ w ∷ parts
split_onto [] bs parts a e = e
split_onto (b ∷ w) bs parts a e = rw (a.0.dark, split_onto w bs parts a.1 e) refl

word_some : (w : List ℕ) → IsWord w → is_word w ≡ true
word_some w h = ap not (ne_eqb (length w) 0 (λ e. omega (arith, e, h.some)))

words_split : (w : List ℕ) (ws : List (List ℕ)) → IsWord w → AllByRecursion IsWord ws → slice_split is_blank (w ++ spaced ws) ≡ w ∷ ws
words_split w [] h a = split_onto w [] [] (word_plain w h.bytes) refl
words_split w (v ∷ vs) h a = split_onto w (spaced (v ∷ vs)) (v ∷ vs) (word_plain w h.bytes) (ap (λ (ps : List (List ℕ)). [] ∷ ps) (words_split v vs a.0 a.1))

words_stay : (ws : List (List ℕ)) → AllByRecursion IsWord ws → filter is_word ws ≡ ws
words_stay [] a = refl
words_stay (w ∷ ws) a = rw (word_some w a.0) (ap (λ (vs : List (List ℕ)). w ∷ vs) (words_stay ws a.1))

joined_words : (ws : List (List ℕ)) → AllByRecursion IsWord ws → filter is_word (slice_split is_blank (joined ws)) ≡ ws
joined_words [] a = refl
joined_words (w ∷ ws) a = rw (words_split w ws a.0 a.1) (words_stay (w ∷ ws) a)

line_words_back : (p : Placed) → IsPlaced p → words (placed_line_text p) ≡ p.words
line_words_back p h =
    ap (λ (bs : List ℕ). filter is_word (slice_split is_blank bs)) (calm_said (placed_line_text p) (line_calm p h))
    ∙ (blanks_skipped (2 * p.depth) (joined p.words) ∙ joined_words p.words h.words.each)

-- ---- lines one below the other

first_line : (bs rest : List ℕ) → AllByRecursion IsCalm bs → lines (bs ++ 10 ∷ rest) ≡ bs ∷ lines rest
first_line [] rest a = refl
first_line (b ∷ bs) rest a = rw (a.0.goes_on, first_line bs rest a.1) refl

placed_first : (p : Placed) (rest : List ℕ) → IsPlaced p → lines (placed_text p ++ rest) ≡ placed_line_text p ∷ lines rest
placed_first p rest h =
    let apart : placed_text p ++ rest ≡ placed_line_text p ++ 10 ∷ rest
    = append_assoc (replicate (2 * p.depth) 32) (joined p.words ++ 10 ∷ []) rest
    ∙ (ap (λ (bs : List ℕ). replicate (2 * p.depth) 32 ++ bs) (append_assoc (joined p.words) (10 ∷ []) rest)
    ∙ sym (append_assoc (replicate (2 * p.depth) 32) (joined p.words) (10 ∷ rest))) in
    rw apart (first_line (placed_line_text p) rest (line_calm p h))

placed_lines : (ps : List Placed) → AllByRecursion IsPlaced ps → lines (flat_map placed_text ps) ≡ map placed_line_text ps
placed_lines [] a = refl
placed_lines (p ∷ ps) a = placed_first p (flat_map placed_text ps) a.0 ∙ ap (λ (ls : List (List ℕ)). placed_line_text p ∷ ls) (placed_lines ps a.1)

placed_faultless : (ps : List Placed) (number : ℕ) → AllByRecursion IsPlaced ps → fault_from number (map placed_line_text ps) ≡ None
placed_faultless [] number a = refl
placed_faultless (p ∷ ps) number a = rw (calm_faultless number (placed_line_text p) (line_calm p a.0) (line_short p a.0)) (placed_faultless ps (number + 1) a.1)

row_placed : (number : ℕ) (ws : List (List ℕ)) (below : List Row) → 0 < length ws → row_before number ws below ≡ record { number = number; words = ws } ∷ below
row_placed number [] below h = absurd (omega arith)
row_placed number (w ∷ ws) below h = refl

placed_numbered : (ps : List Placed) (number : ℕ) → AllByRecursion IsPlaced ps → rows_from number (map placed_line_text ps) ≡ numbered number (map (λ p. p.words) ps)
placed_numbered [] number a = refl
placed_numbered (p ∷ ps) number a =
    rw (line_words_back p a.0, placed_numbered ps (number + 1) a.1) (row_placed number p.words (numbered (number + 1) (map (λ q. q.words) ps)) a.0.words.some)

-- placed lines have no fault, and are read as rows of their words
pub placed_rows : (ps : List Placed) → AllByRecursion IsPlaced ps
    → (first_fault (flat_map placed_text ps) ≡ None) × (rows (flat_map placed_text ps) ≡ numbered 1 (map (λ p. p.words) ps))
placed_rows ps a =
    (ap (fault_from 1) (placed_lines ps a) ∙ placed_faultless ps 1 a, ap (rows_from 1) (placed_lines ps a) ∙ placed_numbered ps 1 a)

-- ---- the lines of a program

joined_behind : (f : Form) (ws : List (List ℕ)) → joined (lead f) ++ spaced ws ≡ joined (lead f ++ ws)
joined_behind (form.Event f) ws = ap (λ (bs : List ℕ). codes "on" ++ 32 ∷ bs) (append_assoc (keyword (form.Event f)) [] (spaced ws))
joined_behind f ws = append_assoc (keyword f) [] (spaced ws)

-- a line of a program is a placed line
pub placed_line : (tree : Tree) (depth : ℕ) (f : Form) (parts : List Part)
    → line_text tree depth f parts ≡ placed_text (record { depth = depth; words = lead f ++ part_words tree (shapes f) parts })
placed_line tree depth f parts =
    ap (λ (bs : List ℕ). replicate (2 * depth) 32 ++ bs)
    (sym (append_assoc (joined (lead f)) (spaced (part_words tree (shapes f) parts)) (10 ∷ []))
    ∙ ap (λ (bs : List ℕ). bs ++ 10 ∷ []) (joined_behind f (part_words tree (shapes f) parts)))

-- so is the first line of all
abbrev pub header : Placed
header = record { depth = 0; words = codes "picos" ∷ (codes "1" ∷ []) }

pub header_text : codes "picos 1" ++ 10 ∷ [] ≡ placed_text header
header_text = refl

pub header_placed : IsPlaced header
header_placed = record { deep = omega arith; words = record { some = omega arith; few = omega arith; each = (tested _ refl, (tested _ refl, tt)) } }
