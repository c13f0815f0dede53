-- What the words of a text have to be, as spans of its bytes.
use Rattle.std.specs.Prelude.{ℕ, ◌+◌, ◌<◌, ◌≤◌, ◌⊎◌, Bool, true, false, not, ◌||◌, ◌==◌, IsTrue, List, [], ◌∷◌, slice_index_or, slice_range, if◌then◌else◌}
use Rattle.script_text.specs.Lines.{Row, is_line_end, is_blank, begins_comment}
use Rattle.script_text.specs.declared.token.Token.{Token}

-- spans between two places, in order: none is empty, and a byte stands between each and the next
abbrev pub AreApart : ℕ → ℕ → List Token → Type 0
AreApart from to [] = Unit {0}
AreApart from to (t ∷ ts) = (from ≤ t.start) × (t.start < t.end) × (t.end ≤ to) × AreApart (t.end + 1) to ts

-- which bytes of a text belong to words: those that are neither blank, line end nor comment;
-- `comment` says whether a comment is open where the bytes begin
abbrev pub word_bytes : Bool → List ℕ → List Bool
word_bytes comment [] = []
word_bytes comment (b ∷ bs) =
    if is_line_end b then false ∷ word_bytes false bs
    else (if comment || begins_comment b then false ∷ word_bytes true bs
    else not (is_blank b) ∷ word_bytes false bs)

-- the byte at place k of the text belongs to a word
abbrev pub IsWordByte : List ℕ → ℕ → Type 0
IsWordByte text k = IsTrue (slice_index_or (word_bytes false text) k false)

-- one of the spans covers place k
abbrev pub Covers : List Token → ℕ → Type 0
Covers [] k = ⊥
Covers (t ∷ ts) k = ((t.start ≤ k) × (k < t.end)) ⊎ Covers ts k

-- the bytes of a span
abbrev pub bytes_of : List ℕ → Token → List ℕ
bytes_of text t = slice_range text t.start t.end

-- a word of line `number` put before some rows: it joins the first row if that is of its line
abbrev pub join_row : ℕ → List ℕ → List Row → List Row
join_row number word [] = record { number = number; words = word ∷ [] } ∷ []
join_row number word (r ∷ rs) =
    if number == r.number then record { number = number; words = word ∷ r.words } ∷ rs
    else record { number = number; words = word ∷ [] } ∷ (r ∷ rs)

-- the rows that spans make: the texts of those on one line, for each line in turn
abbrev pub rows_of : List ℕ → List Token → List Row
rows_of text [] = []
rows_of text (t ∷ ts) = join_row t.line (bytes_of text t) (rows_of text ts)
