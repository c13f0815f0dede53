-- How a text falls into lines, and a line into words: for everyone who reads scripts.
use Rattle.std.specs.Prelude.{ℕ, ◌+◌, Bool, not, ◌||◌, ◌&&◌, ◌==◌, nat_le, List, [], ◌∷◌, length, filter, if◌then◌else◌}
use Rattle.std.specs.List.{slice_split, onto_first, before_first}

-- a line ends with the byte 10
abbrev pub is_line_end : ℕ → Bool
is_line_end b = b == 10

-- a blank: a tab, a carriage return or a space
abbrev pub is_blank : ℕ → Bool
is_blank b = (b == 9) || ((b == 13) || (b == 32))

-- a comment begins with `#` and goes on to the end of the line
abbrev pub begins_comment : ℕ → Bool
begins_comment b = b == 35

-- a byte that may stand in a line: a blank or printable ASCII
abbrev pub may_stand : ℕ → Bool
may_stand b = (b == 9) || ((b == 13) || (nat_le 32 b && nat_le b 126))

-- the lines of a text, without their ends; a last line without an end counts if it isn't empty
abbrev pub lines : List ℕ → List (List ℕ)
lines [] = []
lines (b ∷ bs) = if is_line_end b then [] ∷ lines bs else onto_first b (lines bs)

-- whether some bytes are a word
abbrev pub is_word : List ℕ → Bool
is_word bytes = not (length bytes == 0)

-- the words of a line: the pieces between blanks in front of a comment that aren't empty
abbrev pub words : List ℕ → List (List ℕ)
words line = filter is_word (slice_split is_blank (before_first begins_comment line))

-- a line with words: its number, from 1, and its words
pub record Row : Type 0 where
  pub number : ℕ
  pub words : List (List ℕ)

-- the words of line `number` put before the rows below it; a line without words gives no row
abbrev pub row_before : ℕ → List (List ℕ) → List Row → List Row
row_before number [] below = below
row_before number (w ∷ ws) below = record { number = number; words = w ∷ ws } ∷ below

-- the rows of lines that are numbered from `number` on
abbrev pub rows_from : ℕ → List (List ℕ) → List Row
rows_from number [] = []
rows_from number (l ∷ ls) = row_before number (words l) (rows_from (number + 1) ls)

-- the rows of a text: its lines that have words
abbrev pub rows : List ℕ → List Row
rows text = rows_from 1 (lines text)
