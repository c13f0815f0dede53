-- What a list of named contents tells of each name.
use Rattle.std.specs.Prelude.{ℕ, List, map, String, string_bytes, bytes_eq, find, Option, Some, None}
use Rattle.std.specs.Global.{Global, Vec}
use Rattle.pic_io.specs.Held.{Held, missing, holds}

-- a name and what it holds
abbrev pub Entry : Type 0
Entry = String Global × Vec ℕ

-- what the entry holds, if there is one
abbrev pub held_by : Option Entry → Held
held_by None = missing
held_by (Some entry) = holds entry.1.items

-- the first entry of the name, if it has one
abbrev pub first_of_name : List Entry → List ℕ → Option Entry
first_of_name entries name = find (λ entry. bytes_eq (string_bytes entry.0) name) entries

-- what the name holds: its first entry counts, and without an entry it is missing
abbrev pub held_in : List Entry → List ℕ → Held
held_in entries name = held_by (first_of_name entries name)

-- the names and the contents in order
abbrev pub texts_of : List Entry → List (List ℕ × List ℕ)
texts_of entries = map (λ entry. (string_bytes entry.0, entry.1.items)) entries
