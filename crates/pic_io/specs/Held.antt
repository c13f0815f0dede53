-- What a name holds, for everyone who reads files by name.
use Rattle.std.specs.Prelude.{◌≡◌, ℕ, ◌<◌, List, length, ⊤}

-- what is told of a name: nothing, that no file has it, or the file's content
pub data Held : Type 0 where
  untold : Held
  missing : Held
  holds : List ℕ → Held

-- the bytes are the whole content, as far as that is told
abbrev pub Gives : Held → List ℕ → Type 0
Gives untold bytes = ⊤
Gives missing bytes = ⊥
Gives (holds content) bytes = bytes ≡ content

-- the content is longer than the limit, as far as that is told
abbrev pub IsLongerThan : Held → ℕ → Type 0
IsLongerThan untold limit = ⊤
IsLongerThan missing limit = ⊥
IsLongerThan (holds content) limit = limit < length content
