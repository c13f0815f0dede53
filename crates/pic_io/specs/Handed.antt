-- What a sink that gathers has handed on.
use Rattle.std.specs.Prelude.{◌≡◌, ℕ, List, ◌++◌, Option}
use Rattle.std.specs.Io.KnownBytes.{Appends}

-- a front of what was gathered went on, and the rest is still gathered
pub record HandsOn (before now : Option (List ℕ)) (gathered left : List ℕ) : Type 0 where
  pub front : List ℕ
  pub split : gathered ≡ front ++ left
  pub handed : Appends before now front
