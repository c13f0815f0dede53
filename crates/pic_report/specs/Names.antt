-- Names as code keeps them. Only private contracts cite this word.
use Rattle.std.specs.Prelude.{ℕ, List, map}
use Rattle.std.specs.Borrow.{Bor}

abbrev pub read_names : List (Bor (List ℕ)) → List (List ℕ)
read_names names = map (λ (name : Bor (List ℕ)). name.now) names
