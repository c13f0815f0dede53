-- How the map of names is seen.
use Rattle.std.specs.Prelude.{ℕ, List, [], ◌∷◌, Vec}
use Rattle.std.specs.Global.{Global}
use Rattle.script_tree.specs.declared.thing.Thing.{Thing}
use Rattle.script_tree.specs.Names.{Named}

-- the names with what they stand for, in the order of the map's entries
abbrev pub names_of : List (Vec ℕ Global × Thing) → List Named
names_of [] = []
names_of (e ∷ es) = record { bytes = e.0.items; thing = e.1 } ∷ names_of es
