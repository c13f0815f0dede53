-- Entries as deeds and the fibers that did them. How a list keeps its entries is its own matter: only
-- views and the contracts inside this crate cite this file.
use Rattle.std.specs.Prelude.{ℕ, List, [], ◌∷◌, map}
use Rattle.pic_machine.specs.declared.entry.Entry.{Entry}
use Rattle.entry_log.specs.declared.kind.Deed.{Deed}

-- deeds that are kept, and for how many more there is room
pub record Kept : Type 0 where
  pub list : List Deed
  pub room : ℕ

abbrev pub entry_by : ℕ → Deed → Entry
entry_by f d = record { fiber = f; call = d.call; reply = d.reply }

-- the entries of one fiber
abbrev pub by_fiber : ℕ → List Deed → List Entry
by_fiber f ds = map (entry_by f) ds

-- the entries of many, each of the fiber at its place
abbrev pub by_fibers : List ℕ → List Deed → List Entry
by_fibers [] ds = []
by_fibers (f ∷ fs) [] = []
by_fibers (f ∷ fs) (d ∷ ds) = entry_by f d ∷ by_fibers fs ds
