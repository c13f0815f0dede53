-- What contracts see of the lists of entries.
use Rattle.std.specs.Prelude.{ℕ, List}
use Rattle.pic_machine.specs.declared.entry.Entry.{Entry}

-- the entries of many fibers in order of happening, and for how many more there is room
pub record Recorded : Type 0 where
  pub entries : List Entry
  pub room : ℕ

-- a fiber, its entries in order, and for how many more there is room
pub record Logged : Type 0 where
  pub fiber : ℕ
  pub entries : List Entry
  pub room : ℕ
