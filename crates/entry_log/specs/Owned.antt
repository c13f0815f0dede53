-- Deeds and their owners as the entries that an iterator has left. Only its view cites this file.
use Rattle.std.specs.Prelude.{◌≡◌, List, length, ⊤}
use Rattle.pic_machine.specs.declared.entry.Entry.{Entry}
use Rattle.entry_log.specs.declared.entry_iter.Owners.{Owners}
use Rattle.entry_log.specs.declared.entry_iter.Owners.TheVariants.{One, Many}
use Rattle.entry_log.specs.declared.kind.Deed.{Deed}
use Rattle.entry_log.specs.Kept.{by_fiber, by_fibers}

abbrev pub by_owners : Owners → List Deed → List Entry
by_owners (One f) ds = by_fiber f ds
by_owners (Many fs) ds = by_fibers fs.now ds

-- each deed has its owner
abbrev pub IsOfEach : Owners → List Deed → Type 0
IsOfEach (One f) ds = ⊤
IsOfEach (Many fs) ds = length fs.now ≡ length ds
