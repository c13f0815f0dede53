-- A history as the port stores it: its entries, and apart from them the births of the fibers that they
-- made. The marks aren't stored: they are those of the worlds that the entries lead to. Only the port's view
-- and its invariant cite this.
use Rattle.std.specs.Prelude.{◌≡◌, Bool, true, false, cond, None, List, [], ◌∷◌, drop, filter, length, slice_get}
use Rattle.pic_machine.specs.declared.birth.Birth.{Birth}
use Rattle.pic_machine.specs.declared.entry.Call.{Call}
use Rattle.pic_machine.specs.declared.entry.Call.TheVariants.{Fork}
use Rattle.pic_machine.specs.declared.entry.Entry.{Entry}
use Rattle.pic_machine.specs.declared.entry.Reply.{Reply}
use Rattle.pic_machine.specs.declared.entry.Reply.TheVariants.{Made}
use Rattle.pic_machine.specs.Duty.{is_owing}
use Rattle.pic_machine.specs.Happened.{Happened}
use Rattle.pic_machine.specs.State.{State, owed_of}
use Rattle.pic_machine.specs.Step.{after}

-- the call was a fork, and made a fiber
abbrev pub is_making : Call → Reply → Bool
is_making (Fork text value) (Made g) = true
is_making _ _ = false

-- the entry made a fiber
abbrev pub makes_fiber : Entry → Bool
makes_fiber e = is_making e.call e.reply

-- each birth beside the entry that made its fiber, in order, and none beside another entry; and beside each
-- entry the mark of what its fiber owed in the world where it was made, which the entries lead to from w
abbrev pub paired : State → List Entry → List Birth → List Happened
paired w [] births = []
paired w (e ∷ es) births =
    record { entry = e; birth = cond (makes_fiber e) (slice_get births 0) None; owing = is_owing (owed_of w e.fiber) e.call }
    ∷ paired (after w e.fiber e.call) es (cond (makes_fiber e) (drop 1 births) births)

-- there are as many births as entries that made a fiber
abbrev pub HasEachBirth : List Entry → List Birth → Type 0
HasEachBirth es births = length births ≡ length (filter makes_fiber es)
