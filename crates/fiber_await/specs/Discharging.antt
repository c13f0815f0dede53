-- What a fiber did to fulfil what it owed.
use Rattle.std.specs.Prelude.{◌≡◌, ℕ, true, Option, List, [], ◌∷◌}
use Rattle.std.specs.List.{AllByRecursion}
use Rattle.pic_base.specs.declared.action.Action.TheVariants.{Resume}
use Rattle.pic_machine.specs.declared.entry.SignalReply.{SignalReply}
use Rattle.pic_machine.specs.declared.entry.SignalReply.TheVariants.{Acted}
use Rattle.pic_machine.specs.Log.{is_due}
use Rattle.pic_machine.specs.Sight.{Carry, Sight}
use Rattle.pic_machine.specs.Turning.{Went}

-- its turn went on by entries that fulfilled duties, and by no other ones
pub record Discharged {S : Type 0} (old new : Sight S) (before now : Carry S) (line later : Option (List ℕ)) : Type 0 where
  pub went : Went old new before now line later
  pub due : AllByRecursion (λ h. is_due h ≡ true) went.going
  pub birth : now.birth ≡ before.birth
  pub share : now.share ≡ before.share

-- the fiber that a signal made ready, if it made one
abbrev pub resumed_by : SignalReply → List ℕ
resumed_by (Acted (Resume fiber)) = fiber ∷ []
resumed_by _ = []
