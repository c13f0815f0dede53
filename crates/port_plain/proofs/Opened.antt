-- A port as the tests open it.
use Rattle.std.proofs.Common.{◌≡◌, Some, None, List, [], refl, ap, ◌∙◌, arith}
use Rattle.pic_machine.specs.declared.world.Start.{Start}
use Rattle.pic_machine.specs.Happened.{Happened}
use Rattle.pic_machine.specs.State.{world_at}
use Rattle.pic_machine.specs.Sight.{Carry, Sight}
use Rattle.port_plain.specs.Handed.{IsIn}
use Rattle.port_plain.specs.Shown.{IsClock}

-- two triggers and a computation stand, and two fibers may be made
pub opened_in : {S : Type 0} {p : Sight S} (start : Start) → p.out ≡ None → p.origin.world ≡ world_at start
    → start ≡ record { triggers = 2; comps = 1; text = 3; limits = record { fibers = 2; triggers = 3; places = 3; comps = 1 } } → IsIn p
opened_in start none is begins = record { out = none; begun = rw (is, begins) (record { triggers = omega arith; comps = omega arith; fibers = refl }) }

-- a body that got the clock's number
pub numbered_clock : {B S : Type 0} (seen : B → Carry S) (fits : B → List Happened → Type 0) (old new : B) → seen new ≡ record (seen old) { number = Some 0 } → (seen old).owes ≡ [] → fits new [] → IsClock seen fits new
numbered_clock {S = S} seen fits old new is owes fitting = record { number = ap (λ (a : Carry S). a.number) is; owes = ap (λ (a : Carry S). a.owes) is ∙ owes; fitting = fitting }
