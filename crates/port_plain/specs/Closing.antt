-- What the bodies that are left owe, and what room the clock's has.
use Rattle.std.specs.Prelude.{◌≡◌, ℕ, ◌+◌, ◌<◌, Some, slice_get}
use Rattle.pic_machine.specs.declared.closed.Closed.{Closed}
use Rattle.pic_machine.specs.State.{owed_of}
use Rattle.pic_machine.specs.History.{world}
use Rattle.pic_machine.specs.Sight.{Carry, Sight}

-- each body owes what its fiber owes, and the clock's has room for an entry
pub record OwesAsLeft {B S : Type 0} (seen : B → Carry S) (port : Sight S) (closed : Closed B) : Type 0 where
  pub bodies : (place : ℕ) (body : B) → slice_get closed.bodies.items place ≡ Some body → (seen body).owes ≡ owed_of (world port.origin port.front) (place + 1)
  pub clock : (seen closed.clock).owes ≡ owed_of (world port.origin port.front) 0
  pub room : 0 < (seen closed.clock).room
