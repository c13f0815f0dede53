-- What is left of a machine whose work is done.
use Rattle.std.specs.Prelude.{◌≡◌, ℕ, ◌+◌, Some, List, length, slice_get}
use Rattle.pic_machine.specs.declared.closed.Closed.{Closed}
use Rattle.pic_machine.specs.Happened.{Happened}
use Rattle.pic_machine.specs.History.{IsLegal, Origin, world}
use Rattle.pic_machine.specs.Home.{IsBodyOf}
use Rattle.pic_machine.specs.Sight.{Carry}

-- the time at the end of a history: no entry makes any go by
abbrev pub time : List Happened → ℕ
time hs = 0

-- each fiber's body and the clock's, as the history says, and the time
pub record IsLeft {B S : Type 0} (seen : B → Carry S) (fits : B → List Happened → Type 0) (origin : Origin) (share : S) (hs : List Happened) (closed : Closed B) : Type 0 where
  pub legal : IsLegal origin hs
  pub count : length closed.bodies.items ≡ length (world origin hs).fibers
  pub body : (place : ℕ) (body : B) → slice_get closed.bodies.items place ≡ Some body → IsBodyOf seen fits origin share hs (place + 1) body
  pub clock : IsBodyOf seen fits origin share hs 0 closed.clock
  pub now : closed.now ≡ time hs
