-- What the port stores beside what it shows. Only its invariant cites this.
use Rattle.std.specs.Prelude.{◌≡◌, ℕ, ◌+◌, ◌-◌, ◌<◌, Option, Some, None, List, length, slice_get}
use Rattle.pic_machine.specs.Happened.{Happened}
use Rattle.pic_machine.specs.State.{CanStart, State}
use Rattle.pic_machine.specs.History.{IsLegal, world}
use Rattle.pic_machine.specs.Sight.{Carry}
use Rattle.port_plain.specs.Shown.{IsAtHome, Shown, origin_in}

-- this fiber has a place, and its body isn't there
pub record IsAway {B : Type 0} (bodies : List (Option B)) (f : ℕ) : Type 0 where
  pub made : 0 < f
  pub place : slice_get bodies (f - 1) ≡ Some None

-- the start is one that a world can be made of; the history is legal, and the world is the one after it;
-- each fiber has a place for its body, in order of their numbers, and the body is there unless it is out;
-- what is there is as the history says, and the clock's body has room for an entry
pub record IsStored {B S : Type 0} (seen : B → Carry S) (fits : B → List Happened → Type 0) (port : Shown B) (w : State) (bodies : List (Option B)) (ticking : B) : Type 0 where
  pub begun : CanStart port.start
  pub legal : IsLegal (origin_in seen port) port.front
  pub now : w ≡ world (origin_in seen port) port.front
  pub main : 0 < length bodies
  pub count : length bodies ≡ length w.fibers
  pub home : (place : ℕ) (body : B) → slice_get bodies place ≡ Some (Some body) → IsAtHome seen fits port (place + 1) body
  pub away : (f : ℕ) → port.out ≡ Some f → IsAway bodies f
  pub gone : (place : ℕ) → slice_get bodies place ≡ Some None → port.out ≡ Some (place + 1)
  pub clock : IsAtHome seen fits port 0 ticking
  pub room : 0 < (seen ticking).room
