-- What tests keep of a body that is out, and of a port whose bodies are all at home. Only tests cite this.
use Rattle.std.specs.Prelude.{◌≡◌, ◌≢◌, ◌≤◌, None, length}
use Rattle.pic_machine.specs.Sight.{Carry, Holds, Sight, fiber_of}
use Rattle.pic_machine.specs.State.{State}

-- two triggers and a computation stand, and two fibers may be made
pub record Begins (w : State) : Type 0 where
  pub triggers : 2 ≤ length w.triggers
  pub comps : 1 ≤ length w.comps
  pub fibers : w.limits.fibers ≡ 2

-- a body that is out
pub record IsOut {S : Type 0} (p : Sight S) (a : Carry S) : Type 0 where
  pub holds : Holds p a
  pub fiber : fiber_of a ≢ 0
  pub begun : Begins p.origin.world

-- all bodies are at home
pub record IsIn {S : Type 0} (p : Sight S) : Type 0 where
  pub out : p.out ≡ None
  pub begun : Begins p.origin.world
