-- The world of the machine, and the world that stands before the first entry.
use Rattle.std.specs.Prelude.{◌≡◌, ℕ, ◌≤◌, List, [], ◌∷◌, replicate, slice_index_or}
use Rattle.pic_base.specs.declared.duty.Duty.{Duty}
use Rattle.pic_base.specs.declared.limits.Limits.{Limits}
use Rattle.pic_machine.specs.declared.state.CompState.{CompState}
use Rattle.pic_machine.specs.declared.state.CompState.TheVariants.{Running}
use Rattle.pic_machine.specs.declared.state.TrigState.{TrigState}
use Rattle.pic_machine.specs.declared.state.TrigState.TheVariants.{Initial}
use Rattle.pic_machine.specs.declared.state.FiberState.{FiberState}
use Rattle.pic_machine.specs.declared.state.FiberState.TheVariants.{Live}
use Rattle.pic_machine.specs.declared.world.Start.{Start}

-- the triggers and the computations at their numbers, the fibers in order from fiber 1, what each fiber
-- owes, at its number, the clock's first, how many places were made, and the limits
pub record State : Type 0 where
  pub triggers : List TrigState
  pub comps : List CompState
  pub fibers : List FiberState
  pub owed : List (List Duty)
  pub places : ℕ
  pub limits : Limits

-- what fiber f owes, the duty that it has to fulfil first in front
abbrev pub owed_of : State → ℕ → List Duty
owed_of w f = slice_index_or w.owed f []

-- a start that a world can be made of: the root stands, and all that stands is within the limits
pub record CanStart (start : Start) : Type 0 where
  pub root : 1 ≤ start.comps
  pub triggers : start.triggers ≤ start.limits.triggers
  pub comps : start.comps ≤ start.limits.comps
  pub main : 1 ≤ start.limits.fibers

-- every trigger is initial, every computation runs with nothing attached, main is the one fiber, and
-- neither it nor the clock owes anything
abbrev pub world_at : Start → State
world_at start = record {
  triggers = replicate start.triggers Initial;
  comps = replicate start.comps (Running []);
  fibers = Live ∷ [];
  owed = [] ∷ ([] ∷ []);
  places = 0;
  limits = start.limits;
}

-- a world as one starts
pub record IsStart (w : State) : Type 0 where
  pub start : Start
  pub is : w ≡ world_at start
