-- What stands of a port between two turns, while its fibers run in the FIFO order.
use Rattle.std.specs.Prelude.{◌≡◌, ℕ, ◌+◌, ◌*◌, ◌≤◌, Bool, true, false, Option, Some, None, List}
use Rattle.pic_base.specs.declared.limits.Limits.{Limits}
use Rattle.pic_base.specs.Steps.{most_steps}
use Rattle.pic_machine.specs.declared.world.Start.{Start}
use Rattle.pic_machine.specs.History.{IsLegal}
use Rattle.pic_machine.specs.Log.{log}
use Rattle.pic_machine.specs.Order.{InFifo, yields}
use Rattle.pic_machine.specs.Sight.{Sight}
use Rattle.pic_machine.specs.State.{CanStart, world_at}

-- what a line tells: the fibers in it, or nothing once one may have been lost
abbrev pub told_by : Bool → List ℕ → Option (List ℕ)
told_by true fibers = None
told_by false fibers = Some fibers

-- how many turns there may be: each fiber ends one of them by its end, and others by yields, no more often
-- than it has steps, but for once; and no two turns end by a wait for the same trigger
abbrev pub most_turns : Limits → ℕ
most_turns limits = limits.fibers * (most_steps + 2) + limits.triggers

-- the history began as a world starts; it is legal, and its turns stand in the FIFO order, with this ready
-- list behind them; no fiber yielded more often than it has steps, but for once, and no body is out
pub record IsUnderWay {S : Type 0} (port : Sight S) (ready : List ℕ) : Type 0 where
  pub start : Start
  pub begun : port.origin.world ≡ world_at start
  pub can : CanStart start
  pub legal : IsLegal port.origin port.front
  pub order : InFifo port.front ready
  pub few : (f : ℕ) → yields (log port.front f) ≤ most_steps + 1
  pub out : port.out ≡ None
