-- The runs of a script: which histories of the machine are one.
use Rattle.std.specs.Prelude.{◌≡◌, ℕ, Some, List}
use Rattle.pic_machine.specs.declared.birth.Birth.{Birth}
use Rattle.pic_machine.specs.Happened.{Happened}
use Rattle.pic_machine.specs.History.{Origin, origin_of, IsLegal, birth_in, world}
use Rattle.pic_machine.specs.Log.{log}
use Rattle.pic_machine.specs.Final.{IsFinal}
use Rattle.pic_machine.specs.Order.{IsInFifoOrder}
use Rattle.pic_run.specs.Limits.{limits}
use Rattle.script_tree.specs.Tree.{Tree}
use Rattle.fiber_body.specs.Follows.{FollowsText}
use Rattle.fiber_body.specs.Starts.{main_birth, start_of}

abbrev pub origin : Tree → Origin
origin script = origin_of (start_of script limits) (main_birth script)

-- one legal history of the machine from the script's start, in which each fiber that was made follows
-- its text from its birth, which ends in a final world, and whose turns stand in the FIFO order
pub record IsRunOf (script : Tree) (history : List Happened) : Type 0 where
  pub legal : IsLegal (origin script) history
  pub follows : (f : ℕ) (birth : Birth) → birth_in (origin script) history f ≡ Some birth
      → FollowsText script f birth (log history f)
  pub final : IsFinal (world (origin script) history)
  pub ordered : IsInFifoOrder history
