-- The headline: what a call that answers Done, Raised or Stuck to a run says of the script, the history
-- and the report.
use Rattle.std.specs.Prelude.{◌≡◌, ℕ, Bool, IsTrue, Option, Some, Ok, List}
use Rattle.std.specs.Io.KnownBytes.{Appends}
use Rattle.pic_io.specs.Held.{Held, Gives}
use Rattle.pic_machine.specs.declared.birth.Birth.{Birth}
use Rattle.pic_machine.specs.Happened.{Happened}
use Rattle.pic_machine.specs.History.{IsLegal, birth_in, world}
use Rattle.pic_machine.specs.Log.{log}
use Rattle.pic_machine.specs.Final.{IsFinal}
use Rattle.pic_machine.specs.Order.{IsInFifoOrder}
use Rattle.fiber_body.specs.Follows.{FollowsText}
use Rattle.fiber_poll.specs.Built.{is_built}
use Rattle.pic_report.specs.Report.{report}
use Rattle.script_tree.specs.Tree.{Tree}
use Rattle.script_tree.specs.Grammar.{grammar}
use Rattle.pic_run.specs.declared.status.Status.{Status}
use Rattle.pic_run.specs.Run.{origin}
use Rattle.pic_run.specs.Status.{IsStatusOf}

-- The bytes of the script's file are a script that a run serves, and there is one history such that:
pub record Headline (held : Held) (traced logged : Bool) (before now : Option (List ℕ)) (status : Status) : Type 0 where
  pub bytes : List ℕ
  pub given : Gives held bytes
  pub script : Tree
  pub reads : grammar bytes ≡ Ok script
  pub served : IsTrue (is_built script)
  pub history : List Happened
  -- it is a legal history of the machine from the script's start
  pub legal : IsLegal (origin script) history
  -- each fiber's calls stand in it once, in its text's order, with the replies that it got
  pub follows : (f : ℕ) (birth : Birth) → birth_in (origin script) history f ≡ Some birth
      → FollowsText script f birth (log history f)
  -- it ends with nothing owed, and every fiber ended or suspended at a trigger that isn't signalled
  pub final : IsFinal (world (origin script) history)
  -- the sink took exactly its report, with the trace and the logs where they were asked for
  pub written : Appends before now (report script (origin script) history traced logged)
  -- the status is how the fibers ended
  pub ended : IsStatusOf (world (origin script) history) status
  -- its turns stand in the FIFO order
  pub ordered : IsInFifoOrder history
