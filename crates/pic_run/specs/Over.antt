-- The machine before the first entry of a run, and once the run is over. Only private contracts cite
-- these words.
use Rattle.std.specs.Prelude.{◌≡◌, Bool, Some, None, List, []}
use Rattle.std.specs.Arc.{arc_value}
use Rattle.pic_machine.specs.Happened.{Happened}
use Rattle.pic_machine.specs.Final.{IsFinal}
use Rattle.pic_machine.specs.History.{world}
use Rattle.pic_machine.specs.Order.{IsInFifoOrder}
use Rattle.port_plain.specs.Shown.{Shown as Port, origin_in}
use Rattle.pic_run.specs.Limits.{limits}
use Rattle.fiber_body.specs.Shown.{Shown as Body, carry_of}
use Rattle.fiber_body.specs.Starts.{main_birth, start_of}
use Rattle.script_tree.specs.Tree.{Tree}
use Rattle.pic_run.specs.declared.report.Report.{Report}
use Rattle.pic_run.specs.Run.{IsRunOf, origin}
use Rattle.pic_report.specs.Report.{report}
use Rattle.pic_report.specs.View.{view_text}
use Rattle.pic_run.specs.Status.{IsStatusOf}

-- nothing has happened yet, and main is to run the script's main text
pub record IsOpened (script : Tree) (port : Port Body) : Type 0 where
  pub start : port.start ≡ start_of script limits
  pub birth : port.main.birth ≡ main_birth script
  pub share : port.main.program ≡ Some script
  pub front : port.front ≡ []
  pub out : port.out ≡ None

-- nothing is left to do in a run of the script, and the turns stand in the FIFO order
pub record IsOver (script : Tree) (port : Port Body) : Type 0 where
  pub begun : origin_in carry_of port ≡ origin script
  pub share : port.main.program ≡ Some script
  pub final : IsFinal (world (origin script) port.front)
  pub ordered : IsInFifoOrder port.front
  pub out : port.out ≡ None

-- the report is that of this history, which is a run of the script, and the status is the run's
pub record IsReportOf (script : Tree) (history : List Happened) (traced logged : Bool) (made : Report) : Type 0 where
  pub run : IsRunOf script history
  pub text : view_text (arc_value made.program) made.view ≡ report script (origin script) history traced logged
  pub status : IsStatusOf (world (origin script) history) made.status
