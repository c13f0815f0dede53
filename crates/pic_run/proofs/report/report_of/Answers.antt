use Rattle.std.proofs.Common.{refl}
use Rattle.std.specs.Arc.{arc_value}
use Rattle.pic_run.specs.Run.{origin}
use Rattle.pic_run.specs.declared.report.Report.{Report}
use Rattle.pic_run.proofs.Opening.{begins_running}
use Rattle.pic_run.proofs.Closing.{left_of_run, report_left, trace_of_stored}
use Rattle.pic_run.proofs.report.report_of.Goals as goal

pub returns : goal.returns
returns c =
    let script = arc_value c.args.program in
    let history = c.args.port.front in
    let share = c.args.port.main.program in
    let left = left_of_run script c.args.port c.in-Ok.closed c.requires c.in-Ok.ensures.left in
    let trace = trace_of_stored history c.args.trace c.in-Ok.history c.then_some-trace.result c.in-Ok.ensures.history c.then_some-trace.ensures in
    let made : Report = record { program = c.args.program; view = c.in_ok-view.view; status = c.status_of-status.result } in
    report_left script c.args.port c.in-Ok.closed c.requires c.in-Ok.ensures.left c.args.trace c.args.log made refl (c.in_ok-view.ensures.view (origin script) share history c.args.trace left trace)
    (c.in_ok-view.ensures.text script (origin script) share history c.args.trace (begins_running script) left trace) (rw (c.main_state.ensures, c.suspended_count.ensures) at c.status_of-status.ensures)
