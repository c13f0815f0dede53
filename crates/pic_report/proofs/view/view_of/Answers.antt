use Rattle.std.proofs.Common.{refl}
use Rattle.pic_report.specs.declared.view.RunView.{RunView}
use Rattle.pic_report.proofs.Reports.{view_report}
use Rattle.pic_report.proofs.Viewing.{view_left}
use Rattle.pic_report.proofs.view.view_of.Goals as goal

pub returns-clause-view : goal.returns-clause-view
returns-clause-view c = λ origin share history traced left trace.
    let view : RunView = record { fibers = c.in_ok-views_of.field-0; clock_entries = c.into_entries.result; now = c.args.closed.now; trace = c.args.trace; log = c.args.log } in
    view_left origin share history c.args.closed left traced c.args.log view c.in_ok-views_of.ensures c.into_entries.ensures.entries refl trace refl

pub returns-clause-text : goal.returns-clause-text
returns-clause-text c = λ script origin share history traced comps left trace.
    let view : RunView = record { fibers = c.in_ok-views_of.field-0; clock_entries = c.into_entries.result; now = c.args.closed.now; trace = c.args.trace; log = c.args.log } in
    view_report script origin history traced c.args.log view comps (view_left origin share history c.args.closed left traced c.args.log view c.in_ok-views_of.ensures c.into_entries.ensures.entries refl trace refl)
