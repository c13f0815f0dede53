use Rattle.std.proofs.Common.{◌++◌, refl}
use Rattle.std.proofs.lemmas.Result.{err_from_is_err_and}
use Rattle.pic_report.specs.EntryText.{text_name}
use Rattle.pic_report.specs.Report.{fiber_line, joined, log_lines, says_of, text_names}
use Rattle.pic_report.specs.View.{viewed_lines}
use Rattle.pic_report.proofs.Parts.{viewed_parts}
use Rattle.pic_report.proofs.Putting.{put_none, puts_last, puts_on, puts_then}
use Rattle.pic_report.proofs.fibers.put_fiber.Goals as goal

pub returns-in_err-put_state : goal.returns-in_err-put_state
returns-in_err-put_state g c =
    let p = err_from_is_err_and c.from_residual.result c.from_residual.ensures.1 in
    let names = text_names c.args.program.now in
    let view = c.args.fiber.now in
    let line = fiber_line (text_name names view.text) c.args.number view.state in
    let says = joined (says_of view.entries.entries) in
    let logs = joined (log_lines names c.args.log view.entries.entries) in
    rw (p.1, p.2)
    (puts_then line (says ++ logs) c.in_err-put_state.field-0.0 (put_none (g.K.Sink.taken c.args.out.now) (g.K.Sink.fault_count c.args.out.now) (joined (viewed_lines names c.args.log c.args.number view)))
    (viewed_parts names c.args.log c.args.number view) (rw c.text_name-name.ensures at c.in_err-put_state.ensures))

pub returns-in_err-put_says : goal.returns-in_err-put_says
returns-in_err-put_says g c =
    let p = err_from_is_err_and c.from_residual-in_err-put_says.result c.from_residual-in_err-put_says.ensures.1 in
    let names = text_names c.args.program.now in
    let view = c.args.fiber.now in
    let line = fiber_line (text_name names view.text) c.args.number view.state in
    let says = joined (says_of view.entries.entries) in
    let logs = joined (log_lines names c.args.log view.entries.entries) in
    rw (p.1, p.2)
    (puts_then says logs c.in_err-put_says.field-0.0
    (puts_on line (says ++ logs) (put_none (g.K.Sink.taken c.args.out.now) (g.K.Sink.fault_count c.args.out.now) (joined (viewed_lines names c.args.log c.args.number view)))
    (viewed_parts names c.args.log c.args.number view) (rw c.text_name-name.ensures at c.in_ok-put_state.ensures))
    refl c.in_err-put_says.ensures)

pub returns : goal.returns
returns g c =
    let names = text_names c.args.program.now in
    let view = c.args.fiber.now in
    let line = fiber_line (text_name names view.text) c.args.number view.state in
    let says = joined (says_of view.entries.entries) in
    let logs = joined (log_lines names c.args.log view.entries.entries) in
    puts_last c.put_log.result
    (puts_on says logs
    (puts_on line (says ++ logs) (put_none (g.K.Sink.taken c.args.out.now) (g.K.Sink.fault_count c.args.out.now) (joined (viewed_lines names c.args.log c.args.number view)))
    (viewed_parts names c.args.log c.args.number view) (rw c.text_name-name.ensures at c.in_ok-put_state.ensures))
    refl c.in_ok-put_says.ensures)
    c.put_log.ensures
