use Rattle.std.proofs.Common.{◌+◌, drop, arith}
use Rattle.std.proofs.lemmas.Result.{err_from_is_err_and}
use Rattle.pic_report.specs.Report.{joined, text_names}
use Rattle.pic_report.specs.View.{viewed_lines, views_lines}
use Rattle.pic_report.proofs.Parts.{views_from}
use Rattle.pic_report.proofs.Putting.{puts_on, puts_then}
use Rattle.pic_report.proofs.fibers.put_fibers.Goals as goal

pub returns-in_err-put_fiber : goal.returns-in_err-put_fiber
returns-in_err-put_fiber g c =
    let p = err_from_is_err_and c.from_residual.result c.from_residual.ensures.1 in
    let names = text_names c.args.program.now in
    let i = c.loop-index.index in
    let view = c.index-fibers-index.result in
    rw (p.1, p.2)
    (puts_then (joined (viewed_lines names c.args.log (i + 1) view)) (joined (views_lines names c.args.log ((i + 1) + 1) (drop (i + 1) c.args.fibers.now))) c.in_err-put_fiber.field-0.0 c.loop-index.invariant
    (views_from names c.args.log c.args.fibers.now i view (omega arith) c.index-fibers-index.is) c.in_err-put_fiber.ensures)

pub loop-index-preserved : goal.loop-index-preserved
loop-index-preserved g c =
    let names = text_names c.args.program.now in
    let i = c.loop-index.index in
    let view = c.index-fibers-index.result in
    puts_on (joined (viewed_lines names c.args.log (i + 1) view)) (joined (views_lines names c.args.log ((i + 1) + 1) (drop (i + 1) c.args.fibers.now))) c.loop-index.invariant
    (views_from names c.args.log c.args.fibers.now i view (omega arith) c.index-fibers-index.is) c.in_ok-put_fiber.ensures
