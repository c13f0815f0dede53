use Rattle.std.proofs.lemmas.Result.{err_from_is_err_and}
use Rattle.pic_report.specs.Report.{joined, said_lines, says_of}
use Rattle.pic_report.proofs.Parts.{says_from}
use Rattle.pic_report.proofs.Putting.{puts_on, puts_then}
use Rattle.pic_report.proofs.fibers.put_says.Goals as goal

pub returns-in_err-put_said : goal.returns-in_err-put_said
returns-in_err-put_said g c =
    let p = err_from_is_err_and c.from_residual.result c.from_residual.ensures.1 in
    rw (p.1, p.2)
    (puts_then (joined (said_lines c.in-Some.entry.call)) (joined (says_of c.next.new.self)) c.in_err-put_said.field-0.0 c.loop-entry.invariant
    (says_from c.loop-entry.entry-iterator c.next.new.self c.in-Some.entry c.in-Some.ensures.steps) c.in_err-put_said.ensures)

pub loop-entry-preserved : goal.loop-entry-preserved
loop-entry-preserved g c =
    puts_on (joined (said_lines c.in-Some.entry.call)) (joined (says_of c.next.new.self)) c.loop-entry.invariant
    (says_from c.loop-entry.entry-iterator c.next.new.self c.in-Some.entry c.in-Some.ensures.steps) c.in_ok-put_said.ensures
