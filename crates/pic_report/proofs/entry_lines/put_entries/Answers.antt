use Rattle.std.proofs.Common.{List, map, ap}
use Rattle.std.proofs.lemmas.Result.{err_from_is_err_and}
use Rattle.pic_machine.specs.declared.entry.Entry.{Entry}
use Rattle.pic_report.specs.EntryLine.{entry_line}
use Rattle.pic_report.specs.Report.{joined, text_names}
use Rattle.pic_report.proofs.Putting.{puts_on, puts_then}
use Rattle.pic_report.proofs.entry_lines.put_entries.Goals as goal

pub returns-in_err-put_entry : goal.returns-in_err-put_entry
returns-in_err-put_entry g c =
    let p = err_from_is_err_and c.from_residual.result c.from_residual.ensures.1 in
    let line = entry_line c.args.place (text_names c.args.program.now) in
    rw (p.1, p.2)
    (puts_then (line c.in-Some.entry) (joined (map line c.next.new.self)) c.in_err-put_entry.field-0.0 c.loop-entry.invariant
    (ap (λ (es : List Entry). joined (map line es)) c.in-Some.ensures.steps) c.in_err-put_entry.ensures)

pub loop-entry-preserved : goal.loop-entry-preserved
loop-entry-preserved g c =
    let line = entry_line c.args.place (text_names c.args.program.now) in
    puts_on (line c.in-Some.entry) (joined (map line c.next.new.self)) c.loop-entry.invariant
    (ap (λ (es : List Entry). joined (map line es)) c.in-Some.ensures.steps) c.in_ok-put_entry.ensures
