use Rattle.std.proofs.Common.{map}
use Rattle.pic_report.specs.EntryLine.{entry_line}
use Rattle.pic_report.specs.Report.{joined, text_names}
use Rattle.pic_report.proofs.Putting.{IsPut}
use Rattle.pic_report.proofs.entry_lines.put_entries.Given as goal

abbrev pub invariant-loop-entry : goal.invariant-loop-entry
invariant-loop-entry g l =
    IsPut (g.K.Sink.taken l.initial.out) (g.K.Sink.taken l.out) (g.K.Sink.fault_count l.initial.out) (g.K.Sink.fault_count l.out)
    (joined (map (entry_line l.fn.place (text_names l.program)) l.fn.entries)) (joined (map (entry_line l.fn.place (text_names l.program)) l.entry-iterator))
