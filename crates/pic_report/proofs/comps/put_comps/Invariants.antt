use Rattle.std.proofs.Common.{◌+◌, ◌-◌, length}
use Rattle.pic_report.specs.Report.{comp_names, joined}
use Rattle.pic_report.specs.View.{all_entries, told_lines}
use Rattle.pic_report.proofs.Putting.{IsPut}
use Rattle.pic_report.proofs.comps.put_comps.Given as goal

abbrev pub invariant-loop-number : goal.invariant-loop-number
invariant-loop-number g l =
    IsPut (g.K.Sink.taken l.initial.out) (g.K.Sink.taken l.out) (g.K.Sink.fault_count l.initial.out) (g.K.Sink.fault_count l.out)
    (joined (told_lines (comp_names l.fn.program) (all_entries l.fn.view) 0 (length (comp_names l.fn.program) + 1)))
    (joined (told_lines (comp_names l.fn.program) (all_entries l.fn.view) l.number (length (comp_names l.fn.program) + 1 - l.number)))
