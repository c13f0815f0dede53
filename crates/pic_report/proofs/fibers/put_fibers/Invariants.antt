use Rattle.std.proofs.Common.{◌+◌, drop}
use Rattle.pic_report.specs.Report.{joined, text_names}
use Rattle.pic_report.specs.View.{views_lines}
use Rattle.pic_report.proofs.Putting.{IsPut}
use Rattle.pic_report.proofs.fibers.put_fibers.Given as goal

abbrev pub invariant-loop-index : goal.invariant-loop-index
invariant-loop-index g l =
    IsPut (g.K.Sink.taken l.initial.out) (g.K.Sink.taken l.out) (g.K.Sink.fault_count l.initial.out) (g.K.Sink.fault_count l.out)
    (joined (views_lines (text_names l.program) l.fn.log 1 l.fibers)) (joined (views_lines (text_names l.program) l.fn.log (l.index + 1) (drop l.index l.fibers)))
