use Rattle.pic_report.specs.Report.{joined, says_of}
use Rattle.pic_report.proofs.Putting.{IsPut}
use Rattle.pic_report.proofs.fibers.put_says.Given as goal

abbrev pub invariant-loop-entry : goal.invariant-loop-entry
invariant-loop-entry g l =
    IsPut (g.K.Sink.taken l.initial.out) (g.K.Sink.taken l.out) (g.K.Sink.fault_count l.initial.out) (g.K.Sink.fault_count l.out)
    (joined (says_of l.entries.entries)) (joined (says_of l.entry-iterator))
