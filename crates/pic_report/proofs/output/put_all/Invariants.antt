use Rattle.std.proofs.Common.{length}
use Rattle.pic_report.proofs.Putting.{IsPut}
use Rattle.pic_report.proofs.output.put_all.Given as goal

abbrev pub invariant-pieces : goal.invariant-pieces
invariant-pieces g l = IsPut (g.K.Sink.taken l.initial.out) (g.K.Sink.taken l.out) (g.K.Sink.fault_count l.initial.out) (g.K.Sink.fault_count l.out) l.fn.text l.rest

abbrev pub decreases-pieces : goal.decreases-pieces
decreases-pieces g l = length l.rest
