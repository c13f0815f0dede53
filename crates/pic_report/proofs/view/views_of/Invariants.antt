use Rattle.pic_report.proofs.Taking.{IsTaking}
use Rattle.pic_report.proofs.view.views_of.Given as goal

abbrev pub invariant-loop-body : goal.invariant-loop-body
invariant-loop-body l = IsTaking l.fn.bodies.items l.body-iterator.rest.items l.views.items l.body-iterator.rest.len
