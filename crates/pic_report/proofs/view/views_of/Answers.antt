use Rattle.std.proofs.Common.{◌≡◌, arith}
use Rattle.pic_report.proofs.Taking.{taken_all, taking_more, taking_none}
use Rattle.pic_report.proofs.view.views_of.Goals as goal

pub loop-body-init : goal.loop-body-init
loop-body-init c =
    let items : c.into_iter-body-iterator.result.rest.items ≡ c.args.bodies.items = c.into_iter-body-iterator.ensures.into_iter_gives.0 in
    let count : c.into_iter-body-iterator.result.rest.len ≡ c.args.bodies.len = c.into_iter-body-iterator.ensures.into_iter_gives.1 in
    rw (items, c.new-views.ensures.items) (taking_none c.args.bodies.items c.into_iter-body-iterator.result.rest.len (omega (arith, count, c.args.bodies.ok.0)))

pub loop-body-preserved : goal.loop-body-preserved
loop-body-preserved c =
    rw c.in_ok-push.ensures.items
    (taking_more c.args.bodies.items c.loop-body.body-iterator.rest.items c.next.new.self.rest.items c.loop-body.views.items c.loop-body.body-iterator.rest.len c.next.new.self.rest.len c.in-Some.body c.fiber_view.result c.loop-body.invariant
    c.in-Some.ensures.steps.0 c.in-Some.ensures.steps.1 c.fiber_view.ensures)

pub returns : goal.returns
returns c = taken_all c.args.bodies.items c.loop-body.body-iterator.rest.items c.loop-body.views.items c.loop-body.body-iterator.rest.len c.loop-body.invariant c.in-None.ensures.steps.0
