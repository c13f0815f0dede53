use Rattle.std.proofs.Common.{◌≡◌, List, length, get_or, ap, subst, arith}
use Rattle.pic_report.specs.declared.view.FiberView.{FiberView}
use Rattle.pic_report.proofs.Found.{passed_all, passed_more}
use Rattle.pic_report.proofs.completions.completions_of.Goals as goal

pub loop-fiber-preserved : goal.loop-fiber-preserved
loop-fiber-preserved c =
    let views = c.deref-fiber-items.ensures.value in
    passed_more c.loop-fiber.found.items c.note_all.new.found.items c.args.count c.args.view.now.fibers.items c.loop-fiber.fiber-index c.fiber-item.result c.loop-fiber.invariant
    (omega (arith, ap (λ (vs : List FiberView). length vs) views)) (subst (λ (vs : List FiberView). c.fiber-item.result ≡ get_or vs c.loop-fiber.fiber-index c.fiber-item.result) views c.fiber-item.is)
    c.note_all.ensures

pub returns-clause-each : goal.returns-clause-each
returns-clause-each c =
    passed_all c.loop-fiber.found.items c.note_all-2.new.found.items c.args.count c.args.view.now.fibers.items c.loop-fiber.fiber-index c.args.view.now.clock_entries.entries c.loop-fiber.invariant
    (omega (arith, ap (λ (vs : List FiberView). length vs) c.deref-fiber-items.ensures.value))
    c.note_all-2.ensures
