use Rattle.fiber_await.proofs.Readying.{forbidden_trigger, full_trigger, making_still, permitted_trigger}
use Rattle.fiber_await.proofs.Owning.{makes_still, trigger_new}
use Rattle.fiber_await.proofs.Running.{did_none}
use Rattle.fiber_await.proofs.ready.make_trigger.Goals as goal

pub returns-then-parts-ne-NOTHING-clause-ran : goal.returns-then-parts-ne-NOTHING-clause-ran
returns-then-parts-ne-NOTHING-clause-ran g c = making_still _ _ _ _ c.args.s.now c.args.parts.now (did_none _ _ c.requires.free)

pub returns-then-s-clause-ran : goal.returns-then-s-clause-ran
returns-then-s-clause-ran g c = permitted_trigger _ _ _ _ c.args.s.now c.args.parts.now c.in-Ok.trigger c.if-parts-ne-NOTHING.false c.if-s.true c.in-Ok.ensures.did

pub returns-else-s-clause-ran : goal.returns-else-s-clause-ran
returns-else-s-clause-ran g c = forbidden_trigger _ _ _ _ c.args.s.now c.args.parts.now c.in-Ok.trigger c.if-parts-ne-NOTHING.false c.if-s.false c.in-Ok.ensures.did

pub returns-in-Err-Full-clause-ran : goal.returns-in-Err-Full-clause-ran
returns-in-Err-Full-clause-ran g c = full_trigger _ _ _ _ c.args.s.now c.args.parts.now c.if-parts-ne-NOTHING.false (rw c.in-Err-Full.field-0-is at c.in-Err-Full.ensures.refused).0

pub returns-in-Err-Again-clause-ran : goal.returns-in-Err-Again-clause-ran
returns-in-Err-Again-clause-ran g c = making_still _ _ _ _ c.args.s.now c.args.parts.now (rw c.in-Err-Again.field-0-is at c.in-Err-Again.ensures.refused).0

pub returns-in-Err-Memory-clause-ran : goal.returns-in-Err-Memory-clause-ran
returns-in-Err-Memory-clause-ran g c = making_still _ _ _ _ c.args.s.now c.args.parts.now (rw c.in-Err-Memory.field-0-is at c.in-Err-Memory.ensures.refused).0

pub returns-then-s-clause-own : goal.returns-then-s-clause-own
returns-then-s-clause-own g c has = trigger_new _ _ _ _ c.in-Ok.trigger c.in-Ok.ensures.did

pub returns-else-s-clause-own : goal.returns-else-s-clause-own
returns-else-s-clause-own g c has = (trigger_new _ _ _ _ c.in-Ok.trigger c.in-Ok.ensures.did, tt)

pub returns-in-Err-Again-clause-own : goal.returns-in-Err-Again-clause-own
returns-in-Err-Again-clause-own g c = makes_still _ _ _ _ c.args.parts.now (rw c.in-Err-Again.field-0-is at c.in-Err-Again.ensures.refused).0

pub returns-in-Err-Memory-clause-own : goal.returns-in-Err-Memory-clause-own
returns-in-Err-Memory-clause-own g c = makes_still _ _ _ _ c.args.parts.now (rw c.in-Err-Memory.field-0-is at c.in-Err-Memory.ensures.refused).0
