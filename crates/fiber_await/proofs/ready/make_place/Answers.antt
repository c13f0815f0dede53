use Rattle.fiber_await.proofs.Owning.{makes_place, makes_still}
use Rattle.fiber_await.proofs.Readying.{full_place, making_still, not_second, one_place}
use Rattle.fiber_await.proofs.Running.{did_none}
use Rattle.fiber_await.proofs.ready.make_place.Goals as goal

pub returns-then-parts-eq-ALL-clause-ran : goal.returns-then-parts-eq-ALL-clause-ran
returns-then-parts-eq-ALL-clause-ran g c = making_still _ _ _ _ c.args.s.now c.args.parts.now (did_none _ _ c.requires.free)

pub returns-in-Ok-clause-ran : goal.returns-in-Ok-clause-ran
returns-in-Ok-clause-ran g c = one_place _ _ _ _ c.args.s.now c.args.parts.now c.in-Ok.place (not_second c.args.parts.now.at c.requires.at c.if-parts-eq-ALL.false) c.in-Ok.ensures.did

pub returns-in-Err-Full-clause-ran : goal.returns-in-Err-Full-clause-ran
returns-in-Err-Full-clause-ran g c = full_place _ _ _ _ c.args.s.now c.args.parts.now (not_second c.args.parts.now.at c.requires.at c.if-parts-eq-ALL.false) (rw c.in-Err-Full.field-0-is at c.in-Err-Full.ensures.refused).0

pub returns-in-Err-Again-clause-ran : goal.returns-in-Err-Again-clause-ran
returns-in-Err-Again-clause-ran g c = making_still _ _ _ _ c.args.s.now c.args.parts.now (rw c.in-Err-Again.field-0-is at c.in-Err-Again.ensures.refused).0

pub returns-in-Err-Memory-clause-ran : goal.returns-in-Err-Memory-clause-ran
returns-in-Err-Memory-clause-ran g c = making_still _ _ _ _ c.args.s.now c.args.parts.now (rw c.in-Err-Memory.field-0-is at c.in-Err-Memory.ensures.refused).0

pub returns-in-Ok-clause-own : goal.returns-in-Ok-clause-own
returns-in-Ok-clause-own g c =
    makes_place _ _ _ _ c.args.parts.now c.in-Ok.place (not_second c.args.parts.now.at c.requires.at c.if-parts-eq-ALL.false) c.in-Ok.ensures.did c.in-Ok.ensures.free

pub returns-in-Err-Again-clause-own : goal.returns-in-Err-Again-clause-own
returns-in-Err-Again-clause-own g c = makes_still _ _ _ _ c.args.parts.now (rw c.in-Err-Again.field-0-is at c.in-Err-Again.ensures.refused).0

pub returns-in-Err-Memory-clause-own : goal.returns-in-Err-Memory-clause-own
returns-in-Err-Memory-clause-own g c = makes_still _ _ _ _ c.args.parts.now (rw c.in-Err-Memory.field-0-is at c.in-Err-Memory.ensures.refused).0
