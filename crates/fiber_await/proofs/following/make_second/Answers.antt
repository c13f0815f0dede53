use Rattle.fiber_await.proofs.Owning.{owns_second, owns_still}
use Rattle.fiber_await.proofs.Stages.{following_still, second_full, second_made}
use Rattle.fiber_await.proofs.following.make_second.Goals as goal
use Rattle.std.proofs.Common.{refl}

pub returns-in-Ok-clause-ran : goal.returns-in-Ok-clause-ran
returns-in-Ok-clause-ran g c s comp = second_made _ _ _ _ s comp c.args.parts.now c.in-Ok.place c.requires.at c.in-Ok.ensures.did

pub returns-in-Ok-clause-own : goal.returns-in-Ok-clause-own
returns-in-Ok-clause-own g c = owns_second _ _ _ _ c.args.parts.now c.in-Ok.place c.requires.free c.requires.at c.in-Ok.ensures.did c.in-Ok.ensures.free c.in-Ok.ensures.fresh c.requires.own

pub returns-in-Err-Full-clause-ran : goal.returns-in-Err-Full-clause-ran
returns-in-Err-Full-clause-ran g c s comp = second_full _ _ _ _ s comp c.args.parts.now c.requires.at (rw c.in-Err-Full.field-0-is at c.in-Err-Full.ensures.refused).0

pub returns-in-Err-Again-clause-ran : goal.returns-in-Err-Again-clause-ran
returns-in-Err-Again-clause-ran g c s comp = following_still _ _ _ _ s comp refl (rw c.in-Err-Again.field-0-is at c.in-Err-Again.ensures.refused).0

pub returns-in-Err-Memory-clause-ran : goal.returns-in-Err-Memory-clause-ran
returns-in-Err-Memory-clause-ran g c s comp = following_still _ _ _ _ s comp refl (rw c.in-Err-Memory.field-0-is at c.in-Err-Memory.ensures.refused).0

pub returns-in-Err-Again-clause-own : goal.returns-in-Err-Again-clause-own
returns-in-Err-Again-clause-own g c = owns_still _ _ _ _ c.args.parts.now (rw c.in-Err-Again.field-0-is at c.in-Err-Again.ensures.refused).0 c.requires.own

pub returns-in-Err-Memory-clause-own : goal.returns-in-Err-Memory-clause-own
returns-in-Err-Memory-clause-own g c = owns_still _ _ _ _ c.args.parts.now (rw c.in-Err-Memory.field-0-is at c.in-Err-Memory.ensures.refused).0 c.requires.own
