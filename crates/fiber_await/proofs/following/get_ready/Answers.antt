use Rattle.std.proofs.Common.{refl}
use Rattle.fiber_await.proofs.Running.{did_none}
use Rattle.fiber_await.proofs.Stages.{following_still, ran_next}
use Rattle.fiber_await.proofs.following.get_ready.Goals as goal

pub returns-then-parts-gt-ONE_PLACE-clause-ran : goal.returns-then-parts-gt-ONE_PLACE-clause-ran
returns-then-parts-gt-ONE_PLACE-clause-ran g c comp = following_still _ _ _ _ c.args.s.now comp refl (did_none _ _ c.requires.free)

pub returns-clause-ran : goal.returns-clause-ran
returns-clause-ran g c comp = ran_next _ _ _ _ _ _ c.args.s.now comp (c.make_first.ensures.ran comp) (c.make_second.ensures.ran c.args.s.now comp)

pub make_second-requires-clause-free : goal.make_second-requires-clause-free
make_second-requires-clause-free g c = (c.make_first.ensures.ran 0).did.free
