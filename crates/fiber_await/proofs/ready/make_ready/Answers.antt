use Rattle.fiber_await.proofs.Running.{Ran-trans}
use Rattle.fiber_await.proofs.ready.make_ready.Goals as goal

pub returns-clause-ran : goal.returns-clause-ran
returns-clause-ran g c = Ran-trans _ _ _ _ _ _ _ _ _ _ c.make_trigger.ensures.ran c.make_place.ensures.ran

pub returns-clause-own : goal.returns-clause-own
returns-clause-own g c has = c.make_place.ensures.own (c.make_trigger.ensures.own has)
