use Rattle.std.proofs.Common.{refl}
use Rattle.std.proofs.lemmas.Result.{err_from_is_err_and}
use Rattle.fiber_await.proofs.Halving.{checked, unchecked, waiting_still}
use Rattle.fiber_await.proofs.Running.{did_none}
use Rattle.fiber_await.proofs.suspending.unsuspend.Goals as goal

pub returns-then-not-s-clause-ran : goal.returns-then-not-s-clause-ran
returns-then-not-s-clause-ran g c trigger = waiting_still _ _ _ _ _ _ _ _ (unchecked c.args.s.now c.if-not-s.true) (did_none _ _ c.requires.free)

pub returns-in_err-peek-clause-ran : goal.returns-in_err-peek-clause-ran
returns-in_err-peek-clause-ran g c trigger =
    let p = err_from_is_err_and c.from_residual.result c.from_residual.ensures.1 in
    waiting_still _ _ _ _ _ _ _ _ (rw p.1 refl) c.in_err-peek.ensures.refused.0

pub returns-clause-ran : goal.returns-clause-ran
returns-clause-ran g c trigger = checked _ _ _ _ _ trigger c.in_ok-peek.field-0 c.told_by_peek.result c.if-not-s.false c.told_by_peek.ensures c.in_ok-peek.ensures.did
