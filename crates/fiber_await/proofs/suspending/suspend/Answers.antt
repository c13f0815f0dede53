use Rattle.std.proofs.Common.{refl, ap}
use Rattle.std.specs.Prelude.{Option, unwrap_or}
use Rattle.std.proofs.lemmas.Result.{err_from_is_err_and}
use Rattle.std.proofs.Common.{ℕ}
use Rattle.fiber_await.proofs.Halving.{attached, not_attached, waiting_still}
use Rattle.fiber_await.proofs.Running.{did_none}
use Rattle.fiber_await.proofs.suspending.suspend.Goals as goal

pub returns-then-parts-eq-ATTACHED-clause-ran : goal.returns-then-parts-eq-ATTACHED-clause-ran
returns-then-parts-eq-ATTACHED-clause-ran g c = waiting_still _ _ _ _ _ _ _ _ refl (did_none _ _ c.requires.free)

pub returns-in_default-clause-ran : goal.returns-in_default-clause-ran
returns-in_default-clause-ran g c = waiting_still _ _ _ _ _ _ _ _ refl (did_none _ _ c.requires.free)

pub returns-in_err-attach-clause-ran : goal.returns-in_err-attach-clause-ran
returns-in_err-attach-clause-ran g c =
    let p = err_from_is_err_and c.from_residual.result c.from_residual.ensures.1 in
    waiting_still _ _ _ _ _ _ _ _ (rw p.1 refl) c.in_err-attach.ensures.refused.0

pub returns-in-Go-clause-ran : goal.returns-in-Go-clause-ran
returns-in-Go-clause-ran g c =
    attached _ _ _ _ _ c.args.parts.now c.in-Some-trigger.trigger c.in-Some.place c.in_ok-attach.field-0 _ (not_attached c.args.parts.now.at c.requires.at c.if-parts-eq-ATTACHED.false) c.in-Some.is c.in-Go.ensures
    (ap (λ (o : Option ℕ). unwrap_or o 0) c.in-Some-trigger.is) c.in_ok-attach.ensures.did

pub returns-in-Cancelled-clause-ran : goal.returns-in-Cancelled-clause-ran
returns-in-Cancelled-clause-ran g c =
    attached _ _ _ _ _ c.args.parts.now c.in-Some-trigger.trigger c.in-Some.place c.in_ok-attach.field-0 _ (not_attached c.args.parts.now.at c.requires.at c.if-parts-eq-ATTACHED.false) c.in-Some.is c.in-Cancelled.ensures
    (ap (λ (o : Option ℕ). unwrap_or o 0) c.in-Some-trigger.is) c.in_ok-attach.ensures.did
