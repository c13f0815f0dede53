use Rattle.fiber_await.specs.declared.ahead.Ahead.TheVariants.{Go, Cancelled}
use Rattle.fiber_await.specs.Phases.{trigger_of}
use Rattle.std.proofs.Common.{refl, arith}
use Rattle.fiber_await.proofs.Owning.{owns_still, trigger_kept, trigger_still}
use Rattle.fiber_await.proofs.Running.{did_none}
use Rattle.fiber_await.proofs.Stages.{following_still, woken_up}
use Rattle.fiber_await.proofs.following.wake.Goals as goal

pub returns-then-parts-ne-AWAKE-clause-ran : goal.returns-then-parts-ne-AWAKE-clause-ran
returns-then-parts-ne-AWAKE-clause-ran g c comp = following_still _ _ _ _ _ comp refl (did_none _ _ c.requires.free)

pub returns-in_err-unsuspend-clause-ran : goal.returns-in_err-unsuspend-clause-ran
returns-in_err-unsuspend-clause-ran g c comp = following_still _ _ _ _ _ comp refl c.in_err-unsuspend.ensures.refused.0

pub returns-in-Go-clause-ran : goal.returns-in-Go-clause-ran
returns-in-Go-clause-ran g c comp = woken_up _ _ _ _ _ comp c.args.parts.now c.in_ok-unsuspend.field-0 Go c.if-parts-ne-AWAKE.false c.in-Go.is (c.in_ok-unsuspend.ensures.ran (trigger_of c.args.parts.now))

pub returns-in-Go-clause-own : goal.returns-in-Go-clause-own
returns-in-Go-clause-own g c =
    trigger_still _ _ _ _ _ (c.in_ok-unsuspend.ensures.ran 0).did c.args.parts.now.trigger
    (trigger_kept (g.P.Port.sight c.args.port.now) (g.P.Body.Carried.seen c.args.body.now) c.args.parts.now (omega (arith, c.if-parts-ne-AWAKE.false)) c.requires.at c.requires.own)

pub returns-in-Cancelled-clause-ran : goal.returns-in-Cancelled-clause-ran
returns-in-Cancelled-clause-ran g c comp =
    woken_up _ _ _ _ _ comp c.args.parts.now c.in_ok-unsuspend.field-0 (Cancelled c.in-Cancelled.code) c.if-parts-ne-AWAKE.false c.in-Cancelled.is (c.in_ok-unsuspend.ensures.ran (trigger_of c.args.parts.now))

pub returns-in-Cancelled-clause-own : goal.returns-in-Cancelled-clause-own
returns-in-Cancelled-clause-own g c = (
  trigger_still _ _ _ _ _ (c.in_ok-unsuspend.ensures.ran 0).did c.args.parts.now.trigger
      (trigger_kept (g.P.Port.sight c.args.port.now) (g.P.Body.Carried.seen c.args.body.now) c.args.parts.now (omega (arith, c.if-parts-ne-AWAKE.false)) c.requires.at c.requires.own),
  λ is. cc,
)

pub returns-in_err-unsuspend-clause-own : goal.returns-in_err-unsuspend-clause-own
returns-in_err-unsuspend-clause-own g c = owns_still _ _ _ _ c.args.parts.now c.in_err-unsuspend.ensures.refused.0 c.requires.own
