use Rattle.std.proofs.Common.{refl, arith}
use Rattle.pic_machine.specs.Waits.{arming, over, told}
use Rattle.fiber_await.proofs.Owning.{sleepy_may, trigger_kept, trigger_still}
use Rattle.fiber_await.proofs.Running.{did_none}
use Rattle.fiber_await.proofs.Stages.{fell_asleep, following_still, ran_named, to_arming, to_told}
use Rattle.fiber_await.proofs.following.fall_asleep.Goals as goal

pub returns-then-parts-eq-TOLD-clause-ran : goal.returns-then-parts-eq-TOLD-clause-ran
returns-then-parts-eq-TOLD-clause-ran g c comp = following_still _ _ _ _ c.args.s.now comp refl (did_none _ _ c.requires.free)

pub suspend-requires-clause-may : goal.suspend-requires-clause-may
suspend-requires-clause-may g c = sleepy_may (g.P.Port.sight c.args.port.now) (g.P.Body.Carried.seen c.args.body.now) c.args.parts.now c.args.s.now.current c.requires.free c.requires.current c.requires.at.0 c.requires.own

pub returns-in_err-suspend-clause-ran : goal.returns-in_err-suspend-clause-ran
returns-in_err-suspend-clause-ran g c comp = following_still _ _ _ _ c.args.s.now comp refl c.in_err-suspend.ensures.refused.0

pub returns-in-Go-clause-ran : goal.returns-in-Go-clause-ran
returns-in-Go-clause-ran g c comp =
    fell_asleep _ _ _ _ c.args.s.now comp c.args.parts.now arming c.requires.at.0 (omega (arith, c.requires.at.1, c.if-parts-eq-TOLD.false))
    (ran_named _ _ _ _ _ refl (to_arming c.args.s.now c.in_ok-suspend.field-0 c.suspend.new.parts c.in-Go.is c.in_ok-suspend.ensures.go) c.in_ok-suspend.ensures.ran)

pub returns-in-Go-clause-own : goal.returns-in-Go-clause-own
returns-in-Go-clause-own g c =
    trigger_still _ _ _ _ _ c.in_ok-suspend.ensures.ran.did c.args.parts.now.trigger
    (trigger_kept (g.P.Port.sight c.args.port.now) (g.P.Body.Carried.seen c.args.body.now) c.args.parts.now c.requires.at.0 (omega (arith, c.requires.at.1)) c.requires.own)

pub returns-in-Cancelled-clause-ran : goal.returns-in-Cancelled-clause-ran
returns-in-Cancelled-clause-ran g c comp =
    fell_asleep _ _ _ _ c.args.s.now comp c.args.parts.now (over (told c.in-Cancelled.code)) c.requires.at.0 (omega (arith, c.requires.at.1, c.if-parts-eq-TOLD.false))
    (ran_named _ _ _ _ _ refl (to_told c.args.s.now c.in_ok-suspend.field-0 c.in-Cancelled.code c.suspend.new.parts c.in-Cancelled.is) c.in_ok-suspend.ensures.ran)

pub returns-in-Cancelled-clause-own : goal.returns-in-Cancelled-clause-own
returns-in-Cancelled-clause-own g c = (
  trigger_still _ _ _ _ _ c.in_ok-suspend.ensures.ran.did c.args.parts.now.trigger
      (trigger_kept (g.P.Port.sight c.args.port.now) (g.P.Body.Carried.seen c.args.body.now) c.args.parts.now c.requires.at.0 (omega (arith, c.requires.at.1)) c.requires.own),
  λ is. cc,
)
