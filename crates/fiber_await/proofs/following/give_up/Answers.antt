use Rattle.std.proofs.Common.{refl, subst, arith}
use Rattle.std.proofs.lemmas.Result.{err_from_is_err_and}
use Rattle.fiber_await.proofs.Calling.{did_refused}
use Rattle.fiber_await.proofs.Owning.{Triggers, signal_may, trigger_kept}
use Rattle.fiber_await.proofs.Stages.{following_still, telling_as, told_signals}
use Rattle.fiber_await.proofs.following.give_up.Goals as goal

pub signal-requires-clause-may : goal.signal-requires-clause-may
signal-requires-clause-may g c =
    signal_may _ _ c.requires.free c.in-Some-Some.trigger
    (subst (Triggers (g.P.Port.sight c.args.port.now) (g.P.Body.Carried.seen c.args.body.now)) c.in-Some-Some.is-0
    (trigger_kept (g.P.Port.sight c.args.port.now) (g.P.Body.Carried.seen c.args.body.now) c.args.parts.now (omega (arith, c.requires.at)) (omega (arith, c.requires.at)) c.requires.own))

pub returns-in_err-how-clause-ran : goal.returns-in_err-how-clause-ran
returns-in_err-how-clause-ran g c s comp =
    let p = err_from_is_err_and c.from_residual.result c.from_residual.ensures.1 in
    telling_as _ _ _ _ _ (rw p.1 refl) (following_still _ _ _ _ s comp refl (did_refused _ _ _ _ _ c.requires.free c.in_err-how.ensures.refused).0)

pub returns-clause-ran : goal.returns-clause-ran
returns-clause-ran g c s comp =
    told_signals _ _ _ _ s comp c.args.parts.now c.in-Some-Some.trigger c.in-Some-Some.code c.in_ok-how.how _ _ c.requires.free c.requires.at c.in-Some-Some.is-0 c.in-Some-Some.is-1 c.in_ok-how.ensures.made c.tell.ensures
