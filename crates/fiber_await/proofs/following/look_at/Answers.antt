use Rattle.std.proofs.Common.{Some, None, refl}
use Rattle.std.proofs.lemmas.Result.{err_from_is_err_and}
use Rattle.fiber_await.proofs.Owning.{peek_may}
use Rattle.fiber_await.proofs.Running.{did_none}
use Rattle.fiber_await.proofs.Stages.{following_still, looked_at}
use Rattle.fiber_await.proofs.following.look_at.Goals as goal

pub peek-requires-clause-may : goal.peek-requires-clause-may
peek-requires-clause-may g c = peek_may _ _ c.requires.free c.args.comp c.requires.comp

pub returns-then-not-is_to_look-clause-ran : goal.returns-then-not-is_to_look-clause-ran
returns-then-not-is_to_look-clause-ran g c s = following_still _ _ _ _ s c.args.comp refl (did_none _ _ c.requires.free)

pub returns-in_err-outcome-clause-ran : goal.returns-in_err-outcome-clause-ran
returns-in_err-outcome-clause-ran g c s =
    let p = err_from_is_err_and c.from_residual.result c.from_residual.ensures.1 in
    following_still _ _ _ _ s c.args.comp (rw p.1 refl) c.in_err-outcome.ensures.refused.0

pub returns-in-Some-clause-ran : goal.returns-in-Some-clause-ran
returns-in-Some-clause-ran g c s =
    looked_at _ _ _ _ s c.args.comp c.args.parts.now c.in_ok-outcome.field-0 (Some c.in-Some.outcome) _ c.if-not-is_to_look.ensures.yes c.in-Some.is refl c.in_ok-outcome.ensures.did

pub returns-in-None-clause-ran : goal.returns-in-None-clause-ran
returns-in-None-clause-ran g c s = looked_at _ _ _ _ s c.args.comp c.args.parts.now c.in_ok-outcome.field-0 None _ c.if-not-is_to_look.ensures.yes c.in-None.is refl c.in_ok-outcome.ensures.did
