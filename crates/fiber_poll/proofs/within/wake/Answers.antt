use Rattle.std.proofs.Common.{ap, ◌∙◌}
use Rattle.std.specs.Prelude.{Ok}
use Rattle.pic_machine.specs.declared.waits.Standing.{Standing as Under}
use Rattle.pic_machine.specs.Waits.{awake}
use Rattle.fiber_await.specs.Phases.{unsuspended_at}
use Rattle.fiber_body.specs.Shown.{Shown}
use Rattle.fiber_poll.specs.Moving.{behind_at}
use Rattle.fiber_poll.proofs.Amid.{on_refusal}
use Rattle.fiber_poll.proofs.Owning.{wake_may}
use Rattle.fiber_poll.proofs.Placings.{on_woken, ran_under}
use Rattle.fiber_poll.proofs.within.wake.Goals as goal

pub unsuspend-requires-clause-may : goal.unsuspend-requires-clause-may
unsuspend-requires-clause-may g c = wake_may c.requires.port_of.0 c.waits_under-under.result c.requires.port_of.1 c.requires.up c.requires.free c.waits_under-under.ensures.may

pub returns-in_err-ahead-clause-on : goal.returns-in_err-ahead-clause-on
returns-in_err-ahead-clause-on g c line = on_refusal line c.requires.up c.in_err-ahead.ensures.refused.0 c.unsuspend.ensures.rest

pub returns-clause-on : goal.returns-clause-on
returns-clause-on g c line =
    on_woken c.args.body.now c.unsuspend.new.body line c.args.spot c.args.trigger c.in_ok-ahead.ahead c.behind.result c.steps.result c.requires.up c.requires.within c.unsuspend.ensures.rest
    (ran_under awake (λ (u : Under). unsuspended_at u (Ok c.in_ok-ahead.ahead)) c.waits_under-under.ensures.under (c.in_ok-ahead.ensures.ran c.args.trigger))
    (c.behind.ensures ∙ ap (behind_at c.args.spot) c.exit_of.ensures) c.steps.ensures c.stand.ensures

pub returns-clause-free : goal.returns-clause-free
returns-clause-free g c = ap (λ (z : Shown). z.owes) c.stand.ensures ∙ (c.in_ok-ahead.ensures.ran c.args.trigger).did.free.owes
