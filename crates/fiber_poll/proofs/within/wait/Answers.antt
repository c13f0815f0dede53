use Rattle.std.proofs.Common.{◌≡◌, ℕ, None, sym, ap, subst, ◌∙◌}
use Rattle.std.specs.Prelude.{Ok}
use Rattle.pic_machine.specs.declared.waits.Standing.{Standing as Under}
use Rattle.pic_machine.specs.Waits.{arming, over, told, waiting_at}
use Rattle.pic_machine.specs.Sight.{fiber_of}
use Rattle.fiber_await.specs.declared.ahead.Ahead.{Ahead}
use Rattle.fiber_await.specs.Phases.{suspended_at, trigger_of}
use Rattle.fiber_body.specs.Context.{Context, under}
use Rattle.fiber_body.specs.Shown.{Shown, carry_of}
use Rattle.fiber_poll.proofs.Amid.{on_refusal}
use Rattle.fiber_poll.proofs.Owning.{wait_may}
use Rattle.fiber_poll.proofs.Placings.{on_ready, on_told, ran_to, ran_under}
use Rattle.fiber_poll.proofs.Lighter.{ready_no_heavier}
use Rattle.fiber_poll.proofs.Remaking.{no_heavier}
use Rattle.fiber_poll.proofs.within.wait.Goals as goal

pub suspend-requires-clause-may : goal.suspend-requires-clause-may
suspend-requires-clause-may g c = wait_may c.requires.port_of.0 c.args.spot c.args.parts c.waits_under-under.result c.requires.port_of.1 c.requires.up c.requires.free c.requires.within c.waits_under-under.ensures.may

pub returns-in_err-suspend-clause-on : goal.returns-in_err-suspend-clause-on
returns-in_err-suspend-clause-on g c line = on_refusal line c.requires.up c.in_err-suspend.ensures.refused.0 c.suspend.ensures.rest

pub returns-in-Go-clause-on : goal.returns-in-Go-clause-on
returns-in-Go-clause-on g c line =
    let parts = c.args.parts in
    let later = c.suspend.new.parts in
    let under_it = c.waits_under-under.result in
    let same = c.waits_under-under.ensures.under in
    on_ready c.args.body.now c.suspend.new.body line c.args.spot parts later c.within.result c.steps.result c.requires.up c.requires.within c.suspend.ensures.rest
    (ran_under (λ (u : Under). waiting_at u parts.at parts) (λ (u : Under). waiting_at u later.at later) same
    (ran_to c.waits_under-under.result (fiber_of (carry_of c.args.body.now)) (trigger_of c.args.parts) (waiting_at under_it later.at later) (ap (λ (told_so : Ahead). suspended_at under_it (Ok told_so) later) c.in-Go.is) c.in_ok-suspend.ensures.ran))
    (subst (λ (u : Under). waiting_at u later.at later ≡ arming) same (c.in_ok-suspend.ensures.go (ap (λ (told_so : Ahead). Ok told_so) c.in-Go.is))) c.suspend.ensures.parts c.suspend.ensures.at c.within.ensures c.steps.ensures c.stand.ensures

pub returns-in-Cancelled-clause-on : goal.returns-in-Cancelled-clause-on
returns-in-Cancelled-clause-on g c line =
    let parts = c.args.parts in
    let code = c.in-Cancelled.code in
    on_told c.args.body.now c.suspend.new.body line c.args.spot parts code c.behind.result c.steps-in-Cancelled.result c.requires.up c.requires.within c.suspend.ensures.rest
    (ran_under (λ (u : Under). waiting_at u parts.at parts) (λ u. over (told code)) c.waits_under-under.ensures.under
    (ran_to c.waits_under-under.result (fiber_of (carry_of c.args.body.now)) (trigger_of c.args.parts) (over (told code)) (ap (λ (told_so : Ahead). suspended_at c.waits_under-under.result (Ok told_so) c.suspend.new.parts) c.in-Cancelled.is) c.in_ok-suspend.ensures.ran))
    c.behind.ensures c.steps-in-Cancelled.ensures c.stand-in-Cancelled.ensures

pub returns-in-Go-clause-step : goal.returns-in-Go-clause-step
returns-in-Go-clause-step g c =
    let later = c.suspend.new.parts in
    let context : c.stand.new.self.context ≡ c.args.body.now.context = ap (λ (z : Shown). z.context) c.stand.ensures ∙ (ap (λ (n : ℕ). record c.suspend.new.body.context { steps = n }) c.steps.ensures ∙ c.suspend.ensures.rest.context) in (
      (ap (λ (z : Shown). z.standing) c.stand.ensures ∙ c.within.ensures, subst (λ (u : Under). waiting_at u later.at later ≡ arming) (c.waits_under-under.ensures.under ∙ ap (λ (x : Context). under x) (sym context)) (c.in_ok-suspend.ensures.go (ap (λ (told_so : Ahead). Ok told_so) c.in-Go.is))),
      no_heavier (returns-in-Go-clause-on g c None) (ready_no_heavier c.args.body.now c.suspend.new.body c.args.spot c.args.parts later c.within.result c.steps.result c.requires.within c.suspend.ensures.rest c.within.ensures c.steps.ensures c.stand.ensures),
    )
