use Rattle.std.proofs.Common.{◌≡◌, ◌<◌, sym, subst, arith, ◌∙◌}
use Rattle.std.specs.Bool.{OnFalse, OnTrue}
use Rattle.fiber_body.specs.Shown.{Shown}
use Rattle.fiber_body.specs.Statements.{result}
use Rattle.fiber_poll.specs.Moving.{Goes, HasCall, IsBefore}
use Rattle.fiber_poll.specs.UnderWay.{IsOn, IsUp}
use Rattle.fiber_poll.proofs.Entering.{spent_goes}
use Rattle.fiber_poll.proofs.Going.{on_gone, on_none}
use Rattle.fiber_poll.proofs.turn.begin.Goals as goal

pub returns-then-steps-eq0-clause-on : goal.returns-then-steps-eq0-clause-on
returns-then-steps-eq0-clause-on g c =
    let body : Shown = c.args.body.now in
    on_gone c.requires.up (subst (Goes body) (sym c.stand.ensures) (spent_goes body c.args.spot c.args.stmt.now c.requires.at (sym c.steps.ensures ∙ c.if-steps-eq0.true)))

pub returns-in-Yield-clause-on : goal.returns-in-Yield-clause-on
returns-in-Yield-clause-on g c = on_none c.requires.up

pub begin_calls-requires : goal.begin_calls-requires
begin_calls-requires g c =
    let body : Shown = c.args.body.now in
    let one = c.args.stmt.now in
    let same : c.enter_block.new.body ≡ body = subst (λ t. OnFalse t (c.enter_block.new.body ≡ body)) c.in-Ok-false.field-0-test c.in-Ok-false.ensures.none in
    let some : 0 < body.context.steps = omega (arith, c.if-steps-eq0.false, c.steps.ensures) in
    record {
      port_of = c.requires.port_of;
      up = subst (IsUp (g.P.Port.sight c.args.port.now)) (sym same) c.requires.up;
      free = subst (λ (z : Shown). z.owes ≡ _) (sym same) c.requires.free;
      before = subst (λ (z : Shown). IsBefore z c.args.spot one) (sym same) (record { here = c.requires.at; steps = some });
      not_done = subst (λ (z : Shown). result z.context.registers z.context.cells one ≡ _) (sym same) (c.requires.waits some).not_done;
      calls = subst (λ (z : Shown). HasCall z.context one) (sym same) (subst (λ t. OnFalse t (HasCall body.context one)) c.in-Ok-false.field-0-test c.in-Ok-false.ensures.calls);
      no_yield = c.in_default.not-Yield;
      can = c.requires.can;
    }

pub returns-in_err-begin_calls-in-Ok-false-clause-on : goal.returns-in_err-begin_calls-in-Ok-false-clause-on
returns-in_err-begin_calls-in-Ok-false-clause-on g c =
    let same : c.enter_block.new.body ≡ c.args.body.now = subst (λ t. OnFalse t (c.enter_block.new.body ≡ c.args.body.now)) c.in-Ok-false.field-0-test c.in-Ok-false.ensures.none in
    subst (λ (z : Shown). IsOn (g.P.Port.sight c.args.port.now) (g.P.Port.sight c.begin_calls.new.port) z c.begin_calls.new.body (g.R.ReadyLine.told c.args.line.now) (g.R.ReadyLine.told c.begin_calls.new.line)) same c.begin_calls.ensures.on

pub returns-in-Ok-true-clause-on : goal.returns-in-Ok-true-clause-on
returns-in-Ok-true-clause-on g c =
    on_gone c.requires.up (subst (λ t. OnTrue t (Goes c.args.body.now c.enter_block.new.body)) c.in-Ok-true.field-0-test c.in-Ok-true.ensures.goes)

pub returns-in_ok-begin_calls-in-Ok-false-clause-on : goal.returns-in_ok-begin_calls-in-Ok-false-clause-on
returns-in_ok-begin_calls-in-Ok-false-clause-on g c =
    let same : c.enter_block.new.body ≡ c.args.body.now = subst (λ t. OnFalse t (c.enter_block.new.body ≡ c.args.body.now)) c.in-Ok-false.field-0-test c.in-Ok-false.ensures.none in
    subst (λ (z : Shown). IsOn (g.P.Port.sight c.args.port.now) (g.P.Port.sight c.begin_calls.new.port) z c.begin_calls.new.body (g.R.ReadyLine.told c.args.line.now) (g.R.ReadyLine.told c.begin_calls.new.line)) same c.begin_calls.ensures.on

pub returns-in-Err-clause-on : goal.returns-in-Err-clause-on
returns-in-Err-clause-on g c =
    let port = g.P.Port.sight c.args.port.now in
    let told = g.R.ReadyLine.told c.args.line.now in
    subst (λ (z : Shown). IsOn port port c.args.body.now z told told) (sym c.in-Err.ensures.kept) (on_none c.requires.up)
