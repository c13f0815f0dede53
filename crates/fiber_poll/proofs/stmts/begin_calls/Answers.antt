use Rattle.std.proofs.Common.{subst, ◌∙◌}
use Rattle.fiber_body.specs.Context.{numbering}
use Rattle.fiber_poll.specs.Moving.{IsBefore}
use Rattle.fiber_poll.specs.UnderWay.{CanRun}
use Rattle.fiber_poll.proofs.Declared.{calls_else, wait_begun, wait_lighter, wait_owes}
use Rattle.fiber_poll.proofs.stmts.begin_calls.Goals as goal

pub returns-in-Await-clause-on : goal.returns-in-Await-clause-on
returns-in-Await-clause-on g c = c.begin_await.ensures.on (g.R.ReadyLine.told c.args.line.now)

pub returns-in-Attach-clause-on : goal.returns-in-Attach-clause-on
returns-in-Attach-clause-on g c = c.begin_attach.ensures.on (g.R.ReadyLine.told c.args.line.now)

pub call-requires : goal.call-requires
call-requires g c = record {
  port_of = c.requires.port_of;
  up = c.requires.up;
  free = c.requires.free;
  before = c.requires.before;
  not_done = c.requires.not_done;
  calls = calls_else (numbering c.args.poller.now.decls) c.args.body.now.context c.args.stmt.now c.requires.calls c.in_default.not-Await c.in_default.not-Attach c.in_default.not-Wait;
  no_yield = c.requires.no_yield;
  can = c.requires.can;
}

pub begin_wait-requires-clause-can : goal.begin_wait-requires-clause-can
begin_wait-requires-clause-can g c = subst (CanRun c.args.poller.now) c.in-Wait.is c.requires.can

pub returns-in-Wait-clause-on : goal.returns-in-Wait-clause-on
returns-in-Wait-clause-on g c =
    wait_begun c.args.poller.now c.args.body.now (g.R.ReadyLine.told c.args.line.now) c.args.spot c.in-Wait.register c.in-Wait.comp c.requires.port_of c.requires.up
    (subst (CanRun c.args.poller.now) c.in-Wait.is c.requires.can) (subst (IsBefore c.args.body.now c.args.spot) c.in-Wait.is c.requires.before) c.begin_wait.ensures

pub returns-in-Wait-clause-lighter : goal.returns-in-Wait-clause-lighter
returns-in-Wait-clause-lighter g c =
    wait_lighter c.args.poller.now c.args.body.now c.begin_wait.new.body c.args.spot c.in-Wait.register c.in-Wait.comp (subst (CanRun c.args.poller.now) c.in-Wait.is c.requires.can) c.requires.before.here.at c.requires.before.steps c.begin_wait.ensures

pub returns-in-Wait-clause-free : goal.returns-in-Wait-clause-free
returns-in-Wait-clause-free g c =
    wait_owes c.args.poller.now c.args.body.now c.begin_wait.new.body c.args.spot c.in-Wait.register c.in-Wait.comp (subst (CanRun c.args.poller.now) c.in-Wait.is c.requires.can) c.begin_wait.ensures ∙ c.requires.free
