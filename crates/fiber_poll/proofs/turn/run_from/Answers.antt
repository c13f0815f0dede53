use Rattle.std.proofs.Common.{◌≡◌, None, List, slice_get, sym, ap, subst, ◌∙◌}
use Rattle.script_tree.specs.declared.program.Stmt.{Stmt}
use Rattle.fiber_body.specs.declared.standing.Exit.TheVariants.{Next}
use Rattle.fiber_body.specs.declared.standing.Standing.TheVariants.{Out}
use Rattle.fiber_body.specs.Shown.{Shown, stood}
use Rattle.fiber_poll.specs.Moving.{Goes}
use Rattle.fiber_poll.proofs.Entering.{end_goes}
use Rattle.fiber_poll.proofs.Going.{on_gone, port_stays}
use Rattle.fiber_poll.proofs.Looping.{at_found, block_up, can_found, on_with}
use Rattle.fiber_poll.proofs.turn.run_from.Goals as goal

pub returns-in_default-clause-on : goal.returns-in_default-clause-on
returns-in_default-clause-on g c = on_gone c.requires.up c.run_silently.ensures.goes

pub returns-in_default-found-clause-on : goal.returns-in_default-found-clause-on
returns-in_default-found-clause-on g c = on_gone c.requires.up c.run_silently.ensures.goes

pub returns-in_default-stmt_at-clause-on : goal.returns-in_default-stmt_at-clause-on
returns-in_default-stmt_at-clause-on g c =
    let b : Shown = c.run_silently.new.body in
    let on = on_gone {told = g.R.ReadyLine.told c.args.line.now} c.requires.up c.run_silently.ensures.goes in
    let stmts = block_up c.in-Some.spot.block (port_stays c.requires.port_of on) on.up (c.deref-2.ensures ∙ c.poller.view_is) c.block_at-stmts.ensures.is in
    let past = subst (λ (ss : List Stmt). slice_get ss c.in-Some.spot.place ≡ None) stmts (c.stmt_at.ensures.none c.in_default-stmt_at.is) in
    let there : c.stand.new.self ≡ stood b (Out Next) b.context.steps = c.stand.ensures ∙ ap (stood b (Out Next)) c.steps.ensures in
    on_with on (subst (Goes b) (sym there) (end_goes b c.in-Some.spot.block c.in-Some.spot.place (rw c.in-Some.is at c.in-Ok.ensures.left).at past))

pub begin-requires-clause-up : goal.begin-requires-clause-up
begin-requires-clause-up g c = (on_gone {told = g.R.ReadyLine.told c.args.line.now} c.requires.up c.run_silently.ensures.goes).up

pub begin-requires-clause-at : goal.begin-requires-clause-at
begin-requires-clause-at g c =
    let on = on_gone {told = g.R.ReadyLine.told c.args.line.now} c.requires.up c.run_silently.ensures.goes in
    at_found (port_stays c.requires.port_of on) on.up (c.deref-2.ensures ∙ c.poller.view_is) c.block_at-stmts.ensures.is c.block_at-stmts.ensures.few (rw c.in-Some.is at c.in-Ok.ensures.left).at c.in-Some-stmt_at.ensures.some

pub begin-requires-clause-can : goal.begin-requires-clause-can
begin-requires-clause-can g c =
    can_found c.in-Some.spot.block c.in-Some.spot.place (c.deref-2.ensures ∙ c.poller.view_is) c.block_at-stmts.ensures.is c.block_at-stmts.ensures.fit c.requires.port_of.built c.in-Some-stmt_at.ensures.some
