use Rattle.std.proofs.Common.{◌≡◌, ℕ, Bool, Option, Some, true, false, refl, sym, ap, subst, ◌∙◌}
use Rattle.pic_machine.specs.declared.waits.Standing.{Standing as Under}
use Rattle.script_tree.specs.declared.program.Stmt.{Stmt}
use Rattle.script_tree.specs.declared.program.Stmt.TheVariants as stmt
use Rattle.script_tree.specs.Tree.{Tree}
use Rattle.fiber_body.specs.Context.{comp_in, numbering, under}
use Rattle.fiber_body.specs.Phases.{runs_under}
use Rattle.fiber_body.specs.Statements.{named}
use Rattle.fiber_poll.specs.Moving.{Goes, IsBefore, entered_under}
use Rattle.fiber_poll.specs.UnderWay.{CanRun}
use Rattle.fiber_poll.proofs.Declared.{has_call}
use Rattle.fiber_poll.proofs.Entering.{loop_goes, try_goes, under_goes}
use Rattle.fiber_poll.proofs.stmts.enter_block.Goals as goal

pub returns-in_ok-enter-in-Loop-clause-goes : goal.returns-in_ok-enter-in-Loop-clause-goes
returns-in_ok-enter-in-Loop-clause-goes c =
    let body = c.args.body.now in
    subst (Goes body) (sym c.in_ok-enter-in-Loop.ensures.entered)
    (loop_goes body c.args.spot c.in-Loop.block (subst (IsBefore body c.args.spot) c.in-Loop.is c.requires.before))

pub returns-in_ok-enter-in-Try-clause-goes : goal.returns-in_ok-enter-in-Try-clause-goes
returns-in_ok-enter-in-Try-clause-goes c =
    let body = c.args.body.now in
    subst (Goes body) (sym c.in_ok-enter-in-Try.ensures.entered)
    (try_goes body c.args.spot c.in-Try.block c.in-Try.register c.in-Try.handler (subst (IsBefore body c.args.spot) c.in-Try.is c.requires.before))

pub returns-in_ok-enter_under-in-Forbid-clause-goes : goal.returns-in_ok-enter_under-in-Forbid-clause-goes
returns-in_ok-enter_under-in-Forbid-clause-goes c =
    let body = c.args.body.now in
    let u : Under = record (under body.context) { permitted = false } in
    subst (Goes body) (sym (c.in_ok-enter_under-in-Forbid.ensures.entered ∙ ap (λ (x : Under). entered_under body c.args.spot x c.in-Forbid.block) c.told.ensures.is))
    (under_goes body c.args.spot (stmt.Forbid c.in-Forbid.block) u c.in-Forbid.block (subst (IsBefore body c.args.spot) c.in-Forbid.is c.requires.before) tt refl)

pub returns-in_ok-enter_under-in-Permit-clause-goes : goal.returns-in_ok-enter_under-in-Permit-clause-goes
returns-in_ok-enter_under-in-Permit-clause-goes c =
    let body = c.args.body.now in
    let u : Under = record (under body.context) { permitted = true } in
    subst (Goes body) (sym (c.in_ok-enter_under-in-Permit.ensures.entered ∙ ap (λ (x : Under). entered_under body c.args.spot x c.in-Permit.block) c.told-in-Permit.ensures.is))
    (under_goes body c.args.spot (stmt.Permit c.in-Permit.block) u c.in-Permit.block (subst (IsBefore body c.args.spot) c.in-Permit.is c.requires.before) tt refl)

pub with_current-under-requires-clause-declared : goal.with_current-under-requires-clause-declared
with_current-under-requires-clause-declared c = (subst (CanRun c.args.poller.now) c.in-Under.is c.requires.can).fits.0.0

pub with_current-under-requires-clause-built : goal.with_current-under-requires-clause-built
with_current-under-requires-clause-built c = (subst (CanRun c.args.poller.now) c.in-Under.is c.requires.can).built

pub returns-in_ok-enter_under-in-Under-clause-goes : goal.returns-in_ok-enter_under-in-Under-clause-goes
returns-in_ok-enter_under-in-Under-clause-goes c =
    let body = c.args.body.now in
    let comp = c.in-Under.comp in
    let block = c.in-Under.block in
    let u : Under = c.with_current-under.result in
    let one : Stmt = stmt.Under comp block in
    let same : record (under body.context) { current = u.current } ≡ u = ap (λ (b : Bool). record u { permitted = b }) (sym c.with_current-under.ensures.told) in
    let number = subst (λ (t : Tree). comp_in (numbering t.decls).comps comp ≡ Some u.current) (sym c.requires.program) c.with_current-under.ensures.number in
    subst (Goes body) (sym c.in_ok-enter_under-in-Under.ensures.entered)
    (under_goes body c.args.spot one u block (subst (IsBefore body c.args.spot) c.in-Under.is c.requires.before) tt
    (ap (λ (o : Option ℕ). named o one (λ k. runs_under (record (under body.context) { current = k }) block)) number ∙ ap (λ (x : Under). runs_under x block) same))

pub returns-in_default-clause-calls : goal.returns-in_default-clause-calls
returns-in_default-clause-calls c =
    has_call c.args.body.now.context c.args.stmt.now c.requires.waits c.in_default.not-Loop c.in_default.not-Try c.in_default.not-Forbid c.in_default.not-Permit c.in_default.not-Under
