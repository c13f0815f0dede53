use Rattle.std.proofs.Common.{◌≡◌, Some, slice_get, sym, ap, subst, ◌∙◌}
use Rattle.pic_machine.specs.declared.waits.Standing.{Standing as Under}
use Rattle.script_tree.specs.Tree.{Tree}
use Rattle.fiber_body.specs.Context.{Numbering, numbering}
use Rattle.fiber_poll.specs.Moving.{seen_by_wait}
use Rattle.fiber_poll.proofs.Amid.{on_refusal}
use Rattle.fiber_poll.proofs.Declared.{await_declared, await_number, await_seen, is_numbered}
use Rattle.fiber_poll.proofs.Giving.{trigger_stands}
use Rattle.fiber_poll.proofs.Going.{may_make}
use Rattle.fiber_poll.proofs.looking.begin_await.Goals as goal

pub unreachable-requires : goal.unreachable-requires
unreachable-requires g c =
    let tree = c.args.poller.now in
    let counted : c.poller.inside.numbers ≡ numbering tree.decls = subst (λ (t : Tree). c.poller.inside.numbers ≡ numbering t.decls) c.poller.view_is c.poller.invariant in
    let found = await_number tree c.args.trigger c.requires.can in
    is_numbered c.args.trigger found.0 counted c.trigger.ensures found.1 c.in_default.is

pub look-requires-clause-may : goal.look-requires-clause-may
look-requires-clause-may g c =
    let tree = c.args.poller.now in
    let counted : c.poller.inside.numbers ≡ numbering tree.decls = subst (λ (t : Tree). c.poller.inside.numbers ≡ numbering t.decls) c.poller.view_is c.poller.invariant in
    let number : slice_get (numbering tree.decls).triggers c.args.trigger ≡ Some c.in-Some.trigger = sym (ap (λ (ns : Numbering). slice_get ns.triggers c.args.trigger) counted) ∙ (sym c.trigger.ensures ∙ c.in-Some.is) in
    may_make c.requires.up c.requires.free (trigger_stands c.requires.port_of c.in-Some.trigger (await_declared tree c.args.trigger c.in-Some.trigger c.requires.can number)) tt tt

pub returns-in_err-state-clause-on : goal.returns-in_err-state-clause-on
returns-in_err-state-clause-on g c line = on_refusal line c.requires.up c.in_err-state.ensures.refused.0 c.look.ensures.rest

pub returns-clause-on : goal.returns-clause-on
returns-clause-on g c line =
    let tree = c.args.poller.now in
    let counted : c.poller.inside.numbers ≡ numbering tree.decls = subst (λ (t : Tree). c.poller.inside.numbers ≡ numbering t.decls) c.poller.view_is c.poller.invariant in
    let number : slice_get (numbering tree.decls).triggers c.args.trigger ≡ Some c.in-Some.trigger = sym (ap (λ (ns : Numbering). slice_get ns.triggers c.args.trigger) counted) ∙ (sym c.trigger.ensures ∙ c.in-Some.is) in
    await_seen tree c.args.body.now c.look.new.body line c.args.spot c.requires.port_of c.requires.up c.args.trigger c.in-Some.trigger c.in_ok-state.state c.seen_by_wait-standing.result c.steps.result c.requires.can c.requires.before number
    c.in_ok-state.ensures.did c.look.ensures.rest (c.seen_by_wait-standing.ensures ∙ ap (λ (u : Under). seen_by_wait c.args.spot u.permitted c.in-Some.trigger c.in_ok-state.state) c.waits_under-under.ensures.under) c.steps.ensures c.stand.ensures
