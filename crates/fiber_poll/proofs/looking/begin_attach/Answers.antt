use Rattle.std.proofs.Common.{◌≡◌, Some, slice_get, sym, ap, subst, ◌∙◌}
use Rattle.fiber_body.specs.Context.{Numbering, comp_in, numbering}
use Rattle.script_tree.specs.Tree.{Tree}
use Rattle.fiber_poll.proofs.Amid.{on_refusal}
use Rattle.fiber_poll.proofs.Declared.{attach_comp, attach_looked, attach_owned, attach_signalled, attach_trigger, is_numbered, is_numbered_comp}
use Rattle.fiber_poll.proofs.Giving.{trigger_stands}
use Rattle.fiber_poll.proofs.Going.{may_make}
use Rattle.fiber_poll.proofs.looking.begin_attach.Goals as goal

pub unreachable-requires : goal.unreachable-requires
unreachable-requires g c =
    let tree = c.args.poller.now in
    let counted : c.poller.inside.numbers ≡ numbering tree.decls = subst (λ (t : Tree). c.poller.inside.numbers ≡ numbering t.decls) c.poller.view_is c.poller.invariant in
    let found = attach_comp tree c.args.register c.args.comp c.args.trigger c.requires.can in
    is_numbered_comp c.args.comp found.0 counted c.comp.ensures found.1 c.in_default.is

pub unreachable-requires-in_default-trigger : goal.unreachable-requires-in_default-trigger
unreachable-requires-in_default-trigger g c =
    let tree = c.args.poller.now in
    let counted : c.poller.inside.numbers ≡ numbering tree.decls = subst (λ (t : Tree). c.poller.inside.numbers ≡ numbering t.decls) c.poller.view_is c.poller.invariant in
    let found = attach_trigger tree c.args.register c.args.comp c.args.trigger c.requires.can in
    is_numbered c.args.trigger found.0 counted c.trigger.ensures found.1 c.in_default-trigger.is

pub look-requires-clause-may : goal.look-requires-clause-may
look-requires-clause-may g c =
    let tree = c.args.poller.now in
    let counted : c.poller.inside.numbers ≡ numbering tree.decls = subst (λ (t : Tree). c.poller.inside.numbers ≡ numbering t.decls) c.poller.view_is c.poller.invariant in
    let comp_is : comp_in (numbering tree.decls).comps c.args.comp ≡ Some c.in-Some.comp = sym (ap (λ (ns : Numbering). comp_in ns.comps c.args.comp) counted) ∙ (sym c.comp.ensures ∙ c.in-Some.is) in
    let number : slice_get (numbering tree.decls).triggers c.args.trigger ≡ Some c.in-Some-trigger.trigger = sym (ap (λ (ns : Numbering). slice_get ns.triggers c.args.trigger) counted) ∙ (sym c.trigger.ensures ∙ c.in-Some-trigger.is) in
    let owned = attach_owned tree c.args.register c.args.comp c.args.trigger c.in-Some.comp c.in-Some-trigger.trigger c.requires.can comp_is number in
    may_make c.requires.up c.requires.free (trigger_stands c.requires.port_of c.in-Some-trigger.trigger owned.trigger) tt tt

pub returns-in_err-state-clause-on : goal.returns-in_err-state-clause-on
returns-in_err-state-clause-on g c line = on_refusal line c.requires.up c.in_err-state.ensures.refused.0 c.look.ensures.rest

pub returns-in-Signalled-clause-on : goal.returns-in-Signalled-clause-on
returns-in-Signalled-clause-on g c line =
    let tree = c.args.poller.now in
    let counted : c.poller.inside.numbers ≡ numbering tree.decls = subst (λ (t : Tree). c.poller.inside.numbers ≡ numbering t.decls) c.poller.view_is c.poller.invariant in
    let comp_is : comp_in (numbering tree.decls).comps c.args.comp ≡ Some c.in-Some.comp = sym (ap (λ (ns : Numbering). comp_in ns.comps c.args.comp) counted) ∙ (sym c.comp.ensures ∙ c.in-Some.is) in
    let number : slice_get (numbering tree.decls).triggers c.args.trigger ≡ Some c.in-Some-trigger.trigger = sym (ap (λ (ns : Numbering). slice_get ns.triggers c.args.trigger) counted) ∙ (sym c.trigger.ensures ∙ c.in-Some-trigger.is) in
    attach_signalled tree c.args.body.now c.look.new.body line c.args.spot c.requires.port_of c.requires.up c.args.register c.args.comp c.args.trigger c.in-Some.comp c.in-Some-trigger.trigger c.in_ok-state.state c.steps-steps.result c.behind.result c.set_register.new.self
    c.requires.before comp_is number c.in-Signalled.is c.in_ok-state.ensures.did c.look.ensures.rest c.steps-steps.ensures c.set_register.ensures c.behind.ensures c.stand.ensures

pub returns-clause-on : goal.returns-clause-on
returns-clause-on g c line =
    let tree = c.args.poller.now in
    let counted : c.poller.inside.numbers ≡ numbering tree.decls = subst (λ (t : Tree). c.poller.inside.numbers ≡ numbering t.decls) c.poller.view_is c.poller.invariant in
    let comp_is : comp_in (numbering tree.decls).comps c.args.comp ≡ Some c.in-Some.comp = sym (ap (λ (ns : Numbering). comp_in ns.comps c.args.comp) counted) ∙ (sym c.comp.ensures ∙ c.in-Some.is) in
    let number : slice_get (numbering tree.decls).triggers c.args.trigger ≡ Some c.in-Some-trigger.trigger = sym (ap (λ (ns : Numbering). slice_get ns.triggers c.args.trigger) counted) ∙ (sym c.trigger.ensures ∙ c.in-Some-trigger.is) in
    attach_looked tree c.args.body.now c.look.new.body line c.args.spot c.requires.port_of c.requires.up c.args.register c.args.comp c.args.trigger c.in-Some.comp c.in-Some-trigger.trigger c.in_ok-state.state c.steps-steps.result c.within.result
    c.requires.can c.requires.before comp_is number c.in_default-state.not-Signalled c.in_ok-state.ensures.did c.look.ensures.rest c.within.ensures c.steps-steps.ensures c.stand-2.ensures
