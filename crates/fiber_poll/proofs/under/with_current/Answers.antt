use Rattle.std.proofs.Common.{◌≡◌, ◌≤◌, inr, sym, ap, subst, ◌∙◌}
use Rattle.script_tree.specs.declared.thing.Sort.TheVariants as sort
use Rattle.script_tree.specs.Tree.{Tree}
use Rattle.fiber_body.specs.Context.{Numbering, comp_in, count_of, numbering}
use Rattle.fiber_poll.proofs.Asking.{comp_there}
use Rattle.fiber_poll.proofs.Declared.{declared_comp, is_numbered_comp}
use Rattle.fiber_poll.proofs.under.with_current.Goals as goal

pub unreachable-requires : goal.unreachable-requires
unreachable-requires c =
    let tree = c.args.poller.now in
    let counted : c.poller.inside.numbers ≡ numbering tree.decls = subst (λ (t : Tree). c.poller.inside.numbers ≡ numbering t.decls) c.poller.view_is c.poller.invariant in
    let found = comp_there tree c.args.comp c.requires.declared c.requires.built in
    is_numbered_comp c.args.comp found.0 counted c.comp.ensures found.1 c.in_default.is

pub returns-clause-number : goal.returns-clause-number
returns-clause-number c =
    let tree = c.args.poller.now in
    let counted : c.poller.inside.numbers ≡ numbering tree.decls = subst (λ (t : Tree). c.poller.inside.numbers ≡ numbering t.decls) c.poller.view_is c.poller.invariant in
    sym (ap (λ (ns : Numbering). comp_in ns.comps c.args.comp) counted) ∙ (sym c.comp.ensures ∙ c.in-Some.is)

pub returns-clause-may : goal.returns-clause-may
returns-clause-may c =
    let tree = c.args.poller.now in
    let counted : c.poller.inside.numbers ≡ numbering tree.decls = subst (λ (t : Tree). c.poller.inside.numbers ≡ numbering t.decls) c.poller.view_is c.poller.invariant in
    let number = sym (ap (λ (ns : Numbering). comp_in ns.comps c.args.comp) counted) ∙ (sym c.comp.ensures ∙ c.in-Some.is) in
    let declared = declared_comp tree c.args.comp c.in-Some.current c.requires.declared c.requires.built number in
    inr (subst (λ (t : Tree). c.in-Some.current ≤ count_of sort.Comp t.decls) (sym c.requires.program) declared)
