use Rattle.std.proofs.Common.{◌≡◌, ℕ, ◌-◌, Option, Some, sym, ap, subst, ◌∙◌}
use Rattle.std.specs.Prelude.{IfSome}
use Rattle.script_tree.specs.Tree.{Tree}
use Rattle.fiber_body.specs.declared.standing.Standing.{Standing}
use Rattle.fiber_body.specs.declared.standing.Standing.TheVariants.{Within}
use Rattle.fiber_body.specs.declared.under_way.UnderWay.TheVariants.{Follows}
use Rattle.fiber_body.specs.Context.{Numbering, comp_in, numbering}
use Rattle.fiber_body.specs.Shown.{stood}
use Rattle.fiber_poll.specs.Moving.{unmade}
use Rattle.fiber_poll.proofs.Declared.{is_numbered_comp, wait_comp}
use Rattle.fiber_poll.proofs.follow.begin_wait.Goals as goal

pub unreachable-requires : goal.unreachable-requires
unreachable-requires c =
    let tree = c.args.poller.now in
    let counted : c.poller.inside.numbers ≡ numbering tree.decls = subst (λ (t : Tree). c.poller.inside.numbers ≡ numbering t.decls) c.poller.view_is c.poller.invariant in
    let found = wait_comp tree c.args.register c.args.comp c.requires.can in
    is_numbered_comp c.args.comp found.0 counted c.comp.ensures found.1 c.in_default.is

pub returns : goal.returns
returns c =
    let tree = c.args.poller.now in
    let counted : c.poller.inside.numbers ≡ numbering tree.decls = subst (λ (t : Tree). c.poller.inside.numbers ≡ numbering t.decls) c.poller.view_is c.poller.invariant in
    let number : comp_in (numbering tree.decls).comps c.args.comp ≡ Some c.in-Some.comp = sym (ap (λ (ns : Numbering). comp_in ns.comps c.args.comp) counted) ∙ (sym c.comp.ensures ∙ c.in-Some.is) in
    subst (λ (o : Option ℕ). IfSome o (λ n. c.stand.new.self ≡ stood c.args.body.now (Within c.args.spot.block c.args.spot.place (Follows c.args.register n unmade)) (c.args.body.now.context.steps - 1))) (sym number)
    (c.stand.ensures ∙ (ap (λ (st : Standing). stood c.args.body.now st (c.steps.result - 1)) c.within.ensures
    ∙ ap (λ (n : ℕ). stood c.args.body.now (Within c.args.spot.block c.args.spot.place (Follows c.args.register c.in-Some.comp unmade)) (n - 1)) c.steps.ensures))
