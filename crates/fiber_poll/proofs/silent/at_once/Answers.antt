use Rattle.std.proofs.Common.{sym, ap, subst, ◌∙◌}
use Rattle.script_tree.specs.declared.program.Stmt.{Stmt}
use Rattle.fiber_body.specs.declared.standing.Exit.TheVariants.{Next}
use Rattle.fiber_body.specs.Shown.{Shown}
use Rattle.fiber_body.specs.Statements.{result}
use Rattle.fiber_poll.specs.Moving.{EndsAtOnce, chosen}
use Rattle.fiber_poll.proofs.Moves.{not_chosen, unchanged, untold_at_once}
use Rattle.fiber_poll.proofs.silent.at_once.Goals as goal

pub returns-in-None : goal.returns-in-None
returns-in-None c =
    let old : Shown = c.args.body.now in
    let kept = (unchanged old c.change.new.self c.args.stmt.now (result old.context.registers old.context.cells c.args.stmt.now) c.change.result c.change.ensures c.in_default.is).0 in
    let none = ap (λ (b : Shown). chosen b.context c.in-If.left c.in-If.test c.in-If.right c.in-If.then c.in-If.other) (sym kept) ∙ (sym c.choose.ensures ∙ c.in-None.is) in
    subst (λ (b : Shown). EndsAtOnce old b c.args.stmt.now Next) (sym kept) (subst (λ (one : Stmt). EndsAtOnce old old one Next) (sym c.in-If.is)
    (not_chosen old c.in-If.left c.in-If.right c.in-If.test c.in-If.then c.in-If.other none))

pub returns-then-is_untold_check : goal.returns-then-is_untold_check
returns-then-is_untold_check c =
    let old : Shown = c.args.body.now in
    let kept = (unchanged old c.change.new.self c.args.stmt.now (result old.context.registers old.context.cells c.args.stmt.now) c.change.result c.change.ensures c.in_default.is).0 in
    untold_at_once old c.change.new.self c.args.stmt.now kept c.if-is_untold_check.ensures.untold
