use Rattle.std.proofs.Common.{length, ap, subst, arith}
use Rattle.script_tree.specs.declared.thing.Sort.TheVariants as sort
use Rattle.script_tree.specs.Tree.{Tree}
use Rattle.script_tree.specs.WellFormed.{IsWellFormed}
use Rattle.fiber_body.specs.Context.{count_of}
use Rattle.fiber_body.proofs.Declared.{few_declared}
use Rattle.fiber_body.proofs.start.start_of.Goals as goal

pub count_of-requires : goal.count_of-requires
count_of-requires c =
    let most = few_declared c.args.program.now (subst IsWellFormed c.program.view_is c.program.invariant.formed) in
    let count = ap (λ (t : Tree). length t.decls) c.program.view_is in
    omega (arith, most, count, c.deref.ensures.len)

pub count_of-requires-2 : goal.count_of-requires-2
count_of-requires-2 c =
    let most = few_declared c.args.program.now (subst IsWellFormed c.program.view_is c.program.invariant.formed) in
    let count = ap (λ (t : Tree). length t.decls) c.program.view_is in
    omega (arith, most, count, c.deref-2.ensures.len)

pub overflow_add-result : goal.overflow_add-result
overflow_add-result c = omega (arith, c.count_of-2.ensures, ap (count_of sort.Comp) c.deref-2.ensures.value, c.program.invariant.formed.limits.comps)

pub returns-clause-few_triggers : goal.returns-clause-few_triggers
returns-clause-few_triggers c = omega (arith, c.count_of.ensures, ap (count_of sort.Trigger) c.deref.ensures.value, c.program.invariant.formed.limits.triggers)

pub returns-clause-few_comps : goal.returns-clause-few_comps
returns-clause-few_comps c = omega (arith, c.count_of-2.ensures, ap (count_of sort.Comp) c.deref-2.ensures.value, c.program.invariant.formed.limits.comps)
