use Rattle.std.proofs.Common.{length, ap, subst, arith}
use Rattle.script_tree.specs.Tree.{Tree}
use Rattle.script_tree.specs.WellFormed.{IsWellFormed}
use Rattle.fiber_body.proofs.Declared.{few_declared}
use Rattle.fiber_body.proofs.numbering.Numbers.of.Goals as goal

pub numbers_of-requires-clause-few : goal.numbers_of-requires-clause-few
numbers_of-requires-clause-few c =
    let most = few_declared c.args.program.now (subst IsWellFormed c.program.view_is c.program.invariant.formed) in
    let count = ap (λ (t : Tree). length t.decls) c.program.view_is in
    omega (arith, most, count, c.deref.ensures.len)

pub numbers_of-requires-2-clause-few : goal.numbers_of-requires-2-clause-few
numbers_of-requires-2-clause-few c =
    let most = few_declared c.args.program.now (subst IsWellFormed c.program.view_is c.program.invariant.formed) in
    let count = ap (λ (t : Tree). length t.decls) c.program.view_is in
    omega (arith, most, count, c.deref-2.ensures.len)
