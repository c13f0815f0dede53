use Rattle.std.proofs.Common.{◌≡◌, ◌≤◌, Some, List, length, slice_get, refl, sym, ap, subst, ◌∙◌}
use Rattle.std.proofs.lemmas.Option.{slice_get_read}
use Rattle.script_tree.specs.declared.program.Stmt.{Stmt}
use Rattle.script_tree.specs.WellFormed.{IsWellFormed}
use Rattle.fiber_body.specs.Texts.{EachFits}
use Rattle.fiber_body.proofs.Blocks.{blocks_of, each_fits, few_stmts}
use Rattle.fiber_body.proofs.texts.block_at.Goals as goal
use Rattle.fiber_body.proofs.texts.block_at.Goals.{After-as_slice}

formed : (c : After-as_slice) → IsWellFormed c.args.program.now
formed c = subst IsWellFormed c.program.view_is c.program.invariant.formed

there : (c : After-as_slice) → slice_get (blocks_of c.args.program.now) c.args.block ≡ Some c.in-Some.block.now
there c =
    let all = c.deref.result.now in
    let block = c.in-Some.block.now in
    subst (λ (bs : List (List Stmt)). slice_get bs c.args.block ≡ Some block) (c.deref.ensures.value ∙ ap blocks_of c.program.view_is)
    (slice_get_read all (length all) c.args.block block refl c.in-Some.ensures.lookup.3.0 (c.in-Some.ensures.lookup.3.1 block))

pub returns-in-Some-clause-few : goal.returns-in-Some-clause-few
returns-in-Some-clause-few c =
    subst (λ (ss : List Stmt). length ss ≤ 10000) (sym (c.as_slice.ensures.value ∙ c.block.view_is))
    (few_stmts c.args.program.now (formed c) c.args.block c.in-Some.block.now (there c))

pub returns-in-Some-clause-fit : goal.returns-in-Some-clause-fit
returns-in-Some-clause-fit c =
    subst (EachFits c.args.program.now c.args.block) (sym (c.as_slice.ensures.value ∙ c.block.view_is))
    (each_fits c.args.program.now (formed c) c.args.block c.in-Some.block.now (there c))
