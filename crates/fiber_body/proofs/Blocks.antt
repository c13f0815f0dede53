-- The statements of a block of a well-formed program.
use Rattle.std.proofs.Common.{◌≡◌, ℕ, zero, suc, ◌≤◌, Some, List, [], ◌∷◌, length, slice_get, subst, arith}
use Rattle.std.specs.List.{AllByRecursion, flat_map}
use Rattle.std.proofs.lemmas.List.{length-append}
use Rattle.script_tree.specs.declared.program.Stmt.{Stmt}
use Rattle.script_tree.specs.Tree.{Tree}
use Rattle.script_tree.specs.WellFormed.{IsWellFormed, StmtFits}
use Rattle.fiber_body.specs.Texts.{EachFits}

abbrev pub blocks_of : Tree → List (List Stmt)
blocks_of tree = tree.blocks

abbrev all_of : List (List Stmt) → List Stmt
all_of blocks = flat_map (λ (block : List Stmt). block) blocks

few_in_block : (blocks : List (List Stmt)) (k : ℕ) (block : List Stmt) → slice_get blocks k ≡ Some block → length block ≤ length (all_of blocks)
few_in_block [] k block is = absurd cc
few_in_block (first ∷ blocks) zero block is =
    let same : first ≡ block = cc in
    subst (λ (b : List Stmt). length b ≤ length (all_of (first ∷ blocks))) same (omega (arith, length-append first (all_of blocks)))
few_in_block (first ∷ blocks) (suc k) block is = let few = few_in_block blocks k block is in omega (arith, few, length-append first (all_of blocks))

one_of : {A : Type 0} (P : A → Type 0) (xs : List A) (k : ℕ) (x : A) → AllByRecursion P xs → slice_get xs k ≡ Some x → P x
one_of P [] k x all is = absurd cc
one_of {A} P (y ∷ xs) zero x all is = let same : y ≡ x = cc in subst P same all.0
one_of P (y ∷ xs) (suc k) x all is = one_of P xs k x all.1 is

module _ (tree : Tree) (formed : IsWellFormed tree) (k : ℕ) (block : List Stmt) (there : slice_get tree.blocks k ≡ Some block) where
  pub few_stmts : length block ≤ 10000
  few_stmts = let few = few_in_block tree.blocks k block there in omega (arith, few, formed.limits.statements)

  pub each_fits : EachFits tree k block
  each_fits = λ place one is. one_of (StmtFits tree k) block place one (formed.blocks k block there) is
