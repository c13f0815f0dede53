-- The statements of a program that is built can run.
use Rattle.std.proofs.Common.{◌≡◌, ℕ, zero, suc, Bool, true, Some, List, [], ◌∷◌, slice_get, subst}
use Rattle.std.specs.List.{list_all}
use Rattle.std.proofs.lemmas.Bool.{and_parts}
use Rattle.script_tree.specs.declared.program.Decl.{Decl}
use Rattle.script_tree.specs.declared.program.Stmt.{Stmt}
use Rattle.script_tree.specs.Tree.{Tree}
use Rattle.fiber_body.specs.Context.{block_at}
use Rattle.fiber_body.specs.Texts.{EachFits}
use Rattle.fiber_poll.specs.Built.{is_built, is_built_kind, is_built_stmt}
use Rattle.fiber_poll.specs.UnderWay.{CanRun}

passes : (test : Stmt → Bool) (xs : List Stmt) (k : ℕ) (x : Stmt) → list_all test xs ≡ true → slice_get xs k ≡ Some x → test x ≡ true
passes test [] k x all is = absurd cc
passes test (y ∷ xs) zero x all is = let same : y ≡ x = cc in subst (λ (z : Stmt). test z ≡ true) same (and_parts (test y) (list_all test xs) all).0
passes test (y ∷ xs) (suc k) x all is = passes test xs k x (and_parts (test y) (list_all test xs) all).1 is

pass_in : (test : Stmt → Bool) (blocks : List (List Stmt)) (k place : ℕ) (x : Stmt) → list_all (λ (block : List Stmt). list_all test block) blocks ≡ true → slice_get (block_at blocks k) place ≡ Some x → test x ≡ true
pass_in test [] k place x all is = absurd cc
pass_in test (block ∷ blocks) zero place x all is = passes test block place x (and_parts (list_all test block) (list_all (λ (b : List Stmt). list_all test b) blocks) all).0 is
pass_in test (block ∷ blocks) (suc k) place x all is = pass_in test blocks k place x (and_parts (list_all test block) (list_all (λ (b : List Stmt). list_all test b) blocks) all).1 is

pub can_run : (tree : Tree) (block place : ℕ) (stmts : List Stmt) (one : Stmt) → is_built tree ≡ true → stmts ≡ block_at tree.blocks block → EachFits tree block stmts → slice_get stmts place ≡ Some one → CanRun tree one
can_run tree block place stmts one built are fit there =
    let parts = and_parts (list_all (λ (d : Decl). is_built_kind d.kind) tree.decls) (list_all (λ (b : List Stmt). list_all is_built_stmt b) tree.blocks) built in
    record {
      holder = block;
      fits = fit place one there;
      built = pass_in is_built_stmt tree.blocks block place one parts.1 (subst (λ (ss : List Stmt). slice_get ss place ≡ Some one) are there);
    }
