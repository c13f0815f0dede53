-- What numbers and counts of declared things have to do with each other.
use Rattle.std.proofs.Common.{◌≡◌, ℕ, ◌+◌, ◌==◌, Bool, true, false, List, ◌∷◌, refl, arith}
use Rattle.script_tree.specs.declared.program.Decl.{Decl}
use Rattle.script_tree.specs.declared.thing.Sort.{Sort}
use Rattle.script_tree.specs.Names.{sort_of, sort_number}
use Rattle.fiber_body.specs.Context.{behind_decl, count_of}

counted_by : (sort : Sort) (n : ℕ) (d : Decl) (ds : List Decl) (b : Bool) → (sort_number (sort_of d.kind) == sort_number sort) ≡ b → behind_decl sort n d.kind + count_of sort ds ≡ n + count_of sort (d ∷ ds)
counted_by sort n d ds true is = rw is (omega arith)
counted_by sort n d ds false is = rw is refl

-- the number behind a declaration and the count of those that follow make up what number and count did before it
pub more_counted : (sort : Sort) (n : ℕ) (d : Decl) (ds : List Decl) → behind_decl sort n d.kind + count_of sort ds ≡ n + count_of sort (d ∷ ds)
more_counted sort n d ds = counted_by sort n d ds (sort_number (sort_of d.kind) == sort_number sort) refl
