-- How many things a program declares: each is a trigger, a computation or an object, and of these there
-- are few.
use Rattle.std.proofs.Common.{◌≡◌, ℕ, zero, suc, ◌+◌, ◌≤◌, ◌==◌, Bool, true, false, cond, List, [], ◌∷◌, ◌++◌, ◌<◌, length, get_or, drop, append_assoc, refl, sym, ap, ◌∙◌, arith}
use Rattle.std.specs.Prelude.{nat_le}
use Rattle.std.proofs.lemmas.Bool.Decides.{nat_tests}
use Rattle.script_tree.specs.declared.program.Decl.{Decl}
use Rattle.script_tree.specs.declared.program.Kind.{Kind}
use Rattle.script_tree.specs.declared.thing.Sort.{Sort}
use Rattle.script_tree.specs.Names.{sort_of, sort_number}
use Rattle.script_tree.specs.Tree.{Tree}
use Rattle.script_tree.specs.WellFormed.{IsWellFormed, how_many}
use Rattle.fiber_body.specs.Context.{behind_decl, count_of, numbers_of}
use Rattle.fiber_body.specs.Numbering.{more_counted}
use Rattle.fiber_body.specs.Places.{drop_more}

-- the triggers, the computations and the objects
abbrev parts : List Decl → ℕ
parts decls = how_many (λ s. s == 0) decls + (how_many (λ s. s == 1) decls + how_many (λ s. nat_le 2 s) decls)

not_trigger : (n : ℕ) → (suc (suc n) == 0) ≡ false
not_trigger n = grind (arith, nat_tests)

not_comp : (n : ℕ) → (suc (suc n) == 1) ≡ false
not_comp n = grind (arith, nat_tests)

object : (n : ℕ) → nat_le 2 (suc (suc n)) ≡ true
object n = grind (arith, nat_tests)

one_more : (d : Decl) (ds : List Decl) (sort : ℕ) → sort_number (sort_of d.kind) ≡ sort → length ds ≤ parts ds → suc (length ds) ≤ parts (d ∷ ds)
one_more d ds zero is few = rw is (omega (arith, few))
one_more d ds (suc zero) is few = rw is (omega (arith, few))
one_more d ds (suc (suc sort)) is few = rw (is, not_trigger sort, not_comp sort, object sort) (omega (arith, few))

each_is_a_part : (decls : List Decl) → length decls ≤ parts decls
each_is_a_part [] = omega arith
each_is_a_part (d ∷ ds) = one_more d ds (sort_number (sort_of d.kind)) refl (each_is_a_part ds)

pub few_declared : (tree : Tree) → IsWellFormed tree → length tree.decls ≤ 576
few_declared tree formed =
    let all = each_is_a_part tree.decls in
    omega (arith, all, formed.limits.triggers, formed.limits.comps, formed.limits.objects)

-- ---- their numbers

pub numbered : (sort : Sort) (front : List ℕ) (n first place : ℕ) (d : Decl) (decls all : List Decl) → place < length decls → d ≡ get_or decls place d
    → front ++ numbers_of sort n (drop place decls) ≡ numbers_of sort first all → (front ++ n ∷ []) ++ numbers_of sort (behind_decl sort n d.kind) (drop (place + 1) decls) ≡ numbers_of sort first all
numbered sort front n first place d decls all within there is =
    let next : drop place decls ≡ d ∷ drop (place + 1) decls = drop_more decls place d within ∙ ap (λ (x : Decl). x ∷ drop (place + 1) decls) (sym there) in
    append_assoc front (n ∷ []) (numbers_of sort (behind_decl sort n d.kind) (drop (place + 1) decls))
    ∙ (ap (λ (ds : List Decl). front ++ numbers_of sort n ds) (sym next) ∙ is)

one_at_most : (b : Bool) (n : ℕ) → cond b (n + 1) n ≤ n + 1
one_at_most true n = omega arith
one_at_most false n = omega arith

pub no_more : (sort : Sort) (n : ℕ) (k : Kind) → behind_decl sort n k ≤ n + 1
no_more sort n k = one_at_most (sort_number (sort_of k) == sort_number sort) n

-- ---- how many there are

-- one declaration more is counted
pub one_counted : (sort : Sort) (n place : ℕ) (d : Decl) (decls all : List Decl) → place < length decls → d ≡ get_or decls place d
    → n + count_of sort (drop place decls) ≡ count_of sort all → behind_decl sort n d.kind + count_of sort (drop (place + 1) decls) ≡ count_of sort all
one_counted sort n place d decls all within there is =
    let next : drop place decls ≡ d ∷ drop (place + 1) decls = drop_more decls place d within ∙ ap (λ (x : Decl). x ∷ drop (place + 1) decls) (sym there) in
    more_counted sort n d (drop (place + 1) decls)
    ∙ (ap (λ (ds : List Decl). n + count_of sort ds) (sym next) ∙ is)
