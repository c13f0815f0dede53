-- Entries grow and shrink as deeds do.
use Rattle.std.proofs.Common.{◌≡◌, ℕ, zero, suc, Some, slice_get, List, [], ◌∷◌, ◌++◌, length, take, refl, ap, arith}
use Rattle.pic_machine.specs.declared.entry.Entry.{Entry}
use Rattle.entry_log.specs.declared.kind.Deed.{Deed}
use Rattle.entry_log.specs.Kept.{by_fiber, by_fibers, entry_by}

-- no entry, no deed
pub deeds_from_none : (f : ℕ) (ds : List Deed) → by_fiber f ds ≡ [] → ds ≡ []
deeds_from_none f [] none = refl
deeds_from_none f (d ∷ ds) none = cc

pub by_fibers-push : (fs : List ℕ) (ds : List Deed) (f : ℕ) (d : Deed) → length fs ≡ length ds
    → by_fibers (fs ++ f ∷ []) (ds ++ d ∷ []) ≡ by_fibers fs ds ++ entry_by f d ∷ []
by_fibers-push [] [] f d same = refl
by_fibers-push [] (x ∷ ds) f d same = let none : 0 ≡ suc (length ds) = same in absurd cc
by_fibers-push (g ∷ fs) [] f d same = let none : suc (length fs) ≡ 0 = same in absurd cc
by_fibers-push (g ∷ fs) (x ∷ ds) f d same = ap (λ (es : List Entry). entry_by g x ∷ es) (by_fibers-push fs ds f d (omega (arith, same)))

pub length-by_fibers : (fs : List ℕ) (ds : List Deed) → length fs ≡ length ds → length (by_fibers fs ds) ≡ length fs
length-by_fibers [] ds same = refl
length-by_fibers (g ∷ fs) [] same = let none : suc (length fs) ≡ 0 = same in absurd cc
length-by_fibers (g ∷ fs) (x ∷ ds) same = ap (λ (n : ℕ). suc n) (length-by_fibers fs ds (omega (arith, same)))

pub take-by_fibers : (n : ℕ) (fs : List ℕ) (ds : List Deed) → by_fibers (take n fs) (take n ds) ≡ take n (by_fibers fs ds)
take-by_fibers zero fs ds = refl
take-by_fibers (suc n) [] ds = refl
take-by_fibers (suc n) (f ∷ fs) [] = refl
take-by_fibers (suc n) (f ∷ fs) (d ∷ ds) = ap (λ (es : List Entry). entry_by f d ∷ es) (take-by_fibers n fs ds)

pub get-by_fibers : (n : ℕ) (fs : List ℕ) (ds : List Deed) (f : ℕ) (d : Deed) → slice_get fs n ≡ Some f → slice_get ds n ≡ Some d
    → slice_get (by_fibers fs ds) n ≡ Some (entry_by f d)
get-by_fibers n [] ds f d here there = cc
get-by_fibers n (g ∷ fs) [] f d here there = cc
get-by_fibers zero (g ∷ fs) (x ∷ ds) f d here there = cc
get-by_fibers (suc n) (g ∷ fs) (x ∷ ds) f d here there = get-by_fibers n fs ds f d here there
