-- Elements of a list by their places, where one is set or added.
use Rattle.std.proofs.Common.{◌≡◌, ℕ, zero, suc, Some, List, [], ◌∷◌, ◌++◌, length, set, slice_get, subst}

-- what holds of each element at its place, and of x at the one that is set
pub set_keeps : {A : Type 0} (P : ℕ → A → Type 0) (xs : List A) (at : ℕ) (x : A) → ((place : ℕ) (y : A) → slice_get xs place ≡ Some y → P place y)
    → P at x → (place : ℕ) (y : A) → slice_get (set xs at x) place ≡ Some y → P place y
set_keeps P [] at x h p place y e = h place y e
set_keeps P (z ∷ zs) zero x h p zero y e = let same : x ≡ y = cc in subst (λ w. P zero w) same p
set_keeps P (z ∷ zs) zero x h p (suc place) y e = h (suc place) y e
set_keeps P (z ∷ zs) (suc at) x h p zero y e = h zero y e
set_keeps P (z ∷ zs) (suc at) x h p (suc place) y e = set_keeps (λ n w. P (suc n) w) zs at x (λ n w f. h (suc n) w f) p place y e

-- and of x behind the others
pub push_keeps : {A : Type 0} (P : ℕ → A → Type 0) (xs : List A) (x : A) → ((place : ℕ) (y : A) → slice_get xs place ≡ Some y → P place y)
    → P (length xs) x → (place : ℕ) (y : A) → slice_get (xs ++ x ∷ []) place ≡ Some y → P place y
push_keeps P [] x h p zero y e = let same : x ≡ y = cc in subst (λ w. P zero w) same p
push_keeps P [] x h p (suc place) y e = cc
push_keeps P (z ∷ zs) x h p zero y e = h zero y e
push_keeps P (z ∷ zs) x h p (suc place) y e = push_keeps (λ n w. P (suc n) w) zs x (λ n w f. h (suc n) w f) p place y e
