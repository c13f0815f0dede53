-- The places of a list, as the port reads and writes them.
use Rattle.std.proofs.Common.{◌≡◌, ℕ, zero, suc, ◌⊎◌, inl, inr, Some, List, [], ◌∷◌, ◌++◌, length, slice_get, refl, ap}

nothing_there : {A : Type 0} (i : ℕ) (x : A) → slice_get [] i ≡ Some x → ⊥
nothing_there i x is = cc

-- what stands in a longer list stood in the shorter one, or is what was put at its end
pub get-pushed : {A : Type 0} (xs : List A) (last : A) (i : ℕ) (x : A) → slice_get (xs ++ last ∷ []) i ≡ Some x → (slice_get xs i ≡ Some x) ⊎ ((i ≡ length xs) × (last ≡ x))
get-pushed [] last zero x is = inr (refl, let e : Some last ≡ Some x = is in cc)
get-pushed [] last (suc i) x is = absurd (nothing_there i x is)
get-pushed (y ∷ xs) last zero x is = inl is
get-pushed (y ∷ xs) last (suc i) x is = one_on (get-pushed xs last i x is) where
  one_on : (slice_get xs i ≡ Some x) ⊎ ((i ≡ length xs) × (last ≡ x)) → (slice_get (y ∷ xs) (suc i) ≡ Some x) ⊎ ((suc i ≡ length (y ∷ xs)) × (last ≡ x))
  one_on (inl there) = inl there
  one_on (inr (at, same)) = inr (ap (λ (n : ℕ). suc n) at, same)
