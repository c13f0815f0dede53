-- What stands at a place of a list, and behind it.
use Rattle.std.proofs.Common.{◌≡◌, ℕ, zero, suc, ◌+◌, ◌<◌, Some, None, List, [], ◌∷◌, length, slice_get, get_or, drop, refl, ap, subst, ◌∙◌, arith}
use Rattle.std.proofs.lemmas.Option.{slice_get_within, get_or_from_slice_get}
use Rattle.std.proofs.Math.Seq.{drop-cons}

module _ {A : Type 0} where
  pub drop_more : (xs : List A) (k : ℕ) (d : A) → k < length xs → drop k xs ≡ get_or xs k d ∷ drop (k + 1) xs
  drop_more xs k d less = let is_suc : suc k ≡ k + 1 = omega arith in subst (λ (n : ℕ). drop k xs ≡ get_or xs k d ∷ drop n xs) is_suc (drop-cons xs k d less)

  pub at_place : (xs : List A) (place : ℕ) (x : A) → slice_get xs place ≡ Some x → drop place xs ≡ x ∷ drop (place + 1) xs
  at_place xs place x is = drop_more xs place x (slice_get_within xs place x is) ∙ ap (λ (y : A). y ∷ drop (place + 1) xs) (get_or_from_slice_get xs place x x is)

  pub past_end : (xs : List A) (place : ℕ) → slice_get xs place ≡ None → drop place xs ≡ []
  past_end [] zero none = refl
  past_end [] (suc place) none = refl
  past_end (x ∷ xs) zero none = absurd cc
  past_end (x ∷ xs) (suc place) none = past_end xs place none
