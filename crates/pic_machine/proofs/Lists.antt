-- Places of lists: what is read behind a write, and behind one more element.
use Rattle.std.proofs.Common.{◌≡◌, ◌≢◌, ◌⊎◌, ℕ, zero, suc, ◌<◌, ◌≤◌, inl, inr, eqb, Bool, true, false, List, [], ◌∷◌, ◌++◌, length, slice_index_or, slice_get, slice_set, Some, None, refl, sym, ap, subst, ◌∙◌, arith}
use Rattle.std.specs.List.{AllByRecursion}
use Rattle.std.proofs.lemmas.Bool.Decides.{eqb_tells}
use Rattle.std.proofs.lemmas.List.{length-append}
use Rattle.pic_base.specs.declared.duty.Duty.{Duty}
use Rattle.pic_machine.specs.Step.{grown}

pub slice_get-set_other : {A : Type 0} (xs : List A) (i j : ℕ) (x : A) → j ≢ i → slice_get (slice_set xs i x) j ≡ slice_get xs j
slice_get-set_other [] i j x other = refl
slice_get-set_other (y ∷ xs) zero zero x other = absurd (other refl)
slice_get-set_other (y ∷ xs) zero (suc j) x other = refl
slice_get-set_other (y ∷ xs) (suc i) zero x other = refl
slice_get-set_other (y ∷ xs) (suc i) (suc j) x other = slice_get-set_other xs i j x (λ same. other (ap (λ (n : ℕ). suc n) same))

pub slice_get-set_same : {A : Type 0} (xs : List A) (i : ℕ) (x : A) → i < length xs → slice_get (slice_set xs i x) i ≡ Some x
slice_get-set_same [] i x within = absurd (omega arith)
slice_get-set_same (y ∷ xs) zero x within = refl
slice_get-set_same (y ∷ xs) (suc i) x within = slice_get-set_same xs i x (omega arith)

-- what stands somewhere stands there too once it is written elsewhere, or there once more
pub slice_get-set_keeps : {A : Type 0} (xs : List A) (i j : ℕ) (x : A) → slice_get xs j ≡ Some x → slice_get (slice_set xs i x) j ≡ Some x
slice_get-set_keeps [] i j x is = is
slice_get-set_keeps (y ∷ xs) zero zero x is = refl
slice_get-set_keeps (y ∷ xs) zero (suc j) x is = is
slice_get-set_keeps (y ∷ xs) (suc i) zero x is = is
slice_get-set_keeps (y ∷ xs) (suc i) (suc j) x is = slice_get-set_keeps xs i j x is

-- what is read where something was written is what was written
pub slice_get-set_reads : {A : Type 0} (xs : List A) (i : ℕ) (x y : A) → slice_get (slice_set xs i x) i ≡ Some y → x ≡ y
slice_get-set_reads [] i x y is = absurd cc
slice_get-set_reads (z ∷ xs) zero x y is = cc
slice_get-set_reads (z ∷ xs) (suc i) x y is = slice_get-set_reads xs i x y is

-- whatever is in range is there
pub nothing_there : {A : Type 0} (xs : List A) (i : ℕ) → i < length xs → slice_get xs i ≡ None → ⊥
nothing_there [] i within is = omega (arith, within)
nothing_there (x ∷ xs) zero within is = cc
nothing_there (x ∷ xs) (suc i) within is = nothing_there xs i (omega (arith, within)) is

pub slice_get-append_left : {A : Type 0} (xs ys : List A) (i : ℕ) (x : A) → slice_get xs i ≡ Some x → slice_get (xs ++ ys) i ≡ Some x
slice_get-append_left [] ys i x is = absurd cc
slice_get-append_left (y ∷ xs) ys zero x is = is
slice_get-append_left (y ∷ xs) ys (suc i) x is = slice_get-append_left xs ys i x is

-- what stands somewhere stands there too in the longer list
pub grown_get : {A : Type 0} (room : Bool) (xs : List A) (x : A) (i : ℕ) (y : A) → slice_get xs i ≡ Some y → slice_get (grown room xs x) i ≡ Some y
grown_get true xs x i y is = slice_get-append_left xs (x ∷ []) i y is
grown_get false xs x i y is = is

-- what stands in the longer list is the new one, or stood there before
pub grown_less : {A : Type 0} (room : Bool) (xs : List A) (x : A) (i : ℕ) (y : A) → y ≢ x → slice_get (grown room xs x) i ≡ Some y → slice_get xs i ≡ Some y
grown_less true [] x zero y other is = let same : Some x ≡ Some y = is in absurd (other cc)
grown_less true [] x (suc i) y other is = absurd cc
grown_less true (z ∷ xs) x zero y other is = is
grown_less true (z ∷ xs) x (suc i) y other is = grown_less true xs x i y other is
grown_less false xs x i y other is = is

pub grown_stays : {A : Type 0} (room : Bool) (xs : List A) (x : A) → length xs ≤ length (grown room xs x)
grown_stays true xs x = omega (arith, length-append xs (x ∷ []))
grown_stays false xs x = omega arith

-- a list with nothing more at its end
nothing_at_end : (ds : List (List Duty)) (f : ℕ) → slice_index_or (ds ++ [] ∷ []) f [] ≡ slice_index_or ds f []
nothing_at_end [] zero = refl
nothing_at_end [] (suc f) = refl
nothing_at_end (d ∷ ds) zero = refl
nothing_at_end (d ∷ ds) (suc f) = nothing_at_end ds f

pub grown_owed : (room : Bool) (ds : List (List Duty)) (f : ℕ) → slice_index_or (grown room ds []) f [] ≡ slice_index_or ds f []
grown_owed true ds f = nothing_at_end ds f
grown_owed false ds f = refl

-- nothing is written where nothing stands
pub nothing_written : (ds : List (List Duty)) (f : ℕ) (left : List Duty) → left ≡ [] → slice_index_or ds f [] ≡ [] → slice_index_or (slice_set ds f left) f [] ≡ []
nothing_written [] f left none before = before
nothing_written (d ∷ ds) zero left none before = none
nothing_written (d ∷ ds) (suc f) left none before = nothing_written ds f left none before

-- what is read behind a write was written there, or stood elsewhere before
pub read_set : {A : Type 0} (xs : List A) (i j : ℕ) (x y : A) → slice_get (slice_set xs i x) j ≡ Some y → ((j ≡ i) × (x ≡ y)) ⊎ ((j ≢ i) × (slice_get xs j ≡ Some y))
read_set {A} xs i j x y is = at (eqb_tells j i) where
  at : ((eqb j i ≡ true) × (j ≡ i)) ⊎ ((eqb j i ≡ false) × (j ≢ i)) → ((j ≡ i) × (x ≡ y)) ⊎ ((j ≢ i) × (slice_get xs j ≡ Some y))
  at (inl same) = inl (same.1, slice_get-set_reads xs i x y (subst (λ (n : ℕ). slice_get (slice_set xs i x) n ≡ Some y) same.1 is))
  at (inr other) = inr (other.1, sym (slice_get-set_other xs i j x other.1) ∙ is)

-- ---- two elements of one list

-- they are the same, or one stands before the other
pub data Apart {A : Type 0} (front other : List A) (x y : A) : Type 0 where
  same : x ≡ y → Apart front other x y
  before : (between : List A) → other ≡ front ++ x ∷ between → Apart front other x y
  behind : (between : List A) → front ≡ other ++ y ∷ between → Apart front other x y

module _ {A : Type 0} (x y : A) where
  one_further : (z u : A) (front other : List A) → z ≡ u → Apart front other x y → Apart (z ∷ front) (u ∷ other) x y
  one_further z u front other is (same they_are) = same they_are
  one_further z u front other is (before between at) = before between (ap (λ (v : A). v ∷ other) (sym is) ∙ ap (λ (zs : List A). z ∷ zs) at)
  one_further z u front other is (behind between at) = behind between (ap (λ (v : A). v ∷ front) is ∙ ap (λ (zs : List A). u ∷ zs) at)

  pub apart : (front back other rest : List A) → front ++ x ∷ back ≡ other ++ y ∷ rest → Apart front other x y
  apart [] back [] rest is = same cc
  apart [] back (u ∷ other) rest is = before other (let e : u ≡ x = cc in ap (λ (v : A). v ∷ other) e)
  apart (z ∷ front) back [] rest is = behind front (let e : z ≡ y = cc in ap (λ (v : A). v ∷ front) e)
  apart (z ∷ front) back (u ∷ other) rest is =
      let first : z ≡ u = cc in
      let later : front ++ x ∷ back ≡ other ++ y ∷ rest = cc in
      one_further z u front other first (apart front back other rest later)

-- ---- each element

pub each-append : {A : Type 0} (P : A → Type 0) (xs ys : List A) → AllByRecursion P xs → AllByRecursion P ys → AllByRecursion P (xs ++ ys)
each-append P [] ys p q = q
each-append P (x ∷ xs) ys p q = (p.0, each-append P xs ys p.1 q)
