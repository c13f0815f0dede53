-- Elements of a list stay where they are while others are set and added, but for those at open places.
use Rattle.std.proofs.Common.{◌≡◌, ◌≢◌, ℕ, zero, suc, ◌<◌, ◌≤◌, Bool, true, false, cond, Some, List, [], ◌∷◌, ◌++◌, length, set, slice_get, refl, ap, ◌∙◌, arith, length-append, length-set}
use Rattle.script_tree.proofs.Paths.{Descends}

-- ---- places

-- the place is none of these
abbrev pub IsNoneOf : ℕ → List ℕ → Type 0
IsNoneOf p [] = Unit {0}
IsNoneOf p (q ∷ qs) = (p ≢ q) × IsNoneOf p qs

pub behind_all : (bound p : ℕ) (places : List ℕ) → Descends bound places → bound ≤ p → IsNoneOf p places
behind_all bound p [] d h = tt
behind_all bound p (q ∷ qs) d h = (λ e. omega (arith, e, d.0, h), behind_all q p qs d.1 (omega (arith, d.0, h)))

-- the first place and the others
pub descends_first : (b : Bool) (bound p : ℕ) (places : List ℕ) → b ≡ true → Descends bound (cond b (p ∷ places) places) → (p < bound) × Descends p places
descends_first true bound p places h d = (d.0, d.1)
descends_first false bound p places h d = cc

-- ---- elements

pub get_set : {A : Type 0} (xs : List A) (i : ℕ) (x : A) → i < length xs → slice_get (set xs i x) i ≡ Some x
get_set [] i x h = absurd (omega (arith, h))
get_set (y ∷ ys) zero x h = refl
get_set (y ∷ ys) (suc i) x h = get_set ys i x (omega (arith, h))

get_set_other : {A : Type 0} (xs : List A) (i p : ℕ) (x : A) → p ≢ i → slice_get (set xs i x) p ≡ slice_get xs p
get_set_other [] i p x ne = refl
get_set_other (y ∷ ys) zero zero x ne = absurd (ne refl)
get_set_other (y ∷ ys) zero (suc p) x ne = refl
get_set_other (y ∷ ys) (suc i) zero x ne = refl
get_set_other (y ∷ ys) (suc i) (suc p) x ne = get_set_other ys i p x (λ e. ne (ap (λ n. suc n) e))

get_front : {A : Type 0} (xs ys : List A) (p : ℕ) → p < length xs → slice_get (xs ++ ys) p ≡ slice_get xs p
get_front [] ys p h = absurd (omega (arith, h))
get_front (x ∷ xs) ys zero h = refl
get_front (x ∷ xs) ys (suc p) h = get_front xs ys p (omega (arith, h))

get_push : {A : Type 0} (xs : List A) (x : A) → slice_get (xs ++ x ∷ []) (length xs) ≡ Some x
get_push [] x = refl
get_push (y ∷ ys) x = get_push ys x

-- ---- lists that change

-- what is at a place that isn't open stays, and the place isn't opened again
pub record Stays {A : Type 0} (old new : List A) (old_open new_open : List ℕ) : Type 0 where
  pub within : (p : ℕ) → p < length old → p < length new
  pub closed : (p : ℕ) → p < length old → IsNoneOf p old_open → IsNoneOf p new_open
  pub same : (p : ℕ) → p < length old → IsNoneOf p old_open → slice_get new p ≡ slice_get old p

pub stays_same : {A : Type 0} (xs : List A) (places : List ℕ) → Stays xs xs places places
stays_same xs places = record { within = λ p h. h; closed = λ p h n. n; same = λ p h n. refl }

-- one more element
pub stays_pushed : {A : Type 0} (xs : List A) (x : A) (places : List ℕ) → Stays xs (xs ++ x ∷ []) places places
stays_pushed xs x places = record {
  within = λ p h. omega (arith, h, length-append xs (x ∷ []));
  closed = λ p h n. n;
  same = λ p h n. get_front xs (x ∷ []) p h;
}

-- one more, which is open, or isn't
pub stays_opened : {A : Type 0} (xs : List A) (x : A) (places : List ℕ) → Stays xs (xs ++ x ∷ []) places (length xs ∷ places)
stays_opened xs x places = record {
  within = λ p h. omega (arith, h, length-append xs (x ∷ []));
  closed = λ p h n. (λ e. omega (arith, e, h), n);
  same = λ p h n. get_front xs (x ∷ []) p h;
}

-- the innermost open one is set, and closed
pub stays_closed : {A : Type 0} (xs : List A) (i : ℕ) (x : A) (places : List ℕ) → Stays xs (set xs i x) (i ∷ places) places
stays_closed xs i x places = record {
  within = λ p h. rw length-set h;
  closed = λ p h n. n.1;
  same = λ p h n. get_set_other xs i p x n.0;
}

-- the same, and another one is opened
pub stays_exchanged : {A : Type 0} (xs : List A) (i : ℕ) (x y : A) (places : List ℕ) → Stays xs (set xs i x ++ y ∷ []) (i ∷ places) (length xs ∷ places)
stays_exchanged xs i x y places = record {
  within = λ p h. omega (arith, h, length-set xs i x, length-append (set xs i x) (y ∷ []));
  closed = λ p h n. (λ e. omega (arith, e, h), n.1);
  same = λ p h n. get_front (set xs i x) (y ∷ []) p (rw length-set h) ∙ get_set_other xs i p x n.0;
}

-- more may have been open
pub stays_less : {A : Type 0} (b : Bool) (p : ℕ) (old new : List A) (places after : List ℕ) → Stays old new places after → Stays old new (cond b (p ∷ places) places) after
stays_less true p old new places after h = record { within = h.within; closed = λ q l n. h.closed q l n.1; same = λ q l n. h.same q l n.1 }
stays_less false p old new places after h = h

-- ---- what stays for good

-- all that isn't open is in a list
abbrev pub AreIn : {A : Type 0} → List A → List ℕ → List A → Type 0
AreIn xs places all = (p : ℕ) → p < length xs → IsNoneOf p places → slice_get all p ≡ slice_get xs p

pub were_in : {A : Type 0} (old new : List A) (before after : List ℕ) (all : List A) → Stays old new before after → AreIn new after all → AreIn old before all
were_in old new before after all h i = λ p l n. i p (h.within p l) (h.closed p l n) ∙ h.same p l n

-- an element that was closed
pub closed_in : {A : Type 0} (xs : List A) (i : ℕ) (x : A) (places : List ℕ) (all : List A) → i < length xs → Descends i places → AreIn (set xs i x) places all
    → slice_get all i ≡ Some x
closed_in xs i x places all l d h = h i (rw length-set l) (behind_all i i places d (omega arith)) ∙ get_set xs i x l

-- one in whose place another was opened
pub exchanged_in : {A : Type 0} (xs : List A) (i : ℕ) (x y : A) (places : List ℕ) (all : List A) → i < length xs → Descends i places
    → AreIn (set xs i x ++ y ∷ []) (length xs ∷ places) all → slice_get all i ≡ Some x
exchanged_in xs i x y places all l d h =
    let long : i < length (set xs i x) = rw length-set l in
    h i (omega (arith, long, length-append (set xs i x) (y ∷ []))) (λ e. omega (arith, e, l), behind_all i i places d (omega arith))
    ∙ (get_front (set xs i x) (y ∷ []) i long ∙ get_set xs i x l)

-- one that was added
pub pushed_in : {A : Type 0} (xs : List A) (x : A) (places : List ℕ) (all : List A) → Descends (length xs) places → AreIn (xs ++ x ∷ []) places all
    → slice_get all (length xs) ≡ Some x
pushed_in xs x places all d h =
    h (length xs) (omega (arith, length-append xs (x ∷ []))) (behind_all (length xs) (length xs) places d (omega arith)) ∙ get_push xs x
