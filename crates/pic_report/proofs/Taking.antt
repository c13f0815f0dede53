-- How views are taken from bodies, one by one.
use Rattle.std.proofs.Common.{◌≡◌, ℕ, zero, suc, ◌+◌, Some, List, [], ◌∷◌, ◌++◌, length, slice_get, refl, sym, ap, subst, ◌∙◌, arith, append_assoc, append-nil}
use Rattle.fiber_body.specs.Shown.{Shown as Body}
use Rattle.pic_report.specs.declared.view.FiberView.{FiberView}
use Rattle.pic_report.specs.Taken.{AreTakenFrom, IsTakenFrom}

-- the views are those of the first bodies, in order
pub data Are : List Body → List FiberView → Type 0 where
  none : Are [] []
  one_more : {bodies : List Body} {views : List FiberView} (body : Body) (view : FiberView) → Are bodies views → IsTakenFrom body view → Are (bodies ++ body ∷ []) (views ++ view ∷ [])

-- the bodies that are done, and the rest
pub record IsTaking (all rest : List Body) (views : List FiberView) (left : ℕ) : Type 0 where
  pub done : List Body
  pub are : Are done views
  pub is : all ≡ done ++ rest
  pub count : left ≡ length rest

pub taking_none : (all : List Body) (left : ℕ) → left ≡ length all → IsTaking all all [] left
taking_none all left count = record { done = []; are = none; is = refl; count = count }

pub taking_more : (all rest later : List Body) (views : List FiberView) (left less : ℕ) (body : Body) (view : FiberView) → IsTaking all rest views left → rest ≡ body ∷ later → less + 1 ≡ left → IsTakenFrom body view
    → IsTaking all later (views ++ view ∷ []) less
taking_more all rest later views left less body view taking is fewer taken = record {
  done = taking.done ++ body ∷ [];
  are = one_more body view taking.are taken;
  is = taking.is ∙ (ap (λ (w : List Body). taking.done ++ w) is ∙ sym (append_assoc taking.done (body ∷ []) later));
  count = omega (arith, fewer, taking.count, ap (λ (w : List Body). length w) is);
}

length-push : {A : Type 0} (xs : List A) (x : A) → length (xs ++ x ∷ []) ≡ length xs + 1
length-push [] x = refl
length-push (y ∷ xs) x = let rest = length-push xs x in omega (arith, rest)

-- at a place of a list with one more element: the last, or one before it
at_last : {A B : Type 0} (xs : List A) (x : A) (ys : List B) (y : B) (place : ℕ) (a : A) (b : B) (P : A → B → Type 0) → length xs ≡ length ys → P x y → ((a : A) (b : B) → slice_get xs place ≡ Some a → slice_get ys place ≡ Some b → P a b)
    → slice_get (xs ++ x ∷ []) place ≡ Some a → slice_get (ys ++ y ∷ []) place ≡ Some b → P a b
at_last [] x [] y zero a b P count here before p q = let one : x ≡ a = cc in let two : y ≡ b = cc in rw (sym one, sym two) here
at_last [] x [] y (suc place) a b P count here before p q = absurd cc
at_last [] x (v ∷ ys) y place a b P count here before p q = absurd (omega (arith, count))
at_last (u ∷ xs) x [] y place a b P count here before p q = absurd (omega (arith, count))
at_last (u ∷ xs) x (v ∷ ys) y zero a b P count here before p q = before a b p q
at_last (u ∷ xs) x (v ∷ ys) y (suc place) a b P count here before p q = at_last xs x ys y place a b P (omega (arith, count)) here before p q

are_taken : {bodies : List Body} {views : List FiberView} → Are bodies views → AreTakenFrom bodies views
are_taken none = record { count = refl; each = λ place body view p q. absurd cc }
are_taken (one_more {bodies} {views} body view are taken) =
    let rest = are_taken are in
    record {
      count = length-push views view ∙ (ap (λ (n : ℕ). n + 1) rest.count ∙ sym (length-push bodies body));
      each = λ place a b p q. at_last bodies body views view place a b IsTakenFrom (sym rest.count) taken (rest.each place) p q;
    }

nothing_left : {A : Type 0} (xs : List A) → length xs ≡ 0 → xs ≡ []
nothing_left [] is = refl
nothing_left (x ∷ xs) is = absurd (omega (arith, is))

pub taken_all : (all rest : List Body) (views : List FiberView) (left : ℕ) → IsTaking all rest views left → left ≡ 0 → AreTakenFrom all views
taken_all all rest views left taking over =
    subst (λ (w : List Body). AreTakenFrom w views)
    (sym (taking.is ∙ (ap (λ (w : List Body). taking.done ++ w) (nothing_left rest (sym taking.count ∙ over)) ∙ append-nil taking.done))) (are_taken taking.are)
