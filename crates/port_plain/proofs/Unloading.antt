-- How the bodies leave their places when the port closes.
use Rattle.std.proofs.Common.{◌≡◌, ℕ, ◌+◌, ◌≤◌, Option, Some, None, List, [], ◌∷◌, ◌++◌, length, map, slice_get, refl, sym, ap, ◌∙◌, append_assoc, append-nil, arith}
use Rattle.std.proofs.lemmas.List.{map-append, length-map}
use Rattle.std.proofs.lemmas.Option.{slice_get-map}
use Rattle.pic_machine.specs.declared.closed.Closed.{Closed}
use Rattle.pic_machine.specs.Happened.{Happened}
use Rattle.pic_machine.specs.State.{State}
use Rattle.pic_machine.specs.Sight.{Carry}
use Rattle.port_plain.specs.Shown.{IsAtHome, Shown, origin_in, sight_of}
use Rattle.port_plain.specs.Stored.{IsStored}
use Rattle.pic_machine.specs.Closing.{IsLeft}
use Rattle.port_plain.specs.Closing.{OwesAsLeft}
use Rattle.port_plain.proofs.Keeping.{stored_seen}

-- the bodies that were taken, then the rest of the places, are all places; and there is room for the rest
pub record Unloads {B : Type 0} (all rest : List (Option B)) (done : List B) (left len capacity : ℕ) : Type 0 where
  pub so_far : map Some done ++ rest ≡ all
  pub count : left ≡ length rest
  pub room : len + left ≤ capacity

pub unloads_more : {B : Type 0} (all rest later : List (Option B)) (done : List B) (left less len more capacity : ℕ) (body : B) → Unloads all rest done left len capacity → rest ≡ Some body ∷ later → less + 1 ≡ left → more ≡ len + 1 → Unloads all later (done ++ body ∷ []) less more capacity
unloads_more {B} all rest later done left less len more capacity body unloads is fewer longer = record {
  so_far = ap (λ (xs : List (Option B)). xs ++ later) (map-append Some done (body ∷ [])) ∙ (append_assoc (map Some done) (Some body ∷ []) later ∙ (ap (λ (xs : List (Option B)). map Some done ++ xs) (sym is) ∙ unloads.so_far));
  count = omega (arith, fewer, unloads.count, ap (λ (xs : List (Option B)). length xs) is);
  room = omega (arith, unloads.room, fewer, longer);
}

at_end : {A : Type 0} (xs ys : List A) (x : A) → slice_get (xs ++ x ∷ ys) (length xs) ≡ Some x
at_end [] ys x = refl
at_end (y ∷ xs) ys x = at_end xs ys x

pub none_empty : {B : Type 0} (all rest later : List (Option B)) (done : List B) (left len capacity : ℕ) → Unloads all rest done left len capacity → rest ≡ None ∷ later → ((place : ℕ) → slice_get all place ≡ Some None → ⊥) → ⊥
none_empty {B} all rest later done left len capacity unloads is none =
    none (length (map Some done))
    (ap (λ (xs : List (Option B)). slice_get xs (length (map Some done))) (sym unloads.so_far ∙ ap (λ (xs : List (Option B)). map Some done ++ xs) is) ∙ at_end (map Some done) later None)

nothing_left : {A : Type 0} (xs : List A) → length xs ≡ 0 → xs ≡ []
nothing_left [] none = refl
nothing_left (x ∷ xs) none = absurd (omega (arith, none))

pub unloaded : {B : Type 0} (all rest : List (Option B)) (done : List B) (left len capacity : ℕ) → Unloads all rest done left len capacity → left ≡ 0 → map Some done ≡ all
unloaded {B} all rest done left len capacity unloads over =
    sym (append-nil (map Some done)) ∙ (ap (λ (xs : List (Option B)). map Some done ++ xs) (sym (nothing_left rest (sym unloads.count ∙ over))) ∙ unloads.so_far)

module _ {B S : Type 0} (seen : B → Carry S) (fits : B → List Happened → Type 0) where
  module _ (port now : Shown B) (w : State) (bodies : List (Option B)) (ticking : B) (same : port ≡ now) (stored : IsStored seen fits port w bodies ticking) (out : now.out ≡ None) where
    -- no place is empty where no body is out
    pub all_home : (place : ℕ) → slice_get bodies place ≡ Some None → ⊥
    all_home place empty = let e : None ≡ Some (place + 1) = sym out ∙ (stored_seen seen fits port now w bodies ticking same stored).gone place empty in cc

    module _ (closed : Closed B) (is : map Some closed.bodies.items ≡ bodies) (clock : closed.clock ≡ ticking) where
      there : IsStored seen fits now w bodies ticking
      there = stored_seen seen fits port now w bodies ticking same stored

      at_home : (place : ℕ) (body : B) → slice_get closed.bodies.items place ≡ Some body → IsAtHome seen fits now (place + 1) body
      at_home place body at = there.home place body (ap (λ (xs : List (Option B)). slice_get xs place) (sym is) ∙ (slice_get-map Some closed.bodies.items place ∙ (rw at refl)))

      clock_home : IsAtHome seen fits now 0 closed.clock
      clock_home = rw clock there.clock

      pub left_of : closed.now ≡ 0 → IsLeft seen fits (origin_in seen now) (seen now.main).share now.front closed
      left_of time = record {
        legal = there.legal;
        count = sym (length-map closed.bodies.items Some) ∙ (ap (λ (xs : List (Option B)). length xs) is ∙ (there.count ∙ ap (λ (u : State). length u.fibers) there.now));
        body = λ place body at. (at_home place body at).stands;
        clock = clock_home.stands;
        now = time;
      }

      pub owes_left : OwesAsLeft seen (sight_of seen now) closed
      owes_left = record { bodies = λ place body at. (at_home place body at).owes; clock = clock_home.owes; room = rw clock there.room }
