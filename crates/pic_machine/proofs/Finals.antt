-- Where not all is over, a fiber is live or owes.
use Rattle.std.proofs.Common.{◌≡◌, ◌≢◌, ◌⊎◌, ℕ, suc, ◌<◌, ◌≤◌, ◌-◌, inl, inr, Some, List, [], ◌∷◌, length, slice_get, slice_index_or, refl, sym, ap, subst, ◌∙◌, arith}
use Rattle.std.specs.Prelude.{All}
use Rattle.std.proofs.lemmas.Bool.{cases_lt}
use Rattle.std.proofs.Math.ListN.{get_or-eq_default}
use Rattle.std.proofs.lemmas.List.Elements.{All-cons, All-nil}
use Rattle.std.proofs.lemmas.Option.{get_or_from_slice_get, slice_get-get_or, slice_get_within}
use Rattle.pic_base.specs.declared.duty.Duty.{Duty}
use Rattle.pic_machine.specs.declared.state.FiberState.{FiberState}
use Rattle.pic_machine.specs.declared.state.FiberState.TheVariants.{Live, Suspended, Ended}
use Rattle.pic_machine.specs.State.{State}
use Rattle.pic_machine.specs.Final.{IsAtRest, IsBusy, IsFinal}
use Rattle.pic_machine.specs.Final.IsBusy.{live, owes}
use Rattle.pic_machine.specs.Suspending.{IsTied}

-- where nobody is live, whoever waits does so at a trigger that isn't signalled
at_rest : (w : State) (place : ℕ) (s : FiberState) → IsTied w → slice_get w.fibers place ≡ Some s → s ≢ Live → IsAtRest w.triggers s
at_rest w place Live tied is rests = absurd (rests refl)
at_rest w place (Suspended t) tied is rests = λ over.
    let here : suc place - 1 ≡ place = omega arith in
    let awaited = tied.awaited t (suc place) (record { made = omega arith; state = ap (slice_get w.fibers) here ∙ is }) in
    let both = sym awaited ∙ over in
    cc
at_rest w place (Ended o) tied is rests = tt

pub all_at_rest : (w : State) → IsTied w → All (λ fiber. fiber ≢ Live) w.fibers → All (IsAtRest w.triggers) w.fibers
all_at_rest w tied none = λ place other within.
    at_rest w place (slice_index_or w.fibers place other) tied (slice_get-get_or w.fibers place other within) (none place other within)

-- a live fiber is there
record HasLive (fibers : List FiberState) : Type 0 where
  place : ℕ
  state : slice_get fibers place ≡ Some Live

module _ (s : FiberState) (fibers : List FiberState) (other : s ≢ Live) where
  live_behind : HasLive fibers ⊎ All (λ fiber. fiber ≢ Live) fibers → HasLive (s ∷ fibers) ⊎ All (λ fiber. fiber ≢ Live) (s ∷ fibers)
  live_behind (inl there) = inl (record { place = suc there.place; state = there.state })
  live_behind (inr none) = inr (All-cons (λ fiber. fiber ≢ Live) s fibers other none)

live_or_none : (fibers : List FiberState) → HasLive fibers ⊎ All (λ fiber. fiber ≢ Live) fibers
live_or_none [] = inr (All-nil (λ fiber. fiber ≢ Live))
live_or_none (Live ∷ fibers) = inl (record { place = 0; state = refl })
live_or_none (Suspended t ∷ fibers) = live_behind (Suspended t) fibers (λ same. cc) (live_or_none fibers)
live_or_none (Ended o ∷ fibers) = live_behind (Ended o) fibers (λ same. cc) (live_or_none fibers)

-- a fiber owes
record HasOwing (owed : List (List Duty)) : Type 0 where
  fiber : ℕ
  duty : Duty
  duties : List Duty
  is : slice_index_or owed fiber [] ≡ duty ∷ duties

owing_or_none : (owed : List (List Duty)) → HasOwing owed ⊎ All (λ duties. duties ≡ []) owed
owing_or_none [] = inr (All-nil (λ duties. duties ≡ []))
owing_or_none ((duty ∷ duties) ∷ owed) = inl (record { fiber = 0; duty = duty; duties = duties; is = refl })
owing_or_none ([] ∷ owed) = one_on (owing_or_none owed) where
  one_on : HasOwing owed ⊎ All (λ duties. duties ≡ []) owed → HasOwing ([] ∷ owed) ⊎ All (λ duties. duties ≡ []) ([] ∷ owed)
  one_on (inl there) = inl (record { fiber = suc there.fiber; duty = there.duty; duties = there.duties; is = there.is })
  one_on (inr none) = inr (All-cons (λ duties. duties ≡ []) [] owed refl none)

pub busy_unless_final : (w : State) → IsTied w → (IsFinal w → ⊥) → IsBusy w
busy_unless_final w tied unfinished = found (live_or_none w.fibers) (owing_or_none w.owed) where
  found : HasLive w.fibers ⊎ All (λ fiber. fiber ≢ Live) w.fibers → HasOwing w.owed ⊎ All (λ duties. duties ≡ []) w.owed → IsBusy w
  found (inl there) owing =
      let here : suc there.place - 1 ≡ there.place = omega arith in
      live (suc there.place) (record { made = omega arith; live = ap (slice_get w.fibers) here ∙ there.state })
  found (inr none) (inl there) = owes there.fiber there.duty there.duties there.is
  found (inr none) (inr quiet) = absurd (unfinished (record { rest = all_at_rest w tied none; owed = quiet }))

owed_none : (owed : List (List Duty)) (f : ℕ) → All (λ duties. duties ≡ []) owed → (f < length owed) ⊎ (length owed ≤ f) → slice_index_or owed f [] ≡ []
owed_none owed f none (inl within) = none f [] within
owed_none owed f none (inr past) = get_or-eq_default owed [] past

-- in a final world nobody owes
pub none_owed : (w : State) (f : ℕ) → IsFinal w → slice_index_or w.owed f [] ≡ []
none_owed w f final = owed_none w.owed f final.owed (cases_lt f (length w.owed))

-- and whoever is there is at rest
pub stands_at_rest : (w : State) (place : ℕ) (s : FiberState) → IsFinal w → slice_get w.fibers place ≡ Some s → IsAtRest w.triggers s
stands_at_rest w place s final is =
    subst (IsAtRest w.triggers) (get_or_from_slice_get w.fibers place s s is) (final.rest place s (slice_get_within w.fibers place s is))

-- not both
pub final_or_busy : (w : State) → IsFinal w → IsBusy w → ⊥
final_or_busy w final (live f is) = stands_at_rest w (f - 1) Live final is.live
final_or_busy w final (owes f duty duties is) = let e : [] ≡ duty ∷ duties = sym (none_owed w f final) ∙ is in cc
