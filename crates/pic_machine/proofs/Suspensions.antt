-- A fiber is suspended at a trigger exactly where the trigger's signal will resume it: every call keeps this.
use Rattle.std.proofs.Common.{◌≡◌, ◌≢◌, ◌⊎◌, ℕ, zero, suc, ◌-◌, ◌<◌, inl, inr, Bool, List, [], ◌∷◌, Option, Some, None, replicate, slice_get, slice_set, refl, sym, ap, subst, ◌∙◌, arith}
use Rattle.std.proofs.lemmas.Option.{slice_get_within}
use Rattle.pic_base.specs.declared.action.Action.TheVariants.{Resume}
use Rattle.pic_base.specs.declared.outcome.Outcome.{Outcome}
use Rattle.pic_machine.specs.declared.state.FiberState.{FiberState}
use Rattle.pic_machine.specs.declared.state.FiberState.TheVariants.{Live, Suspended, Ended}
use Rattle.pic_machine.specs.declared.state.TrigState.{TrigState}
use Rattle.pic_machine.specs.declared.state.TrigState.TheVariants.{Initial, Awaiting, Signalled}
use Rattle.pic_machine.specs.declared.entry.Call.{Call}
use Rattle.pic_machine.specs.declared.entry.Call.TheVariants as call
use Rattle.pic_machine.specs.declared.entry.Call.TheVariants.{NewTrigger, Arm, Fork, End}
use Rattle.pic_machine.specs.declared.world.Start.{Start}
use Rattle.pic_machine.specs.Happened.{Happened}
use Rattle.pic_machine.specs.State.{IsStart, State, world_at}
use Rattle.pic_machine.specs.Step.{Allowed, IsLive, after, fibers_after, grown, has_room, triggers_after}
use Rattle.pic_machine.specs.History.{Origin, IsLegal, world}
use Rattle.pic_machine.specs.Suspending.{IsSuspended, IsTied}
use Rattle.pic_machine.proofs.Callers.{caller_is_live}
use Rattle.pic_machine.proofs.Fates.{steps}
use Rattle.pic_machine.proofs.Lasting.{lasts_from}
use Rattle.pic_machine.proofs.Lists.{grown_get, grown_less, read_set, slice_get-set_other, slice_get-set_same}

-- ---- the same of a list of triggers and one of fibers

-- fiber f waits for the trigger t
record Waits (fs : List FiberState) (f t : ℕ) : Type 0 where
  made : 0 < f
  state : slice_get fs (f - 1) ≡ Some (Suspended t)

abbrev Resumes : List TrigState → ℕ → ℕ → Type 0
Resumes ts t f = slice_get ts t ≡ Some (Awaiting (Resume f))

pub record Tied (ts : List TrigState) (fs : List FiberState) : Type 0 where
  resumes : (t f : ℕ) → Resumes ts t f → Waits fs f t
  awaited : (t f : ℕ) → Waits fs f t → Resumes ts t f

-- fibers at one place are one
one_fiber : (f g : ℕ) → 0 < f → 0 < g → f - 1 ≡ g - 1 → f ≡ g
one_fiber f g made there same = omega (arith, made, there, same)

module _ (ts : List TrigState) (fs : List FiberState) (tied : Tied ts fs) where
  -- one trigger more
  more_triggers : (room : Bool) → Tied (grown room ts Initial) fs
  more_triggers room = record {
    resumes = λ t f is. tied.resumes t f (grown_less room ts Initial t (Awaiting (Resume f)) (λ same. cc) is);
    awaited = λ t f waits. grown_get room ts Initial t (Awaiting (Resume f)) (tied.awaited t f waits);
  }

  -- one fiber more
  more_fibers : (room : Bool) → Tied ts (grown room fs Live)
  more_fibers room = record {
    resumes = λ t f is. let was = tied.resumes t f is in record { made = was.made; state = grown_get room fs Live (f - 1) (Suspended t) was.state };
    awaited = λ t f waits. tied.awaited t f (record { made = waits.made; state = grown_less room fs Live (f - 1) (Suspended t) (λ same. cc) waits.state });
  }

  -- a live fiber doesn't wait
  no_wait : (f t : ℕ) → slice_get fs (f - 1) ≡ Some Live → (g : ℕ) → Waits fs g t → g - 1 ≢ f - 1
  no_wait f t live g waits same = let both : Some Live ≡ Some (Suspended t) = sym live ∙ (ap (slice_get fs) (sym same) ∙ waits.state) in cc

  -- a live fiber ends
  ends : (f : ℕ) (o : Outcome) → slice_get fs (f - 1) ≡ Some Live → Tied ts (slice_set fs (f - 1) (Ended o))
  ends f o live = record {
    resumes = λ t g is.
        let was = tied.resumes t g is in
        record { made = was.made; state = slice_get-set_other fs (f - 1) (g - 1) (Ended o) (no_wait f t live g was) ∙ was.state };
    awaited = λ t g waits. still t g waits (read_set fs (f - 1) (g - 1) (Ended o) (Suspended t) waits.state);
  } where
    still : (t g : ℕ) → Waits (slice_set fs (f - 1) (Ended o)) g t → ((g - 1 ≡ f - 1) × (Ended o ≡ Suspended t)) ⊎ ((g - 1 ≢ f - 1) × (slice_get fs (g - 1) ≡ Some (Suspended t))) → Resumes ts t g
    still t g waits (inl here) = let no : Ended o ≡ Suspended t = here.1 in absurd cc
    still t g waits (inr there) = tied.awaited t g (record { made = waits.made; state = there.1 })

  -- a live fiber begins to wait for an initial trigger
  module _ (f t : ℕ) (made : 0 < f) (live : slice_get fs (f - 1) ≡ Some Live) (initial : slice_get ts t ≡ Some Initial) where
    abbrev armed : List TrigState
    armed = slice_set ts t (Awaiting (Resume f))

    abbrev waiting : List FiberState
    waiting = slice_set fs (f - 1) (Suspended t)

    resumes_now : (u g : ℕ) → ((u ≡ t) × (Awaiting (Resume f) ≡ Awaiting (Resume g))) ⊎ ((u ≢ t) × (slice_get ts u ≡ Some (Awaiting (Resume g)))) → Waits waiting g u
    resumes_now u g (inl here) =
        let both : Awaiting (Resume f) ≡ Awaiting (Resume g) = here.1 in
        let same : f ≡ g = cc in
        let mine : Waits waiting f t = record { made = made; state = slice_get-set_same fs (f - 1) (Suspended t) (slice_get_within fs (f - 1) Live live) } in
        subst (λ (n : ℕ). Waits waiting n u) same (subst (λ (n : ℕ). Waits waiting f n) (sym here.0) mine)
    resumes_now u g (inr there) =
        let was = tied.resumes u g there.1 in
        record { made = was.made; state = slice_get-set_other fs (f - 1) (g - 1) (Suspended t) (no_wait f u live g was) ∙ was.state }

    awaited_now : (u g : ℕ) → 0 < g → ((g - 1 ≡ f - 1) × (Suspended t ≡ Suspended u)) ⊎ ((g - 1 ≢ f - 1) × (slice_get fs (g - 1) ≡ Some (Suspended u))) → Resumes armed u g
    awaited_now u g there (inl here) =
        let both : Suspended t ≡ Suspended u = here.1 in
        let at : t ≡ u = cc in
        let same : f ≡ g = sym (one_fiber g f there made here.0) in
        let mine : Resumes armed t f = slice_get-set_same ts t (Awaiting (Resume f)) (slice_get_within ts t Initial initial) in
        subst (λ (n : ℕ). Resumes armed n g) at (subst (λ (n : ℕ). Resumes armed t n) same mine)
    awaited_now u g there (inr other) =
        let was : Resumes ts u g = tied.awaited u g (record { made = there; state = other.1 }) in
        let apart : u ≢ t = λ same. let both : Some Initial ≡ Some (Awaiting (Resume g)) = sym initial ∙ (ap (slice_get ts) (sym same) ∙ was) in cc in
        slice_get-set_other ts t u (Awaiting (Resume f)) apart ∙ was

    begins_to_wait : Tied armed waiting
    begins_to_wait = record {
      resumes = λ u g is. resumes_now u g (read_set ts t u (Awaiting (Resume f)) (Awaiting (Resume g)) is);
      awaited = λ u g waits. awaited_now u g waits.made (read_set fs (f - 1) (g - 1) (Suspended t) (Suspended u) waits.state);
    }

  -- a trigger is signalled that will resume nobody
  signalled_plain : (t : ℕ) → ((f : ℕ) → Resumes ts t f → ⊥) → Tied (slice_set ts t Signalled) fs
  signalled_plain t none = record {
    resumes = λ u g is. was_resumed u g (read_set ts t u Signalled (Awaiting (Resume g)) is);
    awaited = λ u g waits.
        let was : Resumes ts u g = tied.awaited u g waits in
        slice_get-set_other ts t u Signalled (λ same. none g (ap (slice_get ts) (sym same) ∙ was)) ∙ was;
  } where
    was_resumed : (u g : ℕ) → ((u ≡ t) × (Signalled ≡ Awaiting (Resume g))) ⊎ ((u ≢ t) × (slice_get ts u ≡ Some (Awaiting (Resume g)))) → Waits fs g u
    was_resumed u g (inl here) = let no : Signalled ≡ Awaiting (Resume g) = here.1 in absurd cc
    was_resumed u g (inr there) = tied.resumes u g there.1

  -- one that resumes a fiber
  module _ (t f : ℕ) (awaits : slice_get ts t ≡ Some (Awaiting (Resume f))) where
    resumes_still : (u g : ℕ) → ((u ≡ t) × (Signalled ≡ Awaiting (Resume g))) ⊎ ((u ≢ t) × (slice_get ts u ≡ Some (Awaiting (Resume g)))) → Waits (slice_set fs (f - 1) Live) g u
    resumes_still u g (inl here) = let no : Signalled ≡ Awaiting (Resume g) = here.1 in absurd cc
    resumes_still u g (inr there) =
        let was = tied.resumes u g there.1 in
        let mine = tied.resumes t f awaits in
        let apart : g - 1 ≢ f - 1 = λ same.
        let both : Some (Suspended u) ≡ Some (Suspended t) = sym was.state ∙ (ap (slice_get fs) same ∙ mine.state) in
        let at : u ≡ t = cc in
        there.0 at in
        record { made = was.made; state = slice_get-set_other fs (f - 1) (g - 1) Live apart ∙ was.state }

    awaited_still : (u g : ℕ) → 0 < g → ((g - 1 ≡ f - 1) × (Live ≡ Suspended u)) ⊎ ((g - 1 ≢ f - 1) × (slice_get fs (g - 1) ≡ Some (Suspended u))) → Resumes (slice_set ts t Signalled) u g
    awaited_still u g there (inl here) = let no : Live ≡ Suspended u = here.1 in absurd cc
    awaited_still u g there (inr other) =
        let was : Resumes ts u g = tied.awaited u g (record { made = there; state = other.1 }) in
        let apart : u ≢ t = λ same.
        let both : Some (Awaiting (Resume g)) ≡ Some (Awaiting (Resume f)) = sym was ∙ (ap (slice_get ts) same ∙ awaits) in
        let one : g ≡ f = cc in
        other.0 (ap (λ (n : ℕ). n - 1) one) in
        slice_get-set_other ts t u Signalled apart ∙ was

    signalled_acts : Tied (slice_set ts t Signalled) (slice_set fs (f - 1) Live)
    signalled_acts = record {
      resumes = λ u g is. resumes_still u g (read_set ts t u Signalled (Awaiting (Resume g)) is);
      awaited = λ u g waits. awaited_still u g waits.made (read_set fs (f - 1) (g - 1) Live (Suspended u) waits.state);
    }

-- ---- calls

tied_arm : (w : State) (f t : ℕ) (s : Option TrigState) → slice_get w.triggers t ≡ s → IsLive w f → Tied w.triggers w.fibers → Tied (triggers_after w (Arm t (Resume f))) (fibers_after w f (Arm t (Resume f)))
tied_arm w f t None is live tied = rw is tied
tied_arm w f t (Some Initial) is live tied = rw is (begins_to_wait w.triggers w.fibers tied f t live.made live.live is)
tied_arm w f t (Some (Awaiting action)) is live tied = rw is tied
tied_arm w f t (Some Signalled) is live tied = rw is tied

tied_signal : (w : State) (f t : ℕ) (s : Option TrigState) → slice_get w.triggers t ≡ s → Tied w.triggers w.fibers → Tied (triggers_after w (call.Signal t)) (fibers_after w f (call.Signal t))
tied_signal w f t None is tied = rw is (signalled_plain w.triggers w.fibers tied t (λ g resumes. let both : None ≡ Some (Awaiting (Resume g)) = sym is ∙ resumes in cc))
tied_signal w f t (Some Initial) is tied = rw is (signalled_plain w.triggers w.fibers tied t (λ g resumes. let both : Some Initial ≡ Some (Awaiting (Resume g)) = sym is ∙ resumes in cc))
tied_signal w f t (Some (Awaiting (Resume h))) is tied = rw is (signalled_acts w.triggers w.fibers tied t h is)
tied_signal w f t (Some Signalled) is tied = rw is (signalled_plain w.triggers w.fibers tied t (λ g resumes. let both : Some Signalled ≡ Some (Awaiting (Resume g)) = sym is ∙ resumes in cc))

tied_parts : (w : State) (f : ℕ) (call : Call) → Allowed w f call → Tied w.triggers w.fibers → Tied (triggers_after w call) (fibers_after w f call)
tied_parts w f NewTrigger allowed tied = more_triggers w.triggers w.fibers tied (_)
tied_parts w f (Arm t (Resume g)) allowed tied =
    subst (λ (n : ℕ). Tied (triggers_after w (Arm t (Resume n))) (fibers_after w f (Arm t (Resume n)))) (sym allowed.own)
    (tied_arm w f t (slice_get w.triggers t) refl (caller_is_live w f (Arm t (Resume g)) allowed tt) tied)
tied_parts w f (call.Signal t) allowed tied = tied_signal w f t (slice_get w.triggers t) refl tied
tied_parts w f (Fork text value) allowed tied = more_fibers w.triggers w.fibers tied (has_room w)
tied_parts w f (End o) allowed tied = ends w.triggers w.fibers tied f o (caller_is_live w f (End o) allowed tt).live
tied_parts w f call allowed tied = tied

-- ---- worlds

of_lists : (w : State) → Tied w.triggers w.fibers → IsTied w
of_lists w tied = record {
  resumes = λ t f is. let waits = tied.resumes t f is in record { made = waits.made; state = waits.state };
  awaited = λ t f waits. tied.awaited t f (record { made = waits.made; state = waits.state });
}

to_lists : (w : State) → IsTied w → Tied w.triggers w.fibers
to_lists w tied = record {
  resumes = λ t f is. let waits = tied.resumes t f is in record { made = waits.made; state = waits.state };
  awaited = λ t f waits. tied.awaited t f (record { made = waits.made; state = waits.state });
}

pub tied_after : (w : State) (f : ℕ) (call : Call) → Allowed w f call → IsTied w → IsTied (after w f call)
tied_after w f call allowed tied = of_lists (after w f call) (tied_parts w f call allowed (to_lists w tied))

-- in each world that a legal history leads to
pub always_tied : (origin : Origin) (hs : List Happened) → IsTied origin.world → IsLegal origin hs → IsTied (world origin hs)
always_tied origin hs tied legal = lasts_from IsTied tied_after origin.world hs (steps origin hs legal) tied

-- at a start nobody waits
none_awaits : (n t f : ℕ) → slice_get (replicate n Initial) t ≡ Some (Awaiting (Resume f)) → ⊥
none_awaits zero t f is = cc
none_awaits (suc n) zero f is = cc
none_awaits (suc n) (suc t) f is = none_awaits n t f is

main_waits : (place t : ℕ) → slice_get (Live ∷ []) place ≡ Some (Suspended t) → ⊥
main_waits zero t is = cc
main_waits (suc place) t is = cc

pub none_waits : (start : Start) (f t : ℕ) → IsSuspended (world_at start) f t → ⊥
none_waits start f t waits = main_waits (f - 1) t waits.state

pub start_tied : (start : Start) → IsTied (world_at start)
start_tied start = record {
  resumes = λ t f is. absurd (none_awaits start.triggers t f is);
  awaited = λ t f waits. absurd (none_waits start f t waits);
}

pub starts_tied : (w : State) → IsStart w → IsTied w
starts_tied w start = subst IsTied (sym start.is) (start_tied start.start)
