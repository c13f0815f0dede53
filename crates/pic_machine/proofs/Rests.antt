-- Whoever isn't live owes nothing, and neither does the clock: so a world without a live fiber is final.
use Rattle.std.proofs.Common.{◌≡◌, ◌≢◌, ◌⊎◌, ℕ, zero, suc, ◌+◌, ◌-◌, ◌<◌, ◌≤◌, inl, inr, eqb, true, false, Option, Some, None, List, [], ◌∷◌, length, slice_index_or, slice_get, refl, sym, ap, subst, ◌∙◌, arith}
use Rattle.std.specs.Prelude.{All}
use Rattle.std.proofs.Math.ListN.{get_or-eq_default}
use Rattle.std.proofs.lemmas.Bool.Decides.{eqb_tells}
use Rattle.std.proofs.lemmas.Option.{get_or_from_slice_get, slice_get-get_or}
use Rattle.pic_base.specs.declared.action.Action.{Action}
use Rattle.pic_base.specs.declared.duty.Duty.{Duty}
use Rattle.pic_base.specs.declared.duty.Duty.TheVariants.{Signal, Follow, Cancel, Return}
use Rattle.pic_base.specs.declared.outcome.Outcome.{Outcome}
use Rattle.pic_machine.specs.declared.entry.Call.{Call}
use Rattle.pic_machine.specs.declared.entry.Call.TheVariants as call
use Rattle.pic_machine.specs.declared.entry.Call.TheVariants.{Arm, Complete, End, Peek}
use Rattle.pic_machine.specs.declared.state.FiberState.{FiberState}
use Rattle.pic_machine.specs.declared.state.FiberState.TheVariants.{Live, Suspended, Ended}
use Rattle.pic_machine.specs.declared.world.Start.{Start}
use Rattle.pic_machine.specs.Happened.{Happened}
use Rattle.pic_machine.specs.State.{IsStart, State, owed_of, world_at}
use Rattle.pic_machine.specs.Duty.{ClockMakes, DutiesAllow, Fulfils, LeavesDuties}
use Rattle.pic_machine.specs.Final.{IsFinal}
use Rattle.pic_machine.specs.Step.{Allowed, IsLive, after}
use Rattle.pic_machine.specs.History.{Origin, IsLegal, world}
use Rattle.pic_machine.specs.Suspending.{IsTied}
use Rattle.pic_machine.proofs.Callers.{live_of}
use Rattle.pic_machine.proofs.Counts.{counts_after}
use Rattle.pic_machine.proofs.Fates.{steps}
use Rattle.pic_machine.proofs.Finals.{all_at_rest}
use Rattle.pic_machine.proofs.Lasting.{lasts_from}
use Rattle.pic_machine.proofs.Steps.{live_after, live_unless, owed_other}
use Rattle.pic_machine.proofs.Suspensions.{always_tied, starts_tied}

-- each fiber has a list of duties beside the clock's, and only live ones owe anything
pub record IsRested (w : State) : Type 0 where
  pub counts : length w.owed ≡ length w.fibers + 1
  pub clock : owed_of w 0 ≡ []
  pub fibers : (place : ℕ) (s : FiberState) → slice_get w.fibers place ≡ Some s → s ≢ Live → owed_of w (suc place) ≡ []

-- ---- one call

clock_rests : (w : State) (g : ℕ) (call : Call) → IsRested w → Allowed w g call → g ≢ 0
clock_rests w g call rested allowed is = subst (λ (ds : List Duty). ClockMakes ds call) (ap (owed_of w) is ∙ rested.clock) (allowed.clock is)

-- no duty asks for a call that neither fulfils one nor brings one
asked_by_none : (duty : Duty) (call : Call) → LeavesDuties call → Fulfils duty call → ⊥
asked_by_none (Signal t) (call.Signal u) leaves fulfils = leaves
asked_by_none (Follow from into) (Peek c) leaves fulfils = leaves
asked_by_none (Cancel into code) (Complete c o) leaves fulfils = leaves
asked_by_none (Return into branch) (Complete c o) leaves fulfils = leaves
asked_by_none duty call leaves fulfils = fulfils

-- whoever waits or ends owes nothing
pub arms_nothing : (ds : List Duty) (t : ℕ) (action : Action) → DutiesAllow ds (Arm t action) → ds ≡ []
arms_nothing [] t action allow = refl
arms_nothing (duty ∷ ds) t action allow = absurd (asked_by_none duty (Arm t action) tt allow)

ends_nothing : (ds : List Duty) (o : Outcome) → DutiesAllow ds (End o) → ds ≡ []
ends_nothing [] o allow = refl
ends_nothing (duty ∷ ds) o allow = absurd (asked_by_none duty (End o) tt allow)

own_rests : (w : State) (f : ℕ) (call : Call) (place : ℕ) (s : FiberState) → f ≡ suc place → Allowed w f call → IsLive w f → slice_get (after w f call).fibers place ≡ Some s → s ≢ Live → owed_of (after w f call) f ≡ []
own_rests w f (Arm t action) place s at allowed live is rests = arms_nothing (owed_of w f) t action allowed.duties
own_rests w f (End o) place s at allowed live is rests = ends_nothing (owed_of w f) o allowed.duties
own_rests w f call place s at allowed live is rests =
    let still = live_unless w f call f tt live in
    let here : f - 1 ≡ place = omega (arith, at) in
    let both : Some Live ≡ Some s = sym still.live ∙ (ap (slice_get (after w f call).fibers) here ∙ is) in
    let same : s ≡ Live = cc in
    absurd (rests same)

none_past : {A : Type 0} (xs : List A) (i : ℕ) → slice_get xs i ≡ None → length xs ≤ i
none_past [] i is = omega arith
none_past (x ∷ xs) zero is = absurd cc
none_past (x ∷ xs) (suc i) is = omega (arith, none_past xs i is)

other_rests : (w : State) (g : ℕ) (call : Call) (place : ℕ) (s : FiberState) (before : Option FiberState) → slice_get w.fibers place ≡ before → IsRested w → Allowed w g call → g ≢ suc place
    → slice_get (after w g call).fibers place ≡ Some s → s ≢ Live → owed_of w (suc place) ≡ []
other_rests w g call place s None was rested allowed other is rests = get_or-eq_default w.owed [] (omega (arith, rested.counts, none_past w.fibers place was))
other_rests w g call place s (Some Live) was rested allowed other is rests =
    let here : place ≡ suc place - 1 = omega arith in
    let live : IsLive w (suc place) = record { made = omega arith; live = ap (slice_get w.fibers) (sym here) ∙ was } in
    let still = live_after w g call (suc place) allowed other live in
    let both : Some Live ≡ Some s = sym still.live ∙ (ap (slice_get (after w g call).fibers) (sym here) ∙ is) in
    let same : s ≡ Live = cc in
    absurd (rests same)
other_rests w g call place s (Some (Suspended t)) was rested allowed other is rests = rested.fibers place (Suspended t) was (λ same. cc)
other_rests w g call place s (Some (Ended o)) was rested allowed other is rests = rested.fibers place (Ended o) was (λ same. cc)

rests_by : (w : State) (g : ℕ) (call : Call) (place : ℕ) (s : FiberState) → IsRested w → Allowed w g call → slice_get (after w g call).fibers place ≡ Some s → s ≢ Live
    → ((eqb g (suc place) ≡ true) × (g ≡ suc place)) ⊎ ((eqb g (suc place) ≡ false) × (g ≢ suc place)) → owed_of (after w g call) (suc place) ≡ []
rests_by w g call place s rested allowed is rests (inl mine) =
    ap (owed_of (after w g call)) (sym mine.1) ∙ own_rests w g call place s mine.1 allowed (live_of w g allowed.caller (clock_rests w g call rested allowed)) is rests
rests_by w g call place s rested allowed is rests (inr other) =
    owed_other w g call (suc place) other.1 ∙ other_rests w g call place s (slice_get w.fibers place) refl rested allowed other.1 is rests

pub rested_after : (w : State) (g : ℕ) (call : Call) → Allowed w g call → IsRested w → IsRested (after w g call)
rested_after w g call allowed rested = record {
  counts = counts_after w g call rested.counts;
  clock = owed_other w g call 0 (clock_rests w g call rested allowed) ∙ rested.clock;
  fibers = λ place s is rests. rests_by w g call place s rested allowed is rests (eqb_tells g (suc place));
}

-- ---- worlds

pub always_rested : (origin : Origin) (hs : List Happened) → IsRested origin.world → IsLegal origin hs → IsRested (world origin hs)
always_rested origin hs rested legal = lasts_from IsRested rested_after origin.world hs (steps origin hs legal) rested

start_quiet : (start : Start) (place : ℕ) → owed_of (world_at start) (suc place) ≡ []
start_quiet start zero = refl
start_quiet start (suc zero) = refl
start_quiet start (suc (suc place)) = refl

pub start_rested : (start : Start) → IsRested (world_at start)
start_rested start = record { counts = refl; clock = refl; fibers = λ place s is rests. start_quiet start place }

-- what is read in range doesn't depend on the default
same_default : (ds : List (List Duty)) (i : ℕ) (e : List Duty) → i < length ds → slice_index_or ds i [] ≡ slice_index_or ds i e
same_default ds i e inside = get_or_from_slice_get ds i (slice_index_or ds i e) [] (slice_get-get_or ds i e inside)

owes_none : (w : State) (k : ℕ) (d : List Duty) → IsRested w → All (λ fiber. fiber ≢ Live) w.fibers → k < length w.owed → slice_index_or w.owed k d ≡ []
owes_none w zero d rested none within =
    sym (same_default w.owed zero d within) ∙ rested.clock
owes_none w (suc place) d rested none within =
    let inside : place < length w.fibers = omega (arith, within, rested.counts) in
    let there = slice_get-get_or w.fibers place Live inside in
    sym (same_default w.owed (suc place) d within) ∙ rested.fibers place (slice_index_or w.fibers place Live) there (none place Live inside)

pub final_when : (w : State) → IsTied w → IsRested w → All (λ fiber. fiber ≢ Live) w.fibers → IsFinal w
final_when w tied rested none = record { rest = all_at_rest w tied none; owed = λ k d within. owes_none w k d rested none within }

pub starts_rested : (w : State) → IsStart w → IsRested w
starts_rested w start = subst IsRested (sym start.is) (start_rested start.start)

-- from a start on, nothing is left to do as soon as no fiber is live
pub final_unless_live : (origin : Origin) (hs : List Happened) → IsStart origin.world → IsLegal origin hs → All (λ fiber. fiber ≢ Live) (world origin hs).fibers → IsFinal (world origin hs)
final_unless_live origin hs start legal none =
    final_when (world origin hs) (always_tied origin hs (starts_tied origin.world start) legal) (always_rested origin hs (starts_rested origin.world start) legal) none
