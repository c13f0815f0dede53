-- What one step leaves as it was: what stands, and what other fibers are and owe.
use Rattle.std.proofs.Common.{◌≡◌, ◌≢◌, ℕ, ◌+◌, ◌-◌, ◌<◌, ◌≤◌, inl, inr, cond, nat_lt, Bool, true, false, List, [], ◌∷◌, ◌++◌, length, slice_get, Option, Some, refl, sym, subst, ◌∙◌, arith}
use Rattle.std.proofs.lemmas.List.{get_or-set_other, get_or-set_same, length-append, length-replicate, length-set}
use Rattle.std.proofs.lemmas.Bool.Decides.{nat_tests}
use Rattle.pic_base.specs.declared.action.Action.{Action}
use Rattle.pic_base.specs.declared.action.Action.TheVariants.{Resume}
use Rattle.pic_base.specs.declared.duty.Duty.{Duty}
use Rattle.pic_base.specs.declared.outcome.Outcome.{Outcome}
use Rattle.pic_machine.specs.declared.state.CompState.{CompState}
use Rattle.pic_machine.specs.declared.state.CompState.TheVariants.{Running, Done}
use Rattle.pic_machine.specs.declared.state.FiberState.{FiberState}
use Rattle.pic_machine.specs.declared.state.FiberState.TheVariants.{Live, Suspended, Ended}
use Rattle.pic_machine.specs.declared.state.TrigState.{TrigState}
use Rattle.pic_machine.specs.declared.state.TrigState.TheVariants.{Initial, Awaiting, Signalled}
use Rattle.pic_machine.specs.declared.entry.Call.{Call}
use Rattle.pic_machine.specs.declared.entry.Call.TheVariants as call
use Rattle.pic_machine.specs.declared.entry.Call.TheVariants.{NewTrigger, NewPlace, Look, Arm, Attach, Complete, Peek, Fork, End}
use Rattle.pic_machine.specs.declared.world.Start.{Start}
use Rattle.pic_machine.specs.State.{CanStart, State, owed_of, world_at}
use Rattle.pic_machine.specs.Duty.{BringsNone, ClockMakes, DutiesAllow, LeavesDuties, fulfilled, followed}
use Rattle.pic_machine.specs.Step.{Allowed, IsLive, MakesNoFiber, MayAct, NamesStand, after, comps_after, fibers_after, grown, has_room, places_after, resumed, triggers_after, waiting, with_action, with_attached, with_outcome, with_signals, with_waiting}
use Rattle.pic_machine.proofs.Callers.{not_clock}
use Rattle.pic_machine.proofs.Lists.{grown_get, grown_owed, grown_stays, nothing_written, slice_get-set_keeps, slice_get-set_other}

-- ---- what stands

length-attached : (comps : List CompState) (c t : ℕ) (s : Option CompState) → length (with_attached comps c t s) ≡ length comps
length-attached comps c t (Some (Running triggers)) = length-set comps c (Running (triggers ++ t ∷ []))
length-attached comps c t _ = refl

length-outcome : (comps : List CompState) (c : ℕ) (o : Outcome) (s : Option CompState) → length (with_outcome comps c o s) ≡ length comps
length-outcome comps c o (Some (Running triggers)) = length-set comps c (Done o)
length-outcome comps c o _ = refl

-- no step makes a computation yet, and none takes one away
pub length-comps : (w : State) (call : Call) → length (comps_after w call) ≡ length w.comps
length-comps w (Attach p c t) = length-attached w.comps c t (slice_get w.comps c)
length-comps w (Complete c o) = length-outcome w.comps c o (slice_get w.comps c)
length-comps w _ = refl

length-action : (triggers : List TrigState) (t : ℕ) (action : Action) (s : Option TrigState) → length (with_action triggers t action s) ≡ length triggers
length-action triggers t action (Some Initial) = length-set triggers t (Awaiting action)
length-action triggers t action _ = refl

-- no step takes a trigger away
pub triggers_stay : (w : State) (call : Call) → length w.triggers ≤ length (triggers_after w call)
triggers_stay w NewTrigger = grown_stays (nat_lt (length w.triggers) w.limits.triggers) w.triggers Initial
triggers_stay w (Arm t action) = omega (arith, length-action w.triggers t action (slice_get w.triggers t))
triggers_stay w (call.Signal t) = omega (arith, length-set w.triggers t Signalled)
triggers_stay w _ = omega arith

place_stays : (room : Bool) (n : ℕ) → n ≤ cond room (n + 1) n
place_stays true n = omega arith
place_stays false n = omega arith

-- and none a place
pub places_stay : (w : State) (call : Call) → w.places ≤ places_after w call
places_stay w NewPlace = place_stays (nat_lt w.places w.limits.places) w.places
places_stay w _ = omega arith

pub names_after : (w : State) (g : ℕ) (other call : Call) → NamesStand w call → NamesStand (after w g other) call
names_after w g other (Look t) stand = omega (arith, stand, triggers_stay w other)
names_after w g other (Arm t action) stand = omega (arith, stand, triggers_stay w other)
names_after w g other (call.Signal t) stand = omega (arith, stand, triggers_stay w other)
names_after w g other (Attach p c t) stand = (
  omega (arith, stand.0, places_stay w other),
  omega (arith, stand.1, length-comps w other),
  omega (arith, stand.2, triggers_stay w other),
)
names_after w g other (Complete c o) stand = omega (arith, stand, length-comps w other)
names_after w g other (Peek c) stand = omega (arith, stand, length-comps w other)
names_after w g other _ stand = tt

-- ---- fibers

length-waiting : (fibers : List FiberState) (f t : ℕ) (action : Action) → length (waiting fibers f t action) ≡ length fibers
length-waiting fibers f t (Resume g) = length-set fibers (f - 1) (Suspended t)

length-with_waiting : (fibers : List FiberState) (f t : ℕ) (action : Action) (s : Option TrigState) → length (with_waiting fibers f t action s) ≡ length fibers
length-with_waiting fibers f t action (Some Initial) = length-waiting fibers f t action
length-with_waiting fibers f t action _ = refl

length-resumed : (fibers : List FiberState) (s : Option TrigState) → length (resumed fibers s) ≡ length fibers
length-resumed fibers (Some (Awaiting (Resume g))) = length-set fibers (g - 1) Live
length-resumed fibers _ = refl

-- only a fork makes a fiber
pub length-fibers : (w : State) (f : ℕ) (call : Call) → MakesNoFiber call → length (fibers_after w f call) ≡ length w.fibers
length-fibers w f (Arm t action) none = length-with_waiting w.fibers f t action (slice_get w.triggers t)
length-fibers w f (call.Signal t) none = length-resumed w.fibers (slice_get w.triggers t)
length-fibers w f (Fork text value) none = absurd none
length-fibers w f (End o) none = length-set w.fibers (f - 1) (Ended o)
length-fibers w f _ none = refl

-- no step takes a fiber away
pub fibers_stay : (w : State) (f : ℕ) (call : Call) → length w.fibers ≤ length (fibers_after w f call)
fibers_stay w f (Fork text value) = grown_stays (has_room w) w.fibers Live
fibers_stay w f call = omega (arith, length-fibers w f call tt)

-- the calls that neither end nor suspend a fiber
abbrev pub EndsNone : Call → Type 0
EndsNone (Arm t action) = ⊥
EndsNone (End o) = ⊥
EndsNone _ = Unit {0}

resumed_live : (fibers : List FiberState) (place : ℕ) (s : Option TrigState) → slice_get fibers place ≡ Some Live → slice_get (resumed fibers s) place ≡ Some Live
resumed_live fibers place (Some (Awaiting (Resume g))) is = slice_get-set_keeps fibers (g - 1) place Live is
resumed_live fibers place _ is = is

lives_unless : (w : State) (g : ℕ) (call : Call) (place : ℕ) → EndsNone call → slice_get w.fibers place ≡ Some Live → slice_get (fibers_after w g call) place ≡ Some Live
lives_unless w g (Arm t action) place none is = absurd none
lives_unless w g (call.Signal t) place none is = resumed_live w.fibers place (slice_get w.triggers t) is
lives_unless w g (Fork text value) place none is = grown_get (has_room w) w.fibers Live place Live is
lives_unless w g (End o) place none is = absurd none
lives_unless w g _ place none is = is

-- a live fiber stays live while none ends or waits
pub live_unless : (w : State) (g : ℕ) (call : Call) (f : ℕ) → EndsNone call → IsLive w f → IsLive (after w g call) f
live_unless w g call f none live = record { made = live.made; live = lives_unless w g call (f - 1) none live.live }

waiting_other : (fibers : List FiberState) (g t : ℕ) (action : Action) (place : ℕ) → place ≢ g - 1 → slice_get (waiting fibers g t action) place ≡ slice_get fibers place
waiting_other fibers g t (Resume h) place other = slice_get-set_other fibers (g - 1) place (Suspended t) other

with_waiting_other : (fibers : List FiberState) (g t : ℕ) (action : Action) (s : Option TrigState) (place : ℕ) → place ≢ g - 1 → slice_get (with_waiting fibers g t action s) place ≡ slice_get fibers place
with_waiting_other fibers g t action (Some Initial) place other = waiting_other fibers g t action place other
with_waiting_other fibers g t action _ place other = refl

-- another fiber's place
other_place : (w : State) (g f : ℕ) → g ≢ 0 → g ≢ f → IsLive w f → f - 1 ≢ g - 1
other_place w g f acts other live = λ same. other (omega (arith, same, live.made, acts))

-- and while others act, who end or wait themselves alone
pub live_after : (w : State) (g : ℕ) (call : Call) (f : ℕ) → Allowed w g call → g ≢ f → IsLive w f → IsLive (after w g call) f
live_after w g (Arm t action) f allowed other live =
    let apart = other_place w g f (not_clock w g (Arm t action) allowed tt) other live in
    record { made = live.made; live = with_waiting_other w.fibers g t action (slice_get w.triggers t) (f - 1) apart ∙ live.live }
live_after w g (End o) f allowed other live =
    let apart = other_place w g f (not_clock w g (End o) allowed tt) other live in
    record { made = live.made; live = slice_get-set_other w.fibers (g - 1) (f - 1) (Ended o) apart ∙ live.live }
live_after w g call f allowed other live = live_unless w g call f tt live

-- a fiber that may act may still act after a call of its own that neither ends nor suspends it
pub acts_own : (w : State) (f : ℕ) (call : Call) → EndsNone call → MayAct w f → MayAct (after w f call) f
acts_own w f call none (inl clock) = inl clock
acts_own w f call none (inr live) = inr (live_unless w f call f none live)

-- and after it found a trigger that isn't initial any more
pub acts_armed : (w : State) (f t : ℕ) (action : Action) → slice_get w.triggers t ≢ Some Initial → MayAct w f → MayAct (after w f (Arm t action)) f
acts_armed w f t action met (inl clock) = inl clock
acts_armed w f t action met (inr live) = inr (record { made = live.made; live = one_on (slice_get w.triggers t) met }) where
  one_on : (s : Option TrigState) → s ≢ Some Initial → slice_get (with_waiting w.fibers f t action s) (f - 1) ≡ Some Live
  one_on (Some Initial) met = absurd (met refl)
  one_on _ met = live.live

pub acts_after : (w : State) (g : ℕ) (call : Call) (f : ℕ) → Allowed w g call → g ≢ f → MayAct w f → MayAct (after w g call) f
acts_after w g call f allowed other (inl clock) = inl clock
acts_after w g call f allowed other (inr live) = inr (live_after w g call f allowed other live)

-- ---- duties

-- a call changes what its own fiber owes, and no other's duties
pub owed_other : (w : State) (g : ℕ) (call : Call) (f : ℕ) → g ≢ f → owed_of (after w g call) f ≡ owed_of w f
owed_other w g (call.Signal t) f other = get_or-set_other w.owed g f (fulfilled (owed_of w g)) [] (λ same. other (sym same))
owed_other w g (Complete c o) f other = get_or-set_other w.owed g f (with_signals (slice_get w.comps c) (fulfilled (owed_of w g))) [] (λ same. other (sym same))
owed_other w g (Peek c) f other = get_or-set_other w.owed g f (followed (owed_of w g) (slice_get w.comps c)) [] (λ same. other (sym same))
owed_other w g (Fork text value) f other = grown_owed (has_room w) w.owed f
owed_other w g _ f other = refl

-- what its own fiber owes behind it
abbrev pub owes_then : State → ℕ → Call → List Duty
owes_then w f (call.Signal t) = fulfilled (owed_of w f)
owes_then w f (Complete c o) = with_signals (slice_get w.comps c) (fulfilled (owed_of w f))
owes_then w f (Peek c) = followed (owed_of w f) (slice_get w.comps c)
owes_then w f _ = owed_of w f

pub owed_own : (w : State) (f : ℕ) (call : Call) → f < length w.owed → owed_of (after w f call) f ≡ owes_then w f call
owed_own w f (call.Signal t) within = get_or-set_same w.owed f (fulfilled (owed_of w f)) [] within
owed_own w f (Complete c o) within = get_or-set_same w.owed f (with_signals (slice_get w.comps c) (fulfilled (owed_of w f))) [] within
owed_own w f (Peek c) within = get_or-set_same w.owed f (followed (owed_of w f) (slice_get w.comps c)) [] within
owed_own w f (Fork text value) within = grown_owed (has_room w) w.owed f
owed_own w f _ within = refl

-- a call that neither fulfils a duty nor brings one changes nobody's duties
pub owed_left : (w : State) (g : ℕ) (call : Call) (f : ℕ) → LeavesDuties call → owed_of (after w g call) f ≡ owed_of w f
owed_left w g (call.Signal t) f leaves = absurd leaves
owed_left w g (Complete c o) f leaves = absurd leaves
owed_left w g (Peek c) f leaves = absurd leaves
owed_left w g (Fork text value) f leaves = grown_owed (has_room w) w.owed f
owed_left w g _ f leaves = refl

-- whoever owes nothing owes nothing behind a call of its own that brings it no duty
pub free_after : (w : State) (f : ℕ) (call : Call) → BringsNone call → owed_of w f ≡ [] → owed_of (after w f call) f ≡ []
free_after w f (call.Signal t) brings none = nothing_written w.owed f (fulfilled (owed_of w f)) (rw none refl) none
free_after w f (Complete c o) brings none = absurd brings
free_after w f (Peek c) brings none = nothing_written w.owed f (followed (owed_of w f) (slice_get w.comps c)) (rw none refl) none
free_after w f (Fork text value) brings none = grown_owed (has_room w) w.owed f ∙ none
free_after w f _ brings none = none

-- what a fiber may make it may make while others act
pub allowed_after : (w : State) (g : ℕ) (other : Call) (f : ℕ) (call : Call) → Allowed w g other → g ≢ f → Allowed w f call → Allowed (after w g other) f call
allowed_after w g other f call theirs apart mine =
    let same : owed_of w f ≡ owed_of (after w g other) f = sym (owed_other w g other f apart) in
    record {
      caller = acts_after w g other f theirs apart mine.caller;
      clock = λ zero_is. subst (λ (ds : List Duty). ClockMakes ds call) same (mine.clock zero_is);
      duties = subst (λ (ds : List Duty). DutiesAllow ds call) same mine.duties;
      names = names_after w g other call mine.names;
      own = mine.own;
    }

-- ---- limits

-- there are at most as many things of each kind as there may be
pub record IsWithin (w : State) : Type 0 where
  pub triggers : length w.triggers ≤ w.limits.triggers
  pub comps : length w.comps ≤ w.limits.comps
  pub fibers : length w.fibers ≤ w.limits.fibers
  pub places : w.places ≤ w.limits.places

grown_within : {A : Type 0} (xs : List A) (x : A) (limit : ℕ) (room : Bool) → nat_lt (length xs) limit ≡ room → length xs ≤ limit → length (grown room xs x) ≤ limit
grown_within xs x limit true room within =
    let less : length xs < limit = grind (arith, nat_tests, room) in
    omega (arith, less, length-append xs (x ∷ []))
grown_within xs x limit false room within = within

place_within : (n limit : ℕ) (room : Bool) → nat_lt n limit ≡ room → n ≤ limit → cond room (n + 1) n ≤ limit
place_within n limit true room within =
    let less : n < limit = grind (arith, nat_tests, room) in
    omega (arith, less)
place_within n limit false room within = within

triggers_within : (w : State) (call : Call) → length w.triggers ≤ w.limits.triggers → length (triggers_after w call) ≤ w.limits.triggers
triggers_within w NewTrigger within = grown_within w.triggers Initial w.limits.triggers (nat_lt (length w.triggers) w.limits.triggers) refl within
triggers_within w (Arm t action) within = omega (arith, within, length-action w.triggers t action (slice_get w.triggers t))
triggers_within w (call.Signal t) within = omega (arith, within, length-set w.triggers t Signalled)
triggers_within w _ within = within

fibers_within : (w : State) (f : ℕ) (call : Call) → length w.fibers ≤ w.limits.fibers → length (fibers_after w f call) ≤ w.limits.fibers
fibers_within w f (Fork text value) within = grown_within w.fibers Live w.limits.fibers (has_room w) refl within
fibers_within w f call within = omega (arith, within, length-fibers w f call tt)

places_within : (w : State) (call : Call) → w.places ≤ w.limits.places → places_after w call ≤ w.limits.places
places_within w NewPlace within = place_within w.places w.limits.places (nat_lt w.places w.limits.places) refl within
places_within w _ within = within

pub within_after : (w : State) (f : ℕ) (call : Call) → IsWithin w → IsWithin (after w f call)
within_after w f call within = record {
  triggers = triggers_within w call within.triggers;
  comps = omega (arith, within.comps, length-comps w call);
  fibers = fibers_within w f call within.fibers;
  places = places_within w call within.places;
}

pub start_within : (start : Start) → CanStart start → IsWithin (world_at start)
start_within start can = record {
  triggers = omega (arith, can.triggers, length-replicate start.triggers Initial);
  comps = omega (arith, can.comps, length-replicate start.comps (Running []));
  fibers = can.main;
  places = omega arith;
}

-- no further thing may be made exactly where there are as many as there may be
pub full_at_limit : (count limit : ℕ) → count ≤ limit → nat_lt count limit ≡ false → count ≡ limit
full_at_limit count limit within room =
    let not_less : limit ≤ count = grind (arith, nat_tests, room) in
    omega (arith, within, not_less)
