-- How often fibers wait: each trigger is armed from Initial once, so no more often than there are triggers.
use Rattle.std.proofs.Common.{◌≡◌, ℕ, zero, suc, ◌+◌, ◌<◌, ◌≤◌, cond, nat_lt, Bool, true, false, Option, Some, None, List, [], ◌∷◌, ◌++◌, length, filter, slice_get, slice_set, refl, ap, arith}
use Rattle.pic_base.specs.declared.action.Action.{Action}
use Rattle.pic_base.specs.declared.action.Action.TheVariants.{Resume}
use Rattle.pic_base.specs.declared.limits.Limits.{Limits}
use Rattle.pic_machine.specs.declared.state.TrigState.{TrigState}
use Rattle.pic_machine.specs.declared.state.TrigState.TheVariants.{Initial, Awaiting, Signalled}
use Rattle.pic_machine.specs.declared.entry.ArmReply.TheVariants.{Set}
use Rattle.pic_machine.specs.declared.entry.Call.{Call}
use Rattle.pic_machine.specs.declared.entry.Call.TheVariants as call
use Rattle.pic_machine.specs.declared.entry.Call.TheVariants.{Yield, NewTrigger, Arm, End}
use Rattle.pic_machine.specs.declared.entry.Reply.{Reply}
use Rattle.pic_machine.specs.declared.entry.Reply.TheVariants.{Armed}
use Rattle.pic_machine.specs.Happened.{Happened}
use Rattle.pic_machine.specs.State.{State}
use Rattle.pic_machine.specs.Step.{Allowed, after, armed, grown, reply_of, triggers_after, with_action}
use Rattle.pic_machine.specs.History.{Origin, IsLegal, world, world_from}
use Rattle.pic_machine.specs.Order.{stops, turns_over}
use Rattle.pic_machine.proofs.Fates.{AreSteps, steps}
use Rattle.pic_machine.proofs.Lists.{nothing_there}
use Rattle.pic_machine.proofs.Steps.{IsWithin, within_after}

-- ---- limits

pub world_within : (w : State) (hs : List Happened) → IsWithin w → IsWithin (world_from w hs)
world_within w [] within = within
world_within w (h ∷ hs) within = world_within (after w h.entry.fiber h.entry.call) hs (within_after w h.entry.fiber h.entry.call within)

pub world_limits : (w : State) (hs : List Happened) → (world_from w hs).limits ≡ w.limits
world_limits w [] = refl
world_limits w (h ∷ hs) = world_limits (after w h.entry.fiber h.entry.call) hs

-- ---- waits

-- the entries by which fibers come to wait
abbrev parks : Call → Reply → Bool
parks (Arm t (Resume g)) (Armed Set) = true
parks _ _ = false

abbrev parks_over : List Happened → ℕ
parks_over hs = length (filter (λ h. parks h.entry.call h.entry.reply) hs)

abbrev one_if : Bool → ℕ
one_if b = cond b 1 0

counted_first : (test : Happened → Bool) (h : Happened) (hs : List Happened) (b : Bool) → test h ≡ b → length (filter test (h ∷ hs)) ≡ one_if b + length (filter test hs)
counted_first test h hs true is = rw is (omega arith)
counted_first test h hs false is = rw is (omega arith)

-- the entries that end a turn otherwise
abbrev pub halts : Call → Bool
halts Yield = true
halts (End o) = true
halts _ = false

abbrev pub halted : List Happened → ℕ
halted hs = length (filter (λ h. halts h.entry.call) hs)

stops_split : (call : Call) (reply : Reply) → one_if (stops call reply) ≡ one_if (halts call) + one_if (parks call reply)
stops_split Yield reply = refl
stops_split (End o) reply = refl
stops_split (Arm t (Resume g)) (Armed Set) = refl
stops_split _ reply = refl

pub turns_split : (hs : List Happened) → turns_over hs ≡ halted hs + parks_over hs
turns_split [] = refl
turns_split (h ∷ hs) =
    let turn = counted_first (λ (x : Happened). stops x.entry.call x.entry.reply) h hs (stops h.entry.call h.entry.reply) refl in
    let halt = counted_first (λ (x : Happened). halts x.entry.call) h hs (halts h.entry.call) refl in
    let park = counted_first (λ (x : Happened). parks x.entry.call x.entry.reply) h hs (parks h.entry.call h.entry.reply) refl in
    omega (arith, turn, halt, park, stops_split h.entry.call h.entry.reply, turns_split hs)

-- ---- triggers that aren't initial any more

abbrev begun : List TrigState → ℕ
begun [] = 0
begun (Initial ∷ ts) = begun ts
begun (s ∷ ts) = suc (begun ts)

begun_within : (ts : List TrigState) → begun ts ≤ length ts
begun_within [] = omega arith
begun_within (Initial ∷ ts) = omega (arith, begun_within ts)
begun_within (s ∷ ts) = omega (arith, begun_within ts)

begun_appended : (ts : List TrigState) → begun (ts ++ Initial ∷ []) ≡ begun ts
begun_appended [] = refl
begun_appended (Initial ∷ ts) = begun_appended ts
begun_appended (s ∷ ts) = ap (λ (n : ℕ). suc n) (begun_appended ts)

begun_more : (room : Bool) (ts : List TrigState) → begun ts ≤ begun (grown room ts Initial)
begun_more true ts = omega (arith, begun_appended ts)
begun_more false ts = omega arith

begun_armed : (ts : List TrigState) (t : ℕ) (action : Action) → slice_get ts t ≡ Some Initial → begun (slice_set ts t (Awaiting action)) ≡ suc (begun ts)
begun_armed [] t action is = absurd cc
begun_armed (Initial ∷ ts) zero action is = refl
begun_armed (s ∷ ts) zero action is = absurd cc
begun_armed (Initial ∷ ts) (suc t) action is = begun_armed ts t action is
begun_armed (s ∷ ts) (suc t) action is = ap (λ (n : ℕ). suc n) (begun_armed ts t action is)

begun_signalled : (ts : List TrigState) (t : ℕ) → begun ts ≤ begun (slice_set ts t Signalled)
begun_signalled [] t = omega arith
begun_signalled (Initial ∷ ts) zero = omega arith
begun_signalled (s ∷ ts) zero = omega arith
begun_signalled (Initial ∷ ts) (suc t) = begun_signalled ts t
begun_signalled (s ∷ ts) (suc t) = omega (arith, begun_signalled ts t)

arm_begins : (ts : List TrigState) (t g : ℕ) (s : Option TrigState) → slice_get ts t ≡ s → t < length ts
    → one_if (parks (Arm t (Resume g)) (armed s)) + begun ts ≤ begun (with_action ts t (Resume g) s)
arm_begins ts t g None is within = absurd (nothing_there ts t within is)
arm_begins ts t g (Some Initial) is within = omega (arith, begun_armed ts t (Resume g) is)
arm_begins ts t g (Some (Awaiting action)) is within = omega arith
arm_begins ts t g (Some Signalled) is within = omega arith

parks_begin : (w : State) (f : ℕ) (call : Call) → Allowed w f call → one_if (parks call (reply_of w f call)) + begun w.triggers ≤ begun (triggers_after w call)
parks_begin w f NewTrigger allowed = omega (arith, begun_more (nat_lt (length w.triggers) w.limits.triggers) w.triggers)
parks_begin w f (Arm t (Resume g)) allowed = arm_begins w.triggers t g (slice_get w.triggers t) refl allowed.names
parks_begin w f (call.Signal t) allowed = omega (arith, begun_signalled w.triggers t)
parks_begin w f call allowed = omega arith

parks_from : (w : State) (hs : List Happened) → AreSteps w hs → parks_over hs + begun w.triggers ≤ begun (world_from w hs).triggers
parks_from w [] are = omega arith
parks_from w (h ∷ hs) are =
    let park = counted_first (λ (x : Happened). parks x.entry.call x.entry.reply) h hs (parks h.entry.call h.entry.reply) refl in
    let reply = ap (λ (r : Reply). one_if (parks h.entry.call r)) are.0.reply in
    let here = parks_begin w h.entry.fiber h.entry.call are.0.allowed in
    omega (arith, park, reply, here, parks_from (after w h.entry.fiber h.entry.call) hs are.1)

-- fibers have waited no more often than there are triggers
pub parks_below : (origin : Origin) (hs : List Happened) → IsLegal origin hs → parks_over hs ≤ length (world origin hs).triggers
parks_below origin hs legal = omega (arith, parks_from origin.world hs (steps origin hs legal), begun_within (world origin hs).triggers)

-- nor than there may be
pub few_parks : (origin : Origin) (hs : List Happened) → IsWithin origin.world → IsLegal origin hs → parks_over hs ≤ origin.world.limits.triggers
few_parks origin hs within legal =
    let limit = ap (λ (limits : Limits). limits.triggers) (world_limits origin.world hs) in
    omega (arith, parks_below origin hs legal, (world_within origin.world hs within).triggers, limit)
