-- Who may make a call: a fiber that is live, or the clock, which makes only what it owes.
use Rattle.std.proofs.Common.{◌≡◌, ◌≢◌, ℕ, ◌+◌, ◌-◌, ◌<◌, inl, inr, List, ◌∷◌, [], length, arith}
use Rattle.std.proofs.lemmas.Option.{slice_get_within}
use Rattle.pic_base.specs.declared.action.Action.{Action}
use Rattle.pic_base.specs.declared.duty.Duty.{Duty}
use Rattle.pic_base.specs.declared.duty.Duty.TheVariants.{Signal, Follow, Cancel, Return}
use Rattle.pic_base.specs.declared.outcome.Outcome.{Outcome}
use Rattle.pic_machine.specs.declared.state.FiberState.TheVariants.{Live}
use Rattle.pic_machine.specs.declared.entry.Call.{Call}
use Rattle.pic_machine.specs.declared.entry.Call.TheVariants as call
use Rattle.pic_machine.specs.declared.entry.Call.TheVariants.{Arm, Complete, Peek, End}
use Rattle.pic_machine.specs.State.{State, owed_of}
use Rattle.pic_machine.specs.Duty.{ClockMakes, LeavesDuties}
use Rattle.pic_machine.specs.Step.{Allowed, IsLive, MayAct}

-- no duty asks for such a call, and the clock makes no other
clock_never : (ds : List Duty) (call : Call) → LeavesDuties call → ClockMakes ds call → ⊥
clock_never [] call leaves clock = clock
clock_never (Signal t ∷ ds) (call.Signal u) leaves clock = leaves
clock_never (Signal t ∷ ds) call leaves clock = clock
clock_never (Follow from into ∷ ds) (Peek c) leaves clock = leaves
clock_never (Follow from into ∷ ds) call leaves clock = clock
clock_never (Cancel into code ∷ ds) (Complete c o) leaves clock = leaves
clock_never (Cancel into code ∷ ds) call leaves clock = clock
clock_never (Return into branch ∷ ds) (Complete c o) leaves clock = leaves
clock_never (Return into branch ∷ ds) call leaves clock = clock

pub not_clock : (w : State) (f : ℕ) (call : Call) → Allowed w f call → LeavesDuties call → f ≢ 0
not_clock w f call allowed leaves zero_is = clock_never (owed_of w f) call leaves (allowed.clock zero_is)

-- whoever may act and isn't the clock is live
pub live_of : (w : State) (f : ℕ) → MayAct w f → f ≢ 0 → IsLive w f
live_of w f (inl clock) fiber = absurd (fiber clock)
live_of w f (inr live) fiber = live

pub caller_is_live : (w : State) (f : ℕ) (call : Call) → Allowed w f call → LeavesDuties call → IsLive w f
caller_is_live w f call allowed leaves = live_of w f allowed.caller (not_clock w f call allowed leaves)

pub armer_is_live : (w : State) (f t : ℕ) (action : Action) → Allowed w f (Arm t action) → IsLive w f
armer_is_live w f t action allowed = caller_is_live w f (Arm t action) allowed tt

pub ender_is_live : (w : State) (f : ℕ) (o : Outcome) → Allowed w f (End o) → IsLive w f
ender_is_live w f o allowed = caller_is_live w f (End o) allowed tt

-- each caller has a list of duties, where the clock has one beside the fibers
pub caller_owes : (w : State) (f : ℕ) → length w.owed ≡ length w.fibers + 1 → MayAct w f → f < length w.owed
caller_owes w f counts (inl clock) = omega (arith, counts, clock)
caller_owes w f counts (inr live) = let within = slice_get_within w.fibers (f - 1) Live live.live in omega (arith, counts, within, live.made)
