-- The step of the machine: which calls a fiber may make, the reply to each, and the world after it.
use Rattle.std.specs.Prelude.{◌≡◌, ℕ, ◌+◌, ◌-◌, ◌<◌, nat_lt, if◌then◌else◌, ◌⊎◌, Bool, true, false, Option, Some, None, List, [], ◌∷◌, ◌++◌, length, map, reverse, slice_get, slice_set, ⊤}
use Rattle.pic_base.specs.declared.action.Action.{Action}
use Rattle.pic_base.specs.declared.action.Action.TheVariants.{Resume}
use Rattle.pic_base.specs.declared.duty.Duty.{Duty}
use Rattle.pic_base.specs.declared.duty.Duty.TheVariants.{Signal}
use Rattle.pic_base.specs.declared.outcome.Outcome.{Outcome}
use Rattle.pic_machine.specs.declared.state.CompState.{CompState}
use Rattle.pic_machine.specs.declared.state.CompState.TheVariants.{Running, Done}
use Rattle.pic_machine.specs.declared.state.FiberState.{FiberState}
use Rattle.pic_machine.specs.declared.state.FiberState.TheVariants.{Live, Suspended, Ended}
use Rattle.pic_machine.specs.declared.state.TrigState.{TrigState}
use Rattle.pic_machine.specs.declared.state.TrigState.TheVariants as trigger
use Rattle.pic_machine.specs.declared.state.TrigState.TheVariants.{Initial, Awaiting}
use Rattle.pic_machine.specs.declared.entry.Call.{Call}
use Rattle.pic_machine.specs.declared.entry.Call.TheVariants as call
use Rattle.pic_machine.specs.declared.entry.Call.TheVariants.{NewTrigger, NewPlace, Look, Arm, Attach, Complete, Peek, Fork, End}
use Rattle.pic_machine.specs.declared.entry.Reply.{Reply}
use Rattle.pic_machine.specs.declared.entry.Reply.TheVariants as reply
use Rattle.pic_machine.specs.declared.entry.Reply.TheVariants.{Plain, Full, Made, Seen, Armed, Completed, Peeked}
use Rattle.pic_machine.specs.declared.entry.ArmReply.TheVariants as arm
use Rattle.pic_machine.specs.declared.entry.ArmReply.TheVariants.{Set, Taken}
use Rattle.pic_machine.specs.declared.entry.SignalReply.TheVariants as signal
use Rattle.pic_machine.specs.declared.entry.SignalReply.TheVariants.{Acted, Already}
use Rattle.pic_machine.specs.declared.entry.AttachReply.TheVariants as attach
use Rattle.pic_machine.specs.declared.entry.CompleteReply.TheVariants.{Won, Lost}
use Rattle.pic_machine.specs.State.{State, owed_of}
use Rattle.pic_machine.specs.Duty.{DutiesAllow, ClockMakes, fulfilled, followed}

-- ---- allowed

-- fiber f is live; fiber 0, the clock, never is
pub record IsLive (w : State) (f : ℕ) : Type 0 where
  pub made : 0 < f
  pub live : slice_get w.fibers (f - 1) ≡ Some Live

-- the clock is bound by its duties alone, another fiber acts only while it is live
abbrev pub MayAct : State → ℕ → Type 0
MayAct w f = (f ≡ 0) ⊎ IsLive w f

-- what the call names stands in the world
abbrev pub NamesStand : State → Call → Type 0
NamesStand w (Look t) = t < length w.triggers
NamesStand w (Arm t action) = t < length w.triggers
NamesStand w (call.Signal t) = t < length w.triggers
NamesStand w (Attach p c t) = (p < w.places) × (c < length w.comps) × (t < length w.triggers)
NamesStand w (Complete c o) = c < length w.comps
NamesStand w (Peek c) = c < length w.comps
NamesStand w _ = ⊤

-- nobody arms the resumption of another
abbrev pub ArmsOwn : ℕ → Call → Type 0
ArmsOwn f (Arm t (Resume g)) = g ≡ f
ArmsOwn f _ = ⊤

-- fiber f may make the call
pub record Allowed (w : State) (f : ℕ) (call : Call) : Type 0 where
  pub caller : MayAct w f
  pub clock : f ≡ 0 → ClockMakes (owed_of w f) call
  pub duties : DutiesAllow (owed_of w f) call
  pub names : NamesStand w call
  pub own : ArmsOwn f call

-- ---- the reply

-- the next number, where there may be one more thing of the kind
abbrev pub made_below : ℕ → ℕ → Reply
made_below count limit = if nat_lt count limit then Made count else Full

-- how a trigger stands
abbrev pub seen : Option TrigState → Reply
seen None = Seen Initial
seen (Some state) = Seen state

-- a trigger can be armed until somebody is, and until it is signalled
abbrev pub armed : Option TrigState → Reply
armed None = Armed Set
armed (Some Initial) = Armed Set
armed (Some (Awaiting action)) = Armed Taken
armed (Some trigger.Signalled) = Armed arm.Signalled

-- a signal acts for whoever awaits the trigger
abbrev pub signalled : Option TrigState → Reply
signalled None = reply.Signalled signal.Plain
signalled (Some Initial) = reply.Signalled signal.Plain
signalled (Some (Awaiting action)) = reply.Signalled (Acted action)
signalled (Some trigger.Signalled) = reply.Signalled Already

-- a trigger is attached to a running computation, and else learns the outcome that stands
abbrev pub attached : Option CompState → Reply
attached None = reply.Attached attach.Attached
attached (Some (Running triggers)) = reply.Attached attach.Attached
attached (Some (Done o)) = reply.Attached (attach.Completed o)

-- a completion wins on a running computation, and else learns the outcome that stands
abbrev pub completed : Option CompState → Reply
completed None = Completed Won
completed (Some (Running triggers)) = Completed Won
completed (Some (Done o)) = Completed (Lost o)

-- a running computation has no outcome yet
abbrev pub peeked : Option CompState → Reply
peeked None = Peeked None
peeked (Some (Running triggers)) = Peeked None
peeked (Some (Done o)) = Peeked (Some o)

-- a further fiber may be made
abbrev pub has_room : State → Bool
has_room w = nat_lt (length w.fibers) w.limits.fibers

-- the next number, or that no fiber may be made
abbrev pub fork_reply : State → Reply
fork_reply w = if has_room w then Made (length w.fibers + 1) else Full

abbrev pub reply_of : State → ℕ → Call → Reply
reply_of w f NewTrigger = made_below (length w.triggers) w.limits.triggers
reply_of w f NewPlace = made_below w.places w.limits.places
reply_of w f (Look t) = seen (slice_get w.triggers t)
reply_of w f (Arm t action) = armed (slice_get w.triggers t)
reply_of w f (call.Signal t) = signalled (slice_get w.triggers t)
reply_of w f (Attach p c t) = attached (slice_get w.comps c)
reply_of w f (Complete c o) = completed (slice_get w.comps c)
reply_of w f (Peek c) = peeked (slice_get w.comps c)
reply_of w f (Fork text value) = fork_reply w
reply_of w f _ = Plain

-- the calls that make no fiber
abbrev pub MakesNoFiber : Call → Type 0
MakesNoFiber (Fork text value) = ⊥
MakesNoFiber _ = ⊤

-- ---- the world after, part by part

-- the list with one thing more at its end, where it may grow
abbrev pub grown : {A : Type 0} → Bool → List A → A → List A
grown true xs x = xs ++ x ∷ []
grown false xs x = xs

-- an initial trigger is armed; any other stays as it is
abbrev pub with_action : List TrigState → ℕ → Action → Option TrigState → List TrigState
with_action triggers t action (Some Initial) = slice_set triggers t (Awaiting action)
with_action triggers t action _ = triggers

-- a trigger is made where there may be one more, is armed, or is signalled once and for all
abbrev pub triggers_after : State → Call → List TrigState
triggers_after w NewTrigger = grown (nat_lt (length w.triggers) w.limits.triggers) w.triggers Initial
triggers_after w (Arm t action) = with_action w.triggers t action (slice_get w.triggers t)
triggers_after w (call.Signal t) = slice_set w.triggers t trigger.Signalled
triggers_after w _ = w.triggers

-- one place more, where there may be one
abbrev pub places_after : State → Call → ℕ
places_after w NewPlace = if nat_lt w.places w.limits.places then w.places + 1 else w.places
places_after w _ = w.places

-- the trigger is attached to a running computation, as the last one; a completed one stays as it is
abbrev pub with_attached : List CompState → ℕ → ℕ → Option CompState → List CompState
with_attached comps c t (Some (Running triggers)) = slice_set comps c (Running (triggers ++ t ∷ []))
with_attached comps c t _ = comps

-- a running computation is completed; a completed one stays as it is
abbrev pub with_outcome : List CompState → ℕ → Outcome → Option CompState → List CompState
with_outcome comps c o (Some (Running triggers)) = slice_set comps c (Done o)
with_outcome comps c o _ = comps

abbrev pub comps_after : State → Call → List CompState
comps_after w (Attach p c t) = with_attached w.comps c t (slice_get w.comps c)
comps_after w (Complete c o) = with_outcome w.comps c o (slice_get w.comps c)
comps_after w _ = w.comps

-- fiber f waits for the trigger, where the action is its resumption
abbrev pub waiting : List FiberState → ℕ → ℕ → Action → List FiberState
waiting fibers f t (Resume g) = slice_set fibers (f - 1) (Suspended t)

-- who arms an initial trigger with a resumption is suspended at it
abbrev pub with_waiting : List FiberState → ℕ → ℕ → Action → Option TrigState → List FiberState
with_waiting fibers f t action (Some Initial) = waiting fibers f t action
with_waiting fibers f t action _ = fibers

-- the signal acts for whoever awaited the trigger: a fiber that was suspended at it is live again
abbrev pub resumed : List FiberState → Option TrigState → List FiberState
resumed fibers (Some (Awaiting (Resume g))) = slice_set fibers (g - 1) Live
resumed fibers _ = fibers

-- a fork makes a live fiber, where there is room for one; an end ends the caller
abbrev pub fibers_after : State → ℕ → Call → List FiberState
fibers_after w f (Arm t action) = with_waiting w.fibers f t action (slice_get w.triggers t)
fibers_after w f (call.Signal t) = resumed w.fibers (slice_get w.triggers t)
fibers_after w f (Fork text value) = grown (has_room w) w.fibers Live
fibers_after w f (End o) = slice_set w.fibers (f - 1) (Ended o)
fibers_after w f _ = w.fibers

-- who completes a running computation owes a signal to each trigger that is attached to it, to the last
-- one first, before all else
abbrev pub with_signals : Option CompState → List Duty → List Duty
with_signals (Some (Running triggers)) duties = map Signal (reverse triggers) ++ duties
with_signals _ duties = duties

-- a signal, a completion and a look at a computation fulfil the first duty of the caller; a fiber that is
-- made owes nothing
abbrev pub owed_after : State → ℕ → Call → List (List Duty)
owed_after w f (call.Signal t) = slice_set w.owed f (fulfilled (owed_of w f))
owed_after w f (Complete c o) = slice_set w.owed f (with_signals (slice_get w.comps c) (fulfilled (owed_of w f)))
owed_after w f (Peek c) = slice_set w.owed f (followed (owed_of w f) (slice_get w.comps c))
owed_after w f (Fork text value) = grown (has_room w) w.owed []
owed_after w f _ = w.owed

abbrev pub after : State → ℕ → Call → State
after w f call = record {
  triggers = triggers_after w call;
  comps = comps_after w call;
  fibers = fibers_after w f call;
  owed = owed_after w f call;
  places = places_after w call;
  limits = w.limits;
}
