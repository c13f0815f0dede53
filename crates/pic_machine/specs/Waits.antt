-- The routines by which fibers wait. At each of their phases a call is asked for, and its reply leads to the
-- next one. A phase at which nothing is asked is an end of the routine; what asks on there is the statement
-- that it stands in.
use Rattle.std.specs.Prelude.{ℕ, zero, suc, cond, unwrap_or, IfSome, MatchOption, ⊤, Option, Some, None, List}
use Rattle.std.specs.List.{AllByRecursion}
use Rattle.pic_base.specs.declared.action.Action.TheVariants.{Resume}
use Rattle.pic_base.specs.declared.outcome.Outcome.TheVariants.{Returned, Cancelled}
use Rattle.pic_machine.specs.declared.entry.ArmReply.TheVariants as arm
use Rattle.pic_machine.specs.declared.entry.AttachReply.TheVariants as attach
use Rattle.pic_machine.specs.declared.entry.Call.{Call}
use Rattle.pic_machine.specs.declared.entry.Call.TheVariants.{NewTrigger, NewPlace, Arm, Attach, Peek}
use Rattle.pic_machine.specs.declared.entry.Reply.{Reply}
use Rattle.pic_machine.specs.declared.entry.Reply.TheVariants as reply
use Rattle.pic_machine.specs.declared.waits.Parts.{Parts}
use Rattle.pic_machine.specs.declared.waits.Standing.{Standing}
use Rattle.pic_machine.specs.Happened.{Happened}
use Rattle.pic_machine.specs.History.{HasMade, Takes}
use Rattle.pic_machine.specs.Routine.{Routine}

-- ---- making ready to wait: a trigger, and where the fiber is permitted to be told of a cancellation a place

pub data Making : Type 0 where
  trigger : Making
  place : ℕ → Making
  made : ℕ → Option ℕ → Making
  full : Making

abbrev pub making_asks : Making → Option Call
making_asks trigger = Some NewTrigger
making_asks (place t) = Some NewPlace
making_asks (made t a) = None
making_asks full = None

abbrev pub making_leads : Standing → Making → Reply → Option Making
making_leads s trigger (reply.Made t) = Some (cond s.permitted (place t) (made t None))
making_leads s trigger reply.Full = Some full
making_leads s (place t) (reply.Made a) = Some (made t (Some a))
making_leads s (place t) reply.Full = Some full
making_leads s p _ = None

abbrev pub making : Standing → Routine Making
making s = record { asks = making_asks; leads = making_leads s }

-- what is made so far: nothing, the trigger, all; or a limit was met
abbrev pub making_at : ℕ → Parts → Making
making_at zero parts = trigger
making_at (suc zero) parts = place (unwrap_or parts.trigger 0)
making_at (suc (suc zero)) parts = made (unwrap_or parts.trigger 0) parts.place
making_at _ parts = full

-- fiber f, of this log, made the place, and nothing is attached there
abbrev pub HasOwnPlace : ℕ → List Happened → ℕ → Type 0
HasOwnPlace f mine a = HasMade mine f NewPlace a × AllByRecursion (λ h. Takes a h → ⊥) mine

-- it made the trigger
abbrev pub HasOwnTrigger : ℕ → List Happened → Parts → Type 0
HasOwnTrigger f mine parts = MatchOption parts.trigger ⊥ (λ t. HasMade mine f NewTrigger t)

-- what of the parts it has made, as far as it is
abbrev pub HasMaking : ℕ → ℕ → List Happened → Parts → Type 0
HasMaking (suc zero) f mine parts = HasOwnTrigger f mine parts
HasMaking (suc (suc zero)) f mine parts = HasOwnTrigger f mine parts × IfSome parts.place (HasOwnPlace f mine)
HasMaking _ f mine parts = ⊤

-- ---- waiting for a trigger

-- how it ends: the fiber goes on, it was told of the cancellation, or the trigger was another's
pub data Waited : Type 0 where
  woken : Waited
  told : ℕ → Waited
  taken : Waited

pub data Waiting : Type 0 where
  attaching : ℕ → Waiting
  arming : Waiting
  checking : Waiting
  over : Waited → Waiting

-- where it begins, with the place that was made where that is permitted
abbrev pub waits : Option ℕ → Waiting
waits (Some a) = attaching a
waits None = arming

-- where it goes on once the trigger was armed, or was signalled already
abbrev pub awake : Standing → Waiting
awake s = cond s.permitted checking (over woken)

-- fiber f waits for the trigger t
abbrev pub waiting_asks : Standing → ℕ → ℕ → Waiting → Option Call
waiting_asks s f t (attaching a) = Some (Attach a s.current t)
waiting_asks s f t arming = Some (Arm t (Resume f))
waiting_asks s f t checking = Some (Peek s.current)
waiting_asks s f t (over how) = None

abbrev pub waiting_leads : Standing → Waiting → Reply → Option Waiting
waiting_leads s (attaching a) (reply.Attached attach.Attached) = Some arming
waiting_leads s (attaching a) (reply.Attached (attach.Completed (Returned v))) = Some arming
waiting_leads s (attaching a) (reply.Attached (attach.Completed (Cancelled k))) = Some (over (told k))
waiting_leads s arming (reply.Armed arm.Set) = Some (awake s)
waiting_leads s arming (reply.Armed arm.Signalled) = Some (awake s)
waiting_leads s arming (reply.Armed arm.Taken) = Some (over taken)
waiting_leads s checking (reply.Peeked (Some (Cancelled k))) = Some (over (told k))
waiting_leads s checking (reply.Peeked o) = Some (over woken)
waiting_leads s p _ = None

abbrev pub waiting : Standing → ℕ → ℕ → Routine Waiting
waiting s f t = record { asks = waiting_asks s f t; leads = waiting_leads s }

-- how far it is, counted on from making ready: all is made, it is attached, it was armed
abbrev pub waiting_at : Standing → ℕ → Parts → Waiting
waiting_at s (suc (suc zero)) parts = waits parts.place
waiting_at s (suc (suc (suc zero))) parts = arming
waiting_at s _ parts = awake s
