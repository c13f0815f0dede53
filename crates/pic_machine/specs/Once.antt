-- What happens once: a computation is completed, a trigger is armed, and a trigger is signalled.
use Rattle.std.specs.Prelude.{◌≡◌, ℕ, Some, List, ◌∷◌, ◌++◌}
use Rattle.pic_base.specs.declared.action.Action.{Action}
use Rattle.pic_base.specs.declared.outcome.Outcome.{Outcome}
use Rattle.pic_machine.specs.declared.entry.ArmReply.TheVariants as arm
use Rattle.pic_machine.specs.declared.entry.ArmReply.TheVariants.{Set}
use Rattle.pic_machine.specs.declared.entry.AttachReply.TheVariants as attach
use Rattle.pic_machine.specs.declared.entry.Call.TheVariants as call
use Rattle.pic_machine.specs.declared.entry.CompleteReply.TheVariants.{Won, Lost}
use Rattle.pic_machine.specs.declared.entry.Reply.TheVariants as reply
use Rattle.pic_machine.specs.declared.entry.SignalReply.TheVariants.{Acted, Already}
use Rattle.pic_machine.specs.declared.state.TrigState.TheVariants.{Signalled}
use Rattle.pic_machine.specs.Happened.{Happened}

-- the one stands before the other in the history
pub record Precedes (hs : List Happened) (first later : Happened) : Type 0 where
  pub front : List Happened
  pub between : List Happened
  pub back : List Happened
  pub is : hs ≡ front ++ first ∷ (between ++ later ∷ back)

-- the entry completed the computation c with this outcome
pub record Wins (c : ℕ) (o : Outcome) (h : Happened) : Type 0 where
  pub call : h.entry.call ≡ call.Complete c o
  pub reply : h.entry.reply ≡ reply.Completed Won

-- at most one entry completes the computation c: each later completion is told that outcome, each later look
-- sees it, and nothing is attached any more
pub record CompletesOnce (hs : List Happened) (c : ℕ) : Type 0 where
  pub once : (first later : Happened) (o x : Outcome) → Precedes hs first later → Wins c o first → Wins c x later → ⊥
  pub lost : (first later : Happened) (o x : Outcome) → Precedes hs first later → Wins c o first
      → later.entry.call ≡ call.Complete c x → later.entry.reply ≡ reply.Completed (Lost o)
  pub seen : (first later : Happened) (o : Outcome) → Precedes hs first later → Wins c o first
      → later.entry.call ≡ call.Peek c → later.entry.reply ≡ reply.Peeked (Some o)
  pub late : (first later : Happened) (o : Outcome) (p t : ℕ) → Precedes hs first later → Wins c o first
      → later.entry.call ≡ call.Attach p c t → later.entry.reply ≡ reply.Attached (attach.Completed o)

-- the entry armed the trigger t
pub record Arms (t : ℕ) (h : Happened) : Type 0 where
  pub action : Action
  pub call : h.entry.call ≡ call.Arm t action
  pub reply : h.entry.reply ≡ reply.Armed Set

-- the entry is a signal of the trigger t that acted
pub record Acts (t : ℕ) (h : Happened) : Type 0 where
  pub action : Action
  pub call : h.entry.call ≡ call.Signal t
  pub reply : h.entry.reply ≡ reply.Signalled (Acted action)

-- the trigger t is armed once at most, and acts once at most: behind the first signal each signal, each arming
-- and each look finds it signalled
pub record SignalsOnce (hs : List Happened) (t : ℕ) : Type 0 where
  pub armed : (first later : Happened) → Precedes hs first later → Arms t first → Arms t later → ⊥
  pub acted : (first later : Happened) → Precedes hs first later → Acts t first → Acts t later → ⊥
  pub already : (first later : Happened) → Precedes hs first later → first.entry.call ≡ call.Signal t
      → later.entry.call ≡ call.Signal t → later.entry.reply ≡ reply.Signalled Already
  pub late : (first later : Happened) (action : Action) → Precedes hs first later → first.entry.call ≡ call.Signal t
      → later.entry.call ≡ call.Arm t action → later.entry.reply ≡ reply.Armed arm.Signalled
  pub seen : (first later : Happened) → Precedes hs first later → first.entry.call ≡ call.Signal t
      → later.entry.call ≡ call.Look t → later.entry.reply ≡ reply.Seen Signalled
