-- What holds of every legal history from a start on, whoever acts in it, and in which order.
use Rattle.std.specs.Prelude.{◌≡◌, ◌≢◌, ℕ, ◌-◌, ◌<◌, ◌≤◌, All, Some, List, ◌∷◌, ◌++◌, length, slice_get}
use Rattle.std.specs.List.{Contains}
use Rattle.pic_base.specs.declared.outcome.Outcome.{Outcome}
use Rattle.pic_machine.specs.declared.entry.Call.{Call}
use Rattle.pic_machine.specs.declared.state.CompState.TheVariants.{Running}
use Rattle.pic_machine.specs.declared.state.FiberState.TheVariants.{Live, Ended}
use Rattle.pic_machine.specs.Final.{IsFinal}
use Rattle.pic_machine.specs.Happened.{Happened}
use Rattle.pic_machine.specs.History.{Origin, world}
use Rattle.pic_machine.specs.Log.{log}
use Rattle.pic_machine.specs.Once.{CompletesOnce, SignalsOnce, Wins}
use Rattle.pic_machine.specs.Signalling.{IsKept, IsSignalled, SignalsAll, attachments, calls_of}
use Rattle.pic_machine.specs.State.{State}
use Rattle.pic_machine.specs.Step.{Allowed}
use Rattle.pic_machine.specs.Suspending.{EndsAsleep, IsSuspended, IsTied}

-- fiber f has ended, or waits for a trigger that isn't signalled
pub data HasStopped (w : State) (f : ℕ) : Type 0 where
  ended : (o : Outcome) → slice_get w.fibers (f - 1) ≡ Some (Ended o) → HasStopped w f
  waits : (t : ℕ) → IsSuspended w f t → (IsSignalled w t → ⊥) → HasStopped w f

pub record Lawful (origin : Origin) (hs : List Happened) : Type 0 where
  -- a computation is completed once at most, and all that is told of it later is that outcome
  pub completes : (c : ℕ) → CompletesOnce hs c
  -- a trigger is armed once at most and acts once at most, and stays signalled behind its first signal
  pub signals : (t : ℕ) → SignalsOnce hs t
  -- a running computation has exactly the triggers that were attached to it, in order
  pub attached : (c : ℕ) (triggers : List ℕ) → slice_get (world origin hs).comps c ≡ Some (Running triggers) → triggers ≡ attachments hs c
  -- whoever completed a computation signals each trigger that was attached to it, the last one first, before it
  -- calls anything but turns and looks at triggers, and before it owes nothing
  pub discharged : (front back : List Happened) (won : Happened) (c : ℕ) (o : Outcome) → hs ≡ front ++ won ∷ back → Wins c o won
      → SignalsAll (world origin hs) won.entry.fiber (attachments front c) (calls_of won.entry.fiber back)
  -- so no attachment is lost: it stands, or its signal is owed, or its trigger is signalled
  pub kept : (c t : ℕ) → Contains (attachments hs c) t → IsKept hs (world origin hs) c t
  -- a fiber is suspended at a trigger exactly where the trigger's signal will resume it
  pub tied : IsTied (world origin hs)
  -- and the last that it did was to arm the trigger
  pub asleep : (f t : ℕ) → IsSuspended (world origin hs) f t → EndsAsleep (log hs f) f t
  -- where no fiber is live all is over
  pub over : All (λ fiber. fiber ≢ Live) (world origin hs).fibers → IsFinal (world origin hs)
  -- and there nobody may call anything, and each fiber has ended or waits for a trigger that isn't signalled
  pub still : IsFinal (world origin hs) → (f : ℕ) (call : Call) → Allowed (world origin hs) f call → ⊥
  pub stopped : IsFinal (world origin hs) → (f : ℕ) → 0 < f → f ≤ length (world origin hs).fibers → HasStopped (world origin hs) f
