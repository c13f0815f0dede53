-- What is attached to a computation, and what becomes of it once the computation is completed.
use Rattle.std.specs.Prelude.{◌≡◌, ◌⊎◌, ℕ, ◌==◌, not, if◌then◌else◌, Some, List, [], ◌∷◌, ◌++◌, filter, map, reverse, slice_get}
use Rattle.std.specs.List.{AllByRecursion, Contains, flat_map}
use Rattle.pic_base.specs.declared.duty.Duty.TheVariants as duty
use Rattle.pic_base.specs.declared.outcome.Outcome.{Outcome}
use Rattle.pic_machine.specs.declared.entry.AttachReply.TheVariants as attach
use Rattle.pic_machine.specs.declared.entry.Call.{Call}
use Rattle.pic_machine.specs.declared.entry.Call.TheVariants as call
use Rattle.pic_machine.specs.declared.entry.Reply.{Reply}
use Rattle.pic_machine.specs.declared.entry.Reply.TheVariants as reply
use Rattle.pic_machine.specs.declared.state.CompState.TheVariants.{Running}
use Rattle.pic_machine.specs.declared.state.TrigState.TheVariants.{Signalled}
use Rattle.pic_machine.specs.Happened.{Happened}
use Rattle.pic_machine.specs.Log.{is_look, log}
use Rattle.pic_machine.specs.Once.{Wins}
use Rattle.pic_machine.specs.State.{State, owed_of}

-- the trigger that the entry attached to the computation c, if it did
abbrev pub attached_by : ℕ → Call → Reply → List ℕ
attached_by c (call.Attach p comp t) (reply.Attached attach.Attached) = if comp == c then t ∷ [] else []
attached_by c _ _ = []

-- the triggers that were attached to the computation c, in order
abbrev pub attachments : List Happened → ℕ → List ℕ
attachments hs c = flat_map (λ h. attached_by c h.entry.call h.entry.reply) hs

abbrev pub IsSignalled : State → ℕ → Type 0
IsSignalled w t = slice_get w.triggers t ≡ Some Signalled

-- what fiber f called, in order, but for its turns and its looks at triggers
abbrev pub calls_of : ℕ → List Happened → List Call
calls_of f hs = map (λ h. h.entry.call) (filter (λ h. not (is_look h.entry.call)) (log hs f))

-- the signals of the triggers, that of the last one first
abbrev pub signals_of : List ℕ → List Call
signals_of triggers = map call.Signal (reverse triggers)

-- the calls begin with those of the front
pub record BeginsWith (calls front : List Call) : Type 0 where
  pub rest : List Call
  pub is : calls ≡ front ++ rest

-- of all that fiber f called since it had these triggers to signal, the signals come first, or it has made no
-- more than some of them yet; where it owes nothing it has made them all, and each trigger is signalled
pub record SignalsAll (w : State) (f : ℕ) (triggers : List ℕ) (calls : List Call) : Type 0 where
  pub order : BeginsWith calls (signals_of triggers) ⊎ BeginsWith (signals_of triggers) calls
  pub made : owed_of w f ≡ [] → BeginsWith calls (signals_of triggers)
  pub signalled : owed_of w f ≡ [] → AllByRecursion (IsSignalled w) triggers

-- what became of a trigger that was attached to the computation c: the computation runs and has it still, or
-- whoever completed it owes the signal, or the trigger is signalled
pub data IsKept (hs : List Happened) (w : State) (c t : ℕ) : Type 0 where
  waits : (triggers : List ℕ) → slice_get w.comps c ≡ Some (Running triggers) → Contains triggers t → IsKept hs w c t
  owed : (won : Happened) (o : Outcome) → Contains hs won → Wins c o won → Contains (owed_of w won.entry.fiber) (duty.Signal t) → IsKept hs w c t
  signalled : IsSignalled w t → IsKept hs w c t
