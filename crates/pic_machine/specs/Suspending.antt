-- How the fibers that wait and the triggers that they wait for belong together.
use Rattle.std.specs.Prelude.{◌≡◌, ℕ, ◌-◌, ◌<◌, Some, List, [], ◌∷◌, ◌++◌, slice_get}
use Rattle.pic_base.specs.declared.action.Action.TheVariants.{Resume}
use Rattle.pic_machine.specs.declared.entry.ArmReply.TheVariants.{Set}
use Rattle.pic_machine.specs.declared.entry.Call.TheVariants.{Arm}
use Rattle.pic_machine.specs.declared.entry.Reply.TheVariants.{Armed}
use Rattle.pic_machine.specs.declared.state.FiberState.TheVariants.{Suspended}
use Rattle.pic_machine.specs.declared.state.TrigState.TheVariants.{Awaiting}
use Rattle.pic_machine.specs.Happened.{Happened}
use Rattle.pic_machine.specs.History.{event}
use Rattle.pic_machine.specs.State.{State}

-- fiber f waits for the trigger t
pub record IsSuspended (w : State) (f t : ℕ) : Type 0 where
  pub made : 0 < f
  pub state : slice_get w.fibers (f - 1) ≡ Some (Suspended t)

-- the signal of the trigger t will resume fiber f
abbrev pub WillResume : State → ℕ → ℕ → Type 0
WillResume w t f = slice_get w.triggers t ≡ Some (Awaiting (Resume f))

-- a fiber is suspended at a trigger exactly where the trigger's signal will resume it
pub record IsTied (w : State) : Type 0 where
  pub resumes : (t f : ℕ) → WillResume w t f → IsSuspended w f t
  pub awaited : (t f : ℕ) → IsSuspended w f t → WillResume w t f

-- the last entry of the log is the one by which fiber f came to wait for the trigger t
pub record EndsAsleep (log : List Happened) (f t : ℕ) : Type 0 where
  pub front : List Happened
  pub is : log ≡ front ++ event f (Arm t (Resume f)) (Armed Set) ∷ []
