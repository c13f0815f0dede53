-- In a final world no entry is allowed.
use Rattle.std.proofs.Common.{ℕ, ◌-◌, inl, inr, List, subst}
use Rattle.pic_base.specs.declared.duty.Duty.{Duty}
use Rattle.pic_machine.specs.declared.entry.Call.{Call}
use Rattle.pic_machine.specs.declared.state.FiberState.TheVariants.{Live}
use Rattle.pic_machine.specs.State.{State}
use Rattle.pic_machine.specs.Duty.{ClockMakes}
use Rattle.pic_machine.specs.Final.{IsFinal}
use Rattle.pic_machine.specs.Step.{Allowed, MayAct}
use Rattle.pic_machine.proofs.Finals.{none_owed, stands_at_rest}

pub none_allowed : (w : State) (f : ℕ) (call : Call) → IsFinal w → Allowed w f call → ⊥
none_allowed w f call over allowed = by_caller allowed.caller where
  by_caller : MayAct w f → ⊥
  by_caller (inl clock) = subst (λ (ds : List Duty). ClockMakes ds call) (none_owed w f over) (allowed.clock clock)
  by_caller (inr live) = stands_at_rest w (f - 1) Live over live.live
