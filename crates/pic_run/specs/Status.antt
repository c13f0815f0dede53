-- The exit statuses, and which of them the end of a run has.
use Rattle.std.specs.Prelude.{◌≡◌, ℕ, zero, suc, Option, Some, slice_get}
use Rattle.pic_base.specs.declared.outcome.Outcome.TheVariants.{Returned, Cancelled}
use Rattle.pic_machine.specs.declared.state.FiberState.{FiberState}
use Rattle.pic_machine.specs.declared.state.FiberState.TheVariants.{Ended}
use Rattle.pic_machine.specs.State.{State}
use Rattle.pic_machine.specs.Suspending.{IsSuspended}
use Rattle.pic_run.specs.declared.status.Status.{Status}
use Rattle.pic_run.specs.declared.status.Status.TheVariants.{Done, Raised, Stuck, Usage, Refused, ReadFault, WriteFault, OutOfMemory, TooLarge}

abbrev pub status_number : Status → ℕ
status_number Done = 0
status_number Raised = 1
status_number Stuck = 2
status_number Usage = 3
status_number Refused = 4
status_number ReadFault = 5
status_number WriteFault = 6
status_number OutOfMemory = 7
status_number TooLarge = 8

-- a fiber is suspended
pub record IsStuck (w : State) : Type 0 where
  pub fiber : ℕ
  pub trigger : ℕ
  pub waits : IsSuspended w fiber trigger

-- none is, and main returned
pub record MainReturned (w : State) : Type 0 where
  pub none : IsStuck w → ⊥
  pub value : ℕ
  pub main : slice_get w.fibers 0 ≡ Some (Ended (Returned value))

-- none is, and main was cancelled
pub record MainCancelled (w : State) : Type 0 where
  pub none : IsStuck w → ⊥
  pub code : ℕ
  pub main : slice_get w.fibers 0 ≡ Some (Ended (Cancelled code))

-- the statuses of runs whose world is final: Stuck where a fiber is suspended, and where none is, Done
-- where main returned, and Raised where it was cancelled
abbrev pub IsStatusOf : State → Status → Type 0
IsStatusOf w Done = MainReturned w
IsStatusOf w Raised = MainCancelled w
IsStatusOf w Stuck = IsStuck w
IsStatusOf w _ = ⊥

-- a status of a run
abbrev pub IsOfRun : Status → Type 0
IsOfRun Done = Unit {0}
IsOfRun Raised = Unit {0}
IsOfRun Stuck = Unit {0}
IsOfRun _ = ⊥

-- the status of a run in which no fiber is suspended, by how main ended
abbrev pub main_status : Option FiberState → Status
main_status (Some (Ended (Cancelled code))) = Raised
main_status _ = Done

-- the status of a run, by how main ended and how many fibers are suspended
abbrev pub status_of : Option FiberState → ℕ → Status
status_of main zero = main_status main
status_of main (suc others) = Stuck
