-- What duties ask of the fiber that owes them, and what is left of them after a call.
use Rattle.std.specs.Prelude.{◌≡◌, Bool, true, false, Option, Some, List, [], ◌∷◌, ⊤}
use Rattle.pic_base.specs.declared.duty.Duty.{Duty}
use Rattle.pic_base.specs.declared.duty.Duty.TheVariants.{Signal, Follow, Cancel, Return}
use Rattle.pic_base.specs.declared.outcome.Outcome.TheVariants.{Returned, Cancelled}
use Rattle.pic_machine.specs.declared.state.CompState.{CompState}
use Rattle.pic_machine.specs.declared.state.CompState.TheVariants.{Done}
use Rattle.pic_machine.specs.declared.entry.Call.{Call}
use Rattle.pic_machine.specs.declared.entry.Call.TheVariants as call
use Rattle.pic_machine.specs.declared.entry.Call.TheVariants.{Turn, Look, Complete, Peek}

-- the call is the one that the duty asks for: the signal, a look at the computation that is followed, or
-- the completion that is owed
abbrev pub Fulfils : Duty → Call → Type 0
Fulfils (Signal t) (call.Signal trigger) = trigger ≡ t
Fulfils (Follow from into) (Peek comp) = comp ≡ from
Fulfils (Cancel into code) (Complete comp outcome) = (comp ≡ into) × (outcome ≡ Cancelled code)
Fulfils (Return into branch) (Complete comp outcome) = (comp ≡ into) × (outcome ≡ Returned branch)
Fulfils _ _ = ⊥

-- a fiber that owes may begin a turn or look at a trigger, and else makes the call that fulfils its
-- first duty: so one that ends, yields or is suspended owes nothing
abbrev pub DutiesAllow : List Duty → Call → Type 0
DutiesAllow [] call = ⊤
DutiesAllow (duty ∷ duties) Turn = ⊤
DutiesAllow (duty ∷ duties) (Look t) = ⊤
DutiesAllow (duty ∷ duties) call = Fulfils duty call

-- a call that is made while something is owed fulfils the first duty, unless it begins a turn
abbrev pub is_owing : List Duty → Call → Bool
is_owing [] call = false
is_owing (duty ∷ duties) Turn = false
is_owing (duty ∷ duties) call = true

-- the clock makes nothing but what it owes
abbrev pub ClockMakes : List Duty → Call → Type 0
ClockMakes [] call = ⊥
ClockMakes (duty ∷ duties) call = Fulfils duty call

-- what is left once the first duty, if there is one, is fulfilled
abbrev pub fulfilled : List Duty → List Duty
fulfilled [] = []
fulfilled (duty ∷ duties) = duties

-- the same of a look at a computation that stands so: whoever follows one that was cancelled has to
-- cancel the other
abbrev pub followed : List Duty → Option CompState → List Duty
followed (Follow from into ∷ duties) (Some (Done (Cancelled code))) = Cancel into code ∷ duties
followed duties state = fulfilled duties

-- the calls that bring their caller no duty
abbrev pub BringsNone : Call → Type 0
BringsNone (Complete comp outcome) = ⊥
BringsNone _ = ⊤

-- the calls that neither fulfil a duty nor bring one: no duty asks for them
abbrev pub LeavesDuties : Call → Type 0
LeavesDuties (call.Signal t) = ⊥
LeavesDuties (Complete comp outcome) = ⊥
LeavesDuties (Peek comp) = ⊥
LeavesDuties _ = ⊤
