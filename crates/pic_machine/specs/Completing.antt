-- How computations were completed, as entries tell.
use Rattle.std.specs.Prelude.{ℕ, ◌==◌, if◌then◌else◌, Option, Some, None, List, [], ◌∷◌}
use Rattle.pic_base.specs.declared.outcome.Outcome.{Outcome}
use Rattle.pic_machine.specs.declared.entry.Call.{Call}
use Rattle.pic_machine.specs.declared.entry.Call.TheVariants.{Complete}
use Rattle.pic_machine.specs.declared.entry.CompleteReply.TheVariants.{Won}
use Rattle.pic_machine.specs.declared.entry.Entry.{Entry}
use Rattle.pic_machine.specs.declared.entry.Reply.{Reply}
use Rattle.pic_machine.specs.declared.entry.Reply.TheVariants.{Completed}
use Rattle.pic_machine.specs.declared.state.CompState.{CompState}
use Rattle.pic_machine.specs.declared.state.CompState.TheVariants.{Running, Done}
use Rattle.pic_machine.specs.declared.state.Completion.{Completion}

-- how a call of fiber f with this reply completed the computation c, if it did
abbrev pub completion_at : ℕ → ℕ → Call → Reply → Option Completion
completion_at c f (Complete comp outcome) (Completed Won) =
    if comp == c then Some (record { fiber = f; outcome = outcome }) else None
completion_at c f _ _ = None

-- the first of two that is there
abbrev pub first_of : Option Completion → Option Completion → Option Completion
first_of None later = later
first_of (Some found) later = Some found

-- how the first of the entries that completed the computation c did so
abbrev pub completion : List Entry → ℕ → Option Completion
completion [] c = None
completion (e ∷ es) c = first_of (completion_at c e.fiber e.call e.reply) (completion es c)

-- the outcome of a computation, once it has one
abbrev pub outcome_of : CompState → Option Outcome
outcome_of (Running triggers) = None
outcome_of (Done outcome) = Some outcome

-- the outcome that a completion gave, if there was one
abbrev pub outcome_by : Option Completion → Option Outcome
outcome_by None = None
outcome_by (Some completed) = Some completed.outcome
