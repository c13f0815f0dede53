-- How a fiber stands, and what a pass over entries finds of computations. Only private contracts cite
-- these words.
use Rattle.std.specs.Prelude.{◌≡◌, ℕ, ◌<◌, ◌-◌, Option, Some, None, List, length, slice_get, slice_index_or, slice_set}
use Rattle.pic_base.specs.declared.action.Action.TheVariants.{Resume}
use Rattle.pic_machine.specs.declared.entry.ArmReply.TheVariants.{Set}
use Rattle.pic_machine.specs.declared.entry.Call.{Call}
use Rattle.pic_machine.specs.declared.entry.Call.TheVariants.{Arm, End}
use Rattle.pic_machine.specs.declared.entry.Entry.{Entry}
use Rattle.pic_machine.specs.declared.entry.Reply.{Reply}
use Rattle.pic_machine.specs.declared.entry.Reply.TheVariants.{Armed}
use Rattle.pic_machine.specs.declared.state.Completion.{Completion}
use Rattle.pic_machine.specs.declared.state.FiberState.{FiberState}
use Rattle.pic_machine.specs.declared.state.FiberState.TheVariants.{Live, Suspended, Ended}
use Rattle.pic_machine.specs.Completing.{completion, first_of}

-- how a fiber stands whose last call is this, with this reply
abbrev pub left_by : Call → Reply → FiberState
left_by (End outcome) reply = Ended outcome
left_by (Arm trigger (Resume fiber)) (Armed Set) = Suspended trigger
left_by _ _ = Live

-- how a fiber stands whose entries these are
abbrev pub fate_of : Option Entry → FiberState
fate_of None = Live
fate_of (Some last) = left_by last.call last.reply

abbrev pub fate : List Entry → FiberState
fate es = fate_of (slice_get es (length es - 1))

-- the list with the completion at the place, if none is there yet
abbrev pub noted_if : List (Option Completion) → ℕ → Completion → Option Completion → List (Option Completion)
noted_if found place completed None = slice_set found place (Some completed)
noted_if found place completed (Some first) = found

abbrev pub noted : List (Option Completion) → ℕ → Completion → List (Option Completion)
noted found place completed = noted_if found place completed (slice_index_or found place None)

-- the completions that were found, and those that the entries tell of computations of which none was
pub record IsNoted (old new : List (Option Completion)) (es : List Entry) : Type 0 where
  pub size : length new ≡ length old
  pub each : (c : ℕ) → c < length old
      → slice_index_or new c None ≡ first_of (slice_index_or old c None) (completion es c)
