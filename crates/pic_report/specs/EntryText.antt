-- The texts of entries.
use Rattle.std.specs.Prelude.{ℕ, Some, None, List, ◌++◌, codes, decimal, slice_index_or}
use Rattle.pic_base.specs.declared.action.Action.{Action}
use Rattle.pic_base.specs.declared.action.Action.TheVariants.{Resume}
use Rattle.pic_base.specs.Outcome.{outcome_text}
use Rattle.pic_machine.specs.declared.entry.ArmReply.TheVariants as arm
use Rattle.pic_machine.specs.declared.entry.AttachReply.TheVariants as attach
use Rattle.pic_machine.specs.declared.entry.Call.{Call}
use Rattle.pic_machine.specs.declared.entry.Call.TheVariants.{Turn, Yield, NewTrigger, NewPlace, Look, Arm, Signal, Attach, Complete, Peek, Fork, Say, End}
use Rattle.pic_machine.specs.declared.entry.CompleteReply.TheVariants.{Won, Lost}
use Rattle.pic_machine.specs.declared.entry.Reply.{Reply}
use Rattle.pic_machine.specs.declared.entry.Reply.TheVariants.{Full, Made, Seen, Armed, Signalled, Attached, Completed, Peeked}
use Rattle.pic_machine.specs.declared.entry.SignalReply.TheVariants as signal
use Rattle.pic_machine.specs.declared.state.TrigState.TheVariants as trigger

-- the name of the text with this number
abbrev pub text_name : List (List ℕ) → ℕ → List ℕ
text_name names text = slice_index_or names text (codes "-")

-- what a signal does on behalf of whoever armed the trigger
abbrev pub action_text : Action → List ℕ
action_text (Resume fiber) = codes "resume " ++ decimal fiber

-- ---- replies

-- the number of the thing that was made, behind the sign of its kind, or that none could be made
abbrev pub made_words : List ℕ → Reply → List ℕ
made_words sign (Made number) = sign ++ decimal number
made_words sign Full = codes "full"
made_words sign _ = codes "-"

-- how the trigger stood
abbrev pub seen_words : Reply → List ℕ
seen_words (Seen trigger.Initial) = codes "initial"
seen_words (Seen (trigger.Awaiting action)) = codes "awaiting"
seen_words (Seen trigger.Signalled) = codes "signalled"
seen_words _ = codes "-"

-- whether the call armed the trigger, and if not, why
abbrev pub armed_words : Reply → List ℕ
armed_words (Armed arm.Set) = codes "set"
armed_words (Armed arm.Signalled) = codes "signalled"
armed_words (Armed arm.Taken) = codes "taken"
armed_words _ = codes "-"

-- what the signal met
abbrev pub signalled_words : Reply → List ℕ
signalled_words (Signalled signal.Plain) = codes "plain"
signalled_words (Signalled (signal.Acted action)) = action_text action
signalled_words (Signalled signal.Already) = codes "already"
signalled_words _ = codes "-"

-- whether the call attached the trigger, and if not, the outcome that stood
abbrev pub attached_words : Reply → List ℕ
attached_words (Attached attach.Attached) = codes "attached"
attached_words (Attached (attach.Completed outcome)) = outcome_text outcome
attached_words _ = codes "-"

-- whether the call completed the computation, and if not, the outcome that stood
abbrev pub completed_words : Reply → List ℕ
completed_words (Completed Won) = codes "won"
completed_words (Completed (Lost standing)) = codes "lost " ++ outcome_text standing
completed_words _ = codes "-"

-- how the computation stood
abbrev pub peeked_words : Reply → List ℕ
peeked_words (Peeked None) = codes "running"
peeked_words (Peeked (Some outcome)) = outcome_text outcome
peeked_words _ = codes "-"

-- ---- entries

-- the text of an entry with this call and reply, where these are the names of the script's texts
abbrev pub entry_text : List (List ℕ) → Call → Reply → List ℕ
entry_text names Turn reply = codes "turn"
entry_text names Yield reply = codes "yield"
entry_text names NewTrigger reply = codes "new_trigger " ++ made_words (codes "t") reply
entry_text names NewPlace reply = codes "new_place " ++ made_words (codes "a") reply
entry_text names (Look trigger) reply = codes "look t" ++ (decimal trigger ++ (codes " " ++ seen_words reply))
entry_text names (Arm trigger action) reply =
    codes "arm t" ++ (decimal trigger ++ (codes " " ++ (action_text action ++ (codes " " ++ armed_words reply))))
entry_text names (Signal trigger) reply = codes "signal t" ++ (decimal trigger ++ (codes " " ++ signalled_words reply))
entry_text names (Attach place comp trigger) reply =
    codes "attach a" ++ (decimal place ++ (codes " c" ++ (decimal comp ++ (codes " t" ++ (decimal trigger ++ (codes " " ++ attached_words reply))))))
entry_text names (Complete comp outcome) reply =
    codes "complete c" ++ (decimal comp ++ (codes " " ++ (outcome_text outcome ++ (codes " " ++ completed_words reply))))
entry_text names (Peek comp) reply = codes "peek c" ++ (decimal comp ++ (codes " " ++ peeked_words reply))
entry_text names (Fork text value) reply =
    codes "fork " ++ (made_words (codes "") reply ++ (codes " " ++ (text_name names text ++ (codes " " ++ decimal value))))
entry_text names (Say value) reply = codes "say " ++ decimal value
entry_text names (End outcome) reply = codes "end " ++ outcome_text outcome
