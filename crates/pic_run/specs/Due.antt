-- Which text a call has to write, and with which status it is then to end.
use Rattle.std.specs.Prelude.{◌≡◌, ℕ, Bool, ◌≤◌, Option, Some, None, Ok, List, length, codes}
use Rattle.pic_io.specs.Faults.{Rose}
use Rattle.pic_io.specs.Held.{Held, Gives, IsLongerThan}
use Rattle.pic_machine.specs.Happened.{Happened}
use Rattle.pic_machine.specs.History.{world}
use Rattle.pic_report.specs.Report.{report}
use Rattle.script_tree.specs.declared.refusal.Refused.{Refused as Refusal}
use Rattle.script_tree.specs.Tree.{Tree}
use Rattle.script_tree.specs.Grammar.{grammar}
use Rattle.script_tree.specs.Canon.{canon}
use Rattle.pic_run.specs.declared.status.Status.{Status}
use Rattle.pic_run.specs.declared.status.Status.TheVariants.{Done, Usage, Refused, ReadFault, TooLarge}
use Rattle.pic_run.specs.Limits.{most_bytes}
use Rattle.pic_run.specs.Run.{IsRunOf, origin}
use Rattle.pic_run.specs.Request.{Command, run, check, show, script_of, request}
use Rattle.pic_run.specs.Refusal.{Accepts, IsRefused, refusal_text}
use Rattle.pic_run.specs.Status.{IsStatusOf}

-- what a call is given, and what its files told by its end: the words, what each name holds, the count
-- of faults of the files before and after the call, and the name that the last failed read was given
pub record Asked : Type 0 where
  pub words : List (List ℕ)
  pub held : List ℕ → Held
  pub faults : ℕ
  pub faults_now : ℕ
  pub failed : Option (List ℕ)

-- the same from what files tell, before the call and after it
abbrev pub asked_of : {F : Type 0} → (F → List ℕ → Held) → (F → ℕ) → (F → Option (List ℕ)) → List (List ℕ) → F → F → Asked
asked_of held fault_count last_failed words old new = record {
  words = words;
  held = held old;
  faults = fault_count old;
  faults_now = fault_count new;
  failed = last_failed new;
}

-- what the bytes of a script's file have to answer: how they are refused, or what the command asks
-- for: the report of one run, with the status that tells how main ended; that they are a script; or its
-- canonical text
pub data Answers (bytes : List ℕ) : Command → List ℕ → Status → Type 0 where
  refused : {command : Command} (r : Refusal) → IsRefused bytes command r
      → Answers bytes command (refusal_text r) Refused
  ran : {script input : List ℕ} {traced logged : Bool} {status : Status} (tree : Tree) (history : List Happened)
      → grammar bytes ≡ Ok tree → Accepts (run script input traced logged) tree → IsRunOf tree history
      → IsStatusOf (world (origin tree) history) status
      → Answers bytes (run script input traced logged) (report tree (origin tree) history traced logged) status
  checked : {script : List ℕ} (tree : Tree) → grammar bytes ≡ Ok tree
      → Answers bytes (check script) (codes "ok\n") Done
  shown : {script : List ℕ} (tree : Tree) → grammar bytes ≡ Ok tree → grammar (canon tree) ≡ Ok tree
      → Answers bytes (show script) (canon tree) Done

-- the text is due, with this status where it is written whole: the table of all answers
pub data Due (asked : Asked) : List ℕ → Status → Type 0 where
  usage : request asked.words ≡ None → Due asked (codes "usage\n") Usage
  read_fault : {command : Command} → request asked.words ≡ Some command
      → Rose asked.faults asked.faults_now → asked.failed ≡ Some (script_of command)
      → Due asked (codes "read fault\n") ReadFault
  too_large : {command : Command} → request asked.words ≡ Some command
      → IsLongerThan (asked.held (script_of command)) most_bytes
      → Due asked (codes "too large\n") TooLarge
  answer : {command : Command} {bytes text : List ℕ} {status : Status}
      → request asked.words ≡ Some command
      → Gives (asked.held (script_of command)) bytes → length bytes ≤ most_bytes
      → Answers bytes command text status → Due asked text status
