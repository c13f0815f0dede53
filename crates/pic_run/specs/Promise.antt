-- What a call promises: of the text that was due, what the sink took, with which status; and which
-- answers come when.
use Rattle.std.specs.Prelude.{◌≡◌, ℕ, ◌<◌, ◌≤◌, ◌⊎◌, Option, Some, None, List, [], ◌∷◌, ◌++◌, length, Result, Ok, Err}
use Rattle.std.specs.Io.KnownBytes.{Appends, append_known}
use Rattle.pic_io.specs.declared.gathered.Gathered.{Gathered}
use Rattle.pic_io.specs.declared.sink.SinkRefusal.{SinkRefusal}
use Rattle.pic_io.specs.declared.sink.SinkRefusal.TheVariants as sink
use Rattle.pic_io.specs.Faults.{Rose}
use Rattle.pic_io.specs.Held.{missing, holds}
use Rattle.pic_report.specs.Output.{AppendsFront}
use Rattle.pic_run.specs.declared.status.Status.{Status}
use Rattle.pic_run.specs.declared.status.Status.TheVariants.{Done, Usage, Refused, ReadFault, WriteFault, OutOfMemory, TooLarge}
use Rattle.pic_run.specs.Due.{Asked}
use Rattle.pic_run.specs.Limits.{most_bytes}
use Rattle.pic_run.specs.Refusal.{IsServed}
use Rattle.pic_run.specs.Request.{Command, run, check, show, script_of, request}
use Rattle.pic_run.specs.Status.{IsOfRun}

-- what a sink told before a call and after it: the bytes that it had taken, and the count of its faults
pub record Output : Type 0 where
  pub before : Option (List ℕ)
  pub now : Option (List ℕ)
  pub faults : ℕ
  pub faults_now : ℕ

abbrev pub output_of : {K : Type 0} → (K → Option (List ℕ)) → (K → ℕ) → K → K → Output
output_of taken fault_count old new =
    record { before = taken old; now = taken new; faults = fault_count old; faults_now = fault_count new }

-- the same of the sink that a text is gathered for: it takes first what was gathered before
abbrev pub inner_output : {S : Type 0} → (S → Option (List ℕ)) → (S → ℕ) → Gathered S → Gathered S → Output
inner_output taken fault_count old new = record {
  before = append_known (taken old.inner) old.gathered.items;
  now = taken new.inner;
  faults = fault_count old.inner;
  faults_now = fault_count new.inner;
}

-- ---- what the sink took

-- what the sink took is a front of a text that was due
pub record TookFront (Due : List ℕ → Status → Type 0) (before now : Option (List ℕ)) : Type 0 where
  pub text : List ℕ
  pub status : Status
  pub due : Due text status
  pub front : AppendsFront before now text

-- what the sink took is nothing, or a front of a text that was due
abbrev pub TookNoMore : (List ℕ → Status → Type 0) → Option (List ℕ) → Option (List ℕ) → Type 0
TookNoMore Due before now = Appends before now [] ⊎ TookFront Due before now

-- the same of a sink that bytes were gathered for: of what was put, some may never have been handed on,
-- and what the sink took stands before these
pub record TookAtMost (Due : List ℕ → Status → Type 0) (before now : Option (List ℕ)) : Type 0 where
  pub held_back : List ℕ
  pub took : TookNoMore Due before (append_known now held_back)

-- The sink took exactly a text that was due with this status; or no more than is said, where it failed
-- in this call, or where memory was wanted.
pub data Promise (Due : List ℕ → Status → Type 0) (NoMore : Type 0) (o : Output) : Status → Type 0 where
  whole : {text : List ℕ} {status : Status} → Due text status → Appends o.before o.now text → Promise Due NoMore o status
  fault : Rose o.faults o.faults_now → NoMore → Promise Due NoMore o WriteFault
  memory : NoMore → Promise Due NoMore o OutOfMemory

-- of the sink that the text is put to
abbrev pub Serves : (List ℕ → Status → Type 0) → Output → Status → Type 0
Serves Due o status = Promise Due (TookNoMore Due o.before o.now) o status

-- of the sink that it is gathered for
abbrev pub ServesAtMost : (List ℕ → Status → Type 0) → Output → Status → Type 0
ServesAtMost Due o status = Promise Due (TookAtMost Due o.before o.now) o status

-- the status of a call after which what was gathered was handed on so
abbrev pub finished_status : Result (Unit {0}) SinkRefusal → Status → Status
finished_status (Ok u) called = called
finished_status (Err sink.Failed) called = WriteFault
finished_status (Err sink.Memory) called = OutOfMemory

-- ---- which answers come

-- the statuses of a call that did what the command asks for
abbrev pub EndsWell : Command → Status → Type 0
EndsWell (run script input traced logged) status = IsOfRun status
EndsWell (check script) status = status ≡ Done
EndsWell (show script) status = status ≡ Done

-- the statuses of a call that didn't get to its answer
abbrev pub GaveUp : Status → Type 0
GaveUp status = (status ≡ WriteFault) ⊎ (status ≡ OutOfMemory)

-- Which answers come to a command on these bytes.
pub record OwedOn (bytes : List ℕ) (command : Command) (o : Output) (status : Status) : Type 0 where
  -- a script is served, unless the sink fails in this call
  pub accepted : (Rose o.faults o.faults_now → ⊥) → IsServed command bytes → EndsWell command status ⊎ (status ≡ OutOfMemory)
  -- what is no script, or not one that the command serves, is refused
  pub outside : (IsServed command bytes → ⊥) → (status ≡ Refused) ⊎ GaveUp status
  -- a fault of the sink is one that occurred
  pub write_fault : status ≡ WriteFault → Rose o.faults o.faults_now

-- Which answers come to these words.
pub record Owed (asked : Asked) (o : Output) (status : Status) : Type 0 where
  -- words that are no request get no other answer
  pub no_request : request asked.words ≡ None → (status ≡ Usage) ⊎ GaveUp status
  -- nor does a script's file that is missing
  pub missing : (command : Command) → request asked.words ≡ Some command
      → asked.held (script_of command) ≡ missing → (status ≡ ReadFault) ⊎ GaveUp status
  -- the bytes of a file within the size, unless a read fails in this call
  pub within : (command : Command) (bytes : List ℕ) → request asked.words ≡ Some command
      → asked.held (script_of command) ≡ holds bytes → length bytes ≤ most_bytes
      → (Rose asked.faults asked.faults_now → ⊥) → OwedOn bytes command o status
  -- a longer file is too large
  pub longer : (command : Command) (bytes : List ℕ) → request asked.words ≡ Some command
      → asked.held (script_of command) ≡ holds bytes → most_bytes < length bytes
      → (Rose asked.faults asked.faults_now → ⊥) → (status ≡ TooLarge) ⊎ GaveUp status
  pub write_fault : status ≡ WriteFault → Rose o.faults o.faults_now

-- a request reads the script's file once, and no other; none is read where the call gave up before that
abbrev pub ReadsOnce : List (List ℕ) → List (List ℕ) → List (List ℕ) → Type 0 → Type 0
ReadsOnce words before now gave_up = (command : Command) → request words ≡ Some command
    → (now ≡ before ++ script_of command ∷ []) ⊎ (gave_up × (now ≡ before))
