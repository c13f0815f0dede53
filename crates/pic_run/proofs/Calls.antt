-- From what a call had to write, and how its writing ended, to each promise of the top calls.
use Rattle.std.proofs.Common.{◌≡◌, ℕ, Bool, ◌<◌, ◌≤◌, ◌⊎◌, inl, inr, Some, None, List, length, Result, Ok, Err, refl, sym, ap, subst, ◌∙◌, arith}
use Rattle.std.specs.Arc.{arc_value}
use Rattle.std.proofs.lemmas.Bool.{false≢true}
use Rattle.std.specs.Io.KnownBytes.{Appends}
use Rattle.script_tree.specs.declared.refusal.Refused.{Refused as Refusal}
use Rattle.script_tree.specs.declared.refusal.ParseRefusal.{ParseRefusal}
use Rattle.script_tree.specs.declared.refusal.ParseRefusal.TheVariants as parse_refusal
use Rattle.script_tree.specs.Denial.{Denies}
use Rattle.script_tree.specs.Grammar.{grammar}
use Rattle.script_tree.specs.Tree.{Tree}
use Rattle.pic_io.specs.Faults.{Rose}
use Rattle.pic_io.specs.Held.{Held, Gives, IsLongerThan, missing, holds}
use Rattle.pic_machine.specs.Happened.{Happened}
use Rattle.pic_machine.specs.State.{State}
use Rattle.pic_machine.specs.History.{world}
use Rattle.fiber_poll.specs.Built.{is_built}
use Rattle.pic_report.specs.declared.refusal.ReportRefusal.{ReportRefusal}
use Rattle.pic_report.specs.declared.refusal.ReportRefusal.TheVariants as refusal
use Rattle.pic_report.specs.Output.{Puts}
use Rattle.pic_report.specs.View.{view_text}
use Rattle.pic_run.specs.declared.answer.Answer.{Answer}
use Rattle.pic_run.specs.declared.report.Report.{Report}
use Rattle.pic_run.specs.declared.status.Status.{Status}
use Rattle.pic_run.specs.declared.status.Status.TheVariants.{Done, Raised, Stuck, Refused, ReadFault, WriteFault, OutOfMemory, TooLarge, Usage}
use Rattle.pic_run.specs.Limits.{most_bytes}
use Rattle.pic_run.specs.Run.{origin}
use Rattle.pic_run.specs.Over.{IsReportOf}
use Rattle.pic_run.specs.Request.{Command, run, script_of, request}
use Rattle.pic_run.specs.Refusal.{Accepts, IsRefused, no_script, not_served, IsServed, refusal_text}
use Rattle.pic_run.specs.Status.{IsOfRun, IsStatusOf}
use Rattle.pic_run.specs.Due.{Asked, Answers, refused, ran, checked, shown, Due, usage, read_fault, too_large, answer}
use Rattle.pic_run.specs.Answer.{Tells, answer_text, answer_status, ended_status}
use Rattle.pic_run.specs.Headline.{Headline}
use Rattle.pic_run.specs.Promise.{EndsWell, GaveUp, Output, Owed, OwedOn, Promise, whole, fault, memory, Serves, TookNoMore}

-- ---- the answer of a script's bytes

pub answers_ran : (bytes script input : List ℕ) (traced logged : Bool) (tree : Tree) (history : List Happened) (made : Report) → grammar bytes ≡ Ok tree → Accepts (run script input traced logged) tree → IsReportOf tree history traced logged made
    → Answers bytes (run script input traced logged) (view_text (arc_value made.program) made.view) made.status
answers_ran bytes script input traced logged tree history made reads accepts is =
    subst (λ (text : List ℕ). Answers bytes (run script input traced logged) text made.status) (sym is.text) (ran tree history reads accepts is.run is.status)

pub answers_told : (bytes : List ℕ) (command : Command) (r : Refusal) (made : Answer) → IsRefused bytes command r → Tells made r → Answers bytes command (answer_text made) (answer_status made)
answers_told bytes command r made cause tells =
    subst (λ (text : List ℕ). Answers bytes command text (answer_status made)) (sym tells.text)
    (subst (λ (status : Status). Answers bytes command (refusal_text r) status) (sym tells.status) (refused r cause))

-- what the parser denies is the grammar's first fault
pub denied : (bytes : List ℕ) (e : ParseRefusal) (r : Refusal) → Denies e (grammar bytes) → e ≡ parse_refusal.Refused r → grammar bytes ≡ Err r
denied bytes e r denies is = subst (λ (d : ParseRefusal). Denies d (grammar bytes)) is denies

-- a run has the status of one
run_status : (w : State) (status : Status) → IsStatusOf w status → IsOfRun status
run_status w Done ended = tt
run_status w Raised ended = tt
run_status w Stuck ended = tt
run_status w _ ended = absurd ended

-- what is refused is not served
same_tree : (bytes : List ℕ) (a b : Tree) → grammar bytes ≡ Ok a → grammar bytes ≡ Ok b → a ≡ b
same_tree bytes a b p q = let both : Ok a ≡ Ok b = sym p ∙ q in cc

served_none : {bytes : List ℕ} {command : Command} {r : Refusal} → IsRefused bytes command r → IsServed command bytes → ⊥
served_none (no_script {r = r} first) served = let both : Ok served.tree ≡ Err r = sym served.reads ∙ first in cc
served_none {bytes} (not_served tree reads unserved_tree) served =
    let same : served.tree ≡ tree = same_tree bytes served.tree tree served.reads reads in
    false≢true (sym unserved_tree ∙ (ap is_built (sym same) ∙ served.accepts))

-- an answer for bytes that are served, and for others
answers_well : {bytes text : List ℕ} {command : Command} {status : Status} → Answers bytes command text status → IsServed command bytes → EndsWell command status
answers_well (refused r cause) served = absurd (served_none cause served)
answers_well (ran {status = status} tree history reads accepts is ended) served = run_status (world (origin tree) history) status ended
answers_well (checked tree reads) served = refl
answers_well (shown tree reads again) served = refl

answers_refused : {bytes text : List ℕ} {command : Command} {status : Status} → Answers bytes command text status → (IsServed command bytes → ⊥) → status ≡ Refused
answers_refused (refused r cause) none = refl
answers_refused (ran tree history reads accepts is ended) none = absurd (none (record { tree = tree; reads = reads; accepts = accepts }))
answers_refused (checked tree reads) none = absurd (none (record { tree = tree; reads = reads; accepts = tt }))
answers_refused (shown tree reads again) none = absurd (none (record { tree = tree; reads = reads; accepts = tt }))

-- no answer is a fault of the sink
run_written : (w : State) (status : Status) → IsStatusOf w status → status ≡ WriteFault → ⊥
run_written w status ended is = subst IsOfRun is (run_status w status ended)

answers_written : {bytes text : List ℕ} {command : Command} {status : Status} → Answers bytes command text status → status ≡ WriteFault → ⊥
answers_written (ran {status = status} tree history reads accepts is_run ended) is = run_written (world (origin tree) history) status ended is
answers_written _ is = absurd cc

-- ---- how the writing ended

pub serves_put : (D : List ℕ → Status → Type 0) (o : Output) (text : List ℕ) (good : Status) (r : Result (Unit {0}) ReportRefusal) → D text good → Puts o.before o.now o.faults o.faults_now text r
    → Serves D o (ended_status r good)
serves_put D o text good (Ok u) due puts = whole due puts.whole
serves_put D o text good (Err refusal.WriteFault) due puts = fault (puts.fault refl) (inr (record { text = text; status = good; due = due; front = puts.refused }))
serves_put D o text good (Err refusal.Memory) due puts = memory (inr (record { text = text; status = good; due = due; front = puts.refused }))

-- ---- the bytes of a script

headline_of : {bytes text script input : List ℕ} {traced logged : Bool} {status : Status} (held : Held) (o : Output) → Answers bytes (run script input traced logged) text status → Gives held bytes → Appends o.before o.now text → IsOfRun status
    → Headline held traced logged o.before o.now status
headline_of held o (refused r cause) given appends is = absurd is
headline_of {bytes} held o (ran tree history reads accepts is_run ended) given appends is = record {
  bytes = bytes;
  given = given;
  script = tree;
  reads = reads;
  served = accepts;
  history = history;
  legal = is_run.legal;
  follows = is_run.follows;
  final = is_run.final;
  written = appends;
  ended = ended;
  ordered = is_run.ordered;
}

module _ {NoMore : Type 0} (bytes : List ℕ) (command : Command) (o : Output) where
  pub script_headline : {status : Status} → Promise (Answers bytes command) NoMore o status → IsOfRun status → (script input : List ℕ) (traced logged : Bool) → command ≡ run script input traced logged
      → Headline (holds bytes) traced logged o.before o.now status
  script_headline (whole {text} {status} answers appends) is script input traced logged same =
      headline_of (holds bytes) o (subst (λ (c : Command). Answers bytes c text status) same answers) refl appends is
  script_headline _ is script input traced logged same = absurd is

  accepted : {status : Status} → Promise (Answers bytes command) NoMore o status → (Rose o.faults o.faults_now → ⊥) → IsServed command bytes → EndsWell command status ⊎ (status ≡ OutOfMemory)
  accepted (whole answers appends) sound served = inl (answers_well answers served)
  accepted (fault rose more) sound served = absurd (sound rose)
  accepted (memory more) sound served = inr refl

  outside : {status : Status} → Promise (Answers bytes command) NoMore o status → (IsServed command bytes → ⊥) → (status ≡ Refused) ⊎ GaveUp status
  outside (whole answers appends) none = inl (answers_refused answers none)
  outside (fault rose more) none = inr (inl refl)
  outside (memory more) none = inr (inr refl)

  script_rose : {status : Status} → Promise (Answers bytes command) NoMore o status → status ≡ WriteFault → Rose o.faults o.faults_now
  script_rose (whole answers appends) is = absurd (answers_written answers is)
  script_rose (fault rose more) is = rose
  script_rose (memory more) is = absurd cc

  pub owed_on : {status : Status} → Promise (Answers bytes command) NoMore o status → OwedOn bytes command o status
  owed_on promise = record { accepted = accepted promise; outside = outside promise; write_fault = script_rose promise }

-- ---- the words

module _ (asked : Asked) (o : Output) where
  -- the file of one command
  same_command : {a b : Command} → request asked.words ≡ Some a → request asked.words ≡ Some b → a ≡ b
  same_command {a} {b} p q = let both : Some a ≡ Some b = sym p ∙ q in cc

  held_for : {a b : Command} → request asked.words ≡ Some a → request asked.words ≡ Some b → asked.held (script_of a) ≡ asked.held (script_of b)
  held_for p q = ap (λ (c : Command). asked.held (script_of c)) (same_command p q)

  -- what was taken of an answer was taken of a text that was due
  took_given : {command : Command} {bytes : List ℕ} → request asked.words ≡ Some command → Gives (asked.held (script_of command)) bytes → length bytes ≤ most_bytes
      → TookNoMore (Answers bytes command) o.before o.now → TookNoMore (Due asked) o.before o.now
  took_given asks given within (inl none) = inl none
  took_given asks given within (inr took) = inr (record { text = took.text; status = took.status; due = answer asks given within took.due; front = took.front })

  -- what is promised of the bytes of the script's file
  pub serves_given : {command : Command} {bytes : List ℕ} {status : Status} → request asked.words ≡ Some command → Gives (asked.held (script_of command)) bytes → length bytes ≤ most_bytes
      → Serves (Answers bytes command) o status → Serves (Due asked) o status
  serves_given asks given within (whole answers appends) = whole (answer asks given within answers) appends
  serves_given asks given within (fault rose more) = fault rose (took_given asks given within more)
  serves_given asks given within (memory more) = memory (took_given asks given within more)

  pub headline : {NoMore : Type 0} {status : Status} → Promise (Due asked) NoMore o status → IsOfRun status → (script input : List ℕ) (traced logged : Bool) → request asked.words ≡ Some (run script input traced logged)
      → Headline (asked.held script) traced logged o.before o.now status
  headline (whole (answer {bytes = bytes} {text} {status} asks' given within answers) appends) is script input traced logged asks =
      headline_of (asked.held script) o (subst (λ (c : Command). Answers bytes c text status) (same_command asks' asks) answers) (subst (λ (h : Held). Gives h bytes) (held_for asks' asks) given) appends is
  headline _ is script input traced logged asks = absurd is

  no_request : {NoMore : Type 0} {status : Status} → Promise (Due asked) NoMore o status → request asked.words ≡ None → (status ≡ Usage) ⊎ GaveUp status
  no_request (whole (usage none) appends) absent = inl refl
  no_request (whole (read_fault asks rose named) appends) absent = absurd cc
  no_request (whole (too_large asks longer) appends) absent = absurd cc
  no_request (whole (answer asks given within answers) appends) absent = absurd cc
  no_request (fault rose more) absent = inr (inl refl)
  no_request (memory more) absent = inr (inr refl)

  rose_of : {NoMore : Type 0} {status : Status} → Promise (Due asked) NoMore o status → status ≡ WriteFault → Rose o.faults o.faults_now
  rose_of (whole (answer asks given within answers) appends) is = absurd (answers_written answers is)
  rose_of (fault rose more) is = rose
  rose_of _ is = absurd cc

  module _ (command : Command) (asks : request asked.words ≡ Some command) where
    none_there : {NoMore : Type 0} {status : Status} → Promise (Due asked) NoMore o status → asked.held (script_of command) ≡ missing → (status ≡ ReadFault) ⊎ GaveUp status
    none_there (whole (usage none) appends) there = absurd cc
    none_there (whole (read_fault asks' rose named) appends) there = inl refl
    none_there (whole (too_large asks' longer) appends) there = absurd (subst (λ (h : Held). IsLongerThan h most_bytes) (held_for asks' asks ∙ there) longer)
    none_there (whole (answer {bytes = bytes} asks' given within answers) appends) there = absurd (subst (λ (h : Held). Gives h bytes) (held_for asks' asks ∙ there) given)
    none_there (fault rose more) there = inr (inl refl)
    none_there (memory more) there = inr (inr refl)

    module _ (bytes : List ℕ) (there : asked.held (script_of command) ≡ holds bytes) (calm : Rose asked.faults asked.faults_now → ⊥) where
      more_than : {other : Command} → request asked.words ≡ Some other → IsLongerThan (asked.held (script_of other)) most_bytes → most_bytes < length bytes
      more_than asks' longer = subst (λ (h : Held). IsLongerThan h most_bytes) (held_for asks' asks ∙ there) longer

      same_bytes : {other : Command} (given' : List ℕ) → request asked.words ≡ Some other → Gives (asked.held (script_of other)) given' → given' ≡ bytes
      same_bytes given' asks' given = subst (λ (h : Held). Gives h given') (held_for asks' asks ∙ there) given

      answers_there : {text : List ℕ} {status : Status} → length bytes ≤ most_bytes → Due asked text status → Answers bytes command text status
      answers_there fits (usage none) = absurd cc
      answers_there fits (read_fault asks' rose named) = absurd (calm rose)
      answers_there fits (too_large asks' longer) = let more : most_bytes < length bytes = more_than asks' longer in absurd (omega (arith, fits, more))
      answers_there {text} {status} fits (answer {command = command'} {bytes = bytes'} asks' given within answers) =
          subst (λ (c : Command). Answers bytes c text status) (same_command asks' asks) (subst (λ (b : List ℕ). Answers b command' text status) (same_bytes bytes' asks' given) answers)

      there_promise : {NoMore : Type 0} {status : Status} → length bytes ≤ most_bytes → Promise (Due asked) NoMore o status → Promise (Answers bytes command) NoMore o status
      there_promise fits (whole due appends) = whole (answers_there fits due) appends
      there_promise fits (fault rose more) = fault rose more
      there_promise fits (memory more) = memory more

      longer_there : {NoMore : Type 0} {status : Status} → Promise (Due asked) NoMore o status → most_bytes < length bytes → (status ≡ TooLarge) ⊎ GaveUp status
      longer_there (whole (usage none) appends) more = absurd cc
      longer_there (whole (read_fault asks' rose named) appends) more = absurd (calm rose)
      longer_there (whole (too_large asks' longer) appends) more = inl refl
      longer_there (whole (answer {bytes = bytes'} asks' given within answers) appends) more =
          let same : length bytes' ≡ length bytes = ap length (same_bytes bytes' asks' given) in absurd (omega (arith, same, within, more))
      longer_there (fault rose more') more = inr (inl refl)
      longer_there (memory more') more = inr (inr refl)

  pub owed : {NoMore : Type 0} {status : Status} → Promise (Due asked) NoMore o status → Owed asked o status
  owed promise = record {
    no_request = no_request promise;
    missing = λ command asks there. none_there command asks promise there;
    within = λ command bytes asks there fits calm. owed_on bytes command o (there_promise command asks bytes there calm fits promise);
    longer = λ command bytes asks there more calm. longer_there command asks bytes there calm promise more;
    write_fault = rose_of promise;
  }
