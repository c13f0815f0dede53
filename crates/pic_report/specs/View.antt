-- What of a run a report is made from, and the text that is made from it.
use Rattle.std.proofs.Common.{zero, suc}
use Rattle.std.specs.Prelude.{◌≡◌, ℕ, ◌+◌, Bool, true, false, Option, Some, None, List, [], ◌∷◌, ◌++◌, codes, length, map, replicate, slice_get}
use Rattle.std.specs.List.{flat_map}
use Rattle.entry_log.specs.Logged.{Recorded}
use Rattle.pic_machine.specs.declared.birth.Birth.{Birth}
use Rattle.pic_machine.specs.declared.closed.Closed.{Closed}
use Rattle.pic_machine.specs.declared.entry.Entry.{Entry}
use Rattle.pic_machine.specs.Happened.{Happened}
use Rattle.pic_machine.specs.declared.state.CompState.TheVariants.{Running}
use Rattle.pic_machine.specs.declared.state.FiberState.{FiberState}
use Rattle.pic_machine.specs.declared.state.FiberState.TheVariants.{Live}
use Rattle.pic_machine.specs.Closing.{IsLeft, time}
use Rattle.pic_machine.specs.Completing.{completion, outcome_by}
use Rattle.pic_machine.specs.Final.{IsFinal}
use Rattle.pic_machine.specs.History.{IsLegal, Origin, birth_in, world}
use Rattle.pic_machine.specs.Log.{entries, log, visible}
use Rattle.script_tree.specs.declared.thing.Sort.TheVariants as sort
use Rattle.script_tree.specs.Tree.{Tree}
use Rattle.fiber_body.specs.Context.{count_of}
use Rattle.fiber_body.specs.Fits.{Fits}
use Rattle.fiber_body.specs.Shown.{Shown as Body, carry_of}
use Rattle.pic_report.specs.declared.view.FiberView.{FiberView}
use Rattle.pic_report.specs.declared.view.RunView.{RunView}
use Rattle.pic_report.specs.EntryText.{text_name}
use Rattle.pic_report.specs.Report.{clock_line, comp_line, comp_names, fiber_lines, run_line, suspended_count, text_names, trace_lines, joined}

-- ---- from a history

-- the root and the declared computations stand at the origin, and all of them run with nothing attached
abbrev pub BeginsRunning : Tree → Origin → Type 0
BeginsRunning script origin = origin.world.comps ≡ replicate (count_of sort.Comp script.decls + 1) (Running [])

-- this is left of a machine whose bodies shared this, behind the history, at whose end nothing is left to
-- do; at its origin main is the one fiber
pub record IsLeftOf (origin : Origin) (share : Option Tree) (history : List Happened) (closed : Closed Body) : Type 0 where
  pub main : origin.world.fibers ≡ Live ∷ []
  pub left : IsLeft carry_of Fits origin share history closed
  pub final : IsFinal (world origin history)

-- the trace, where there is one, is the history's entries
abbrev pub IsTraceOf : List Happened → Bool → Option Recorded → Type 0
IsTraceOf history traced None = traced ≡ false
IsTraceOf history traced (Some trace) = (traced ≡ true) × (trace.entries ≡ entries history)

-- the view is that of fiber f, which stands so: its text is that of its birth, and it has its visible
-- entries
pub record IsFiberView (origin : Origin) (history : List Happened) (f : ℕ) (state : FiberState) (view : FiberView) : Type 0 where
  pub birth : Birth
  pub born : birth_in origin history f ≡ Some birth
  pub text : view.text ≡ birth.text
  pub state_is : view.state ≡ state
  pub noted : view.entries.entries ≡ visible (log history f)

-- the view has what a report of the history needs: each fiber in order, what the clock did, the time,
-- and the trace and the wish for logs
pub record IsViewOf (origin : Origin) (history : List Happened) (traced logged : Bool) (view : RunView) : Type 0 where
  pub legal : IsLegal origin history
  pub count : length view.fibers.items ≡ length (world origin history).fibers
  pub fiber : (place : ℕ) (state : FiberState) (seen : FiberView)
      → slice_get (world origin history).fibers place ≡ Some state → slice_get view.fibers.items place ≡ Some seen
      → IsFiberView origin history (place + 1) state seen
  pub clock : view.clock_entries.entries ≡ visible (log history 0)
  pub now : view.now ≡ time history
  pub traces : IsTraceOf history traced view.trace
  pub logs : view.log ≡ logged

-- ---- to a text

-- the lines of the trace, where there is one
abbrev pub traced_lines : List (List ℕ) → Option Recorded → List (List ℕ)
traced_lines names None = []
traced_lines names (Some trace) = trace_lines names true trace.entries

-- the lines of a fiber with this number
abbrev pub viewed_lines : List (List ℕ) → Bool → ℕ → FiberView → List (List ℕ)
viewed_lines names with_log f view = fiber_lines names with_log (text_name names view.text) f view.state view.entries.entries

-- the lines of the fibers from number f on
abbrev pub views_lines : List (List ℕ) → Bool → ℕ → List FiberView → List (List ℕ)
views_lines names with_log f [] = []
views_lines names with_log f (view ∷ views) = viewed_lines names with_log f view ++ views_lines names with_log (f + 1) views

-- the entries of all fibers, and those of the clock
abbrev pub all_entries : RunView → List Entry
all_entries view = flat_map (λ (fiber : FiberView). fiber.entries.entries) view.fibers.items ++ view.clock_entries.entries

-- the lines of so many computations from number c on, each of which is as the entries tell
abbrev pub told_lines : List (List ℕ) → List Entry → ℕ → ℕ → List (List ℕ)
told_lines names es c zero = []
told_lines names es c (suc count) =
    comp_line names c (completion es c) (outcome_by (completion es c)) ∷ told_lines names es (c + 1) count

-- how the fibers stand
abbrev pub states_of : List FiberView → List FiberState
states_of views = map (λ (view : FiberView). view.state) views

-- how the first fiber stands
abbrev pub main_state : List FiberView → Option FiberState
main_state views = slice_get (states_of views) 0

-- the lines of a view of a run of the script
abbrev pub view_lines : Tree → RunView → List (List ℕ)
view_lines script view = codes "picos report 1\n"
    ∷ (traced_lines (text_names script) view.trace
    ++ (views_lines (text_names script) view.log 1 view.fibers.items
    ++ (told_lines (comp_names script) (all_entries view) 0 (length (comp_names script) + 1)
    ++ (clock_line view.now
    ∷ (run_line (main_state view.fibers.items) (suspended_count (states_of view.fibers.items)) ∷ [])))))

-- the text of a view of a run of the script
abbrev pub view_text : Tree → RunView → List ℕ
view_text script view = joined (view_lines script view)
