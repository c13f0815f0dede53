-- The text of a report.
use Rattle.std.proofs.Common.{zero, suc}
use Rattle.std.specs.Prelude.{ℕ, ◌+◌, ◌==◌, Bool, true, false, Option, Some, None, List, [], ◌∷◌, ◌++◌, codes, decimal, slice_index_or, slice_get, map, filter}
use Rattle.std.specs.List.{count_by, flat_map}
use Rattle.pic_base.specs.declared.outcome.Outcome.{Outcome}
use Rattle.pic_base.specs.declared.outcome.Outcome.TheVariants.{Cancelled}
use Rattle.pic_base.specs.Outcome.{outcome_text}
use Rattle.pic_machine.specs.declared.birth.Birth.{Birth}
use Rattle.pic_machine.specs.declared.entry.Call.{Call}
use Rattle.pic_machine.specs.declared.entry.Call.TheVariants.{Say}
use Rattle.pic_machine.specs.declared.entry.Entry.{Entry}
use Rattle.pic_machine.specs.Happened.{Happened}
use Rattle.pic_machine.specs.declared.state.CompState.{CompState}
use Rattle.pic_machine.specs.declared.state.Completion.{Completion}
use Rattle.pic_machine.specs.declared.state.FiberState.{FiberState}
use Rattle.pic_machine.specs.declared.state.FiberState.TheVariants.{Live, Suspended, Ended}
use Rattle.pic_machine.specs.State.{State}
use Rattle.pic_machine.specs.Closing.{time}
use Rattle.pic_machine.specs.Completing.{completion, outcome_of}
use Rattle.pic_machine.specs.History.{Origin, birth_in, world}
use Rattle.pic_machine.specs.Log.{entries, log, visible}
use Rattle.script_tree.specs.declared.program.Decl.{Decl}
use Rattle.script_tree.specs.declared.program.Text.{Text}
use Rattle.script_tree.specs.declared.thing.Sort.TheVariants as sort
use Rattle.script_tree.specs.Names.{sort_of, sort_number}
use Rattle.script_tree.specs.Tree.{Tree}
use Rattle.pic_report.specs.EntryText.{entry_text, text_name}

-- ---- names

-- the names of the script's texts, in order
abbrev pub text_names : Tree → List (List ℕ)
text_names script = map (λ (t : Text). t.name) script.texts

-- the declarations that make a computation, in order; triggers that are declared have no lines
abbrev pub comp_decls : List Decl → List Decl
comp_decls decls = filter (λ (d : Decl). sort_number (sort_of d.kind) == sort_number sort.Comp) decls

-- the names of the declared computations, in order
abbrev pub comp_names : Tree → List (List ℕ)
comp_names script = map (λ (d : Decl). d.name) (comp_decls script.decls)

-- the name of the text that a fiber of this birth runs
abbrev pub name_of_birth : List (List ℕ) → Option Birth → List ℕ
name_of_birth names None = codes "-"
name_of_birth names (Some birth) = text_name names birth.text

-- the root, or the name that the script declares
abbrev pub comp_name : List (List ℕ) → ℕ → List ℕ
comp_name names zero = codes "root"
comp_name names (suc k) = slice_index_or names k (codes "-")

-- ---- the trace

-- the fiber, and the text of its entry
abbrev pub trace_line : List (List ℕ) → Entry → List ℕ
trace_line names e =
    codes "trace " ++ (decimal e.fiber ++ (codes " " ++ (entry_text names e.call e.reply ++ codes "\n")))

-- a line for each entry, in order, where they are asked for
abbrev pub trace_lines : List (List ℕ) → Bool → List Entry → List (List ℕ)
trace_lines names false es = []
trace_lines names true es = map (trace_line names) es

-- ---- fibers

-- how the fiber stands: in a final world it has ended, or is suspended at a trigger
abbrev pub fiber_state_text : FiberState → List ℕ
fiber_state_text Live = codes "live"
fiber_state_text (Suspended trigger) = codes "suspended t" ++ decimal trigger
fiber_state_text (Ended outcome) = outcome_text outcome

-- the fiber's number, the name of its text and how it stands
abbrev pub fiber_line : List ℕ → ℕ → FiberState → List ℕ
fiber_line name f state = codes "fiber " ++ (decimal f
    ++ (codes " " ++ (name ++ (codes " " ++ (fiber_state_text state ++ codes "\n")))))

abbrev pub said_line : ℕ → List ℕ
said_line value = codes "  say " ++ (decimal value ++ codes "\n")

abbrev pub said_lines : Call → List (List ℕ)
said_lines (Say value) = said_line value ∷ []
said_lines _ = []

-- a line for each value that is said by these entries, in order
abbrev pub says_of : List Entry → List (List ℕ)
says_of es = flat_map (λ e. said_lines e.call) es

-- the text of an entry
abbrev pub log_line : List (List ℕ) → Entry → List ℕ
log_line names e = codes "  log " ++ (entry_text names e.call e.reply ++ codes "\n")

-- a line for each entry, in order, where they are asked for
abbrev pub log_lines : List (List ℕ) → Bool → List Entry → List (List ℕ)
log_lines names false es = []
log_lines names true es = map (log_line names) es

-- a fiber's line, what it said, and what it did
abbrev pub fiber_lines : List (List ℕ) → Bool → List ℕ → ℕ → FiberState → List Entry → List (List ℕ)
fiber_lines names log name f state es = fiber_line name f state ∷ (says_of es ++ log_lines names log es)

-- the lines of the fibers from number f on, which stand so
abbrev pub fibers_lines : Tree → Origin → List Happened → Bool → ℕ → List FiberState → List (List ℕ)
fibers_lines script origin hs with_log f [] = []
fibers_lines script origin hs with_log f (state ∷ states) =
    fiber_lines (text_names script) with_log (name_of_birth (text_names script) (birth_in origin hs f)) f state (visible (log hs f))
    ++ fibers_lines script origin hs with_log (f + 1) states

-- ---- computations

-- the fiber whose call completed the computation
abbrev pub completer : Option Completion → ℕ
completer None = 0
completer (Some completed) = completed.fiber

-- that the computation runs, or its outcome and which fiber completed it, to the line's end
abbrev pub comp_state_text : Option Completion → Option Outcome → List ℕ
comp_state_text by None = codes "running\n"
comp_state_text by (Some outcome) =
    outcome_text outcome ++ (codes " by " ++ (decimal (completer by) ++ codes "\n"))

abbrev pub comp_line : List (List ℕ) → ℕ → Option Completion → Option Outcome → List ℕ
comp_line names c by outcome = codes "comp " ++ (decimal c ++ (codes " "
    ++ (comp_name names c ++ (codes " " ++ comp_state_text by outcome))))

-- the lines of the computations from number c on, which stand so, after these entries
abbrev pub comps_lines : List (List ℕ) → List Entry → ℕ → List CompState → List (List ℕ)
comps_lines names es c [] = []
comps_lines names es c (state ∷ states) =
    comp_line names c (completion es c) (outcome_of state) ∷ comps_lines names es (c + 1) states

-- ---- the whole

abbrev pub clock_line : ℕ → List ℕ
clock_line now = codes "clock " ++ (decimal now ++ codes "\n")

abbrev pub is_suspended : FiberState → Bool
is_suspended (Suspended trigger) = true
is_suspended _ = false

-- how many of the fibers are suspended
abbrev pub suspended_count : List FiberState → ℕ
suspended_count states = count_by is_suspended states

-- how main ended
abbrev pub main_line : Option FiberState → List ℕ
main_line (Some (Ended (Cancelled code))) = codes "run raised " ++ (decimal code ++ codes "\n")
main_line _ = codes "run done\n"

-- how the run ended: how many fibers are suspended, and where none is, how main ended
abbrev pub run_line : Option FiberState → ℕ → List ℕ
run_line main zero = main_line main
run_line main (suc others) = codes "run stuck " ++ (decimal (suc others) ++ codes "\n")

-- the lines of a report of this world, to which this history of the script led from its origin
abbrev pub report_lines : Tree → Origin → List Happened → Bool → Bool → State → List (List ℕ)
report_lines script origin hs trace with_log w = codes "picos report 1\n"
    ∷ (trace_lines (text_names script) trace (entries hs)
    ++ (fibers_lines script origin hs with_log 1 w.fibers
    ++ (comps_lines (comp_names script) (entries hs) 0 w.comps
    ++ (clock_line (time hs) ∷ (run_line (slice_get w.fibers 0) (suspended_count w.fibers) ∷ [])))))

-- the text of lines
abbrev pub joined : List (List ℕ) → List ℕ
joined lines = flat_map (λ line. line) lines

-- the report of a history of the script from its origin, with its trace and the fibers' logs where they
-- are asked for
abbrev pub report : Tree → Origin → List Happened → Bool → Bool → List ℕ
report script origin hs trace with_log =
    joined (report_lines script origin hs trace with_log (world origin hs))
