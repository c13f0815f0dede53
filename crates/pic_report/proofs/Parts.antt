-- The parts of a report's text, one behind the other.
use Rattle.std.proofs.Common.{◌≡◌, ℕ, suc, ◌+◌, ◌-◌, ◌<◌, ◌≤◌, Bool, List, [], ◌∷◌, ◌++◌, length, drop, get_or, codes, sym, ap, ◌∙◌, arith, append-nil}
use Rattle.std.proofs.lemmas.List.{drop_more, drop_all}
use Rattle.pic_machine.specs.declared.entry.Entry.{Entry}
use Rattle.pic_machine.specs.Completing.{completion, outcome_by}
use Rattle.script_tree.specs.Tree.{Tree}
use Rattle.pic_report.specs.declared.view.FiberView.{FiberView}
use Rattle.pic_report.specs.declared.view.RunView.{RunView}
use Rattle.pic_report.specs.EntryText.{text_name}
use Rattle.pic_report.specs.Report.{clock_line, comp_line, comp_names, fiber_line, joined, log_lines, run_line, said_lines, says_of, suspended_count, text_names}
use Rattle.pic_report.specs.View.{all_entries, main_state, states_of, told_lines, traced_lines, view_text, viewed_lines, views_lines}
use Rattle.pic_report.proofs.Putting.{joined-append}

-- what the first of the entries that are left says, and then what those behind it say
pub says_from : (es later : List Entry) (e : Entry) → es ≡ e ∷ later → joined (says_of es) ≡ joined (said_lines e.call) ++ joined (says_of later)
says_from es later e is = ap (λ (w : List Entry). joined (says_of w)) is ∙ joined-append (said_lines e.call) (says_of later)

-- the fiber at place i, and then those behind it
pub views_from : (names : List (List ℕ)) (with_log : Bool) (views : List FiberView) (i : ℕ) (view : FiberView) → i < length views → view ≡ get_or views i view
    → joined (views_lines names with_log (i + 1) (drop i views)) ≡ joined (viewed_lines names with_log (i + 1) view) ++ joined (views_lines names with_log ((i + 1) + 1) (drop (i + 1) views))
views_from names with_log views i view within is =
    ap (λ (w : List FiberView). joined (views_lines names with_log (i + 1) w)) (drop_more views i view within ∙ ap (λ (x : FiberView). x ∷ drop (i + 1) views) (sym is))
    ∙ joined-append (viewed_lines names with_log (i + 1) view) (views_lines names with_log ((i + 1) + 1) (drop (i + 1) views))

-- none is left
pub views_end : (names : List (List ℕ)) (with_log : Bool) (views : List FiberView) (i : ℕ) → length views ≤ i → joined (views_lines names with_log (i + 1) (drop i views)) ≡ []
views_end names with_log views i end = ap (λ (w : List FiberView). joined (views_lines names with_log (i + 1) w)) (drop_all i views end)

-- a fiber's line, and then what it said and what it did
pub viewed_parts : (names : List (List ℕ)) (with_log : Bool) (f : ℕ) (view : FiberView)
    → joined (viewed_lines names with_log f view) ≡ fiber_line (text_name names view.text) f view.state ++ (joined (says_of view.entries.entries) ++ joined (log_lines names with_log view.entries.entries))
viewed_parts names with_log f view =
    ap (λ (w : List ℕ). fiber_line (text_name names view.text) f view.state ++ w) (joined-append (says_of view.entries.entries) (log_lines names with_log view.entries.entries))

-- the computation with number c, and then those behind it
pub told_from : (names : List (List ℕ)) (es : List Entry) (c count : ℕ) → c < count
    → joined (told_lines names es c (count - c)) ≡ comp_line names c (completion es c) (outcome_by (completion es c)) ++ joined (told_lines names es (c + 1) (count - (c + 1)))
told_from names es c count within =
    let more : count - c ≡ suc (count - (c + 1)) = omega arith in
    ap (λ (n : ℕ). joined (told_lines names es c n)) more

-- the parts of the whole
pub view_parts : (script : Tree) (view : RunView)
    → view_text script view ≡ codes "picos report 1\n" ++ (joined (traced_lines (text_names script) view.trace)
    ++ (joined (views_lines (text_names script) view.log 1 view.fibers.items)
    ++ (joined (told_lines (comp_names script) (all_entries view) 0 (length (comp_names script) + 1))
    ++ (clock_line view.now ++ run_line (main_state view.fibers.items) (suspended_count (states_of view.fibers.items))))))
view_parts script view =
    let a = codes "picos report 1\n" in
    let b = traced_lines (text_names script) view.trace in
    let c = views_lines (text_names script) view.log 1 view.fibers.items in
    let d = told_lines (comp_names script) (all_entries view) 0 (length (comp_names script) + 1) in
    let e = clock_line view.now in
    let f = run_line (main_state view.fibers.items) (suspended_count (states_of view.fibers.items)) in
    ap (λ (w : List ℕ). a ++ w) (joined-append b (c ++ (d ++ (e ∷ (f ∷ []))))
    ∙ ap (λ (w : List ℕ). joined b ++ w) (joined-append c (d ++ (e ∷ (f ∷ [])))
    ∙ ap (λ (w : List ℕ). joined c ++ w) (joined-append d (e ∷ (f ∷ []))
    ∙ ap (λ (w : List ℕ). joined d ++ (e ++ w)) (append-nil f))))
