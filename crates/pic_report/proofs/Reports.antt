-- The text of a view of a history is the history's report.
use Rattle.std.proofs.Common.{◌≡◌, ℕ, zero, suc, ◌+◌, ◌<◌, Bool, Option, Some, None, List, [], ◌∷◌, ◌++◌, length, replicate, slice_get, get_or, refl, sym, ap, subst, ◌∙◌, arith}
use Rattle.std.proofs.lemmas.List.{length-map, length-replicate}
use Rattle.std.proofs.lemmas.Option.{slice_get-get_or, slice_get_within}
use Rattle.entry_log.specs.Logged.{Recorded}
use Rattle.pic_machine.specs.declared.entry.Entry.{Entry}
use Rattle.pic_machine.specs.Happened.{Happened}
use Rattle.pic_machine.specs.declared.state.CompState.{CompState}
use Rattle.pic_machine.specs.declared.state.CompState.TheVariants.{Running}
use Rattle.pic_machine.specs.declared.state.FiberState.{FiberState}
use Rattle.pic_machine.specs.declared.state.FiberState.TheVariants.{Live}
use Rattle.pic_machine.specs.Completing.{completion, outcome_by, outcome_of}
use Rattle.pic_machine.specs.History.{Origin, birth_in, world}
use Rattle.pic_machine.specs.Log.{entries, log, visible}
use Rattle.pic_machine.proofs.Completions.{StandsAt, comp_once, comp_told, completer_made}
use Rattle.pic_machine.proofs.Comps.{comps_stay}
use Rattle.script_tree.specs.declared.program.Decl.{Decl}
use Rattle.script_tree.specs.declared.thing.Sort.TheVariants as sort
use Rattle.script_tree.specs.Tree.{Tree}
use Rattle.fiber_body.specs.Context.{count_of}
use Rattle.pic_report.specs.declared.view.FiberView.{FiberView}
use Rattle.pic_report.specs.declared.view.RunView.{RunView}
use Rattle.pic_report.specs.Report.{comps_lines, comp_decls, comp_names, fiber_lines, fibers_lines, joined, name_of_birth, report, report_lines, text_names, trace_lines}
use Rattle.pic_report.specs.View.{BeginsRunning, IsFiberView, IsTraceOf, IsViewOf, all_entries, states_of, told_lines, traced_lines, view_lines, view_text, viewed_lines, views_lines}
use Rattle.pic_report.proofs.Told.{all_tell}

-- ---- the trace

trace_is : (names : List (List ℕ)) (hs : List Happened) (traced : Bool) (trace : Option Recorded) → IsTraceOf hs traced trace → traced_lines names trace ≡ trace_lines names traced (entries hs)
trace_is names hs traced None is = rw is refl
trace_is names hs traced (Some trace) is = rw (is.0, is.1) refl

-- ---- fibers

module _ (script : Tree) (origin : Origin) (hs : List Happened) (with_log : Bool) where
  -- the fibers from number f on stand so, and these are their views
  abbrev AreViews : ℕ → List FiberState → List FiberView → Type 0
  AreViews f states views = (i : ℕ) (state : FiberState) (view : FiberView) → slice_get states i ≡ Some state → slice_get views i ≡ Some view → IsFiberView origin hs (f + i) state view

  one_is : (f : ℕ) (state : FiberState) (view : FiberView) → IsFiberView origin hs f state view
      → viewed_lines (text_names script) with_log f view ≡ fiber_lines (text_names script) with_log (name_of_birth (text_names script) (birth_in origin hs f)) f state (visible (log hs f))
  one_is f state view is = rw (is.born, is.text, is.state_is, is.noted) refl

  views_are : (f : ℕ) (states : List FiberState) (views : List FiberView) → length views ≡ length states → AreViews f states views → views_lines (text_names script) with_log f views ≡ fibers_lines script origin hs with_log f states
  views_are f [] [] count are = refl
  views_are f [] (view ∷ views) count are = absurd (omega (arith, count))
  views_are f (state ∷ states) [] count are = absurd (omega (arith, count))
  views_are f (state ∷ states) (view ∷ views) count are =
      let here : IsFiberView origin hs f state view = subst (λ (k : ℕ). IsFiberView origin hs k state view) (let same : f + 0 ≡ f = omega arith in same) (are 0 state view refl refl) in
      let rest = views_are (f + 1) states views (omega (arith, count)) (λ i s v p q. subst (λ (k : ℕ). IsFiberView origin hs k s v) (let same : f + suc i ≡ (f + 1) + i = omega arith in same) (are (suc i) s v p q)) in
      ap (λ (w : List (List ℕ)). w ++ views_lines (text_names script) with_log (f + 1) views) (one_is f state view here)
      ∙ ap (λ (w : List (List ℕ)). fiber_lines (text_names script) with_log (name_of_birth (text_names script) (birth_in origin hs f)) f state (visible (log hs f)) ++ w) rest

-- the fibers stand as their views say
states_are : (origin : Origin) (hs : List Happened) (f : ℕ) (states : List FiberState) (views : List FiberView) → length views ≡ length states
    → ((i : ℕ) (state : FiberState) (view : FiberView) → slice_get states i ≡ Some state → slice_get views i ≡ Some view → IsFiberView origin hs (i + f) state view) → states_of views ≡ states
states_are origin hs f [] [] count are = refl
states_are origin hs f [] (view ∷ views) count are = absurd (omega (arith, count))
states_are origin hs f (state ∷ states) [] count are = absurd (omega (arith, count))
states_are origin hs f (state ∷ states) (view ∷ views) count are =
    let rest = states_are origin hs (f + 1) states views (omega (arith, count)) (λ i s v p q. subst (λ (k : ℕ). IsFiberView origin hs k s v) (let same : suc i + f ≡ i + (f + 1) = omega arith in same) (are (suc i) s v p q)) in
    rw ((are 0 state view refl refl).state_is, rest) refl

pub states_viewed : (origin : Origin) (hs : List Happened) (traced logged : Bool) (view : RunView) → IsViewOf origin hs traced logged view → states_of view.fibers.items ≡ (world origin hs).fibers
states_viewed origin hs traced logged view is = states_are origin hs 1 (world origin hs).fibers view.fibers.items is.count is.fiber

-- ---- computations

told_are : (names : List (List ℕ)) (es all : List Entry) (c : ℕ) (states : List CompState) → ((i : ℕ) (state : CompState) → slice_get states i ≡ Some state → (outcome_of state ≡ outcome_by (completion all (c + i))) × (completion es (c + i) ≡ completion all (c + i)))
    → told_lines names es c (length states) ≡ comps_lines names all c states
told_are names es all c [] are = refl
told_are names es all c (state ∷ states) are =
    let same : c + 0 ≡ c = omega arith in
    let here = are 0 state refl in
    let is : outcome_of state ≡ outcome_by (completion all c) = here.0 ∙ ap (λ (k : ℕ). outcome_by (completion all k)) same in
    let tells : completion es c ≡ completion all c = subst (λ (k : ℕ). completion es k ≡ completion all k) same here.1 in
    let rest = told_are names es all (c + 1) states (λ i s p. let more : c + suc i ≡ (c + 1) + i = omega arith in subst (λ (k : ℕ). (outcome_of s ≡ outcome_by (completion all k)) × (completion es k ≡ completion all k)) more (are (suc i) s p)) in
    rw (tells, is, rest) refl

runs_at_first : (n c : ℕ) → c < n → slice_get (replicate n (Running [])) c ≡ Some (Running [])
runs_at_first zero c small = absurd (omega (arith, small))
runs_at_first (suc n) zero small = refl
runs_at_first (suc n) (suc c) small = runs_at_first n c (omega (arith, small))

-- ---- the whole

module _ (script : Tree) (origin : Origin) (hs : List Happened) (traced with_log : Bool) (view : RunView) (comps : BeginsRunning script origin) (is : IsViewOf origin hs traced with_log view) where
  -- as many names are told as computations are declared
  named : count_of sort.Comp script.decls ≡ length (comp_names script)
  named = sym (length-map (comp_decls script.decls) (λ (d : Decl). d.name))

  comps_at_first : origin.world.comps ≡ replicate (length (comp_names script) + 1) (Running [])
  comps_at_first = comps ∙ ap (λ (n : ℕ). replicate (n + 1) (Running [])) named

  count_now : length (world origin hs).comps ≡ length (comp_names script) + 1
  count_now = comps_stay origin hs ∙ (ap (λ (states : List CompState). length states) comps_at_first ∙ length-replicate (length (comp_names script) + 1) (Running []))

  logs_are : (i : ℕ) (seen : FiberView) → slice_get view.fibers.items i ≡ Some seen → seen.entries.entries ≡ visible (log hs (1 + i))
  logs_are i seen there =
      let fibers = (world origin hs).fibers in
      let within : i < length fibers = omega (arith, is.count, slice_get_within view.fibers.items i seen there) in
      (is.fiber i (get_or fibers i Live) seen (slice_get-get_or fibers i Live within) there).noted ∙ ap (λ (k : ℕ). visible (log hs k)) (let same : i + 1 ≡ 1 + i = omega arith in same)

  comps_are : (c : ℕ) (state : CompState) → slice_get (world origin hs).comps c ≡ Some state → (outcome_of state ≡ outcome_by (completion (entries hs) c)) × (completion (all_entries view) c ≡ completion (entries hs) c)
  comps_are c state there =
      let small : c < length (comp_names script) + 1 = omega (arith, count_now, slice_get_within (world origin hs).comps c state there) in
      let runs : StandsAt origin.world.comps c None = record {
        state = Running [];
        there = subst (λ (states : List CompState). slice_get states c ≡ Some (Running [])) (sym comps_at_first) (runs_at_first (length (comp_names script) + 1) c small);
        is = refl;
      } in
      let told = comp_told origin hs c is.legal runs in
      let both : Some state ≡ Some told.state = sym there ∙ told.there in
      let same : state ≡ told.state = cc in (
        ap outcome_of same ∙ told.is,
        all_tell c hs (comp_once origin hs c is.legal runs) view.fibers.items view.clock_entries.entries logs_are is.clock (λ x made. let within = completer_made origin hs c x is.legal made in omega (arith, within, is.count)),
      )

  views : AreViews script origin hs with_log 1 (world origin hs).fibers view.fibers.items
  views = λ i state seen p q. subst (λ (k : ℕ). IsFiberView origin hs k state seen) (let same : i + 1 ≡ 1 + i = omega arith in same) (is.fiber i state seen p q)

  pub view_report : view_text script view ≡ report script origin hs traced with_log
  view_report =
      let w = world origin hs in
      let told : told_lines (comp_names script) (all_entries view) 0 (length (comp_names script) + 1) ≡ comps_lines (comp_names script) (entries hs) 0 w.comps =
      ap (λ (n : ℕ). told_lines (comp_names script) (all_entries view) 0 n) (sym count_now) ∙ told_are (comp_names script) (all_entries view) (entries hs) 0 w.comps (λ i state there. let same : i ≡ 0 + i = omega arith in subst (λ (k : ℕ). (outcome_of state ≡ outcome_by (completion (entries hs) k)) × (completion (all_entries view) k ≡ completion (entries hs) k)) same (comps_are i state there)) in
      let lines : view_lines script view ≡ report_lines script origin hs traced with_log w =
      rw (trace_is (text_names script) hs traced view.trace is.traces, is.logs, views_are script origin hs with_log 1 w.fibers view.fibers.items is.count views, told, is.now, states_viewed origin hs traced with_log view is) refl in
      ap joined lines
