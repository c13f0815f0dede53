-- From what is left of the port, once a run is over, to what is told of the run.
use Rattle.std.proofs.Common.{◌≡◌, ◌≢◌, ℕ, zero, suc, ◌+◌, ◌-◌, ◌<◌, ◌≤◌, ◌⊎◌, inl, inr, Bool, true, false, Option, Some, None, List, [], ◌∷◌, length, filter, slice_get, get_or, refl, sym, ap, subst, ◌∙◌, arith}
use Rattle.std.specs.Prelude.{All}
use Rattle.std.specs.Bool.{then_some}
use Rattle.std.proofs.lemmas.List.Sums.{length-filter}
use Rattle.std.proofs.lemmas.Option.{slice_get-get_or, slice_get_cases}
use Rattle.pic_base.specs.declared.outcome.Outcome.TheVariants.{Returned, Cancelled}
use Rattle.pic_machine.specs.declared.birth.Birth.{Birth}
use Rattle.pic_machine.specs.declared.closed.Closed.{Closed}
use Rattle.pic_machine.specs.Happened.{Happened}
use Rattle.pic_machine.specs.declared.state.FiberState.{FiberState}
use Rattle.pic_machine.specs.declared.state.FiberState.TheVariants.{Live, Suspended, Ended}
use Rattle.pic_machine.specs.State.{State}
use Rattle.pic_machine.specs.Final.{IsAtRest, IsFinal}
use Rattle.pic_machine.specs.History.{Origin, IsLegal, birth_in, world}
use Rattle.pic_machine.specs.Log.{entries, log}
use Rattle.pic_machine.specs.Closing.{IsLeft}
use Rattle.pic_machine.specs.Home.{IsBodyOf}
use Rattle.pic_machine.proofs.Fresh.{birth_of_made, fibers_grow}
use Rattle.entry_log.specs.Logged.{Recorded}
use Rattle.port_plain.specs.Shown.{Shown as Port, origin_in}
use Rattle.script_tree.specs.Tree.{Tree}
use Rattle.fiber_body.specs.Follows.{FollowsText}
use Rattle.fiber_body.specs.Shown.{Shown as Body, carry_of}
use Rattle.fiber_body.specs.Fits.{Fits, MayBeOf}
use Rattle.pic_run.specs.declared.report.Report.{Report}
use Rattle.pic_run.specs.Run.{IsRunOf, origin}
use Rattle.pic_run.specs.Over.{IsOver, IsReportOf}
use Rattle.pic_report.specs.Report.{is_suspended, report, suspended_count}
use Rattle.pic_report.specs.View.{IsLeftOf, IsTraceOf, IsViewOf, main_state, states_of, view_text}
use Rattle.pic_report.proofs.Reports.{states_viewed}
use Rattle.std.specs.Arc.{arc_value}
use Rattle.pic_run.specs.Status.{IsStatusOf, IsStuck, main_status, status_of}

-- ---- the status

-- where none is counted, none is suspended
none_counted : (states : List FiberState) (place t : ℕ) → length (filter is_suspended states) ≡ 0 → slice_get states place ≡ Some (Suspended t) → ⊥
none_counted [] place t none is = cc
none_counted (Suspended u ∷ states) place t none is = absurd (omega (arith, none))
none_counted (Live ∷ states) zero t none is = cc
none_counted (Live ∷ states) (suc place) t none is = none_counted states place t none is
none_counted (Ended o ∷ states) zero t none is = cc
none_counted (Ended o ∷ states) (suc place) t none is = none_counted states place t none is

-- where some are, one of them is
record IsCounted (states : List FiberState) : Type 0 where
  place : ℕ
  trigger : ℕ
  is : slice_get states place ≡ Some (Suspended trigger)

one_behind : (state : FiberState) (states : List FiberState) → IsCounted states → IsCounted (state ∷ states)
one_behind state states counted = record { place = suc counted.place; trigger = counted.trigger; is = counted.is }

one_counted : (states : List FiberState) → 0 < length (filter is_suspended states) → IsCounted states
one_counted [] some = absurd (omega (arith, some))
one_counted (Suspended t ∷ states) some = record { place = 0; trigger = t; is = refl }
one_counted (Live ∷ states) some = one_behind Live states (one_counted states some)
one_counted (Ended o ∷ states) some = one_behind (Ended o) states (one_counted states some)

module _ (w : State) (rest : All (IsAtRest w.triggers) w.fibers) (made : 0 < length w.fibers) where
  none_waits : suspended_count w.fibers ≡ 0 → IsStuck w → ⊥
  none_waits none stuck = none_counted w.fibers (stuck.fiber - 1) stuck.trigger (length-filter is_suspended w.fibers ∙ none) stuck.waits.state

  main_at : (none : IsStuck w → ⊥) (main : FiberState) → slice_get w.fibers 0 ≡ Some main → IsAtRest w.triggers main → IsStatusOf w (main_status (Some main))
  main_at none Live is rests = absurd rests
  main_at none (Suspended t) is rests = absurd (none (record { fiber = 1; trigger = t; waits = record { made = omega arith; state = is } }))
  main_at none (Ended (Returned value)) is rests = record { none = none; value = value; main = is }
  main_at none (Ended (Cancelled code)) is rests = record { none = none; code = code; main = is }

  by_count : (count : ℕ) → suspended_count w.fibers ≡ count → IsStatusOf w (status_of (slice_get w.fibers 0) count)
  by_count zero none =
      let there = slice_get-get_or w.fibers 0 Live made in
      subst (λ (main : Option FiberState). IsStatusOf w (main_status main)) (sym there) (main_at (none_waits none) (get_or w.fibers 0 Live) there (rest 0 Live made))
  by_count (suc others) some =
      let one = one_counted w.fibers (omega (arith, some, length-filter is_suspended w.fibers)) in
      let here : suc one.place - 1 ≡ one.place = omega arith in
      record { fiber = suc one.place; trigger = one.trigger; waits = record { made = omega arith; state = ap (slice_get w.fibers) here ∙ one.is } }

-- main was made, whatever happened
main_made : (script : Tree) (hs : List Happened) → 0 < length (world (origin script) hs).fibers
main_made script hs = fibers_grow (origin script).world hs

status_is : (script : Tree) (hs : List Happened) → IsFinal (world (origin script) hs) → IsStatusOf (world (origin script) hs) (status_of (slice_get (world (origin script) hs).fibers 0) (suspended_count (world (origin script) hs).fibers))
status_is script hs final = let w = world (origin script) hs in by_count w final.rest (main_made script hs) (suspended_count w.fibers) refl

-- ---- the trace

-- the entries that the port hands over are the trace, where it is asked for
pub trace_of_stored : (hs : List Happened) (traced : Bool) (stored : Recorded) (trace : Option Recorded) → stored.entries ≡ entries hs → trace ≡ then_some traced stored → IsTraceOf hs traced trace
trace_of_stored hs true stored trace are is = subst (IsTraceOf hs true) (sym is) (refl, are)
trace_of_stored hs false stored trace are is = subst (IsTraceOf hs false) (sym is) refl

-- ---- the run

module _ (script : Tree) (port : Port Body) (closed : Closed Body) (over : IsOver script port) (left : IsLeft carry_of Fits (origin_in carry_of port) port.main.program port.front closed) where
  not_clock : (place : ℕ) → place + 1 ≢ 0
  not_clock place = λ is. absurd (omega (arith, is))

  follows_at : (place : ℕ) (body : Body) (birth : Birth) → slice_get closed.bodies.items place ≡ Some body → birth_in (origin script) port.front (place + 1) ≡ Some birth
      → FollowsText script (place + 1) birth (log port.front (place + 1))
  follows_at place body birth is made =
      let its : IsBodyOf carry_of Fits (origin_in carry_of port) port.main.program port.front (place + 1) body = left.body place body is in
      let mine : MayBeOf body.number (place + 1) = subst (λ (n : Option ℕ). MayBeOf n (place + 1)) (sym its.number) (refl, not_clock place) in
      let both : Some body.birth ≡ Some birth = sym (subst (λ (o : Origin). birth_in o port.front (place + 1) ≡ Some body.birth) over.begun (its.birth (not_clock place))) ∙ made in
      let same : body.birth ≡ birth = cc in
      subst (λ (b : Birth). FollowsText script (place + 1) b (log port.front (place + 1))) same
      (its.fitting.follows script (place + 1) (its.share (not_clock place) ∙ over.share) mine)

  legal : IsLegal (origin script) port.front
  legal = subst (λ (o : Origin). IsLegal o port.front) over.begun left.legal

  count : length closed.bodies.items ≡ length (world (origin script) port.front).fibers
  count = left.count ∙ ap (λ (o : Origin). length (world o port.front).fibers) over.begun

  follows_there : (f : ℕ) (birth : Birth) → birth_in (origin script) port.front f ≡ Some birth → (0 < f) × (f ≤ length (world (origin script) port.front).fibers)
      → FollowsText script f birth (log port.front f)
  follows_there zero birth made there = absurd (omega (arith, there.0))
  follows_there (suc place) birth made there = by_place (slice_get_cases closed.bodies.items place).1 where
    same : place + 1 ≡ suc place
    same = omega arith

    by_place : ((x : Body) × (place < length closed.bodies.items) × (slice_get closed.bodies.items place ≡ Some x) × (get_or closed.bodies.items place x ≡ x)) ⊎ ((length closed.bodies.items ≤ place) × (slice_get closed.bodies.items place ≡ None)) → FollowsText script (suc place) birth (log port.front (suc place))
    by_place (inl found) = subst (λ (f : ℕ). FollowsText script f birth (log port.front f)) same
        (follows_at place found.0 birth found.2 (subst (λ (f : ℕ). birth_in (origin script) port.front f ≡ Some birth) (sym same) made))
    by_place (inr past) = absurd (omega (arith, past.0, there.1, count))

  run_left : IsRunOf script port.front
  run_left = record {
    legal = legal;
    follows = λ f birth made. follows_there f birth made (birth_of_made (origin script) port.front f birth legal (omega arith) made);
    final = over.final;
    ordered = over.ordered;
  }

  -- what the port leaves is left of a run from the script's start
  pub left_of_run : IsLeftOf (origin script) port.main.program port.front closed
  left_of_run = record {
    main = refl;
    left = subst (λ (o : Origin). IsLeft carry_of Fits o port.main.program port.front closed) over.begun left;
    final = over.final;
  }

  -- the report of a view of that
  pub report_left : (traced logged : Bool) (made : Report) → arc_value made.program ≡ script → IsViewOf (origin script) port.front traced logged made.view
      → view_text script made.view ≡ report script (origin script) port.front traced logged → made.status ≡ status_of (main_state made.view.fibers.items) (suspended_count (states_of made.view.fibers.items)) → IsReportOf script port.front traced logged made
  report_left traced logged made program view text status = record {
    run = run_left;
    text = ap (λ (t : Tree). view_text t made.view) program ∙ text;
    status =
        let w = world (origin script) port.front in
        let seen : states_of made.view.fibers.items ≡ w.fibers = states_viewed (origin script) port.front traced logged made.view view in
        subst (IsStatusOf w) (sym (status ∙ ap (λ (states : List FiberState). status_of (slice_get states 0) (suspended_count states)) seen)) (status_is script port.front run_left.final);
  }
