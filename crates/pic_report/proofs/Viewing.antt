-- From what is left of a port to the view of its history.
use Rattle.std.proofs.Common.{◌≡◌, ◌≢◌, ℕ, zero, suc, ◌+◌, ◌-◌, ◌<◌, ◌≤◌, ◌⊎◌, inl, inr, Bool, false, Option, Some, None, List, [], ◌∷◌, ◌++◌, length, slice_get, get_or, refl, ap, ◌∙◌, arith}
use Rattle.std.proofs.lemmas.Option.{slice_get_cases, slice_get_within}
use Rattle.pic_base.specs.declared.outcome.Outcome.{Outcome}
use Rattle.pic_machine.specs.declared.closed.Closed.{Closed}
use Rattle.pic_base.specs.declared.action.Action.TheVariants.{Resume}
use Rattle.pic_machine.specs.declared.entry.ArmReply.TheVariants.{Set}
use Rattle.pic_machine.specs.declared.entry.Call.TheVariants.{Arm}
use Rattle.pic_machine.specs.declared.entry.Entry.{Entry}
use Rattle.pic_machine.specs.declared.entry.Reply.TheVariants.{Armed}
use Rattle.pic_machine.specs.Happened.{Happened}
use Rattle.pic_machine.specs.declared.state.FiberState.{FiberState}
use Rattle.pic_machine.specs.declared.state.FiberState.TheVariants.{Live, Suspended, Ended}
use Rattle.pic_machine.specs.Home.{IsBodyOf}
use Rattle.pic_machine.specs.History.{Origin, IsLegal, event, world}
use Rattle.pic_machine.specs.Final.{IsAtRest}
use Rattle.pic_machine.specs.Log.{is_hidden, log, visible}
use Rattle.pic_machine.specs.Suspending.{EndsAsleep, IsSuspended}
use Rattle.pic_machine.proofs.Asleep.{ends_asleep}
use Rattle.pic_machine.proofs.Fates.{EndsSo, ends_log}
use Rattle.pic_machine.proofs.Finals.{stands_at_rest}
use Rattle.pic_machine.proofs.Histories.{visible-push}
use Rattle.script_tree.specs.Tree.{Tree}
use Rattle.fiber_body.specs.Fits.{Fits}
use Rattle.fiber_body.specs.Shown.{Shown as Body, carry_of}
use Rattle.pic_report.specs.declared.view.FiberView.{FiberView}
use Rattle.pic_report.specs.declared.view.RunView.{RunView}
use Rattle.pic_report.specs.Lines.{fate, fate_of, left_by}
use Rattle.pic_report.specs.Taken.{AreTakenFrom, IsTakenFrom}
use Rattle.pic_report.specs.View.{IsFiberView, IsLeftOf, IsTraceOf, IsViewOf}

-- ---- how a fiber stands

some_last : (es : List Entry) (e : Entry) → 0 < length (es ++ e ∷ [])
some_last [] e = omega arith
some_last (x ∷ es) e = omega arith

last_of : (es : List Entry) (e : Entry) → slice_get (es ++ e ∷ []) (length (es ++ e ∷ []) - 1) ≡ Some e
last_of [] e = refl
last_of (x ∷ es) e = let one : length (x ∷ (es ++ e ∷ [])) - 1 ≡ suc (length (es ++ e ∷ []) - 1) = omega (arith, some_last es e) in ap (λ (k : ℕ). slice_get (x ∷ (es ++ e ∷ [])) k) one ∙ last_of es e

-- the last of visible entries tells how their fiber stands
fate_last : (front : List Happened) (last : Happened) → is_hidden last.entry.call last.entry.reply ≡ false → fate (visible (front ++ last ∷ [])) ≡ left_by last.entry.call last.entry.reply
fate_last front last shown = ap fate (visible-push front last shown) ∙ ap fate_of (last_of (visible front) last.entry)

-- entries that end in an end tell it
fate_ended : (hs : List Happened) (o : Outcome) → EndsSo hs o → fate (visible hs) ≡ Ended o
fate_ended hs o ends =
    let shown : is_hidden ends.last.entry.call ends.last.entry.reply ≡ false = rw ends.call refl in
    ap (λ (es : List Happened). fate (visible es)) ends.is ∙ (fate_last ends.front ends.last shown ∙ rw ends.call refl)

-- and those that end in the arming that suspended their fiber tell that
fate_asleep : (hs : List Happened) (f t : ℕ) → EndsAsleep hs f t → fate (visible hs) ≡ Suspended t
fate_asleep hs f t ends = ap (λ (es : List Happened). fate (visible es)) ends.is ∙ fate_last ends.front (event f (Arm t (Resume f)) (Armed Set)) refl

-- where main is the one fiber, and live, nobody is suspended
alone_awake : (place t : ℕ) → slice_get (Live ∷ []) place ≡ Some (Suspended t) → ⊥
alone_awake zero t is = cc
alone_awake (suc place) t is = cc

module _ (origin : Origin) (hs : List Happened) (main : origin.world.fibers ≡ Live ∷ []) (legal : IsLegal origin hs) where
  -- a fiber that rests stands as its log tells
  fate_at : (place : ℕ) (state : FiberState) → IsAtRest (world origin hs).triggers state → slice_get (world origin hs).fibers place ≡ Some state → fate (visible (log hs (place + 1))) ≡ state
  fate_at place Live rests is = absurd rests
  fate_at place (Suspended t) rests is =
      let here : place + 1 - 1 ≡ place = omega arith in
      let waits : IsSuspended (world origin hs) (place + 1) t = record { made = omega arith; state = ap (slice_get (world origin hs).fibers) here ∙ is } in
      fate_asleep (log hs (place + 1)) (place + 1) t
      (ends_asleep origin hs (place + 1) t (λ u was. alone_awake (place + 1 - 1) u (rw main at was.state)) legal waits)
  fate_at place (Ended o) rests is = fate_ended (log hs (place + 1)) o (ends_log origin hs place o main legal is)

-- ---- the view

module _ (origin : Origin) (share : Option Tree) (history : List Happened) (closed : Closed Body) (left : IsLeftOf origin share history closed) where
  not_clock : (place : ℕ) → place + 1 ≢ 0
  not_clock place = λ is. absurd (omega (arith, is))

  viewed : (place : ℕ) (body : Body) (state : FiberState) (view : FiberView) → slice_get closed.bodies.items place ≡ Some body → slice_get (world origin history).fibers place ≡ Some state → IsTakenFrom body view
      → IsFiberView origin history (place + 1) state view
  viewed place body state view there is taken =
      let home : IsBodyOf carry_of Fits origin share history (place + 1) body = left.left.body place body there in
      record {
        birth = body.birth;
        born = home.birth (not_clock place);
        text = taken.text;
        state_is = taken.state ∙ (ap fate home.fitting.noted ∙ fate_at origin history left.main left.left.legal place state (stands_at_rest (world origin history) place state left.final is) is);
        noted = taken.noted ∙ home.fitting.noted;
      }

  module _ (views : List FiberView) (taken : AreTakenFrom closed.bodies.items views) where
    by_place : (place : ℕ) (state : FiberState) (view : FiberView) → slice_get (world origin history).fibers place ≡ Some state → slice_get views place ≡ Some view
        → ((x : Body) × (place < length closed.bodies.items) × (slice_get closed.bodies.items place ≡ Some x) × (get_or closed.bodies.items place x ≡ x)) ⊎ ((length closed.bodies.items ≤ place) × (slice_get closed.bodies.items place ≡ None))
        → IsFiberView origin history (place + 1) state view
    by_place place state view is seen (inl found) = viewed place found.0 state view found.2 is (taken.each place found.0 view found.2 seen)
    by_place place state view is seen (inr past) = absurd (omega (arith, past.0, left.left.count, slice_get_within (world origin history).fibers place state is))

  pub view_left : (traced logged : Bool) (view : RunView) → AreTakenFrom closed.bodies.items view.fibers.items → view.clock_entries.entries ≡ closed.clock.noted → view.now ≡ closed.now → IsTraceOf history traced view.trace → view.log ≡ logged
      → IsViewOf origin history traced logged view
  view_left traced logged view taken clock now trace logs = record {
    legal = left.left.legal;
    count = taken.count ∙ left.left.count;
    fiber = λ place state seen is there. by_place view.fibers.items taken place state seen is there (slice_get_cases closed.bodies.items place).1;
    clock = clock ∙ left.left.clock.fitting.noted;
    now = now ∙ left.left.now;
    traces = trace;
    logs = logs;
  }
