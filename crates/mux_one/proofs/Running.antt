-- How a port goes on from turn to turn, and that no turn is the last of too many.
use Rattle.std.proofs.Common.{◌≡◌, ◌≢◌, ℕ, ◌+◌, ◌≤◌, ◌<◌, ◌-◌, Bool, true, false, Some, None, List, [], ◌∷◌, ◌++◌, refl, sym, ap, subst, ◌∙◌, append_assoc, append-nil, arith}
use Rattle.std.specs.List.{AllByRecursion}
use Rattle.pic_base.specs.declared.limits.Limits.{Limits}
use Rattle.pic_base.specs.Steps.{most_steps}
use Rattle.pic_machine.specs.declared.entry.Call.TheVariants as call
use Rattle.pic_machine.specs.declared.entry.Reply.TheVariants as reply
use Rattle.pic_machine.specs.declared.world.Start.{Start}
use Rattle.pic_machine.specs.Happened.{Happened}
use Rattle.pic_machine.specs.Final.{IsFinal}
use Rattle.pic_machine.specs.Step.{IsLive}
use Rattle.pic_machine.specs.History.{event, world}
use Rattle.pic_machine.specs.Log.{Others, log, own}
use Rattle.pic_machine.specs.Order.{IsOwn, begin, turns_over, yields}
use Rattle.pic_machine.specs.Sight.{Carry, Sight}
use Rattle.pic_machine.specs.State.{CanStart, State, world_at}
use Rattle.pic_machine.specs.Suspending.{IsTied}
use Rattle.pic_machine.specs.Lending.{Began, Kept}
use Rattle.pic_machine.specs.Turning.{Stopped}
use Rattle.pic_machine.proofs.Histories.{IsLegal-nil}
use Rattle.pic_machine.proofs.Owns.{yields_own}
use Rattle.pic_machine.proofs.Readiness.{IsReady, first_is_live, none_live, ready_is_live}
use Rattle.pic_machine.proofs.Rests.{IsRested, always_rested, final_when, start_rested}
use Rattle.pic_machine.proofs.Staying.{log_stays}
use Rattle.pic_machine.proofs.Steps.{IsWithin, start_within}
use Rattle.pic_machine.proofs.Suspensions.{always_tied, start_tied}
use Rattle.pic_machine.proofs.Turnings.{few_turns, live_within, turn_over, turn_yields, turns_over-append, yields-append}
use Rattle.pic_machine.proofs.Turns.{turn_in_order}
use Rattle.port_plain.specs.Shown.{Shown, origin_in, sight_of}
use Rattle.mux_one.specs.UnderWay.{IsUnderWay, most_turns, told_by}

-- ---- between two turns

-- before the first turn
pub at_start : {S : Type 0} {p : Sight S} (start : Start) → p.origin.world ≡ world_at start → CanStart start → p.front ≡ [] → p.out ≡ None → IsUnderWay p (1 ∷ [])
at_start {p = p} start begun can fresh out = record {
  start = start;
  begun = begun;
  can = can;
  legal = rw fresh (IsLegal-nil p.origin);
  order = rw fresh begin;
  few = λ f. rw fresh (omega arith);
  out = out;
}

within : {S : Type 0} {p : Sight S} {ready : List ℕ} → IsUnderWay p ready → IsWithin p.origin.world
within now = rw now.begun (start_within now.start now.can)

tied : {S : Type 0} {p : Sight S} {ready : List ℕ} → IsUnderWay p ready → IsTied p.origin.world
tied now = rw now.begun (start_tied now.start)

rested : {S : Type 0} {p : Sight S} {ready : List ℕ} → IsUnderWay p ready → IsRested p.origin.world
rested now = rw now.begun (start_rested now.start)

are_ready : {S : Type 0} {p : Sight S} {ready : List ℕ} → IsUnderWay p ready → IsReady (world p.origin p.front) ready
are_ready now = ready_is_live (λ before. before ≡ []) _ _ _ (ap (λ (w : State). w.fibers) now.begun) (tied now) now.legal now.order

-- the first of the line is live
pub first_live : {S : Type 0} {p : Sight S} {f : ℕ} {ready : List ℕ} → IsUnderWay p (f ∷ ready) → IsLive (world p.origin p.front) f
first_live now = first_is_live _ _ _ (are_ready now)

pub first_in_range : {S : Type 0} {p : Sight S} {f : ℕ} {ready : List ℕ} → IsUnderWay p (f ∷ ready) → (1 ≤ f) × (f ≤ p.origin.world.limits.fibers)
first_in_range {p = p} now = (omega (arith, (first_live now).made), live_within p.origin p.front _ (within now) (first_live now))

-- each turn leaves fewer to come
pub fewer_left : {S : Type 0} {p : Sight S} {ready : List ℕ} {limits : Limits} (before : ℕ) → p.origin.world.limits ≡ limits → IsUnderWay p ready → turns_over p.front ≡ before + 1
    → most_turns limits - turns_over p.front < most_turns limits - before
fewer_left {p = p} before same now further =
    let few : turns_over p.front ≤ most_turns p.origin.world.limits = few_turns p.origin p.front (most_steps + 1) (within now) (tied now) now.legal now.few in
    rw (sym same) (omega (arith, few, further))

-- where the line is empty all is over, as the port finds
pub found_over : {S : Type 0} {p q : Sight S} → p.alone ≡ true → IsUnderWay p [] → Kept p q → IsFinal (world q.origin q.front)
found_over {p = p} {q} alone now kept =
    let front : q.front ≡ p.front = kept.grown.later.front ∙ (ap (λ (hs : List Happened). p.front ++ hs) (kept.grown.none alone) ∙ append-nil p.front) in
    rw (kept.grown.later.origin, front)
    (final_when (world p.origin p.front) (always_tied p.origin p.front (tied now) now.legal) (always_rested p.origin p.front (rested now) now.legal) (none_live (world p.origin p.front) (are_ready now)))

-- ---- one turn

own_others : (f g : ℕ) (es : List Happened) → f ≢ g → AllByRecursion (IsOwn f) es → Others g es
own_others f g [] other own = tt
own_others f g (h ∷ es) other own = (λ same. other (sym own.0.by ∙ same), own_others f g es other own.1)

-- a line that lost nothing tells all of it
pub whole_stopped : {S : Type 0} {q r : Sight S} {f n : ℕ} {ready line : List ℕ} {before now : Bool} {How : Happened → Type 0} → n ≡ f → before ≡ false → now ≡ false
    → Stopped q r n (told_by before ready) (told_by now line) How → Stopped q r f (Some ready) (Some line) How
whole_stopped mine whole_before whole_now stopped = rw (mine, whole_before, whole_now) at stopped

-- the turn of the fiber that was first of the line: the body came by a claim, and a poll ran it
module _ {S : Type 0} {p q r : Sight S} {f : ℕ} {ready line : List ℕ} {How : Happened → Type 0}
    (alone : p.alone ≡ true) (began : Began p q (event f call.Turn reply.Plain)) (stopped : Stopped q r f (Some ready) (Some line) How) where
  abbrev claimed : Happened
  claimed = event f call.Turn reply.Plain

  abbrev made : List Happened
  made = stopped.going ++ stopped.final ∷ []

  front : r.front ≡ p.front ++ claimed ∷ made
  front =
      let begun : q.front ≡ p.front ++ claimed ∷ [] = began.later.front ∙ ap (λ (hs : List Happened). p.front ++ (hs ++ claimed ∷ [])) (began.none alone) in
      stopped.grew.later.front ∙ (rw (begun, stopped.grew.alone (began.later.alone ∙ alone)) (append_assoc p.front (claimed ∷ []) made))

  pub one_further : turns_over r.front ≡ turns_over p.front + 1
  one_further = rw front (turns_over-append p.front (claimed ∷ made) ∙ ap (λ (n : ℕ). turns_over p.front + n) (turn_over stopped.going stopped.final stopped.on stopped.last))

  -- the fiber may have yielded once more, and no other one did
  few_each : ((g : ℕ) → yields (log p.front g) ≤ most_steps + 1) → yields (log q.front f) ≤ most_steps → (g : ℕ) → yields (log r.front g) ≤ most_steps + 1
  few_each each few g =
      let mine : yields (log r.front f) ≤ most_steps + 1 = rw stopped.grew.log (omega (arith, few, yields-append (log q.front f) made, turn_yields stopped.going stopped.final stopped.on)) in
      let here : f ≡ g → yields (log r.front g) ≤ most_steps + 1 = λ same. subst (λ (n : ℕ). yields (log r.front n) ≤ most_steps + 1) same mine in
      let other : f ≢ g → yields (log r.front g) ≤ most_steps + 1 = λ apart. rw (front, log_stays p.front (claimed ∷ made) g (apart, own_others f g made apart stopped.grew.own)) (each g) in
      grind (arith, here, other)

  pub next_turn : IsUnderWay p (f ∷ ready) → yields (own (log q.front f)) ≤ most_steps → IsUnderWay r line
  next_turn now few =
      let origins : r.origin ≡ p.origin = stopped.grew.later.origin ∙ began.later.origin in
      record {
        start = now.start;
        begun = rw origins now.begun;
        can = now.can;
        legal = stopped.legal;
        order = turn_in_order (λ before. before ≡ []) p q r f [] ready line How alone now.order refl began stopped;
        few = few_each now.few (omega (arith, few, yields_own q.origin q.front f began.legal));
        out = stopped.out;
      }

-- what stands before each turn of a run that began with this port
pub record Runs {B S : Type 0} (seen : B → Carry S) (polls : Sight S → Type 0) (from port : Shown B) (lost : Bool) (ready : List ℕ) : Type 0 where
  pub origin : origin_in seen port ≡ origin_in seen from
  pub share : (seen port.main).share ≡ (seen from.main).share
  pub polls_it : polls (sight_of seen port)
  pub whole : lost ≡ false
  pub under_way : IsUnderWay (sight_of seen port) ready
