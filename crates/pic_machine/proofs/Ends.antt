-- A fiber that has ended stays so: a live one has not ended.
use Rattle.std.proofs.Common.{◌≡◌, ◌≢◌, ℕ, ◌-◌, inl, inr, Bool, true, false, Option, Some, List, [], ◌∷◌, ◌++◌, filter, slice_get, slice_set, refl, sym, ap, subst, ◌∙◌}
use Rattle.std.proofs.lemmas.Option.{slice_get_within}
use Rattle.pic_base.specs.declared.action.Action.{Action}
use Rattle.pic_base.specs.declared.action.Action.TheVariants.{Resume}
use Rattle.pic_base.specs.declared.outcome.Outcome.{Outcome}
use Rattle.pic_machine.specs.declared.state.FiberState.{FiberState}
use Rattle.pic_machine.specs.declared.state.FiberState.TheVariants.{Live, Suspended, Ended}
use Rattle.pic_machine.specs.declared.state.TrigState.{TrigState}
use Rattle.pic_machine.specs.declared.state.TrigState.TheVariants.{Initial, Awaiting}
use Rattle.pic_machine.specs.declared.entry.Call.{Call}
use Rattle.pic_machine.specs.declared.entry.Call.TheVariants as call
use Rattle.pic_machine.specs.declared.entry.Call.TheVariants.{Arm, Fork, End}
use Rattle.pic_machine.specs.Happened.{Happened}
use Rattle.pic_machine.specs.declared.entry.Reply.TheVariants.{Plain}
use Rattle.pic_machine.specs.State.{State}
use Rattle.pic_machine.specs.Step.{Allowed, IsLive, MayAct, after, fibers_after, has_room, resumed, waiting, with_waiting}
use Rattle.pic_machine.specs.History.{Origin, Follows, IsLegal, event, world, world_from}
use Rattle.pic_machine.specs.Log.{is_logged, log}
use Rattle.pic_machine.specs.Suspending.{IsTied}
use Rattle.pic_machine.proofs.Callers.{caller_is_live, not_clock}
use Rattle.pic_machine.proofs.Fates.{AreSteps, steps_from}
use Rattle.pic_machine.proofs.Histories.{IsLegal-front, world_from-append}
use Rattle.pic_machine.proofs.Lists.{grown_get, slice_get-set_other, slice_get-set_same}
use Rattle.pic_machine.proofs.Suspensions.{always_tied, tied_after}

-- the fiber at a place has ended
pub record HasEnded (fibers : List FiberState) (place : ℕ) : Type 0 where
  pub outcome : Outcome
  pub state : slice_get fibers place ≡ Some (Ended outcome)

-- what stands elsewhere and is no end
elsewhere : (fibers : List FiberState) (place at : ℕ) (s x : FiberState) → slice_get fibers at ≡ Some s → ((o : Outcome) → s ≢ Ended o) → HasEnded fibers place → HasEnded (slice_set fibers at x) place
elsewhere fibers place at s x is unended ended =
    let apart : place ≢ at = λ same.
    let both : Some s ≡ Some (Ended ended.outcome) = sym is ∙ (ap (slice_get fibers) (sym same) ∙ ended.state) in
    unended ended.outcome cc in
    record { outcome = ended.outcome; state = slice_get-set_other fibers at place x apart ∙ ended.state }

ended_waiting : (w : State) (g t : ℕ) (action : Action) (place : ℕ) → IsLive w g → HasEnded w.fibers place → HasEnded (waiting w.fibers g t action) place
ended_waiting w g t (Resume h) place live ended = elsewhere w.fibers place (g - 1) Live (Suspended t) live.live (λ o same. cc) ended

ended_suspended : (w : State) (g t : ℕ) (action : Action) (place : ℕ) (s : Option TrigState) → IsLive w g → HasEnded w.fibers place → HasEnded (with_waiting w.fibers g t action s) place
ended_suspended w g t action place (Some Initial) live ended = ended_waiting w g t action place live ended
ended_suspended w g t action place _ live ended = ended

ended_resumed : (w : State) (t place : ℕ) (s : Option TrigState) → slice_get w.triggers t ≡ s → IsTied w → HasEnded w.fibers place → HasEnded (resumed w.fibers s) place
ended_resumed w t place (Some (Awaiting (Resume h))) is tied ended = elsewhere w.fibers place (h - 1) (Suspended t) Live (tied.resumes t h is).state (λ o same. cc) ended
ended_resumed w t place _ is tied ended = ended

pub ended_after : (w : State) (g : ℕ) (call : Call) (place : ℕ) → Allowed w g call → IsTied w → HasEnded w.fibers place → HasEnded (fibers_after w g call) place
ended_after w g (Arm t action) place allowed tied ended = ended_suspended w g t action place (slice_get w.triggers t) (caller_is_live w g (Arm t action) allowed tt) ended
ended_after w g (call.Signal t) place allowed tied ended = ended_resumed w t place (slice_get w.triggers t) refl tied ended
ended_after w g (Fork text value) place allowed tied ended =
    record { outcome = ended.outcome; state = grown_get (has_room w) w.fibers Live place (Ended ended.outcome) ended.state }
ended_after w g (End o) place allowed tied ended = elsewhere w.fibers place (g - 1) Live (Ended o) (caller_is_live w g (End o) allowed tt).live (λ x same. cc) ended
ended_after w g _ place allowed tied ended = ended

ended_from : (w : State) (hs : List Happened) (place : ℕ) → AreSteps w hs → IsTied w → HasEnded w.fibers place → HasEnded (world_from w hs).fibers place
ended_from w [] place are tied ended = ended
ended_from w (h ∷ hs) place are tied ended =
    ended_from (after w h.entry.fiber h.entry.call) hs place are.1 (tied_after w h.entry.fiber h.entry.call are.0.allowed tied)
    (ended_after w h.entry.fiber h.entry.call place are.0.allowed tied ended)

-- what passed a test stands somewhere in the list
record StandsIn {A : Type 0} (xs : List A) (x : A) : Type 0 where
  front : List A
  back : List A
  is : xs ≡ front ++ x ∷ back

nothing_is : {A : Type 0} (front : List A) (x : A) → [] ≡ front ++ x ∷ [] → ⊥
nothing_is [] x is = cc
nothing_is (y ∷ front) x is = cc

one_behind : {A : Type 0} (y : A) (ys : List A) (x : A) → StandsIn ys x → StandsIn (y ∷ ys) x
one_behind {A} y ys x stands = record { front = y ∷ stands.front; back = stands.back; is = ap (λ (zs : List A). y ∷ zs) stands.is }

module _ {A : Type 0} (p : A → Bool) (x : A) where
  passed_first : (y : A) (ys front : List A) → ((zs : List A) → filter p ys ≡ zs ++ x ∷ [] → StandsIn ys x) → y ∷ filter p ys ≡ front ++ x ∷ [] → StandsIn (y ∷ ys) x
  passed_first y ys [] below is = let same : y ≡ x = cc in record { front = []; back = ys; is = ap (λ (z : A). z ∷ ys) same }
  passed_first y ys (z ∷ front) below is = one_behind y ys x (below front (let rest : filter p ys ≡ front ++ x ∷ [] = cc in rest))

  passed_at : (y : A) (ys front : List A) (b : Bool) → p y ≡ b → ((zs : List A) → filter p ys ≡ zs ++ x ∷ [] → StandsIn ys x) → filter p (y ∷ ys) ≡ front ++ x ∷ [] → StandsIn (y ∷ ys) x
  passed_at y ys front true passes below is = passed_first y ys front below (sym (rw passes refl) ∙ is)
  passed_at y ys front false fails below is = one_behind y ys x (below front (sym (rw fails refl) ∙ is))

  passed_in : (xs front : List A) → filter p xs ≡ front ++ x ∷ [] → StandsIn xs x
  passed_in [] front is = absurd (nothing_is front x is)
  passed_in (y ∷ ys) front is = passed_at y ys front (p y) refl (passed_in ys) is

-- the end of fiber f took it away
pub ended_there : (w : State) (f : ℕ) (o : Outcome) → f ≢ 0 → MayAct w f → HasEnded (after w f (End o)).fibers (f - 1)
ended_there w f o fiber (inl clock) = absurd (fiber clock)
ended_there w f o fiber (inr live) = record { outcome = o; state = slice_get-set_same w.fibers (f - 1) (Ended o) (slice_get_within w.fibers (f - 1) Live live.live) }

-- a live fiber's log doesn't end in its end
pub no_end : (origin : Origin) (hs : List Happened) (f : ℕ) (before : List Happened) (o : Outcome) → IsTied origin.world → IsLegal origin hs → IsLive (world origin hs) f → log hs f ≡ before ++ event f (End o) Plain ∷ [] → ⊥
no_end origin hs f before o tied legal live is =
    let at = passed_in (is_logged f) (event f (End o) Plain) hs before is in
    let follows : Follows origin at.front (event f (End o) Plain) = legal.each at.front at.back (event f (End o) Plain) at.is in
    let w = world origin at.front in
    let whole : IsLegal origin (at.front ++ event f (End o) Plain ∷ at.back) = subst (IsLegal origin) at.is legal in
    let steps : AreSteps w (event f (End o) Plain ∷ at.back) = steps_from origin at.front (event f (End o) Plain ∷ at.back) whole in
    let tied_there : IsTied w = always_tied origin at.front tied (IsLegal-front origin at.front (event f (End o) Plain ∷ at.back) whole) in
    let fiber : f ≢ 0 = not_clock w f (End o) follows.may.allowed tt in
    let later : HasEnded (world_from (after w f (End o)) at.back).fibers (f - 1) =
    ended_from (after w f (End o)) at.back (f - 1) steps.1 (tied_after w f (End o) follows.may.allowed tied_there) (ended_there w f o fiber follows.may.allowed.caller) in
    let here : world origin hs ≡ world_from (after w f (End o)) at.back = ap (world origin) at.is ∙ world_from-append origin.world at.front (event f (End o) Plain ∷ at.back) in
    let both : Some Live ≡ Some (Ended later.outcome) = sym live.live ∙ (ap (λ (v : State). slice_get v.fibers (f - 1)) here ∙ later.state) in
    absurd cc
