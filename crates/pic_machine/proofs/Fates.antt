-- A fiber that has ended tells so by its log: the last entry there is its end.
use Rattle.std.proofs.Common.{◌≡◌, ◌≢◌, ◌⊎◌, ℕ, zero, suc, ◌+◌, ◌-◌, inl, inr, Bool, true, false, Option, Some, List, [], ◌∷◌, ◌++◌, slice_get, slice_set, refl, sym, ap, subst, ◌∙◌, append_assoc, arith}
use Rattle.pic_base.specs.declared.action.Action.{Action}
use Rattle.pic_base.specs.declared.action.Action.TheVariants.{Resume}
use Rattle.pic_base.specs.declared.outcome.Outcome.{Outcome}
use Rattle.pic_machine.specs.declared.state.FiberState.{FiberState}
use Rattle.pic_machine.specs.declared.state.FiberState.TheVariants.{Live, Suspended, Ended}
use Rattle.pic_machine.specs.declared.state.TrigState.{TrigState}
use Rattle.pic_machine.specs.declared.state.TrigState.TheVariants.{Initial, Awaiting}
use Rattle.pic_machine.specs.declared.entry.Call.{Call}
use Rattle.pic_machine.specs.declared.entry.Call.TheVariants as call
use Rattle.pic_machine.specs.declared.entry.Call.TheVariants.{Arm, Fork, End}
use Rattle.pic_machine.specs.Happened.{Happened}
use Rattle.pic_machine.specs.State.{State}
use Rattle.pic_machine.specs.Step.{Allowed, MayAct, after, fibers_after, has_room, reply_of, resumed, waiting, with_waiting}
use Rattle.pic_machine.specs.History.{Origin, IsLegal, world, world_from}
use Rattle.pic_machine.specs.Log.{is_logged, is_turn, log}
use Rattle.pic_machine.proofs.Histories.{world-push}
use Rattle.pic_machine.proofs.Callers.{not_clock}
use Rattle.pic_machine.proofs.Lists.{grown_less, read_set}
use Rattle.pic_machine.proofs.Onward.{logged}
use Rattle.pic_machine.proofs.Staying.{not_logged}

-- ---- entry by entry

-- the entry may be made in the world, and has its reply
pub record IsStep (w : State) (h : Happened) : Type 0 where
  pub allowed : Allowed w h.entry.fiber h.entry.call
  pub reply : h.entry.reply ≡ reply_of w h.entry.fiber h.entry.call

-- each of the entries is a step from the world that those before it lead to
abbrev pub AreSteps : State → List Happened → Type 0
AreSteps w [] = Unit {0}
AreSteps w (h ∷ hs) = IsStep w h × AreSteps (after w h.entry.fiber h.entry.call) hs

pub steps_from : (origin : Origin) (front back : List Happened) → IsLegal origin (front ++ back) → AreSteps (world origin front) back
steps_from origin front [] legal = tt
steps_from origin front (h ∷ back) legal =
    let assoc : (front ++ h ∷ []) ++ back ≡ front ++ h ∷ back = append_assoc front (h ∷ []) back in
    let follows = legal.each front back h refl in
    let rest : AreSteps (world origin (front ++ h ∷ [])) back = steps_from origin (front ++ h ∷ []) back (subst (IsLegal origin) (sym assoc) legal) in
    (record { allowed = follows.may.allowed; reply = follows.reply }, subst (λ (w : State). AreSteps w back) (world-push origin front h) rest)

pub steps : (origin : Origin) (hs : List Happened) → IsLegal origin hs → AreSteps origin.world hs
steps origin hs legal = steps_from origin [] hs legal

-- ---- the end of a fiber

-- a fiber that has ended behind a call ended in it, or had ended before and didn't make it
pub data EndedBy (w : State) (g : ℕ) (call : Call) (place : ℕ) (o : Outcome) : Type 0 where
  before : slice_get w.fibers place ≡ Some (Ended o) → g ≢ place + 1 → EndedBy w g call place o
  here : g ≡ place + 1 → call ≡ End o → EndedBy w g call place o

-- who may act hasn't ended
pub acts_not : (w : State) (g place : ℕ) (o : Outcome) → MayAct w g → slice_get w.fibers place ≡ Some (Ended o) → g ≢ place + 1
acts_not w g place o (inl clock) ended = λ same. absurd (omega (arith, clock, same))
acts_not w g place o (inr live) ended = λ same.
    let one : g - 1 ≡ place = omega (arith, same) in
    let both : Some Live ≡ Some (Ended o) = sym live.live ∙ (ap (λ (k : ℕ). slice_get w.fibers k) one ∙ ended) in
    absurd cc

-- what was written somewhere and is no end ended nobody
unended : (fibers : List FiberState) (at place : ℕ) (x : FiberState) (o : Outcome) → x ≢ Ended o → slice_get (slice_set fibers at x) place ≡ Some (Ended o) → slice_get fibers place ≡ Some (Ended o)
unended fibers at place x o other is = one_on (read_set fibers at place x (Ended o) is) where
  one_on : ((place ≡ at) × (x ≡ Ended o)) ⊎ ((place ≢ at) × (slice_get fibers place ≡ Some (Ended o))) → slice_get fibers place ≡ Some (Ended o)
  one_on (inl mine) = absurd (other mine.1)
  one_on (inr there) = there.1

waits_none : (fibers : List FiberState) (g t : ℕ) (action : Action) (place : ℕ) (o : Outcome) → slice_get (waiting fibers g t action) place ≡ Some (Ended o) → slice_get fibers place ≡ Some (Ended o)
waits_none fibers g t (Resume h) place o is = unended fibers (g - 1) place (Suspended t) o (λ same. cc) is

suspends_none : (fibers : List FiberState) (g t : ℕ) (action : Action) (place : ℕ) (o : Outcome) (s : Option TrigState) → slice_get (with_waiting fibers g t action s) place ≡ Some (Ended o) → slice_get fibers place ≡ Some (Ended o)
suspends_none fibers g t action place o (Some Initial) is = waits_none fibers g t action place o is
suspends_none fibers g t action place o _ is = is

resumes_none : (fibers : List FiberState) (place : ℕ) (o : Outcome) (s : Option TrigState) → slice_get (resumed fibers s) place ≡ Some (Ended o) → slice_get fibers place ≡ Some (Ended o)
resumes_none fibers place o (Some (Awaiting (Resume h))) is = unended fibers (h - 1) place Live o (λ same. cc) is
resumes_none fibers place o _ is = is

-- another fiber's end, or this one's
end_by : (w : State) (g : ℕ) (x : Outcome) (place : ℕ) (o : Outcome) → g ≢ 0 → MayAct w g → ((place ≡ g - 1) × (Ended x ≡ Ended o)) ⊎ ((place ≢ g - 1) × (slice_get w.fibers place ≡ Some (Ended o))) → EndedBy w g (End x) place o
end_by w g x place o fiber acts (inl mine) =
    let ended : Ended x ≡ Ended o = mine.1 in
    let outcome : x ≡ o = cc in
    here (omega (arith, mine.0, fiber)) (ap End outcome)
end_by w g x place o fiber acts (inr other) = before other.1 (acts_not w g place o acts other.1)

ended_by : (w : State) (g : ℕ) (call : Call) (place : ℕ) (o : Outcome) → Allowed w g call → slice_get (fibers_after w g call) place ≡ Some (Ended o) → EndedBy w g call place o
ended_by w g (Arm t action) place o allowed is =
    let was = suspends_none w.fibers g t action place o (slice_get w.triggers t) is in
    before was (acts_not w g place o allowed.caller was)
ended_by w g (call.Signal t) place o allowed is =
    let was = resumes_none w.fibers place o (slice_get w.triggers t) is in
    before was (acts_not w g place o allowed.caller was)
ended_by w g (Fork text value) place o allowed is =
    let was = grown_less (has_room w) w.fibers Live place (Ended o) (λ same. cc) is in
    before was (acts_not w g place o allowed.caller was)
ended_by w g (End x) place o allowed is = end_by w g x place o (not_clock w g (End x) allowed tt) allowed.caller (read_set w.fibers (g - 1) place (Ended x) (Ended o) is)
ended_by w g _ place o allowed is = before is (acts_not w g place o allowed.caller is)

-- ---- the log

-- the last of a log is the end of its fiber
pub record EndsSo (hs : List Happened) (o : Outcome) : Type 0 where
  pub front : List Happened
  pub last : Happened
  pub is : hs ≡ front ++ last ∷ []
  pub call : last.entry.call ≡ End o

-- the fiber had ended in the world, and did nothing since; or its end is the last that it did since
data EndsFrom (w : State) (hs : List Happened) (place : ℕ) (o : Outcome) : Type 0 where
  long_ago : slice_get w.fibers place ≡ Some (Ended o) → log hs (place + 1) ≡ [] → EndsFrom w hs place o
  since : EndsSo (log hs (place + 1)) o → EndsFrom w hs place o

one_before : (h : Happened) (hs : List Happened) (o : Outcome) → EndsSo hs o → EndsSo (h ∷ hs) o
one_before h hs o ends = record { front = h ∷ ends.front; last = ends.last; is = ap (λ (zs : List Happened). h ∷ zs) ends.is; call = ends.call }

module _ (w : State) (h : Happened) (hs : List Happened) (place : ℕ) (o : Outcome) where
  behind : (b : Bool) → is_logged (place + 1) h ≡ b → EndsSo (log hs (place + 1)) o → EndsFrom w (h ∷ hs) place o
  behind true mine ends = since (rw mine (one_before h (log hs (place + 1)) o ends))
  behind false other ends = since (rw other ends)

  now : EndedBy w h.entry.fiber h.entry.call place o → log hs (place + 1) ≡ [] → EndsFrom w (h ∷ hs) place o
  now (before was other) none = long_ago was (rw (not_logged h (place + 1) other) none)
  now (here mine call) none =
      let within : is_turn h.entry.call ≡ false = ap is_turn call in
      since (rw (logged h (place + 1) mine within) (record { front = []; last = h; is = ap (λ (zs : List Happened). h ∷ zs) none; call = call }))

  one_more : IsStep w h → EndsFrom (after w h.entry.fiber h.entry.call) hs place o → EndsFrom w (h ∷ hs) place o
  one_more step (long_ago was none) = now (ended_by w h.entry.fiber h.entry.call place o step.allowed was) none
  one_more step (since ends) = behind (is_logged (place + 1) h) refl ends

ends_from : (w : State) (hs : List Happened) (place : ℕ) (o : Outcome) → AreSteps w hs → slice_get (world_from w hs).fibers place ≡ Some (Ended o) → EndsFrom w hs place o
ends_from w [] place o are is = long_ago is refl
ends_from w (h ∷ hs) place o are is = one_more w h hs place o are.0 (ends_from (after w h.entry.fiber h.entry.call) hs place o are.1 is)

-- no fiber has ended where main is the one fiber, and live
alone_live : (place : ℕ) (o : Outcome) → slice_get (Live ∷ []) place ≡ Some (Ended o) → ⊥
alone_live zero o is = cc
alone_live (suc place) o is = cc

since_start : (w : State) (hs : List Happened) (place : ℕ) (o : Outcome) → w.fibers ≡ Live ∷ [] → EndsFrom w hs place o → EndsSo (log hs (place + 1)) o
since_start w hs place o main (long_ago was none) = absurd (alone_live place o (rw main at was))
since_start w hs place o main (since ends) = ends

-- the log of a fiber that has ended ends in its end
pub ends_log : (origin : Origin) (hs : List Happened) (place : ℕ) (o : Outcome) → origin.world.fibers ≡ Live ∷ [] → IsLegal origin hs → slice_get (world origin hs).fibers place ≡ Some (Ended o) → EndsSo (log hs (place + 1)) o
ends_log origin hs place o main legal is = since_start origin.world hs place o main (ends_from origin.world hs place o (steps origin hs legal) is)
