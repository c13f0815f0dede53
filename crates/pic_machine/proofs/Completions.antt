-- A computation is completed once, by the one entry that tells so, which stands in the log of its fiber.
use Rattle.std.proofs.Common.{◌≡◌, ◌≢◌, ◌⊎◌, ℕ, ◌-◌, ◌≤◌, ◌==◌, cond, eqb, inl, inr, Bool, true, false, Option, Some, None, List, [], ◌∷◌, ◌++◌, length, slice_get, refl, sym, ap, subst, ◌∙◌, arith}
use Rattle.std.proofs.lemmas.Bool.Decides.{eqb_tells, nat_tests}
use Rattle.std.proofs.lemmas.Option.{slice_get_within}
use Rattle.pic_base.specs.declared.outcome.Outcome.{Outcome}
use Rattle.pic_machine.specs.declared.entry.Call.{Call}
use Rattle.pic_machine.specs.declared.entry.Call.TheVariants.{Attach, Complete}
use Rattle.pic_machine.specs.declared.entry.CompleteReply.TheVariants.{Won}
use Rattle.pic_machine.specs.Happened.{Happened}
use Rattle.pic_machine.specs.declared.entry.Reply.{Reply}
use Rattle.pic_machine.specs.declared.entry.Reply.TheVariants.{Completed}
use Rattle.pic_machine.specs.declared.state.CompState.{CompState}
use Rattle.pic_machine.specs.declared.state.CompState.TheVariants.{Running, Done}
use Rattle.pic_machine.specs.declared.state.Completion.{Completion}
use Rattle.pic_machine.specs.declared.state.FiberState.TheVariants.{Live}
use Rattle.pic_machine.specs.Completing.{completion, completion_at, first_of, outcome_by, outcome_of}
use Rattle.pic_machine.specs.State.{State}
use Rattle.pic_machine.specs.Step.{MayAct, after, comps_after, completed, reply_of, with_attached, with_outcome}
use Rattle.pic_machine.specs.History.{Origin, IsLegal, world, world_from}
use Rattle.pic_machine.specs.Log.{entries, is_hidden, is_logged, is_turn, is_visible, log, visible}
use Rattle.pic_machine.proofs.Fates.{AreSteps, IsStep, steps}
use Rattle.pic_machine.proofs.Fresh.{fibers_grow}
use Rattle.pic_machine.proofs.Lists.{slice_get-set_other, slice_get-set_same}
use Rattle.pic_machine.proofs.Steps.{fibers_stay}

-- how the entry completed the computation c
abbrev told_by : ℕ → Happened → Option Completion
told_by c h = completion_at c h.entry.fiber h.entry.call h.entry.reply

-- ---- one step

-- the computation c stands so: it has this outcome, or none
pub record StandsAt (comps : List CompState) (c : ℕ) (outcome : Option Outcome) : Type 0 where
  pub state : CompState
  pub there : slice_get comps c ≡ Some state
  pub is : outcome_of state ≡ outcome

-- a completion leaves the others as they were
pub outcome_other : (comps : List CompState) (d c : ℕ) (o : Outcome) (s : Option CompState) → c ≢ d → slice_get (with_outcome comps d o s) c ≡ slice_get comps c
outcome_other comps d c o (Some (Running triggers)) other = slice_get-set_other comps d c (Done o) other
outcome_other comps d c o _ other = refl

-- and isn't told of them
told_other : (g d c : ℕ) (o : Outcome) (s : Option CompState) → (d == c) ≡ false → completion_at c g (Complete d o) (completed s) ≡ None
told_other g d c o (Some (Done x)) other = refl
told_other g d c o _ other = rw other refl

stands_other : (comps : List CompState) (d c : ℕ) (o : Outcome) (s : Option CompState) (outcome : Option Outcome) → c ≢ d → StandsAt comps c outcome → StandsAt (with_outcome comps d o s) c outcome
stands_other comps d c o s outcome other stands = record { state = stands.state; there = outcome_other comps d c o s other ∙ stands.there; is = stands.is }

-- so does an attachment: what is attached to a computation leaves it running
pub attached_other : (comps : List CompState) (d c t : ℕ) (s : Option CompState) → c ≢ d → slice_get (with_attached comps d t s) c ≡ slice_get comps c
attached_other comps d c t (Some (Running triggers)) other = slice_get-set_other comps d c (Running (triggers ++ t ∷ [])) other
attached_other comps d c t _ other = refl

attached_here : (comps : List CompState) (c t : ℕ) (state : CompState) → slice_get comps c ≡ Some state → StandsAt (with_attached comps c t (Some state)) c (outcome_of state)
attached_here comps c t (Running triggers) there = record {
  state = Running (triggers ++ t ∷ []);
  there = slice_get-set_same comps c (Running (triggers ++ t ∷ [])) (slice_get_within comps c (Running triggers) there);
  is = refl;
}
attached_here comps c t (Done o) there = record { state = Done o; there = there; is = refl }

stands_attached : (comps : List CompState) (d t c : ℕ) (outcome : Option Outcome) → StandsAt comps c outcome → StandsAt (with_attached comps d t (slice_get comps d)) c outcome
stands_attached comps d t c outcome stands = at (eqb_tells c d) where
  at : ((eqb c d ≡ true) × (c ≡ d)) ⊎ ((eqb c d ≡ false) × (c ≢ d)) → StandsAt (with_attached comps d t (slice_get comps d)) c outcome
  at (inl same) =
      subst (λ (e : ℕ). StandsAt (with_attached comps e t (slice_get comps e)) c outcome) same.1
      (subst (λ (s : Option CompState). StandsAt (with_attached comps c t s) c outcome) (sym stands.there)
      (subst (StandsAt (with_attached comps c t (Some stands.state)) c) stands.is (attached_here comps c t stands.state stands.there)))
  at (inr other) = record { state = stands.state; there = attached_other comps d c t (slice_get comps d) other.1 ∙ stands.there; is = stands.is }

-- what a completion makes of a computation without an outcome is what is told of it
runs_here : (comps : List CompState) (g c : ℕ) (o : Outcome) (state : CompState) → slice_get comps c ≡ Some state → outcome_of state ≡ None
    → StandsAt (with_outcome comps c o (Some state)) c (outcome_by (completion_at c g (Complete c o) (completed (Some state))))
runs_here comps g c o (Running triggers) there none =
    let same : (c == c) ≡ true = grind (arith, nat_tests) in
    record { state = Done o; there = slice_get-set_same comps c (Done o) (slice_get_within comps c (Running triggers) there); is = rw same refl }
runs_here comps g c o (Done x) there none = absurd cc

runs_complete : (w : State) (g d : ℕ) (o : Outcome) (c : ℕ) (b : Bool) → (d == c) ≡ b → StandsAt w.comps c None
    → StandsAt (comps_after w (Complete d o)) c (outcome_by (completion_at c g (Complete d o) (reply_of w g (Complete d o))))
runs_complete w g d o c true same stands =
    let at : c ≡ d = grind (arith, nat_tests, same) in
    let here : slice_get w.comps c ≡ Some stands.state = stands.there in
    subst (λ (e : ℕ). StandsAt (comps_after w (Complete e o)) c (outcome_by (completion_at c g (Complete e o) (reply_of w g (Complete e o))))) at
    (subst (λ (s : Option CompState). StandsAt (with_outcome w.comps c o s) c (outcome_by (completion_at c g (Complete c o) (completed s)))) (sym here)
    (runs_here w.comps g c o stands.state here stands.is))
runs_complete w g d o c false other stands =
    let apart : c ≢ d = grind (arith, nat_tests, other) in
    subst (λ (k : Option Completion). StandsAt (comps_after w (Complete d o)) c (outcome_by k)) (sym (told_other g d c o (slice_get w.comps d) other))
    (stands_other w.comps d c o (slice_get w.comps d) None apart stands)

runs_after : (w : State) (g : ℕ) (call : Call) (c : ℕ) → StandsAt w.comps c None → StandsAt (comps_after w call) c (outcome_by (completion_at c g call (reply_of w g call)))
runs_after w g (Attach p d t) c stands = stands_attached w.comps d t c None stands
runs_after w g (Complete d o) c stands = runs_complete w g d o c (d == c) refl stands
runs_after w g _ c stands = stands

-- a completed computation stays as it is, and nothing more is told of it
pub record Stays (w : State) (g : ℕ) (call : Call) (c : ℕ) (o : Outcome) : Type 0 where
  pub state : StandsAt (comps_after w call) c (Some o)
  pub untold : completion_at c g call (reply_of w g call) ≡ None

done_here : (comps : List CompState) (c : ℕ) (x : Outcome) (o : Outcome) (state : CompState) → outcome_of state ≡ Some o → (with_outcome comps c x (Some state) ≡ comps) × ((g : ℕ) → completion_at c g (Complete c x) (completed (Some state)) ≡ None)
done_here comps c x o (Running triggers) is = absurd cc
done_here comps c x o (Done y) is = (refl, λ g. refl)

done_complete : (w : State) (g d : ℕ) (x : Outcome) (c : ℕ) (o : Outcome) (b : Bool) → (d == c) ≡ b → StandsAt w.comps c (Some o) → Stays w g (Complete d x) c o
done_complete w g d x c o true same stands =
    let at : c ≡ d = grind (arith, nat_tests, same) in
    let here = done_here w.comps c x o stands.state stands.is in
    let comps : comps_after w (Complete c x) ≡ w.comps = ap (λ (s : Option CompState). with_outcome w.comps c x s) stands.there ∙ here.0 in
    let untold : completion_at c g (Complete c x) (reply_of w g (Complete c x)) ≡ None = ap (λ (s : Option CompState). completion_at c g (Complete c x) (completed s)) stands.there ∙ here.1 g in
    subst (λ (e : ℕ). Stays w g (Complete e x) c o) at
    (record { state = subst (λ (zs : List CompState). StandsAt zs c (Some o)) (sym comps) stands; untold = untold })
done_complete w g d x c o false other stands =
    let apart : c ≢ d = grind (arith, nat_tests, other) in
    record { state = stands_other w.comps d c x (slice_get w.comps d) (Some o) apart stands; untold = told_other g d c x (slice_get w.comps d) other }

pub done_after : (w : State) (g : ℕ) (call : Call) (c : ℕ) (o : Outcome) → StandsAt w.comps c (Some o) → Stays w g call c o
done_after w g (Attach p d t) c o stands = record { state = stands_attached w.comps d t c (Some o) stands; untold = refl }
done_after w g (Complete d x) c o stands = done_complete w g d x c o (d == c) refl stands
done_after w g _ c o stands = record { state = stands; untold = refl }

-- a computation that has an outcome is done
done_is : (comps : List CompState) (c : ℕ) (o : Outcome) (state : CompState) → slice_get comps c ≡ Some state → outcome_of state ≡ Some o → slice_get comps c ≡ Some (Done o)
done_is comps c o (Running triggers) there is = absurd cc
done_is comps c o (Done x) there is = there ∙ ap (λ (y : Outcome). Some (Done y)) (let same : x ≡ o = cc in same)

pub is_done : (comps : List CompState) (c : ℕ) (o : Outcome) → StandsAt comps c (Some o) → slice_get comps c ≡ Some (Done o)
is_done comps c o stands = done_is comps c o stands.state stands.there stands.is

pub done_stays : (w : State) (f : ℕ) (call : Call) (c : ℕ) (o : Outcome) → slice_get w.comps c ≡ Some (Done o) → slice_get (after w f call).comps c ≡ Some (Done o)
done_stays w f call c o is = is_done (comps_after w call) c o (done_after w f call c o (record { state = Done o; there = is; is = refl })).state

-- ---- a history

-- at most one of the entries completes the computation c
abbrev pub IsOnce : ℕ → List Happened → Type 0
IsOnce c [] = Unit {0}
IsOnce c (h ∷ hs) = ((k : Completion) → told_by c h ≡ Some k → completion (entries hs) c ≡ None) × IsOnce c hs

-- how a computation stands that some entries lead to, and what they tell of it
record Leads (w : State) (hs : List Happened) (c : ℕ) (outcome : Option Outcome) : Type 0 where
  now : StandsAt (world_from w hs).comps c outcome
  once : IsOnce c hs

record Stands (w : State) (hs : List Happened) (c : ℕ) (o : Outcome) : Type 0 where
  now : StandsAt (world_from w hs).comps c (Some o)
  untold : completion (entries hs) c ≡ None

told_step : (w : State) (h : Happened) (c : ℕ) → IsStep w h → told_by c h ≡ completion_at c h.entry.fiber h.entry.call (reply_of w h.entry.fiber h.entry.call)
told_step w h c step = ap (completion_at c h.entry.fiber h.entry.call) step.reply

done_from : (w : State) (hs : List Happened) (c : ℕ) (o : Outcome) → AreSteps w hs → StandsAt w.comps c (Some o) → Stands w hs c o
done_from w [] c o are stands = record { now = stands; untold = refl }
done_from w (h ∷ hs) c o are stands =
    let one = done_after w h.entry.fiber h.entry.call c o stands in
    let rest = done_from (after w h.entry.fiber h.entry.call) hs c o are.1 one.state in
    record { now = rest.now; untold = rw (told_step w h c are.0 ∙ one.untold) rest.untold }

none_behind : (first later : Option Completion) → first_of first later ≡ None → later ≡ None
none_behind None later none = none
none_behind (Some k) later none = absurd cc

once_untold : (c : ℕ) (hs : List Happened) → completion (entries hs) c ≡ None → IsOnce c hs
once_untold c [] none = tt
once_untold c (h ∷ hs) none = let rest = none_behind (told_by c h) (completion (entries hs) c) none in ((λ k told. rest), once_untold c hs rest)

module _ (w : State) (h : Happened) (hs : List Happened) (c : ℕ) (step : IsStep w h) (rest : AreSteps (after w h.entry.fiber h.entry.call) hs) where
  leads_on : (k : Option Completion) → told_by c h ≡ k → StandsAt (comps_after w h.entry.call) c (outcome_by k)
      → (StandsAt (comps_after w h.entry.call) c None → Leads (after w h.entry.fiber h.entry.call) hs c (outcome_by (completion (entries hs) c)))
      → Leads w (h ∷ hs) c (outcome_by (completion (entries (h ∷ hs)) c))
  leads_on None untold is later =
      let on = later is in
      record { now = rw untold on.now; once = ((λ k told. let e : None ≡ Some k = sym untold ∙ told in absurd cc), on.once) }
  leads_on (Some k) told is later =
      let on = done_from (after w h.entry.fiber h.entry.call) hs c k.outcome rest is in
      record { now = rw told on.now; once = ((λ k told. on.untold), once_untold c hs on.untold) }

runs_from : (w : State) (hs : List Happened) (c : ℕ) → AreSteps w hs → StandsAt w.comps c None → Leads w hs c (outcome_by (completion (entries hs) c))
runs_from w [] c are stands = record { now = stands; once = tt }
runs_from w (h ∷ hs) c are stands =
    leads_on w h hs c are.0 are.1 (told_by c h) refl
    (subst (λ (k : Option Completion). StandsAt (comps_after w h.entry.call) c (outcome_by k)) (sym (told_step w h c are.0)) (runs_after w h.entry.fiber h.entry.call c stands))
    (λ runs. runs_from (after w h.entry.fiber h.entry.call) hs c are.1 runs)

-- a computation that had no outcome at first has the one that the first completion of it gave, if there was one
pub comp_told : (origin : Origin) (hs : List Happened) (c : ℕ) → IsLegal origin hs → StandsAt origin.world.comps c None → StandsAt (world origin hs).comps c (outcome_by (completion (entries hs) c))
comp_told origin hs c legal stands = (runs_from origin.world hs c (steps origin hs legal) stands).now

pub comp_once : (origin : Origin) (hs : List Happened) (c : ℕ) → IsLegal origin hs → StandsAt origin.world.comps c None → IsOnce c hs
comp_once origin hs c legal stands = (runs_from origin.world hs c (steps origin hs legal) stands).once

-- ---- the logs

-- the completion, where fiber f made it
abbrev pub made_by : ℕ → Option Completion → Option Completion
made_by f None = None
made_by f (Some k) = cond (k.fiber == f) (Some k) None

told_when : (c g : ℕ) (comp : ℕ) (o : Outcome) (k : Completion) (b : Bool) → (comp == c) ≡ b → completion_at c g (Complete comp o) (Completed Won) ≡ Some k → k.fiber ≡ g
told_when c g comp o k true same told = let e : Some (record { fiber = g; outcome = o }) ≡ Some k = rw same at told in let same : record { fiber = g; outcome = o } ≡ k = cc in ap (λ (x : Completion). x.fiber) (sym same)
told_when c g comp o k false other told = let e : None ≡ Some k = rw other at told in absurd cc

-- who completed something is the caller, by an entry that the caller's log has and shows
record IsTold (g : ℕ) (call : Call) (reply : Reply) (k : Completion) : Type 0 where
  fiber : k.fiber ≡ g
  logged : is_turn call ≡ false
  shown : is_hidden call reply ≡ false

told_fiber : (c g : ℕ) (call : Call) (reply : Reply) (k : Completion) → completion_at c g call reply ≡ Some k → IsTold g call reply k
told_fiber c g (Complete comp o) (Completed Won) k told = record { fiber = told_when c g comp o k (comp == c) refl told; logged = refl; shown = refl }
told_fiber c g _ _ k told = absurd cc

-- an entry that tells of no completion changes nothing of what a log shows of them
untold_first : (c : ℕ) (h : Happened) (hs : List Happened) (b : Bool) → told_by c h ≡ None → is_visible h ≡ b → completion (visible (h ∷ hs)) c ≡ completion (visible hs) c
untold_first c h hs true untold shown = rw (shown, untold) refl
untold_first c h hs false untold hidden = rw hidden refl

told_first : (c : ℕ) (h : Happened) (hs : List Happened) (k : Completion) → told_by c h ≡ Some k → is_hidden h.entry.call h.entry.reply ≡ false → completion (visible (h ∷ hs)) c ≡ Some k
told_first c h hs k told shown = rw (shown, told) refl

module _ (c f : ℕ) (h : Happened) (hs : List Happened) where
  -- what the first entry tells of the log
  log_first : (k : Option Completion) (b : Bool) → told_by c h ≡ k → is_logged f h ≡ b → completion (visible (log hs f)) c ≡ made_by f (completion (entries hs) c)
      → ((k : Completion) → told_by c h ≡ Some k → completion (entries hs) c ≡ None) → completion (visible (log (h ∷ hs) f)) c ≡ made_by f (completion (entries (h ∷ hs)) c)
  log_first None true untold mine rest once = rw (mine, untold) (untold_first c h (log hs f) (is_visible h) untold refl ∙ rest)
  log_first None false untold other rest once = rw (other, untold) rest
  log_first (Some k) true told mine rest once =
      let is = told_fiber c h.entry.fiber h.entry.call h.entry.reply k told in
      let same : (k.fiber == f) ≡ true = grind (nat_tests, arith, is.fiber, mine) in
      rw (mine, told, same) (told_first c h (log hs f) k told is.shown)
  log_first (Some k) false told other rest once =
      let is = told_fiber c h.entry.fiber h.entry.call h.entry.reply k told in
      let apart : (k.fiber == f) ≡ false = grind (nat_tests, arith, is.fiber, is.logged, other) in
      rw (other, told, apart) (rest ∙ ap (made_by f) (once k told))

-- a log tells of a completion exactly where its fiber made it
pub completion_logged : (c f : ℕ) (hs : List Happened) → IsOnce c hs → completion (visible (log hs f)) c ≡ made_by f (completion (entries hs) c)
completion_logged c f [] once = refl
completion_logged c f (h ∷ hs) once = log_first c f h hs (told_by c h) (is_logged f h) refl refl (completion_logged c f hs once.1) once.0

-- ---- who completes something has been made

acts_within : (w : State) (g : ℕ) → MayAct w g → g ≤ length w.fibers
acts_within w g (inl clock) = omega (arith, clock)
acts_within w g (inr live) = let there = slice_get_within w.fibers (g - 1) Live live.live in omega (arith, there)

made_here : (w : State) (h : Happened) (hs : List Happened) (c : ℕ) (k : Completion) → IsStep w h → (completion (entries hs) c ≡ Some k → k.fiber ≤ length (world_from w (h ∷ hs)).fibers)
    → (j : Option Completion) → told_by c h ≡ j → first_of j (completion (entries hs) c) ≡ Some k → k.fiber ≤ length (world_from w (h ∷ hs)).fibers
made_here w h hs c k step rest None untold told = rest told
made_here w h hs c k step rest (Some j) here told =
    let is = told_fiber c h.entry.fiber h.entry.call h.entry.reply k (here ∙ told) in
    omega (arith, is.fiber, acts_within w h.entry.fiber step.allowed.caller, fibers_stay w h.entry.fiber h.entry.call, fibers_grow (after w h.entry.fiber h.entry.call) hs)

completer_from : (w : State) (hs : List Happened) (c : ℕ) (k : Completion) → AreSteps w hs → completion (entries hs) c ≡ Some k → k.fiber ≤ length (world_from w hs).fibers
completer_from w [] c k are told = absurd cc
completer_from w (h ∷ hs) c k are told = made_here w h hs c k are.0 (λ later. completer_from (after w h.entry.fiber h.entry.call) hs c k are.1 later) (told_by c h) refl told

pub completer_made : (origin : Origin) (hs : List Happened) (c : ℕ) (k : Completion) → IsLegal origin hs → completion (entries hs) c ≡ Some k → k.fiber ≤ length (world origin hs).fibers
completer_made origin hs c k legal told = completer_from origin.world hs c k (steps origin hs legal) told
