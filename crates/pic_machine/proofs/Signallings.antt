-- Whoever completes a computation signals each trigger that was attached to it, and calls nothing else before
-- but looks at triggers.
use Rattle.std.proofs.Common.{◌≡◌, ◌≢◌, ◌⊎◌, ℕ, ◌<◌, ◌==◌, inl, inr, eqb, Bool, true, false, Option, Some, List, [], ◌∷◌, ◌++◌, length, map, reverse, slice_get, refl, sym, ap, subst, ◌∙◌}
use Rattle.std.specs.List.{AllByRecursion}
use Rattle.std.proofs.lemmas.Bool.Decides.{eqb_tells}
use Rattle.std.proofs.lemmas.List.{map-append, reverse-append}
use Rattle.pic_base.specs.declared.duty.Duty.{Duty}
use Rattle.pic_base.specs.declared.duty.Duty.TheVariants.{Signal}
use Rattle.pic_base.specs.declared.outcome.Outcome.{Outcome}
use Rattle.pic_machine.specs.declared.entry.Call.{Call}
use Rattle.pic_machine.specs.declared.entry.Call.TheVariants as call
use Rattle.pic_machine.specs.declared.entry.Call.TheVariants.{Turn, Look, Complete}
use Rattle.pic_machine.specs.declared.state.CompState.{CompState}
use Rattle.pic_machine.specs.declared.state.CompState.TheVariants.{Running}
use Rattle.pic_machine.specs.Happened.{Happened}
use Rattle.pic_machine.specs.Once.{Wins}
use Rattle.pic_machine.specs.Signalling.{BeginsWith, IsSignalled, SignalsAll, attachments, calls_of, signals_of}
use Rattle.pic_machine.specs.State.{State, owed_of}
use Rattle.pic_machine.specs.Duty.{DutiesAllow, fulfilled}
use Rattle.pic_machine.specs.Log.{is_logged, is_look, is_turn}
use Rattle.pic_machine.specs.Step.{Allowed, MayAct, after, with_signals}
use Rattle.pic_machine.specs.History.{Origin, IsLegal, world, world_from}
use Rattle.pic_machine.proofs.Attachments.{attached_all}
use Rattle.pic_machine.proofs.Callers.{caller_owes}
use Rattle.pic_machine.proofs.CompletedOnce.{won_before}
use Rattle.pic_machine.proofs.Counts.{IsCounted, counts_after, counts_from}
use Rattle.pic_machine.proofs.Fates.{AreSteps, IsStep, steps_from}
use Rattle.pic_machine.proofs.Histories.{IsLegal-front, world_from-append}
use Rattle.pic_machine.proofs.Lasting.{lasts_from}
use Rattle.pic_machine.proofs.Onward.{logged}
use Rattle.pic_machine.proofs.SignalledOnce.{signal_done, signalled_stays}
use Rattle.pic_machine.proofs.Staying.{not_logged}
use Rattle.pic_machine.proofs.Steps.{owed_other, owed_own}

-- ---- what a fiber called

calls_pass : (f : ℕ) (h : Happened) (hs : List Happened) → is_logged f h ≡ false → calls_of f (h ∷ hs) ≡ calls_of f hs
calls_pass f h hs hidden = rw hidden refl

calls_look : (f : ℕ) (h : Happened) (hs : List Happened) → is_logged f h ≡ true → is_look h.entry.call ≡ true → calls_of f (h ∷ hs) ≡ calls_of f hs
calls_look f h hs mine looks = rw (mine, looks) refl

calls_more : (f : ℕ) (h : Happened) (hs : List Happened) → is_logged f h ≡ true → is_look h.entry.call ≡ false → calls_of f (h ∷ hs) ≡ h.entry.call ∷ calls_of f hs
calls_more f h hs mine other = rw (mine, other) refl

-- a turn stands in no log
hidden_turn : (f : ℕ) (h : Happened) (mine : Bool) → (h.entry.fiber == f) ≡ mine → is_turn h.entry.call ≡ true → is_logged f h ≡ false
hidden_turn f h true mine turn = rw (mine, turn) refl
hidden_turn f h false mine turn = rw mine refl

turn_hidden : (f : ℕ) (h : Happened) → h.entry.call ≡ Turn → is_logged f h ≡ false
turn_hidden f h is = hidden_turn f h (h.entry.fiber == f) refl (ap is_turn is)

-- ---- the signals, one after another

-- how far fiber f is that had to signal these triggers, and to do the rest behind: it has signalled all of them
-- and may have called more, or it has signalled the first ones and owes the others
pub data Walk (w : State) (f : ℕ) (ts : List ℕ) (rest : List Duty) (calls : List Call) : Type 0 where
  over : (others : List Call) → calls ≡ map call.Signal ts ++ others → AllByRecursion (IsSignalled w) ts → Walk w f ts rest calls
  under_way : (made : List ℕ) (next : ℕ) (left : List ℕ) → ts ≡ made ++ next ∷ left → calls ≡ map call.Signal made → AllByRecursion (IsSignalled w) made
      → owed_of w f ≡ Signal next ∷ (map Signal left ++ rest) → Walk w f ts rest calls

module _ (w : State) (f : ℕ) (ts : List ℕ) (rest : List Duty) (calls : List Call) where
  -- nothing was called in between
  walk_same : (now : List Call) → now ≡ calls → Walk w f ts rest calls → Walk w f ts rest now
  walk_same now same walk = subst (Walk w f ts rest) (sym same) walk

  -- one more was signalled before
  walk_more : (t : ℕ) (now : List Call) → now ≡ call.Signal t ∷ calls → IsSignalled w t → Walk w f ts rest calls → Walk w f (t ∷ ts) rest now
  walk_more t now same signalled (over others is all) = over others (same ∙ ap (λ (cs : List Call). call.Signal t ∷ cs) is) (signalled, all)
  walk_more t now same signalled (under_way made next left split is all owes) =
      under_way (t ∷ made) next left (ap (λ (us : List ℕ). t ∷ us) split) (same ∙ ap (λ (cs : List Call). call.Signal t ∷ cs) is) (signalled, all) owes

-- what a fiber does that owes a signal: it begins a turn, looks, or makes it
data Does (t : ℕ) (asked : Call) : Type 0 where
  turns : asked ≡ Turn → Does t asked
  looks : (u : ℕ) → asked ≡ Look u → Does t asked
  signals : asked ≡ call.Signal t → Does t asked

does : (t : ℕ) (rest : List Duty) (call : Call) → DutiesAllow (Signal t ∷ rest) call → Does t call
does t rest Turn allow = turns refl
does t rest (Look u) allow = looks u refl
does t rest (call.Signal u) allow = signals (ap (λ (n : ℕ). call.Signal n) allow)
does t rest call allow = absurd allow

module _ (w : State) (h : Happened) (hs : List Happened) (f t : ℕ) (ts : List ℕ) (rest : List Duty) (step : IsStep w h)
    (are : AreSteps (after w h.entry.fiber h.entry.call) hs) (counts : IsCounted w) (owes : owed_of w f ≡ Signal t ∷ (map Signal ts ++ rest)) where
  abbrev next_world : State
  next_world = after w h.entry.fiber h.entry.call

  abbrev Later : List ℕ → Type 0
  Later us = owed_of next_world f ≡ map Signal us ++ rest → Walk (world_from next_world hs) f us rest (calls_of f hs)

  abbrev Now : Type 0
  Now = Walk (world_from next_world hs) f (t ∷ ts) rest (calls_of f (h ∷ hs))

  passes : owed_of next_world f ≡ owed_of w f → calls_of f (h ∷ hs) ≡ calls_of f hs → Later (t ∷ ts) → Now
  passes same none later = walk_same (world_from next_world hs) f (t ∷ ts) rest (calls_of f hs) (calls_of f (h ∷ hs)) none (later (same ∙ owes))

  -- what it owes behind a call of its own
  own_then : (asked : Call) → h.entry.fiber ≡ f → h.entry.call ≡ asked → owed_of next_world f ≡ owed_of (after w f asked) f
  own_then asked mine is = ap (λ (c : Call). owed_of (after w h.entry.fiber c) f) is ∙ ap (λ (g : ℕ). owed_of (after w g asked) f) mine

  by_call : h.entry.fiber ≡ f → Does t h.entry.call → Later (t ∷ ts) → Later ts → Now
  by_call mine (turns is) later fewer =
      let hidden : is_logged f h ≡ false = turn_hidden f h is in
      passes (own_then Turn mine is) (calls_pass f h hs hidden) later
  by_call mine (looks u is) later fewer =
      let here : is_logged f h ≡ true = logged h f mine (ap is_turn is) in
      passes (own_then (Look u) mine is) (calls_look f h hs here (ap is_look is)) later
  by_call mine (signals is) later fewer =
      let here : is_logged f h ≡ true = logged h f mine (ap is_turn is) in
      let fulfils : owed_of (after w f (call.Signal t)) f ≡ map Signal ts ++ rest =
      owed_own w f (call.Signal t) (caller_owes w f counts (subst (λ (g : ℕ). MayAct w g) mine step.allowed.caller)) ∙ ap fulfilled owes in
      let within : t < length w.triggers = (subst (Allowed w h.entry.fiber) is step.allowed).names in
      let signalled : IsSignalled next_world t = ap (λ (c : Call). slice_get (after w h.entry.fiber c).triggers t) is ∙ signal_done w h.entry.fiber t within in
      let there : IsSignalled (world_from next_world hs) t = lasts_from (λ v. IsSignalled v t) (λ v g asked allowed stands. signalled_stays v g asked t stands) next_world hs are signalled in
      let calls : calls_of f (h ∷ hs) ≡ call.Signal t ∷ calls_of f hs = calls_more f h hs here (ap is_look is) ∙ ap (λ (c : Call). c ∷ calls_of f hs) is in
      walk_more (world_from next_world hs) f ts rest (calls_of f hs) t (calls_of f (h ∷ hs)) calls there (fewer (own_then (call.Signal t) mine is ∙ fulfils))

  by_fiber : ((eqb h.entry.fiber f ≡ true) × (h.entry.fiber ≡ f)) ⊎ ((eqb h.entry.fiber f ≡ false) × (h.entry.fiber ≢ f)) → Later (t ∷ ts) → Later ts → Now
  by_fiber (inl mine) later fewer =
      let allow : DutiesAllow (owed_of w f) h.entry.call = subst (λ (g : ℕ). DutiesAllow (owed_of w g) h.entry.call) mine.1 step.allowed.duties in
      by_call mine.1 (does t (map Signal ts ++ rest) h.entry.call (subst (λ (ds : List Duty). DutiesAllow ds h.entry.call) owes allow)) later fewer
  by_fiber (inr other) later fewer = passes (owed_other w h.entry.fiber h.entry.call f other.1) (calls_pass f h hs (not_logged h f other.1)) later

pub walk : (w : State) (hs : List Happened) (f : ℕ) (ts : List ℕ) (rest : List Duty) → AreSteps w hs → IsCounted w → owed_of w f ≡ map Signal ts ++ rest → Walk (world_from w hs) f ts rest (calls_of f hs)
walk w hs f [] rest are counts owes = over (calls_of f hs) refl tt
walk w [] f (t ∷ ts) rest are counts owes = under_way [] t ts refl refl tt owes
walk w (h ∷ hs) f (t ∷ ts) rest are counts owes =
    let then = counts_after w h.entry.fiber h.entry.call counts in
    by_fiber w h hs f t ts rest are.0 are.1 counts owes (eqb_tells h.entry.fiber f)
    (λ same. walk (after w h.entry.fiber h.entry.call) hs f (t ∷ ts) rest are.1 then same)
    (λ fewer. walk (after w h.entry.fiber h.entry.call) hs f ts rest are.1 then fewer)

-- ---- whoever completed a computation

pub completer_owes : (w : State) (f c : ℕ) (o : Outcome) (triggers : List ℕ) → f < length w.owed → slice_get w.comps c ≡ Some (Running triggers)
    → owed_of (after w f (Complete c o)) f ≡ map Signal (reverse triggers) ++ fulfilled (owed_of w f)
completer_owes w f c o triggers within is = owed_own w f (Complete c o) within ∙ ap (λ (s : Option CompState). with_signals s (fulfilled (owed_of w f))) is

each_first : (P : ℕ → Type 0) (xs ys : List ℕ) → AllByRecursion P (xs ++ ys) → AllByRecursion P xs
each_first P [] ys each = tt
each_first P (x ∷ xs) ys each = (each.0, each_first P xs ys each.1)

each_behind : (P : ℕ → Type 0) (xs ys : List ℕ) → AllByRecursion P (xs ++ ys) → AllByRecursion P ys
each_behind P [] ys each = each
each_behind P (x ∷ xs) ys each = each_behind P xs ys each.1

each-reverse : (P : ℕ → Type 0) (xs : List ℕ) → AllByRecursion P (reverse xs) → AllByRecursion P xs
each-reverse P [] each = tt
each-reverse P (x ∷ xs) each =
    let split : AllByRecursion P (reverse xs ++ x ∷ []) = subst (AllByRecursion P) (reverse-append (x ∷ []) xs) each in
    ((each_behind P (reverse xs) (x ∷ []) split).0, each-reverse P xs (each_first P (reverse xs) (x ∷ []) split))

walked : (w : State) (f : ℕ) (triggers : List ℕ) (rest : List Duty) (calls : List Call) → Walk w f (reverse triggers) rest calls → SignalsAll w f triggers calls
walked w f triggers rest calls (over others is all) =
    let begins : BeginsWith calls (signals_of triggers) = record { rest = others; is = is } in
    record { order = inl begins; made = λ none. begins; signalled = λ none. each-reverse (IsSignalled w) triggers all }
walked w f triggers rest calls (under_way made next left split is all owes) =
    let whole : signals_of triggers ≡ calls ++ map call.Signal (next ∷ left) =
    ap (map call.Signal) split ∙ (map-append call.Signal made (next ∷ left) ∙ ap (λ (cs : List Call). cs ++ map call.Signal (next ∷ left)) (sym is)) in
    record {
      order = inr (record { rest = map call.Signal (next ∷ left); is = whole });
      made = λ none. let both = sym none ∙ owes in absurd cc;
      signalled = λ none. let both = sym none ∙ owes in absurd cc;
    }

-- where the computation ran at first with nothing attached, and each fiber has a list of duties beside the
-- clock's
pub signals_made : (origin : Origin) (front back : List Happened) (won : Happened) (c : ℕ) (o : Outcome) → IsCounted origin.world → IsLegal origin (front ++ won ∷ back)
    → slice_get origin.world.comps c ≡ Some (Running []) → Wins c o won → SignalsAll (world origin (front ++ won ∷ back)) won.entry.fiber (attachments front c) (calls_of won.entry.fiber back)
signals_made origin front back won c o counts legal first wins =
    let f = won.entry.fiber in
    let w = world origin front in
    let follows = legal.each front back won refl in
    let are : AreSteps w (won ∷ back) = steps_from origin front (won ∷ back) legal in
    let ran = won_before origin front won c o follows wins in
    let listed : ran.0 ≡ attachments front c = attached_all origin front c ran.0 (IsLegal-front origin front (won ∷ back) legal) first ran.1 in
    let counted : IsCounted w = counts_from origin.world front counts in
    let within : f < length w.owed = caller_owes w f counted follows.may.allowed.caller in
    let owes : owed_of (after w f won.entry.call) f ≡ map Signal (reverse (attachments front c)) ++ fulfilled (owed_of w f) =
    ap (λ (call : Call). owed_of (after w f call) f) wins.call ∙ (completer_owes w f c o ran.0 within ran.1 ∙ ap (λ (ts : List ℕ). map Signal (reverse ts) ++ fulfilled (owed_of w f)) listed) in
    let there : world origin (front ++ won ∷ back) ≡ world_from (after w f won.entry.call) back = world_from-append origin.world front (won ∷ back) in
    subst (λ (v : State). SignalsAll v f (attachments front c) (calls_of f back)) (sym there)
    (walked (world_from (after w f won.entry.call) back) f (attachments front c) (fulfilled (owed_of w f)) (calls_of f back)
    (walk (after w f won.entry.call) back f (reverse (attachments front c)) (fulfilled (owed_of w f)) are.1 (counts_after w f won.entry.call counted) owes))
