-- All that anybody owes is signals of triggers that stand.
use Rattle.std.proofs.Common.{◌≡◌, ◌≢◌, ◌⊎◌, ℕ, zero, suc, ◌<◌, ◌≤◌, inl, inr, eqb, true, false, Option, Some, List, [], ◌∷◌, ◌++◌, length, map, replicate, reverse, slice_get, slice_set, refl, sym, subst, arith}
use Rattle.std.specs.List.{AllByRecursion}
use Rattle.std.proofs.lemmas.Bool.Decides.{eqb_tells}
use Rattle.std.proofs.lemmas.List.{reverse-append}
use Rattle.pic_base.specs.declared.duty.Duty.{Duty}
use Rattle.pic_base.specs.declared.duty.Duty.TheVariants.{Cancel, Follow, Return, Signal}
use Rattle.pic_base.specs.declared.outcome.Outcome.{Outcome}
use Rattle.pic_machine.specs.declared.birth.Birth.{Birth}
use Rattle.pic_machine.specs.declared.entry.Call.{Call}
use Rattle.pic_machine.specs.declared.entry.Call.TheVariants as call
use Rattle.pic_machine.specs.declared.entry.Call.TheVariants.{Attach, Complete, Peek}
use Rattle.pic_machine.specs.declared.state.CompState.{CompState}
use Rattle.pic_machine.specs.declared.state.CompState.TheVariants.{Done, Running}
use Rattle.pic_machine.specs.declared.world.Start.{Start}
use Rattle.pic_machine.specs.Happened.{Happened}
use Rattle.pic_machine.specs.State.{IsStart, State, owed_of, world_at}
use Rattle.pic_machine.specs.Duty.{followed, fulfilled}
use Rattle.pic_machine.specs.Step.{Allowed, after, comps_after, triggers_after, with_attached, with_outcome, with_signals}
use Rattle.pic_machine.specs.History.{IsLegal, Origin, origin_of, world}
use Rattle.pic_machine.proofs.Callers.{caller_owes}
use Rattle.pic_machine.proofs.Counts.{IsCounted, counts_after}
use Rattle.pic_machine.proofs.Fates.{steps}
use Rattle.pic_machine.proofs.Lasting.{lasts_from}
use Rattle.pic_machine.proofs.Lists.{each-append, read_set}
use Rattle.pic_machine.proofs.Steps.{owed_other, owed_own, owes_then, triggers_stay}

-- the duty is the signal of one of so many triggers
abbrev pub IsSignalOf : ℕ → Duty → Type 0
IsSignalOf count (Signal t) = t < count
IsSignalOf count _ = ⊥

abbrev pub AreSignalsOf : ℕ → List Duty → Type 0
AreSignalsOf count duties = AllByRecursion (IsSignalOf count) duties

-- each of the triggers is one of so many
abbrev AreBelow : ℕ → List ℕ → Type 0
AreBelow count triggers = AllByRecursion (λ t. t < count) triggers

-- ---- lists

below_more : (count more : ℕ) (ts : List ℕ) → count ≤ more → AreBelow count ts → AreBelow more ts
below_more count more [] fewer below = tt
below_more count more (t ∷ ts) fewer below = (omega (arith, below.0, fewer), below_more count more ts fewer below.1)

below_reverse : (count : ℕ) (ts : List ℕ) → AreBelow count ts → AreBelow count (reverse ts)
below_reverse count [] below = tt
below_reverse count (t ∷ ts) below =
    subst (AreBelow count) (sym (reverse-append (t ∷ []) ts)) (each-append (λ (u : ℕ). u < count) (reverse ts) (t ∷ []) (below_reverse count ts below.1) (below.0, tt))

signals_below : (count : ℕ) (ts : List ℕ) → AreBelow count ts → AreSignalsOf count (map Signal ts)
signals_below count [] below = tt
signals_below count (t ∷ ts) below = (below.0, signals_below count ts below.1)

one_more : (count more : ℕ) (duty : Duty) → count ≤ more → IsSignalOf count duty → IsSignalOf more duty
one_more count more (Signal t) fewer is = omega (arith, is, fewer)
one_more count more (Follow from into) fewer is = absurd is
one_more count more (Cancel into code) fewer is = absurd is
one_more count more (Return into branch) fewer is = absurd is

signals_more : (count more : ℕ) (ds : List Duty) → count ≤ more → AreSignalsOf count ds → AreSignalsOf more ds
signals_more count more [] fewer are = tt
signals_more count more (duty ∷ ds) fewer are = (one_more count more duty fewer are.0, signals_more count more ds fewer are.1)

fulfilled_left : (count : ℕ) (ds : List Duty) → AreSignalsOf count ds → AreSignalsOf count (fulfilled ds)
fulfilled_left count [] are = tt
fulfilled_left count (duty ∷ ds) are = are.1

followed_left : (count : ℕ) (ds : List Duty) (s : Option CompState) → AreSignalsOf count ds → AreSignalsOf count (followed ds s)
followed_left count [] s are = tt
followed_left count (Signal t ∷ ds) s are = are.1
followed_left count (Follow from into ∷ ds) s are = absurd are.0
followed_left count (Cancel into code ∷ ds) s are = absurd are.0
followed_left count (Return into branch ∷ ds) s are = absurd are.0

-- ---- one call

-- what is attached to computations stands
abbrev Attaches : ℕ → List CompState → Type 0
Attaches count comps = (c : ℕ) (ts : List ℕ) → slice_get comps c ≡ Some (Running ts) → AreBelow count ts

record AreDue (w : State) : Type 0 where
  counts : IsCounted w
  attached : Attaches (length w.triggers) w.comps
  owed : (f : ℕ) → AreSignalsOf (length w.triggers) (owed_of w f)

-- what is written is no more than was there, or is attached to nothing
module _ (count : ℕ) (comps : List CompState) (attaches : Attaches count comps) where
  written : (d : ℕ) (x : CompState) → ((ts : List ℕ) → x ≡ Running ts → AreBelow count ts) → Attaches count (slice_set comps d x)
  written d x below c ts is = at (read_set comps d c x (Running ts) is) where
    at : ((c ≡ d) × (x ≡ Running ts)) ⊎ ((c ≢ d) × (slice_get comps c ≡ Some (Running ts))) → AreBelow count ts
    at (inl here) = below ts here.1
    at (inr there) = attaches c ts there.1

  attached_more : (d t : ℕ) (s : Option CompState) → slice_get comps d ≡ s → t < count → Attaches count (with_attached comps d t s)
  attached_more d t (Some (Running us)) is within =
      let all : AreBelow count (us ++ t ∷ []) = each-append (λ (u : ℕ). u < count) us (t ∷ []) (attaches d us is) (within, tt) in
      written d (Running (us ++ t ∷ [])) (λ ts same. subst (AreBelow count) (let e : us ++ t ∷ [] ≡ ts = cc in e) all)
  attached_more d t s is within = attaches

  completed_less : (d : ℕ) (o : Outcome) (s : Option CompState) → Attaches count (with_outcome comps d o s)
  completed_less d o (Some (Running us)) = written d (Done o) (λ ts same. absurd cc)
  completed_less d o s = attaches

attached_then : (w : State) (f : ℕ) (call : Call) → Allowed w f call → Attaches (length w.triggers) w.comps → Attaches (length w.triggers) (comps_after w call)
attached_then w f (Attach p c t) allowed attaches = attached_more (length w.triggers) w.comps attaches c t (slice_get w.comps c) refl allowed.names.2
attached_then w f (Complete c o) allowed attaches = completed_less (length w.triggers) w.comps attaches c o (slice_get w.comps c)
attached_then w f call allowed attaches = attaches

signals_then : (count : ℕ) (comps : List CompState) (c : ℕ) (s : Option CompState) (ds : List Duty) → slice_get comps c ≡ s → Attaches count comps → AreSignalsOf count ds → AreSignalsOf count (with_signals s ds)
signals_then count comps c (Some (Running ts)) ds is attaches are = each-append (IsSignalOf count) (map Signal (reverse ts)) ds (signals_below count (reverse ts) (below_reverse count ts (attaches c ts is))) are
signals_then count comps c s ds is attaches are = are

owed_then : (w : State) (f : ℕ) (call : Call) → AreDue w → AreSignalsOf (length w.triggers) (owes_then w f call)
owed_then w f (call.Signal t) due = fulfilled_left (length w.triggers) (owed_of w f) (due.owed f)
owed_then w f (Complete c o) due =
    signals_then (length w.triggers) w.comps c (slice_get w.comps c) (fulfilled (owed_of w f)) refl due.attached (fulfilled_left (length w.triggers) (owed_of w f) (due.owed f))
owed_then w f (Peek c) due = followed_left (length w.triggers) (owed_of w f) (slice_get w.comps c) (due.owed f)
owed_then w f call due = due.owed f

due_after : (w : State) (g : ℕ) (call : Call) → Allowed w g call → AreDue w → AreDue (after w g call)
due_after w g call allowed due = record {
  counts = counts_after w g call due.counts;
  attached = λ c ts is. below_more (length w.triggers) (length (triggers_after w call)) ts (triggers_stay w call) (attached_then w g call allowed due.attached c ts is);
  owed = λ f. signals_more (length w.triggers) (length (triggers_after w call)) (owed_of (after w g call) f) (triggers_stay w call) (at f (eqb_tells g f));
} where
  at : (f : ℕ) → ((eqb g f ≡ true) × (g ≡ f)) ⊎ ((eqb g f ≡ false) × (g ≢ f)) → AreSignalsOf (length w.triggers) (owed_of (after w g call) f)
  at f (inl mine) =
      let own : owed_of (after w g call) g ≡ owes_then w g call = owed_own w g call (caller_owes w g due.counts allowed.caller) in
      subst (λ (k : ℕ). AreSignalsOf (length w.triggers) (owed_of (after w g call) k)) mine.1 (subst (AreSignalsOf (length w.triggers)) (sym own) (owed_then w g call due))
  at f (inr other) = subst (AreSignalsOf (length w.triggers)) (sym (owed_other w g call f other.1)) (due.owed f)

-- ---- histories

nothing_attached : (count n c : ℕ) (ts : List ℕ) → slice_get (replicate n (Running [])) c ≡ Some (Running ts) → AreBelow count ts
nothing_attached count zero c ts is = absurd cc
nothing_attached count (suc n) zero ts is = let none : [] ≡ ts = cc in subst (AreBelow count) none tt
nothing_attached count (suc n) (suc c) ts is = nothing_attached count n c ts is

nothing_owed : (count : ℕ) (start : Start) (f : ℕ) → AreSignalsOf count (owed_of (world_at start) f)
nothing_owed count start zero = tt
nothing_owed count start (suc zero) = tt
nothing_owed count start (suc (suc f)) = tt

start_due : (start : Start) → AreDue (world_at start)
start_due start = record {
  counts = refl;
  attached = λ c ts is. nothing_attached (length (world_at start).triggers) start.comps c ts is;
  owed = λ f. nothing_owed (length (world_at start).triggers) start f;
}

-- wherever a legal history leads that begins as one does
pub all_dues : (origin : Origin) (hs : List Happened) (f : ℕ) → IsStart origin.world → IsLegal origin hs → AreSignalsOf (length (world origin hs).triggers) (owed_of (world origin hs) f)
all_dues origin hs f start legal =
    let first : AreDue origin.world = subst AreDue (sym start.is) (start_due start.start) in
    (lasts_from AreDue due_after origin.world hs (steps origin hs legal) first).owed f

pub starts_dues : (start : Start) (main : Birth) (hs : List Happened) (f : ℕ) → IsLegal (origin_of start main) hs
    → AreSignalsOf (length (world (origin_of start main) hs).triggers) (owed_of (world (origin_of start main) hs) f)
starts_dues start main hs f legal = all_dues (origin_of start main) hs f (record { start = start; is = refl }) legal
