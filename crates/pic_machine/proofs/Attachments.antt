-- While a computation runs it has exactly the triggers that were attached to it, in order.
use Rattle.std.proofs.Common.{◌≡◌, ◌≢◌, ℕ, ◌==◌, Bool, true, false, Option, Some, None, List, [], ◌∷◌, ◌++◌, slice_get, slice_set, refl, sym, ap, subst, ◌∙◌, append_assoc, append-nil, arith}
use Rattle.std.proofs.lemmas.Bool.Decides.{nat_tests}
use Rattle.std.proofs.lemmas.Option.{slice_get_within}
use Rattle.pic_base.specs.declared.outcome.Outcome.{Outcome}
use Rattle.pic_machine.specs.declared.entry.Call.{Call}
use Rattle.pic_machine.specs.declared.entry.Call.TheVariants.{Attach, Complete}
use Rattle.pic_machine.specs.declared.entry.Reply.{Reply}
use Rattle.pic_machine.specs.declared.state.CompState.{CompState}
use Rattle.pic_machine.specs.declared.state.CompState.TheVariants.{Running, Done}
use Rattle.pic_machine.specs.Happened.{Happened}
use Rattle.pic_machine.specs.Signalling.{attached_by, attachments}
use Rattle.pic_machine.specs.State.{State}
use Rattle.pic_machine.specs.Step.{after, attached, comps_after, reply_of, with_attached}
use Rattle.pic_machine.specs.History.{Origin, IsLegal, world, world_from}
use Rattle.pic_machine.proofs.Completions.{attached_other, done_stays, outcome_other}
use Rattle.pic_machine.proofs.Fates.{AreSteps, IsStep, steps}
use Rattle.pic_machine.proofs.Lasting.{lasts_from}
use Rattle.pic_machine.proofs.Lists.{slice_get-set_same}

-- the computation runs with these triggers, or the call completed it
pub data Goes (cs : List CompState) (asked : Call) (c : ℕ) (triggers : List ℕ) : Type 0 where
  runs : slice_get cs c ≡ Some (Running triggers) → Goes cs asked c triggers
  done : (o : Outcome) → slice_get cs c ≡ Some (Done o) → asked ≡ Complete c o → Goes cs asked c triggers

none_more : (cs : List CompState) (call : Call) (c : ℕ) (ts : List ℕ) → slice_get cs c ≡ Some (Running ts) → Goes cs call c (ts ++ [])
none_more cs call c ts is = runs (is ∙ ap (λ (us : List ℕ). Some (Running us)) (sym (append-nil ts)))

-- what is attached to another one
other_attached : (c p d t : ℕ) (s : Option CompState) → (d == c) ≡ false → attached_by c (Attach p d t) (attached s) ≡ []
other_attached c p d t None other = rw other refl
other_attached c p d t (Some (Running triggers)) other = rw other refl
other_attached c p d t (Some (Done o)) other = refl

goes_attached : (cs : List CompState) (c p d t : ℕ) (ts : List ℕ) (b : Bool) → (d == c) ≡ b → slice_get cs c ≡ Some (Running ts)
    → Goes (with_attached cs d t (slice_get cs d)) (Attach p d t) c (ts ++ attached_by c (Attach p d t) (attached (slice_get cs d)))
goes_attached cs c p d t ts true same is =
    let at : d ≡ c = grind (arith, nat_tests, same) in
    let there : slice_get cs d ≡ Some (Running ts) = ap (slice_get cs) at ∙ is in
    rw (there, same) (runs (ap (slice_get (slice_set cs d (Running (ts ++ t ∷ [])))) (sym at) ∙ slice_get-set_same cs d (Running (ts ++ t ∷ [])) (slice_get_within cs d (Running ts) there)))
goes_attached cs c p d t ts false other is =
    let apart : c ≢ d = grind (arith, nat_tests, other) in
    subst (λ (us : List ℕ). Goes (with_attached cs d t (slice_get cs d)) (Attach p d t) c (ts ++ us)) (sym (other_attached c p d t (slice_get cs d) other))
    (none_more (with_attached cs d t (slice_get cs d)) (Attach p d t) c ts (attached_other cs d c t (slice_get cs d) apart ∙ is))

goes_completed : (w : State) (c d : ℕ) (o : Outcome) (ts : List ℕ) (b : Bool) → (d == c) ≡ b → slice_get w.comps c ≡ Some (Running ts) → Goes (comps_after w (Complete d o)) (Complete d o) c (ts ++ [])
goes_completed w c d o ts true same is =
    let at : d ≡ c = grind (arith, nat_tests, same) in
    let there : slice_get w.comps d ≡ Some (Running ts) = ap (slice_get w.comps) at ∙ is in
    rw there (done o (ap (slice_get (slice_set w.comps d (Done o))) (sym at) ∙ slice_get-set_same w.comps d (Done o) (slice_get_within w.comps d (Running ts) there)) (ap (λ (e : ℕ). Complete e o) at))
goes_completed w c d o ts false other is =
    let apart : c ≢ d = grind (arith, nat_tests, other) in
    none_more (comps_after w (Complete d o)) (Complete d o) c ts (outcome_other w.comps d c o (slice_get w.comps d) apart ∙ is)

pub goes_after : (w : State) (f : ℕ) (call : Call) (c : ℕ) (ts : List ℕ) → slice_get w.comps c ≡ Some (Running ts) → Goes (comps_after w call) call c (ts ++ attached_by c call (reply_of w f call))
goes_after w f (Attach p d t) c ts is = goes_attached w.comps c p d t ts (d == c) refl is
goes_after w f (Complete d o) c ts is = goes_completed w c d o ts (d == c) refl is
goes_after w f call c ts is = none_more w.comps call c ts is

module _ (w : State) (h : Happened) (hs : List Happened) (c : ℕ) (ts us : List ℕ) (step : IsStep w h) (are : AreSteps (after w h.entry.fiber h.entry.call) hs)
    (now : slice_get (world_from w (h ∷ hs)).comps c ≡ Some (Running us)) where
  one_on : Goes (after w h.entry.fiber h.entry.call).comps h.entry.call c (ts ++ attached_by c h.entry.call (reply_of w h.entry.fiber h.entry.call))
      → ((more : List ℕ) → slice_get (after w h.entry.fiber h.entry.call).comps c ≡ Some (Running more) → us ≡ more ++ attachments hs c) → us ≡ ts ++ attachments (h ∷ hs) c
  one_on (runs there) later =
      later (ts ++ attached_by c h.entry.call (reply_of w h.entry.fiber h.entry.call)) there
      ∙ (append_assoc ts (attached_by c h.entry.call (reply_of w h.entry.fiber h.entry.call)) (attachments hs c)
      ∙ ap (λ (reply : Reply). ts ++ (attached_by c h.entry.call reply ++ attachments hs c)) (sym step.reply))
  one_on (done o there by) later =
      let last : slice_get (world_from w (h ∷ hs)).comps c ≡ Some (Done o) =
      lasts_from (λ v. slice_get v.comps c ≡ Some (Done o)) (λ v f call allowed stands. done_stays v f call c o stands) (after w h.entry.fiber h.entry.call) hs are there in
      let both : Some (Running us) ≡ Some (Done o) = sym now ∙ last in
      absurd cc

attached_from : (w : State) (hs : List Happened) (c : ℕ) (ts us : List ℕ) → AreSteps w hs → slice_get w.comps c ≡ Some (Running ts) → slice_get (world_from w hs).comps c ≡ Some (Running us) → us ≡ ts ++ attachments hs c
attached_from w [] c ts us are is now =
    let both : Some (Running us) ≡ Some (Running ts) = sym now ∙ is in
    let same : us ≡ ts = cc in
    same ∙ sym (append-nil ts)
attached_from w (h ∷ hs) c ts us are is now =
    one_on w h hs c ts us are.0 are.1 now (goes_after w h.entry.fiber h.entry.call c ts is)
    (λ more there. attached_from (after w h.entry.fiber h.entry.call) hs c more us are.1 there now)

-- of a computation that ran at first with nothing attached
pub attached_all : (origin : Origin) (hs : List Happened) (c : ℕ) (us : List ℕ) → IsLegal origin hs → slice_get origin.world.comps c ≡ Some (Running []) → slice_get (world origin hs).comps c ≡ Some (Running us) → us ≡ attachments hs c
attached_all origin hs c us legal is now = attached_from origin.world hs c [] us (steps origin hs legal) is now
