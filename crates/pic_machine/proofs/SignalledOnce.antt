-- A trigger is armed once at most and signalled once and for all.
use Rattle.std.proofs.Common.{◌≡◌, ◌≢◌, ◌⊎◌, ℕ, ◌<◌, inl, inr, eqb, true, false, Option, Some, None, List, ◌∷◌, ◌++◌, length, nat_lt, slice_get, slice_set, refl, sym, ap, subst, ◌∙◌}
use Rattle.std.proofs.lemmas.Bool.Decides.{eqb_tells}
use Rattle.std.proofs.lemmas.Option.{slice_get_within}
use Rattle.pic_base.specs.declared.action.Action.{Action}
use Rattle.pic_machine.specs.declared.entry.ArmReply.TheVariants.{Set}
use Rattle.pic_machine.specs.declared.entry.Call.{Call}
use Rattle.pic_machine.specs.declared.entry.Call.TheVariants as call
use Rattle.pic_machine.specs.declared.entry.Call.TheVariants.{NewTrigger, Look, Arm}
use Rattle.pic_machine.specs.declared.entry.Reply.{Reply}
use Rattle.pic_machine.specs.declared.entry.Reply.TheVariants as reply
use Rattle.pic_machine.specs.declared.entry.Reply.TheVariants.{Armed}
use Rattle.pic_machine.specs.declared.entry.SignalReply.TheVariants.{Acted, Already}
use Rattle.pic_machine.specs.declared.state.TrigState.{TrigState}
use Rattle.pic_machine.specs.declared.state.TrigState.TheVariants.{Initial, Awaiting, Signalled}
use Rattle.pic_machine.specs.Happened.{Happened}
use Rattle.pic_machine.specs.State.{State}
use Rattle.pic_machine.specs.Step.{after, armed, reply_of, seen, signalled, triggers_after, with_action}
use Rattle.pic_machine.specs.History.{Origin, Follows, IsLegal, world}
use Rattle.pic_machine.specs.Once.{Arms, Precedes, SignalsOnce}
use Rattle.pic_machine.proofs.CompletedOnce.{named, replied}
use Rattle.pic_machine.proofs.Lasting.{first_follows, holds_later, later_follows}
use Rattle.pic_machine.proofs.Lists.{grown_get, nothing_there, slice_get-set_other, slice_get-set_same}

-- ---- signalled once and for all

arm_leaves : (ts : List TrigState) (u t : ℕ) (action : Action) (s : Option TrigState) → slice_get ts u ≡ s → slice_get ts t ≡ Some Signalled → slice_get (with_action ts u action s) t ≡ Some Signalled
arm_leaves ts u t action (Some Initial) there is =
    let other : t ≢ u = λ same. let both : Some Signalled ≡ Some Initial = sym is ∙ (ap (slice_get ts) same ∙ there) in cc in
    slice_get-set_other ts u t (Awaiting action) other ∙ is
arm_leaves ts u t action s there is = is

pub signalled_stays : (w : State) (f : ℕ) (call : Call) (t : ℕ) → slice_get w.triggers t ≡ Some Signalled → slice_get (triggers_after w call) t ≡ Some Signalled
signalled_stays w f NewTrigger t is = grown_get (nat_lt (length w.triggers) w.limits.triggers) w.triggers Initial t Signalled is
signalled_stays w f (Arm u action) t is = arm_leaves w.triggers u t action (slice_get w.triggers u) refl is
signalled_stays w f (call.Signal u) t is = at (eqb_tells t u) where
  at : ((eqb t u ≡ true) × (t ≡ u)) ⊎ ((eqb t u ≡ false) × (t ≢ u)) → slice_get (slice_set w.triggers u Signalled) t ≡ Some Signalled
  at (inl same) =
      subst (λ (n : ℕ). slice_get (slice_set w.triggers n Signalled) t ≡ Some Signalled) same.1 (slice_get-set_same w.triggers t Signalled (slice_get_within w.triggers t Signalled is))
  at (inr other) = slice_get-set_other w.triggers u t Signalled other.1 ∙ is
signalled_stays w f _ t is = is

-- behind a signal
pub signal_done : (w : State) (f t : ℕ) → t < length w.triggers → slice_get (after w f (call.Signal t)).triggers t ≡ Some Signalled
signal_done w f t within = slice_get-set_same w.triggers t Signalled within

-- before each later entry too
still_signalled : (origin : Origin) (hs : List Happened) (first later : Happened) (t : ℕ) (order : Precedes hs first later) → IsLegal origin hs → first.entry.call ≡ call.Signal t
    → slice_get (world origin (order.front ++ first ∷ order.between)).triggers t ≡ Some Signalled
still_signalled origin hs first later t order legal one =
    let follows = first_follows origin hs first later order legal in
    let w = world origin order.front in
    let here : slice_get (after w first.entry.fiber first.entry.call).triggers t ≡ Some Signalled =
    ap (λ (call : Call). slice_get (after w first.entry.fiber call).triggers t) one ∙ signal_done w first.entry.fiber t (named origin order.front first (call.Signal t) follows one) in
    holds_later (λ v. slice_get v.triggers t ≡ Some Signalled) (λ v f call allowed is. signalled_stays v f call t is) origin hs first later order legal here

-- what a later call is told that looks at the trigger
module _ (origin : Origin) (hs : List Happened) (first later : Happened) (t : ℕ) (order : Precedes hs first later) (legal : IsLegal origin hs) (one : first.entry.call ≡ call.Signal t) where
  found : (call : Call) (told : Option TrigState → Reply) → ((w : State) (f : ℕ) → reply_of w f call ≡ told (slice_get w.triggers t)) → later.entry.call ≡ call → later.entry.reply ≡ told (Some Signalled)
  found call told tells is =
      let w = world origin (order.front ++ first ∷ order.between) in
      replied origin (order.front ++ first ∷ order.between) later call (later_follows origin hs first later order legal) is
      ∙ (tells w later.entry.fiber ∙ ap told (still_signalled origin hs first later t order legal one))

  found_signalled : later.entry.call ≡ call.Signal t → later.entry.reply ≡ reply.Signalled Already
  found_signalled is = found (call.Signal t) signalled (λ w f. refl) is

-- ---- armed once

-- the trigger stands there, and isn't initial any more
record HasBegun (ts : List TrigState) (t : ℕ) : Type 0 where
  state : TrigState
  is : slice_get ts t ≡ Some state
  begun : state ≢ Initial

arm_keeps : (ts : List TrigState) (u t : ℕ) (action : Action) (s : Option TrigState) → slice_get ts u ≡ s → HasBegun ts t → HasBegun (with_action ts u action s) t
arm_keeps ts u t action (Some Initial) there has =
    let other : t ≢ u = λ same.
    let both : Some has.state ≡ Some Initial = sym has.is ∙ (ap (slice_get ts) same ∙ there) in
    has.begun cc in
    record { state = has.state; is = slice_get-set_other ts u t (Awaiting action) other ∙ has.is; begun = has.begun }
arm_keeps ts u t action s there has = has

begun_stays : (w : State) (call : Call) (t : ℕ) → HasBegun w.triggers t → HasBegun (triggers_after w call) t
begun_stays w NewTrigger t has = record { state = has.state; is = grown_get (nat_lt (length w.triggers) w.limits.triggers) w.triggers Initial t has.state has.is; begun = has.begun }
begun_stays w (Arm u action) t has = arm_keeps w.triggers u t action (slice_get w.triggers u) refl has
begun_stays w (call.Signal u) t has = at (eqb_tells t u) where
  at : ((eqb t u ≡ true) × (t ≡ u)) ⊎ ((eqb t u ≡ false) × (t ≢ u)) → HasBegun (slice_set w.triggers u Signalled) t
  at (inl same) = record {
    state = Signalled;
    is = subst (λ (n : ℕ). slice_get (slice_set w.triggers n Signalled) t ≡ Some Signalled) same.1 (slice_get-set_same w.triggers t Signalled (slice_get_within w.triggers t has.state has.is));
    begun = λ same. cc;
  }
  at (inr other) = record { state = has.state; is = slice_get-set_other w.triggers u t Signalled other.1 ∙ has.is; begun = has.begun }
begun_stays w _ t has = has

-- an arm that was set found the trigger initial
set_initial : (ts : List TrigState) (t : ℕ) (s : Option TrigState) → slice_get ts t ≡ s → t < length ts → Armed Set ≡ armed s → slice_get ts t ≡ Some Initial
set_initial ts t None is within set = absurd (nothing_there ts t within is)
set_initial ts t (Some Initial) is within set = is
set_initial ts t (Some (Awaiting action)) is within set = absurd cc
set_initial ts t (Some Signalled) is within set = absurd cc

was_initial : (origin : Origin) (hs : List Happened) (h : Happened) (t : ℕ) → Follows origin hs h → Arms t h → slice_get (world origin hs).triggers t ≡ Some Initial
was_initial origin hs h t follows arms =
    set_initial (world origin hs).triggers t (slice_get (world origin hs).triggers t) refl (named origin hs h (Arm t arms.action) follows arms.call)
    (sym arms.reply ∙ replied origin hs h (Arm t arms.action) follows arms.call)

set_begins : (origin : Origin) (hs : List Happened) (h : Happened) (t : ℕ) → Follows origin hs h → Arms t h → HasBegun (after (world origin hs) h.entry.fiber h.entry.call).triggers t
set_begins origin hs h t follows arms =
    let w = world origin hs in
    let initial = was_initial origin hs h t follows arms in
    let parts : (after w h.entry.fiber h.entry.call).triggers ≡ slice_set w.triggers t (Awaiting arms.action) =
    ap (triggers_after w) arms.call ∙ ap (λ (s : Option TrigState). with_action w.triggers t arms.action s) initial in
    record {
      state = Awaiting arms.action;
      is = ap (λ (ts : List TrigState). slice_get ts t) parts ∙ slice_get-set_same w.triggers t (Awaiting arms.action) (slice_get_within w.triggers t Initial initial);
      begun = λ same. cc;
    }

armed_twice : (origin : Origin) (hs : List Happened) (first later : Happened) (t : ℕ) → Precedes hs first later → IsLegal origin hs → Arms t first → Arms t later → ⊥
armed_twice origin hs first later t order legal one two =
    let here = set_begins origin order.front first t (first_follows origin hs first later order legal) one in
    let there : HasBegun (world origin (order.front ++ first ∷ order.between)).triggers t =
    holds_later (λ v. HasBegun v.triggers t) (λ v f call allowed has. begun_stays v call t has) origin hs first later order legal here in
    let initial = was_initial origin (order.front ++ first ∷ order.between) later t (later_follows origin hs first later order legal) two in
    let both : Some there.state ≡ Some Initial = sym there.is ∙ initial in
    there.begun cc

pub signals_once : (origin : Origin) (hs : List Happened) (t : ℕ) → IsLegal origin hs → SignalsOnce hs t
signals_once origin hs t legal = record {
  armed = λ first later order one two. armed_twice origin hs first later t order legal one two;
  acted = λ first later order one two.
      let both : reply.Signalled (Acted two.action) ≡ reply.Signalled Already = sym two.reply ∙ found_signalled origin hs first later t order legal one.call two.call in
      cc;
  already = λ first later order one two. found_signalled origin hs first later t order legal one two;
  late = λ first later action order one two. found origin hs first later t order legal one (Arm t action) armed (λ w f. refl) two;
  seen = λ first later order one two. found origin hs first later t order legal one (Look t) seen (λ w f. refl) two;
}
