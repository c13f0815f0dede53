-- A wait for a computation, stage by stage, by one call or a routine of its own at most each.
use Rattle.std.proofs.Common.{◌≡◌, ◌≢◌, ℕ, zero, suc, ◌+◌, ◌-◌, ◌<◌, ◌⊎◌, inl, inr, Option, Some, None, List, [], ◌∷◌, ◌++◌, refl, sym, ap, subst, ◌∙◌, arith}
use Rattle.std.specs.Prelude.{Result, Ok, Err, IfErr, unwrap_or}
use Rattle.pic_base.specs.declared.action.Action.TheVariants.{Resume}
use Rattle.pic_base.specs.declared.outcome.Outcome.{Outcome}
use Rattle.pic_machine.specs.declared.entry.AttachReply.{AttachReply}
use Rattle.pic_machine.specs.declared.entry.Call.TheVariants.{NewPlace, Attach, Peek, Signal}
use Rattle.pic_machine.specs.declared.entry.Reply.TheVariants as reply
use Rattle.pic_machine.specs.declared.entry.SignalReply.{SignalReply}
use Rattle.pic_machine.specs.declared.entry.SignalReply.TheVariants.{Plain, Acted, Already}
use Rattle.pic_machine.specs.declared.port.PortFault.{PortFault}
use Rattle.pic_machine.specs.declared.port.PortFault.TheVariants.{Full, Again, Memory}
use Rattle.pic_machine.specs.declared.waits.Parts.{Parts}
use Rattle.pic_machine.specs.declared.waits.Standing.{Standing}
use Rattle.pic_machine.specs.Following.{Following, finished, following, following_at, following_leads, looked, peeking, placing, readying, refused, suspending}
use Rattle.pic_machine.specs.Happened.{Happened}
use Rattle.pic_machine.specs.History.{event}
use Rattle.pic_machine.specs.Lending.{Answered, Lent}
use Rattle.pic_machine.specs.Order.{GoesOn, readied}
use Rattle.pic_machine.specs.Routine.{Goes, Routine, Within, goes, stays}
use Rattle.pic_machine.specs.Sight.{Carry, Sight, fiber_of}
use Rattle.pic_machine.specs.Turning.{Adds, Grew}
use Rattle.pic_machine.specs.Waits.{Waiting, arming, awake, full, made, making, making_at, over, told, waiting, waiting_at, woken}
use Rattle.pic_machine.proofs.Freeing.{lent_free}
use Rattle.pic_machine.proofs.Lists.{each-append}
use Rattle.pic_machine.proofs.Embedded.{goes_within, readies, waits_within}
use Rattle.pic_machine.proofs.Owns.{answered_called}
use Rattle.pic_machine.proofs.Turns.{Adds-nil, Grew-trans, grew_made, readied-append, same_fiber}
use Rattle.fiber_await.specs.declared.ahead.Ahead.{Ahead}
use Rattle.fiber_await.specs.declared.ahead.Ahead.TheVariants as ahead
use Rattle.fiber_await.specs.Discharging.{resumed_by}
use Rattle.fiber_await.specs.Doing.{Did, IsFree, Ran, RanTelling}
use Rattle.fiber_await.specs.Phases.{FollowGaveUp, done_or_at, suspended_at, trigger_of, unsuspended_at}
use Rattle.fiber_await.specs.Refusing.{GaveUp}
use Rattle.fiber_await.proofs.Running.{Goes-trans, Ran-trans, ran_none, ran_one}

module _ {S Phase : Type 0} (r : Routine Phase) (p q : Sight S) (a b : Carry S) where
  -- the same between phases that are named otherwise
  pub ran_named : {x y v w : Phase} → v ≡ x → w ≡ y → Ran r p q a b x y → Ran r p q a b v w
  ran_named {y = y} {v = v} from to ran = subst (λ (z : Phase). Ran r p q a b v z) (sym to) (subst (λ (z : Phase). Ran r p q a b z y) (sym from) ran)

  -- what a routine ran, one that it stands in ran too
  pub ran_within : {Outer : Type 0} {outer : Routine Outer} {up : Phase → Outer} {x y : Phase} → Within r outer up → Ran r p q a b x y → Ran outer p q a b (up x) (up y)
  ran_within inside ran = record { es = ran.es; did = ran.did; goes = goes_within (fiber_of a) inside ran.goes }

  -- it made nobody ready
  pub ran_telling : {x y : Phase} (line : Option (List ℕ)) → Ran r p q a b x y → RanTelling r p q a b line line x y
  ran_telling line ran = record {
    went = record {
      going = ran.es;
      grew = ran.did.grew;
      on = ran.did.on;
      line = rw ran.did.none (Adds-nil line);
      holds = ran.did.free.holds;
      number = ran.did.number;
    };
    goes = ran.goes;
    free = ran.did.free;
    birth = ran.did.birth;
    share = ran.did.share;
  }

module _ {S : Type 0} (p q r : Sight S) (a b d : Carry S) (s : Standing) (c : ℕ) where
  -- one part behind another one
  pub ran_next : {x y z : Following} → Ran (following s (fiber_of a) c) p q a b x y → Ran (following s (fiber_of b) c) q r b d y z → Ran (following s (fiber_of a) c) p r a d x z
  ran_next {x} {y} {z} one other =
      Ran-trans (following s (fiber_of a) c) p q r a b d x y z one
      (subst (λ (f : ℕ). Ran (following s f c) q r b d y z) (same_fiber a b one.did.number) other)

  pub telling_next : {x y z : Following} (line later : Option (List ℕ)) → Ran (following s (fiber_of a) c) p q a b x y → RanTelling (following s (fiber_of b) c) q r b d line later y z
      → RanTelling (following s (fiber_of a) c) p r a d line later x z
  telling_next {x} {y} {z} line later one other =
      let same = same_fiber a b one.did.number in
      record {
        went = record {
          going = one.es ++ other.went.going;
          grew = Grew-trans p q r (fiber_of a) one.es other.went.going one.did.grew (subst (λ (f : ℕ). Grew q r f other.went.going) same other.went.grew);
          on = each-append GoesOn one.es other.went.going one.did.on other.went.on;
          line = subst (Adds line later) (sym (readied-append one.es other.went.going ∙ ap (λ (ns : List ℕ). ns ++ readied other.went.going) one.did.none)) other.went.line;
          holds = other.went.holds;
          number = other.went.number ∙ one.did.number;
        };
        goes = Goes-trans (following s (fiber_of a) c) (fiber_of a) one.goes (subst (λ (f : ℕ). Goes (following s f c) f y other.went.going z) same other.goes);
        free = other.free;
        birth = other.birth ∙ one.did.birth;
        share = other.share ∙ one.did.share;
      }

-- ---- phases

-- making ready, counted on from the look
pub making_phase : (s : Standing) (n : ℕ) (parts : Parts) → n < 4 → following_at s (n + 1) parts ≡ readying (making_at n parts)
making_phase s zero parts few = refl
making_phase s (suc zero) parts few = refl
making_phase s (suc (suc zero)) parts few = refl
making_phase s (suc (suc (suc zero))) parts few = refl
making_phase s (suc (suc (suc (suc n)))) parts few = absurd (omega (arith, few))

-- making ready speaks of what is made alone
pub making_same : (n m : ℕ) (parts : Parts) → making_at n (record parts { at = m }) ≡ making_at n parts
making_same zero m parts = refl
making_same (suc zero) m parts = refl
making_same (suc (suc zero)) m parts = refl
making_same (suc (suc (suc n))) m parts = refl

module _ {S : Type 0} (p q : Sight S) (a b : Carry S) where
  -- no call was made, or it was refused
  pub following_still : (s : Standing) (c : ℕ) {x y : Following} → y ≡ x → Did p q a b [] → Ran (following s (fiber_of a) c) p q a b x y
  following_still s c {x} {y} same did = ran_named (following s (fiber_of a) c) p q a b refl same (ran_none (following s (fiber_of a) c) p q a b x did)

  -- ---- making the second place
  pub second_made : (s : Standing) (c : ℕ) (parts : Parts) (n : ℕ) → parts.at ≡ 3 → Did p q a b (event (fiber_of a) NewPlace (reply.Made n) ∷ [])
      → Ran (following s (fiber_of a) c) p q a b (following_at s parts.at parts) (placing (trigger_of parts) parts.place n)
  second_made s c parts n three did =
      ran_named (following s (fiber_of a) c) p q a b (ap (λ (k : ℕ). following_at s k parts) three) refl
      (ran_one (following s (fiber_of a) c) p q a b (readying (made (trigger_of parts) parts.place)) (placing (trigger_of parts) parts.place n) NewPlace (reply.Made n) refl refl did)

  pub second_full : (s : Standing) (c : ℕ) (parts : Parts) → parts.at ≡ 3 → Did p q a b (event (fiber_of a) NewPlace reply.Full ∷ [])
      → Ran (following s (fiber_of a) c) p q a b (following_at s parts.at parts) (readying full)
  second_full s c parts three did =
      ran_named (following s (fiber_of a) c) p q a b (ap (λ (k : ℕ). following_at s k parts) three) refl
      (ran_one (following s (fiber_of a) c) p q a b (readying (made (trigger_of parts) parts.place)) (readying full) NewPlace reply.Full refl refl did)

  -- ---- making ready
  pub first_made : (s : Standing) (c : ℕ) (parts later : Parts) → 0 < parts.at → parts.at < 4 → later.at < 4
      → Ran (making s) p q a b (making_at (parts.at - 1) (record parts { at = parts.at - 1 })) (making_at later.at later)
      → Ran (following s (fiber_of a) c) p q a b (following_at s parts.at parts) (following_at s (later.at + 1) (record later { at = later.at + 1 }))
  first_made s c parts later least most few ran =
      let n : ℕ = parts.at - 1 in
      let back : parts.at ≡ n + 1 = omega (arith, least) in
      let from : following_at s parts.at parts ≡ readying (making_at n (record parts { at = n })) =
      ap (λ (k : ℕ). following_at s k parts) back ∙ (making_phase s n parts (omega (arith, least, most)) ∙ ap readying (sym (making_same n n parts))) in
      let to : following_at s (later.at + 1) (record later { at = later.at + 1 }) ≡ readying (making_at later.at later) =
      making_phase s later.at (record later { at = later.at + 1 }) few ∙ ap readying (making_same later.at (later.at + 1) later) in
      ran_named (following s (fiber_of a) c) p q a b from to (ran_within (making s) p q a b (readies s (fiber_of a) c) ran)

  -- ---- behind the arming
  pub woken_up : (s : Standing) (c : ℕ) (parts : Parts) (tells how : Ahead) → parts.at ≡ 9 → tells ≡ how → Ran (waiting s (fiber_of a) (trigger_of parts)) p q a b (awake s) (unsuspended_at s (Ok tells))
      → Ran (following s (fiber_of a) c) p q a b (following_at s parts.at parts) (suspending (trigger_of parts) (unsuspended_at s (Ok how)))
  woken_up s c parts tells how nine is ran =
      ran_named (following s (fiber_of a) c) p q a b (ap (λ (k : ℕ). following_at s k parts) nine) (ap (λ (h : Ahead). suspending (trigger_of parts) (unsuspended_at s (Ok h))) (sym is))
      (ran_within (waiting s (fiber_of a) (trigger_of parts)) p q a b (waits_within s (fiber_of a) c (trigger_of parts)) ran)

  -- ---- looking at the computation
  pub looked_at : (s : Standing) (c : ℕ) (parts : Parts) (seen saw : Option Outcome) (next : Following) → (parts.at ≡ 0) ⊎ (parts.at ≡ 10) → seen ≡ saw → looked (reply.Peeked saw) ≡ Some next
      → Did p q a b (event (fiber_of a) (Peek c) (reply.Peeked seen) ∷ []) → Ran (following s (fiber_of a) c) p q a b (following_at s parts.at parts) next
  looked_at s c parts seen saw next (inl zero_is) same leads did =
      ran_named (following s (fiber_of a) c) p q a b (ap (λ (k : ℕ). following_at s k parts) zero_is) refl
      (ran_one (following s (fiber_of a) c) p q a b peeking next (Peek c) (reply.Peeked seen) refl (ap (λ (o : Option Outcome). looked (reply.Peeked o)) same ∙ leads) did)
  looked_at s c parts seen saw next (inr ten) same leads did =
      ran_named (following s (fiber_of a) c) p q a b (ap (λ (k : ℕ). following_at s k parts) ten) refl
      (ran_one (following s (fiber_of a) c) p q a b (suspending (trigger_of parts) (over woken)) next (Peek c) (reply.Peeked seen) refl (ap (λ (o : Option Outcome). looked (reply.Peeked o)) same ∙ leads) did)

  -- ---- attaching to the computation
  pub attached_to : (s : Standing) (c : ℕ) (parts : Parts) (t n : ℕ) (told_so how : AttachReply) (next : Following) → parts.at ≡ 5 → parts.trigger ≡ Some t → parts.second ≡ Some n → told_so ≡ how
      → following_leads s (placing (trigger_of parts) parts.place (unwrap_or parts.second 0)) (reply.Attached how) ≡ Some next
      → Did p q a b (event (fiber_of a) (Attach n c t) (reply.Attached told_so) ∷ []) → Ran (following s (fiber_of a) c) p q a b (following_at s parts.at parts) next
  attached_to s c parts t n told_so how next five trigger_is second_is same leads did =
      let asked : Some (Attach (unwrap_or parts.second 0) c (trigger_of parts)) ≡ Some (Attach n c t) =
      ap (λ (o : Option ℕ). Some (Attach (unwrap_or o 0) c (trigger_of parts))) second_is ∙ ap (λ (o : Option ℕ). Some (Attach n c (unwrap_or o 0))) trigger_is in
      ran_named (following s (fiber_of a) c) p q a b (ap (λ (k : ℕ). following_at s k parts) five) refl
      (ran_one (following s (fiber_of a) c) p q a b (placing (trigger_of parts) parts.place (unwrap_or parts.second 0)) next (Attach n c t) (reply.Attached told_so) asked
      (ap (λ (h : AttachReply). following_leads s (placing (trigger_of parts) parts.place (unwrap_or parts.second 0)) (reply.Attached h)) same ∙ leads) did)

  -- ---- falling asleep
  pub fell_asleep : (s : Standing) (c : ℕ) (parts : Parts) (w : Waiting) → 5 < parts.at → parts.at < 8
      → Ran (waiting s (fiber_of a) (trigger_of parts)) p q a b (waiting_at s (parts.at - 4) (record parts { at = parts.at - 4 })) w
      → Ran (following s (fiber_of a) c) p q a b (following_at s parts.at parts) (suspending (trigger_of parts) w)
  fell_asleep s c parts w least most ran = at (sixth_or parts.at least most) where
    sixth_or : (k : ℕ) → 5 < k → k < 8 → (k ≡ 6) ⊎ (k ≡ 7)
    sixth_or k least most = grind (arith, least, most)

    inner : (k : ℕ) → parts.at ≡ k → Ran (waiting s (fiber_of a) (trigger_of parts)) p q a b (waiting_at s (k - 4) (record parts { at = k - 4 })) w
    inner k is = subst (λ (j : ℕ). Ran (waiting s (fiber_of a) (trigger_of parts)) p q a b (waiting_at s (j - 4) (record parts { at = j - 4 })) w) is ran

    at : (parts.at ≡ 6) ⊎ (parts.at ≡ 7) → Ran (following s (fiber_of a) c) p q a b (following_at s parts.at parts) (suspending (trigger_of parts) w)
    at (inl six) =
        ran_named (following s (fiber_of a) c) p q a b (ap (λ (k : ℕ). following_at s k parts) six) refl
        (ran_within (waiting s (fiber_of a) (trigger_of parts)) p q a b (waits_within s (fiber_of a) c (trigger_of parts)) (inner 6 six))
    at (inr seven) =
        ran_named (following s (fiber_of a) c) p q a b (ap (λ (k : ℕ). following_at s k parts) seven) refl
        (ran_within (waiting s (fiber_of a) (trigger_of parts)) p q a b (waits_within s (fiber_of a) c (trigger_of parts)) (inner 7 seven))

-- why making ready gave up, in the words of the wait that it is a part of
pub follow_gave_up : {S : Type 0} (p q : Sight S) (later : Parts) (result : Result (Unit {0}) PortFault) → IfErr result (λ fault. GaveUp fault later.at p q)
    → IfErr result (λ fault. FollowGaveUp fault p q (record later { at = later.at + 1 }) (later.at + 1 ≢ 4))
follow_gave_up p q later (Ok done) is = tt
follow_gave_up p q later (Err Full) is = (omega (arith, is.0), is.1)
follow_gave_up p q later (Err Again) is = (is.0, λ four. omega (arith, is.1, four))
follow_gave_up p q later (Err Memory) is = (is.0, λ four. omega (arith, is.1, four))

abbrev pub tells_so : Ahead → Result Ahead PortFault
tells_so tells = Ok tells

-- where the first half of the wait leads that tells this
pub to_arming : (s : Standing) (tells : Ahead) (later : Parts) → tells ≡ ahead.Go → (tells_so tells ≡ tells_so ahead.Go → waiting_at s later.at later ≡ arming) → arming ≡ suspended_at s (Ok tells) later
to_arming s ahead.Go later is go = sym (go refl)
to_arming s (ahead.Cancelled code) later is go = absurd cc

pub to_told : (s : Standing) (tells : Ahead) (code : ℕ) (later : Parts) → tells ≡ ahead.Cancelled code → over (told code) ≡ suspended_at s (Ok tells) later
to_told s tells code later is = ap (λ (h : Ahead). suspended_at s (Ok h) later) (sym is)

-- the computation was found running, or completed
pub found_running : (s : Standing) (seen : Option Outcome) (later : Parts) → seen ≡ None → following_at s later.at later ≡ done_or_at s (Ok seen) later
found_running s seen later is = ap (λ (o : Option Outcome). done_or_at s (Ok o) later) (sym is)

pub found_done : (s : Standing) (seen : Option Outcome) (outcome : Outcome) (later : Parts) → seen ≡ Some outcome → finished outcome ≡ done_or_at s (Ok seen) later
found_done s seen outcome later is = ap (λ (o : Option Outcome). done_or_at s (Ok o) later) (sym is)

readied_signal : (f t : ℕ) (how : SignalReply) → readied (event f (Signal t) (reply.Signalled how) ∷ []) ≡ resumed_by how
readied_signal f t Plain = refl
readied_signal f t (Acted (Resume g)) = refl
readied_signal f t Already = refl

module _ {S : Type 0} (p q : Sight S) (a b : Carry S) where
  -- who was told signals the trigger
  pub told_signals : (s : Standing) (c : ℕ) (parts : Parts) (t code : ℕ) (how : SignalReply) (line later : Option (List ℕ)) → IsFree p a → parts.at ≡ 8 → parts.trigger ≡ Some t → parts.second ≡ Some code
      → Answered p q a b (Signal t) (reply.Signalled how) → Adds line later (resumed_by how) → RanTelling (following s (fiber_of a) c) p q a b line later (following_at s parts.at parts) (refused code)
  told_signals s c parts t code how line later free eight trigger_is second_is answered adds =
      let f = fiber_of a in
      let h : Happened = event f (Signal t) (reply.Signalled how) in
      let lent : Lent p q a b h = answered_called p q a b (Signal t) (reply.Signalled how) free.owes answered in
      let from : following_at s parts.at parts ≡ suspending t (over (told code)) =
      ap (λ (k : ℕ). following_at s k parts) eight
      ∙ (ap (λ (o : Option ℕ). suspending (unwrap_or o 0) (over (told (unwrap_or parts.second 0)))) trigger_is ∙ ap (λ (o : Option ℕ). suspending t (over (told (unwrap_or o 0)))) second_is) in
      record {
        went = record {
          going = h ∷ [];
          grew = grew_made p q f h lent.made refl refl;
          on = (refl, tt);
          line = subst (Adds line later) (sym (readied_signal f t how)) adds;
          holds = lent.holds;
          number = lent.number;
        };
        goes = subst (λ (x : Following). Goes (following s f c) f x (h ∷ []) (refused code)) (sym from) (goes (Signal t) (reply.Signalled how) refl refl stays);
        free = record {
          holds = lent.holds;
          fiber = subst (λ (n : ℕ). n ≢ 0) (sym (same_fiber a b lent.number)) free.fiber;
          owes = lent_free p q a b h lent free.holds refl tt free.owes;
        };
        birth = lent.birth;
        share = lent.share;
      }

  -- what made nobody ready, in other words
  pub telling_as : {Phase : Type 0} {r : Routine Phase} {x y z : Phase} (line : Option (List ℕ)) → z ≡ y → Ran r p q a b x y → RanTelling r p q a b line line x z
  telling_as {r = r} line same ran = ran_telling r p q a b line (ran_named r p q a b refl same ran)
