-- What a fiber has of its own stays so while it goes on, and so do its numbers; and what it may call with them.
use Rattle.std.proofs.Common.{◌≡◌, ◌≢◌, ℕ, zero, suc, ◌+◌, ◌-◌, ◌<◌, ◌≤◌, ◌⊎◌, inl, inr, Option, Some, None, List, [], ◌∷◌, ◌++◌, length, refl, sym, ap, subst, ◌∙◌, append-nil, arith}
use Rattle.std.specs.Prelude.{IfSome, MatchOption, unwrap_or}
use Rattle.std.specs.List.{AllByRecursion}
use Rattle.pic_base.specs.declared.action.Action.TheVariants.{Resume}
use Rattle.pic_base.specs.declared.duty.Duty.{Duty}
use Rattle.pic_machine.specs.declared.entry.Call.{Call}
use Rattle.pic_machine.specs.declared.entry.Call.TheVariants.{NewTrigger, NewPlace, Arm, Attach, Peek, Signal}
use Rattle.pic_machine.specs.declared.entry.Reply.{Reply}
use Rattle.pic_machine.specs.declared.entry.Reply.TheVariants as reply
use Rattle.pic_machine.specs.declared.waits.Parts.{Parts}
use Rattle.pic_machine.specs.Duty.{DutiesAllow}
use Rattle.pic_machine.specs.Following.{HasAttaching, HasParts, IsFollowing}
use Rattle.pic_machine.specs.Happened.{Happened}
use Rattle.pic_machine.specs.History.{HasMade, MayMake, NumbersFit, Origin, Takes, event, world}
use Rattle.pic_machine.specs.Log.{log, own}
use Rattle.pic_machine.specs.Sight.{Carry, Sight, fiber_of}
use Rattle.pic_machine.specs.Step.{ArmsOwn, NamesStand}
use Rattle.pic_machine.specs.Waits.{HasMaking, HasOwnPlace}
use Rattle.pic_machine.proofs.Comps.{comps_stay}
use Rattle.pic_machine.proofs.Lists.{each-append}
use Rattle.pic_machine.proofs.Numbers.{made_place, made_stays, made_trigger, triggers_from}
use Rattle.pic_machine.proofs.NumbersByLog.{numbers_by_own, place_in_own}
use Rattle.pic_machine.proofs.Owns.{own-append}
use Rattle.pic_machine.proofs.Turns.{same_fiber}
use Rattle.fiber_await.specs.Doing.{Did, IsFree}
use Rattle.fiber_await.specs.Phases.{HasTrigger, MakesOwn, Owns, Stands, trigger_of}

-- ---- own logs

-- the fiber's own log
abbrev pub own_of : {S : Type 0} → Sight S → Carry S → List Happened
own_of port body = own (log port.front (fiber_of body))

-- it made the trigger, if there is one
abbrev pub Triggers : {S : Type 0} → Sight S → Carry S → Option ℕ → Type 0
Triggers port body o = MatchOption o ⊥ (λ t. HasMade (own_of port body) (fiber_of body) NewTrigger t)

-- and the place, where there is one
abbrev pub Places : {S : Type 0} → Sight S → Carry S → Option ℕ → Type 0
Places port body o = IfSome o (HasOwnPlace (fiber_of body) (own_of port body))

more_trigger : (f : ℕ) (mine more : List Happened) (o : Option ℕ) → MatchOption o ⊥ (λ t. HasMade mine f NewTrigger t) → MatchOption o ⊥ (λ t. HasMade (mine ++ more) f NewTrigger t)
more_trigger f mine more None has = has
more_trigger f mine more (Some t) has = made_stays mine more f NewTrigger t has

one_place : (f : ℕ) (mine more : List Happened) (n : ℕ) → AllByRecursion (λ h. Takes n h → ⊥) more → HasOwnPlace f mine n → HasOwnPlace f (mine ++ more) n
one_place f mine more n none has = (made_stays mine more f NewPlace n has.0, each-append (λ h. Takes n h → ⊥) mine more has.1 none)

more_place : (f : ℕ) (mine more : List Happened) (o : Option ℕ) → ((n : ℕ) → o ≡ Some n → AllByRecursion (λ h. Takes n h → ⊥) more) → IfSome o (HasOwnPlace f mine) → IfSome o (HasOwnPlace f (mine ++ more))
more_place f mine more None none has = tt
more_place f mine more (Some n) none has = one_place f mine more n (none n refl) has

module _ {S : Type 0} (p q : Sight S) (a b : Carry S) (es : List Happened) (did : Did p q a b es) where
  fiber_is : fiber_of b ≡ fiber_of a
  fiber_is = same_fiber a b did.number

  own_grew : own (log q.front (fiber_of a)) ≡ own_of p a ++ own es
  own_grew = ap own did.grew.log ∙ own-append (log p.front (fiber_of a)) es

  -- what is so of the fiber and its own log of old and these entries is so of the body later
  carried : (P : ℕ → List Happened → Type 0) → P (fiber_of a) (own_of p a ++ own es) → P (fiber_of b) (own_of q b)
  carried P is =
      subst (λ (f : ℕ). P f (own (log q.front f))) (sym fiber_is)
      (subst (P (fiber_of a)) (sym own_grew) is)

  pub trigger_still : (o : Option ℕ) → Triggers p a o → Triggers q b o
  trigger_still o has = carried (λ f mine. MatchOption o ⊥ (λ t. HasMade mine f NewTrigger t)) (more_trigger (fiber_of a) (own_of p a) (own es) o has)

  pub place_still : (o : Option ℕ) → ((n : ℕ) → o ≡ Some n → AllByRecursion (λ h. Takes n h → ⊥) (own es)) → Places p a o → Places q b o
  place_still o none has = carried (λ f mine. IfSome o (HasOwnPlace f mine)) (more_place (fiber_of a) (own_of p a) (own es) o none has)

  pub stands_still : (c : ℕ) → Stands p c → Stands q c
  stands_still c is =
      let there : length (world q.origin q.front).comps ≡ length (world p.origin p.front).comps =
      comps_stay q.origin q.front ∙ (ap (λ (o : Origin). length o.world.comps) did.grew.later.origin ∙ sym (comps_stay p.origin p.front)) in
      subst (λ (n : ℕ). c < n) (sym there) is

module _ {S : Type 0} (p q : Sight S) (a b : Carry S) where
  -- a call that was refused leaves all as it is
  still : (P : ℕ → List Happened → Type 0) → Did p q a b [] → P (fiber_of a) (own_of p a) → P (fiber_of b) (own_of q b)
  still P did is = carried p q a b [] did P (subst (P (fiber_of a)) (sym (append-nil (own_of p a))) is)

  pub owns_still : (parts : Parts) → Did p q a b [] → Owns p a parts → Owns q b parts
  owns_still parts did has = still (λ f mine. HasParts parts.at f mine parts) did has

  pub makes_still : (parts : Parts) → Did p q a b [] → MakesOwn p q a b parts parts
  makes_still parts did has = still (λ f mine. HasMaking parts.at f mine parts) did has

  -- what was made is the fiber's own
  pub trigger_new : (t : ℕ) → Did p q a b (event (fiber_of a) NewTrigger (reply.Made t) ∷ []) → Triggers q b (Some t)
  trigger_new t did =
      carried p q a b (event (fiber_of a) NewTrigger (reply.Made t) ∷ []) did (λ f mine. HasMade mine f NewTrigger t)
      (record { front = own_of p a; back = []; is = refl })

  pub place_new : (n : ℕ) (es : List Happened) → Did p q a b es → ((c t : ℕ) → NumbersFit q.origin q.front (fiber_of a) (Attach n c t)) → Places q b (Some n)
  place_new n es did free =
      subst (λ (f : ℕ). HasOwnPlace f (own (log q.front f)) n) (sym (same_fiber a b did.number)) (place_in_own q.origin q.front (fiber_of a) n 0 0 (free 0 0))

  -- making a place takes none
  pub place_still_new : (n : ℕ) (o : Option ℕ) → Did p q a b (event (fiber_of a) NewPlace (reply.Made n) ∷ []) → Places p a o → Places q b o
  place_still_new n o did has =
      place_still p q a b (event (fiber_of a) NewPlace (reply.Made n) ∷ []) did o
      (λ k is. (λ takes. (let e : NewPlace ≡ Attach k takes.0 takes.1 = takes.2.0 in cc), tt)) has

  -- and an attachment takes its own one alone
  pub place_still_attached : (n c t : ℕ) (r : Reply) (o : Option ℕ) → o ≢ Some n → Did p q a b (event (fiber_of a) (Attach n c t) r ∷ []) → Places p a o → Places q b o
  place_still_attached n c t r o other did has =
      place_still p q a b (event (fiber_of a) (Attach n c t) r ∷ []) did o
      (λ k is. (λ takes. (let e : Attach n c t ≡ Attach k takes.0 takes.1 = takes.2.0 in let same : n ≡ k = cc in other (is ∙ ap (λ (j : ℕ). Some j) (sym same))), tt)) has

module _ {S : Type 0} (p q : Sight S) (a b : Carry S) where
  -- making ready, where its place was made
  pub makes_place : (parts : Parts) (n : ℕ) → parts.at ≡ 1 → Did p q a b (event (fiber_of a) NewPlace (reply.Made n) ∷ []) → ((c t : ℕ) → NumbersFit q.origin q.front (fiber_of a) (Attach n c t))
      → MakesOwn p q a b parts (record parts { place = Some n; at = 2 })
  makes_place parts n one did free has =
      let was = subst (λ (k : ℕ). HasMaking k (fiber_of a) (own_of p a) parts) one has in
      (trigger_still p q a b (event (fiber_of a) NewPlace (reply.Made n) ∷ []) did parts.trigger was, place_new p q a b n (event (fiber_of a) NewPlace (reply.Made n) ∷ []) did free)

-- making ready has what a wait for a computation has there
pub to_making : (n f : ℕ) (mine : List Happened) (parts : Parts) → n < 4 → HasParts (n + 1) f mine parts → HasMaking n f mine (record parts { at = n })
to_making zero f mine parts few has = tt
to_making (suc zero) f mine parts few has = has
to_making (suc (suc zero)) f mine parts few has = has
to_making (suc (suc (suc zero))) f mine parts few has = tt
to_making (suc (suc (suc (suc n)))) f mine parts few has = absurd (omega (arith, few))

pub from_making : (n f : ℕ) (mine : List Happened) (parts : Parts) → n < 4 → HasMaking n f mine parts → HasParts (n + 1) f mine (record parts { at = n + 1 })
from_making zero f mine parts few has = tt
from_making (suc zero) f mine parts few has = has
from_making (suc (suc zero)) f mine parts few has = has
from_making (suc (suc (suc zero))) f mine parts few has = tt
from_making (suc (suc (suc (suc n)))) f mine parts few has = absurd (omega (arith, few))

module _ {S : Type 0} (p q : Sight S) (a b : Carry S) where
  -- making ready, as a part of a wait for a computation
  pub owns_first : (parts later : Parts) → 0 < parts.at → parts.at < 4 → later.at < 4 → MakesOwn p q a b (record parts { at = parts.at - 1 }) later → Owns p a parts → Owns q b (record later { at = later.at + 1 })
  owns_first parts later least most few makes has =
      let back : parts.at ≡ (parts.at - 1) + 1 = omega (arith, least) in
      from_making later.at (fiber_of b) (own_of q b) later few
      (makes (to_making (parts.at - 1) (fiber_of a) (own_of p a) parts (omega (arith, most)) (subst (λ (k : ℕ). HasParts k (fiber_of a) (own_of p a) parts) back has)))

known_trigger : (f : ℕ) (mine : List Happened) (o : Option ℕ) → MatchOption o ⊥ (λ t. HasMade mine f NewTrigger t) → o ≢ None
known_trigger f mine None has is = has
known_trigger f mine (Some t) has is = cc

-- it knows its trigger
pub first_known : {S : Type 0} (p : Sight S) (a : Carry S) (parts : Parts) → 0 < parts.at → parts.at < 4 → Owns p a parts → HasTrigger (record parts { at = parts.at - 1 })
first_known p a parts least most has stage = at stage where
  back : parts.at ≡ (parts.at - 1) + 1
  back = omega (arith, least)

  making : HasMaking (parts.at - 1) (fiber_of a) (own_of p a) (record parts { at = parts.at - 1 })
  making = to_making (parts.at - 1) (fiber_of a) (own_of p a) parts (omega (arith, most)) (subst (λ (k : ℕ). HasParts k (fiber_of a) (own_of p a) parts) back has)

  at : (parts.at - 1 ≡ 1) ⊎ (parts.at - 1 ≡ 2) → parts.trigger ≢ None
  at (inl one) = known_trigger (fiber_of a) (own_of p a) parts.trigger (subst (λ (k : ℕ). HasMaking k (fiber_of a) (own_of p a) (record parts { at = parts.at - 1 })) one making)
  at (inr two) = known_trigger (fiber_of a) (own_of p a) parts.trigger (subst (λ (k : ℕ). HasMaking k (fiber_of a) (own_of p a) (record parts { at = parts.at - 1 })) two making).0

-- from the attaching to its own computation on it has the trigger
pub trigger_kept : {S : Type 0} (p : Sight S) (a : Carry S) (parts : Parts) → 5 < parts.at → parts.at < 11 → Owns p a parts → Triggers p a parts.trigger
trigger_kept p a parts least most has = at parts.at least has where
  further : (n : ℕ) → HasAttaching (suc n) (fiber_of a) (own_of p a) parts → Triggers p a parts.trigger
  further zero has = has.0
  further (suc zero) has = has
  further (suc (suc zero)) has = has.0
  further (suc (suc (suc n))) has = has

  at : (k : ℕ) → 5 < k → HasParts k (fiber_of a) (own_of p a) parts → Triggers p a parts.trigger
  at zero least has = absurd (omega (arith, least))
  at (suc zero) least has = absurd (omega (arith, least))
  at (suc (suc zero)) least has = absurd (omega (arith, least))
  at (suc (suc (suc zero))) least has = absurd (omega (arith, least))
  at (suc (suc (suc (suc zero)))) least has = absurd (omega (arith, least))
  at (suc (suc (suc (suc (suc zero))))) least has = absurd (omega (arith, least))
  at (suc (suc (suc (suc (suc (suc n)))))) least has = further n has

module _ {S : Type 0} (p : Sight S) (a : Carry S) (free : IsFree p a) where
  -- ---- what stands

  own_place_free : (n c t : ℕ) → HasOwnPlace (fiber_of a) (own_of p a) n → NumbersFit p.origin p.front (fiber_of a) (Attach n c t)
  own_place_free n c t has = numbers_by_own p.origin p.front (fiber_of a) (Attach n c t) free.holds.legal has

  place_stands : (n : ℕ) → HasOwnPlace (fiber_of a) (own_of p a) n → n < (world p.origin p.front).places
  place_stands n has = made_place p.origin p.front (fiber_of a) n free.holds.legal (own_place_free n 0 0 has).0

  pub trigger_stands : (t : ℕ) → HasMade (own_of p a) (fiber_of a) NewTrigger t → t < length (world p.origin p.front).triggers
  trigger_stands t has = at (numbers_by_own p.origin p.front (fiber_of a) (Arm t (Resume (fiber_of a))) free.holds.legal (inr has)) where
    at : (t < length p.origin.world.triggers) ⊎ HasMade p.front (fiber_of a) NewTrigger t → t < length (world p.origin p.front).triggers
    at (inl stood) = omega (arith, stood, triggers_from p.origin.world p.front)
    at (inr made) = made_trigger p.origin p.front (fiber_of a) t free.holds.legal made

  -- a place that is made later is another one
  pub place_other : (n : ℕ) (o : Option ℕ) → (world p.origin p.front).places ≤ n → Places p a o → o ≢ Some n
  place_other n None fresh has is = cc
  place_other n (Some k) fresh has is = let same : k ≡ n = cc in omega (arith, same, fresh, place_stands k has)

  -- ---- what may be called

  may_call : (call : Call) → NamesStand (world p.origin p.front) call → ArmsOwn (fiber_of a) call → NumbersFit p.origin p.front (fiber_of a) call → MayMake p.origin p.front (fiber_of a) call
  may_call call names own numbers = record {
    allowed = record {
      caller = free.holds.acts;
      clock = λ clock. absurd (free.fiber clock);
      duties = subst (λ (ds : List Duty). DutiesAllow ds call) (sym (sym free.holds.owes ∙ free.owes)) tt;
      names = names;
      own = own;
    };
    numbers = numbers;
  }

  pub peek_may : (c : ℕ) → Stands p c → MayMake p.origin p.front (fiber_of a) (Peek c)
  peek_may c stands = may_call (Peek c) stands tt tt

  pub signal_may : (t : ℕ) → HasMade (own_of p a) (fiber_of a) NewTrigger t → MayMake p.origin p.front (fiber_of a) (Signal t)
  signal_may t has = may_call (Signal t) (trigger_stands t has) tt tt

  pub attach_may : (n c t : ℕ) → Stands p c → HasMade (own_of p a) (fiber_of a) NewTrigger t → HasOwnPlace (fiber_of a) (own_of p a) n → MayMake p.origin p.front (fiber_of a) (Attach n c t)
  attach_may n c t stands has place = may_call (Attach n c t) (place_stands n place, stands, trigger_stands t has) tt (own_place_free n c t place)

module _ {S : Type 0} (p q : Sight S) (a b : Carry S) where
  -- both places are made
  pub owns_second : (parts : Parts) (n : ℕ) → IsFree p a → parts.at ≡ 3 → Did p q a b (event (fiber_of a) NewPlace (reply.Made n) ∷ []) → ((c t : ℕ) → NumbersFit q.origin q.front (fiber_of a) (Attach n c t))
      → (world p.origin p.front).places ≤ n → Owns p a parts → Owns q b (record parts { second = Some n; at = 5 })
  owns_second parts n free three did fits fresh has =
      let es = event (fiber_of a) NewPlace (reply.Made n) ∷ [] in
      let was = subst (λ (k : ℕ). HasParts k (fiber_of a) (own_of p a) parts) three has in (
        (trigger_still p q a b es did parts.trigger was.0, place_still_new p q a b n parts.place did was.1),
        record { place = n; known = refl; free = place_new p q a b n es did fits; other = place_other p a free n parts.place fresh was.1 },
      )

  -- the second one is taken
  pub owns_attached : (parts : Parts) (n c t : ℕ) (r : Reply) → parts.at ≡ 5 → parts.second ≡ Some n → Did p q a b (event (fiber_of a) (Attach n c t) r ∷ []) → Owns p a parts → Owns q b (record parts { at = 6 })
  owns_attached parts n c t r five second did has =
      let es = event (fiber_of a) (Attach n c t) r ∷ [] in
      let was = subst (λ (k : ℕ). HasParts k (fiber_of a) (own_of p a) parts) five has in
      let known : Some was.1.place ≡ Some n = sym was.1.known ∙ second in (
        trigger_still p q a b es did parts.trigger was.0.0,
        place_still_attached p q a b n c t r parts.place (λ is. was.1.other (is ∙ sym known)) did was.0.1,
      )

-- the places and the trigger that an attachment wants
pub attaches : {S : Type 0} (p : Sight S) (a : Carry S) (parts : Parts) (c t n : ℕ) → IsFree p a → Stands p c → parts.at ≡ 5 → parts.trigger ≡ Some t → parts.second ≡ Some n → Owns p a parts → MayMake p.origin p.front (fiber_of a) (Attach n c t)
attaches p a parts c t n free stands five trigger second has =
    let was = subst (λ (k : ℕ). HasParts k (fiber_of a) (own_of p a) parts) five has in
    let known : Some was.1.place ≡ Some n = sym was.1.known ∙ second in
    let same : was.1.place ≡ n = cc in
    attach_may p a free n c t stands (subst (Triggers p a) trigger was.0.0) (subst (λ (k : ℕ). HasOwnPlace (fiber_of a) (own_of p a) k) same was.1.free)

has_trigger : (f : ℕ) (mine : List Happened) (o : Option ℕ) → MatchOption o ⊥ (λ t. HasMade mine f NewTrigger t) → HasMade mine f NewTrigger (unwrap_or o 0)
has_trigger f mine None has = absurd has
has_trigger f mine (Some t) has = has

-- and those that the attachment to its own computation wants
pub sleepy_may : {S : Type 0} (p : Sight S) (a : Carry S) (parts : Parts) (c : ℕ) → IsFree p a → Stands p c → 5 < parts.at → Owns p a parts
    → IfSome parts.place (λ place. parts.at - 4 ≡ 2 → MayMake p.origin p.front (fiber_of a) (Attach place c (trigger_of parts)))
sleepy_may p a parts c free stands least has = at parts.place refl where
  here : (n : ℕ) → parts.place ≡ Some n → parts.at ≡ 6 → MayMake p.origin p.front (fiber_of a) (Attach n c (trigger_of parts))
  here n placed six =
      let was = subst (λ (k : ℕ). HasParts k (fiber_of a) (own_of p a) parts) six has in
      attach_may p a free n c (trigger_of parts) stands (has_trigger (fiber_of a) (own_of p a) parts.trigger was.0) (subst (Places p a) placed was.1)

  at : (o : Option ℕ) → parts.place ≡ o → IfSome o (λ place. parts.at - 4 ≡ 2 → MayMake p.origin p.front (fiber_of a) (Attach place c (trigger_of parts)))
  at None placed = tt
  at (Some n) placed = λ two. here n placed (omega (arith, least, two))

-- ---- behind a call that says `Park`

-- the arming is allowed
pub arm_may : {S : Type 0} (p : Sight S) (a : Carry S) (parts : Parts) → IsFree p a → parts.at ≡ 7 → IsFollowing (fiber_of a) (own_of p a) parts
    → MayMake p.origin p.front (fiber_of a) (Arm (trigger_of parts) (Resume (fiber_of a)))
arm_may p a parts free seven on =
    let f = fiber_of a in
    let has : Triggers p a parts.trigger = trigger_kept p a parts (omega (arith, seven)) on.at on.has in
    let made : HasMade (own_of p a) f NewTrigger (trigger_of parts) = has_trigger f (own_of p a) parts.trigger has in
    may_call p a free (Arm (trigger_of parts) (Resume f)) (trigger_stands p a free (trigger_of parts) made) refl
    (numbers_by_own p.origin p.front f (Arm (trigger_of parts) (Resume f)) free.holds.legal (inr made))

-- and the armed parts may be gone on with behind it, whatever its reply
pub armed_follows : (f : ℕ) (mine : List Happened) (h : Happened) (parts : Parts) → parts.at ≡ 7 → IsFollowing f mine parts → IsFollowing f (mine ++ h ∷ []) (record parts { at = 9 })
armed_follows f mine h parts seven on = record {
  at = omega arith;
  going = λ four. omega (arith, four);
  has = more_trigger f mine (h ∷ []) parts.trigger (subst (λ (k : ℕ). HasParts k f mine parts) seven on.has);
}
