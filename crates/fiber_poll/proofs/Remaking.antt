-- A wait for a computation that looks again makes a trigger before it waits again, so there is one less to make.
use Rattle.std.proofs.Common.{◌≡◌, ℕ, ◌-◌, ◌<◌, ◌≤◌, ◌⊎◌, inl, inr, nat_lt, cond, Bool, true, false, Option, Some, None, List, [], ◌∷◌, ◌++◌, length, filter, refl, sym, ap, subst, ◌∙◌, append_assoc, arith}
use Rattle.pic_base.specs.declared.limits.Limits.{Limits}
use Rattle.pic_base.specs.declared.outcome.Outcome.TheVariants.{Cancelled, Returned}
use Rattle.pic_machine.specs.declared.entry.Call.{Call}
use Rattle.pic_machine.specs.declared.entry.Call.TheVariants.{NewTrigger}
use Rattle.pic_machine.specs.declared.entry.Reply.{Reply}
use Rattle.pic_machine.specs.declared.entry.Reply.TheVariants as reply
use Rattle.pic_machine.specs.declared.waits.Parts.{Parts}
use Rattle.pic_machine.specs.declared.waits.Standing.{Standing as Under}
use Rattle.pic_machine.specs.Following.{Following, finished, following, following_asks, following_at, following_leads, looked, peeking, placing, readying, refused, suspending}
use Rattle.pic_machine.specs.Happened.{Happened}
use Rattle.pic_machine.specs.History.{HasMade, IsLegal, Origin, event, world, world_from}
use Rattle.pic_machine.specs.Log.{is_logged, log}
use Rattle.pic_machine.specs.Routine.{Goes, goes, stays}
use Rattle.pic_machine.specs.Sight.{Carry, Sight, fiber_of}
use Rattle.pic_machine.specs.State.{State}
use Rattle.pic_machine.specs.Lending.{Later}
use Rattle.pic_machine.specs.Step.{made_below}
use Rattle.pic_machine.specs.Turning.{Grew}
use Rattle.pic_machine.specs.Waits.{arming, attaching, awake, checking, full, made, over, place, taken, told, trigger, woken}
use Rattle.std.proofs.lemmas.Bool.Decides.{nat_tests}
use Rattle.std.proofs.lemmas.List.{append_cancel_left}
use Rattle.pic_machine.proofs.Histories.{log-append, world_from-append}
use Rattle.pic_machine.proofs.Numbers.{made_trigger, triggers_from}
use Rattle.pic_machine.proofs.Parks.{world_limits}
use Rattle.script_tree.specs.Tree.{Tree}
use Rattle.std.specs.Prelude.{unwrap_or, IfOk, Result, Ok, Err}
use Rattle.pic_machine.specs.declared.port.PortFault.{PortFault}
use Rattle.fiber_await.specs.Doing.{RanTelling}
use Rattle.fiber_poll.specs.declared.spot.Last.{Last}
use Rattle.fiber_poll.specs.UnderWay.{IsLast, IsOn, IsStep, triggers_left, weight_in}
use Rattle.fiber_poll.specs.Moving.{weight}
use Rattle.fiber_body.specs.Shown.{Shown}

-- ---- a trigger is to be made before the next arming

abbrev IsEarly : Following → Type 0
IsEarly (readying (place t)) = ⊥
IsEarly (readying (made t a)) = ⊥
IsEarly (placing t a b) = ⊥
IsEarly (suspending t (attaching a)) = ⊥
IsEarly (suspending t arming) = ⊥
IsEarly _ = Unit {0}

-- each step leaves it so, but for the one that makes the trigger
abbrev Makes : Call → Reply → Type 0
Makes call re = (t : ℕ) × (call ≡ NewTrigger) × (re ≡ reply.Made t)

looked_early : (re : Reply) (m : Following) → looked re ≡ Some m → IsEarly m
looked_early (reply.Peeked None) m is = let same : readying trigger ≡ m = cc in subst IsEarly same tt
looked_early (reply.Peeked (Some o)) m is = let same : finished o ≡ m = cc in subst IsEarly same tt
looked_early _ m is = absurd cc

checked_early : (u : Under) (t : ℕ) (re : Reply) (m : Following) → following_leads u (suspending t checking) re ≡ Some m → IsEarly m
checked_early u t (reply.Peeked None) m is = let same : suspending t (over woken) ≡ m = cc in subst IsEarly same tt
checked_early u t (reply.Peeked (Some (Returned v))) m is = let same : suspending t (over woken) ≡ m = cc in subst IsEarly same tt
checked_early u t (reply.Peeked (Some (Cancelled code))) m is = let same : suspending t (over (told code)) ≡ m = cc in subst IsEarly same tt
checked_early u t _ m is = absurd cc

told_early : (u : Under) (t code : ℕ) (re : Reply) (m : Following) → following_leads u (suspending t (over (told code))) re ≡ Some m → IsEarly m
told_early u t code (reply.Signalled how) m is = let same : refused code ≡ m = cc in subst IsEarly same tt
told_early u t code _ m is = absurd cc

readying_either : (u : Under) (call : Call) (re : Reply) (m : Following) → NewTrigger ≡ call → following_leads u (readying trigger) re ≡ Some m → IsEarly m ⊎ Makes call re
readying_either u call (reply.Made t) m asked led = inr (t, sym asked, refl)
readying_either u call reply.Full m asked led = inl (let same : readying full ≡ m = cc in subst IsEarly same tt)
readying_either u call _ m asked led = absurd cc

step_either : (u : Under) (f k : ℕ) (p m : Following) (call : Call) (re : Reply) → IsEarly p → following_asks u f k p ≡ Some call → following_leads u p re ≡ Some m → IsEarly m ⊎ Makes call re
step_either u f k peeking m call re early asked led = inl (looked_early re m led)
step_either u f k (readying trigger) m call re early asked led = (let called : NewTrigger ≡ call = cc in readying_either u call re m called led)
step_either u f k (readying full) m call re early asked led = absurd cc
step_either u f k (suspending t checking) m call re early asked led = inl (checked_early u t re m led)
step_either u f k (suspending t (over woken)) m call re early asked led = inl (looked_early re m led)
step_either u f k (suspending t (over (told code))) m call re early asked led = inl (told_early u t code re m led)
step_either u f k (suspending t (over taken)) m call re early asked led = absurd cc
step_either u f k (finished o) m call re early asked led = absurd cc
step_either u f k (refused code) m call re early asked led = absurd cc
step_either u f k (readying (place t)) m call re early asked led = absurd early
step_either u f k (readying (made t a)) m call re early asked led = absurd early
step_either u f k (placing t a b) m call re early asked led = absurd early
step_either u f k (suspending t (attaching a)) m call re early asked led = absurd early
step_either u f k (suspending t arming) m call re early asked led = absurd early

awake_early : (t : ℕ) (permitted : Bool) → IsEarly (suspending t (cond permitted checking (over woken)))
awake_early t true = tt
awake_early t false = tt

-- so it makes one on the way to an arming
remakes : (u : Under) (f k t : ℕ) {p y : Following} {es : List Happened} → Goes (following u f k) f p es y → y ≡ suspending t arming → IsEarly p → (n : ℕ) × HasMade es f NewTrigger n
remakes u f k t stays is early = absurd (subst IsEarly is early)
remakes u f k t (goes {p} {m} {hs = hs} call re asked led rest) is early = by (step_either u f k p m call re early asked led) (λ again. remakes u f k t rest is again) where
  by : IsEarly m ⊎ Makes call re → (IsEarly m → (n : ℕ) × HasMade hs f NewTrigger n) → (n : ℕ) × HasMade (event f call re ∷ hs) f NewTrigger n
  by (inl again) later = let found = later again in (found.0, record { front = event f call re ∷ found.1.front; back = found.1.back; is = ap (λ (zs : List Happened). event f call re ∷ zs) found.1.is })
  by (inr makes) later = (makes.0, record { front = []; back = hs; is = ap (λ (c : Call). event f c re ∷ hs) makes.1 ∙ ap (λ (x : Reply). event f NewTrigger x ∷ hs) makes.2 })

-- ---- so there is one less to make

-- what an entry made that is kept was made
made_kept : (P : Happened → Bool) (f n : ℕ) (hs front back : List Happened) → filter P hs ≡ front ++ event f NewTrigger (reply.Made n) ∷ back → HasMade hs f NewTrigger n
made_kept P f n [] [] back is = absurd cc
made_kept P f n [] (x ∷ front) back is = absurd cc
made_kept P f n (h ∷ hs) front back is = by (P h) refl front is (λ fore. made_kept P f n hs fore back) where
  further : HasMade hs f NewTrigger n → HasMade (h ∷ hs) f NewTrigger n
  further made_later = record { front = h ∷ made_later.front; back = made_later.back; is = ap (λ (zs : List Happened). h ∷ zs) made_later.is }

  kept_first : P h ≡ true → filter P (h ∷ hs) ≡ h ∷ filter P hs
  kept_first kept = rw kept refl

  left_first : P h ≡ false → filter P (h ∷ hs) ≡ filter P hs
  left_first left = rw left refl

  by : (kept : Bool) → P h ≡ kept → (front : List Happened) → filter P (h ∷ hs) ≡ front ++ event f NewTrigger (reply.Made n) ∷ back
      → ((fore : List Happened) → filter P hs ≡ fore ++ event f NewTrigger (reply.Made n) ∷ back → HasMade hs f NewTrigger n) → HasMade (h ∷ hs) f NewTrigger n
  by true kept [] is later =
      let both : h ∷ filter P hs ≡ event f NewTrigger (reply.Made n) ∷ back = sym (kept_first kept) ∙ is in
      let same : h ≡ event f NewTrigger (reply.Made n) = cc in
      record { front = []; back = hs; is = ap (λ (z : Happened). z ∷ hs) same }
  by true kept (x ∷ front) is later =
      let both : h ∷ filter P hs ≡ x ∷ (front ++ event f NewTrigger (reply.Made n) ∷ back) = sym (kept_first kept) ∙ is in
      further (later front (let tail_is : filter P hs ≡ front ++ event f NewTrigger (reply.Made n) ∷ back = cc in tail_is))
  by false left front is later = further (later front (sym (left_first left) ∙ is))

-- the number of a trigger is how many there were, and there was room for it
number_is : (n limit t : ℕ) (room : Bool) → nat_lt n limit ≡ room → reply.Made t ≡ made_below n limit → (t ≡ n) × (n < limit)
number_is n limit t true room is = let same : reply.Made t ≡ reply.Made n = is ∙ (rw room refl) in (cc, grind (arith, nat_tests, room))
number_is n limit t false room is = let full_is : reply.Made t ≡ reply.Full = is ∙ (rw room refl) in absurd cc

-- one that is made later is numbered behind those that stood
later_number : (origin : Origin) (front more : List Happened) (f t : ℕ) → IsLegal origin (front ++ more) → HasMade more f NewTrigger t → (length (world origin front).triggers ≤ t) × (t < origin.world.limits.triggers)
later_number origin front more f t legal has =
    let h : Happened = event f NewTrigger (reply.Made t) in
    let before : List Happened = front ++ has.front in
    let w : State = world origin before in
    let follows = legal.each before has.back h (ap (λ (zs : List Happened). front ++ zs) has.is ∙ sym (append_assoc front has.front (h ∷ has.back))) in
    let number = number_is (length w.triggers) w.limits.triggers t (nat_lt (length w.triggers) w.limits.triggers) refl follows.reply in
    let there : length w.triggers ≡ length (world_from (world origin front) has.front).triggers = ap (λ (v : State). length v.triggers) (world_from-append origin.world front has.front) in
    let limit : w.limits.triggers ≡ origin.world.limits.triggers = ap (λ (limits : Limits). limits.triggers) (world_limits origin.world before) in
    let stood = triggers_from (world origin front) has.front in
    (omega (arith, number.0, there, stood), omega (arith, number, limit))

-- while a fiber goes on, no more are left
pub none_more : (p q : Sight (Option Tree)) (more : List Happened) → Later p q more → triggers_left q ≤ triggers_left p
none_more p q more later =
    let there : length (world q.origin q.front).triggers ≡ length (world_from (world p.origin p.front) more).triggers =
    ap (λ (o : Origin). length (world o q.front).triggers) later.origin ∙ (ap (λ (hs : List Happened). length (world p.origin hs).triggers) later.front ∙ ap (λ (v : State). length v.triggers) (world_from-append p.origin.world p.front more)) in
    let limit : q.origin.world.limits.triggers ≡ p.origin.world.limits.triggers = ap (λ (o : Origin). o.world.limits.triggers) later.origin in
    omega (arith, there, limit, triggers_from (world p.origin p.front) more)

-- and one that makes one leaves one less
one_less : (p q : Sight (Option Tree)) (a : Carry (Option Tree)) (es : List Happened) (n : ℕ) → IsLegal q.origin q.front → Grew p q (fiber_of a) es → HasMade es (fiber_of a) NewTrigger n → triggers_left q < triggers_left p
one_less p q a es n legal grew has =
    let f = fiber_of a in
    let logs : log grew.more f ≡ es = append_cancel_left (log p.front f) (log grew.more f) es
    (sym (log-append p.front grew.more f) ∙ (sym (ap (λ (hs : List Happened). log hs f) grew.later.front) ∙ grew.log)) in
    let here : HasMade grew.more f NewTrigger n = made_kept (is_logged f) f n grew.more has.front has.back (logs ∙ has.is) in
    let legal_too : IsLegal p.origin (p.front ++ grew.more) = subst (λ (o : Origin). IsLegal o (p.front ++ grew.more)) grew.later.origin (subst (IsLegal q.origin) grew.later.front legal) in
    let least = later_number p.origin p.front grew.more f n legal_too here in
    let all : HasMade (p.front ++ grew.more) f NewTrigger n =
    record { front = p.front ++ here.front; back = here.back; is = ap (λ (zs : List Happened). p.front ++ zs) here.is ∙ sym (append_assoc p.front here.front (event f NewTrigger (reply.Made n) ∷ here.back)) } in
    let most = made_trigger p.origin (p.front ++ grew.more) f n legal_too all in
    let there : triggers_left q ≡ p.origin.world.limits.triggers - length (world p.origin (p.front ++ grew.more)).triggers =
    ap (λ (o : Origin). o.world.limits.triggers - length (world o q.front).triggers) grew.later.origin
    ∙ ap (λ (hs : List Happened). p.origin.world.limits.triggers - length (world p.origin hs).triggers) grew.later.front in
    omega (arith, there, least, most)

-- ---- what a turn may still do

module _ {p q : Sight (Option Tree)} {a b : Shown} {before now : Option (List ℕ)} where
  -- a part of a turn that leaves less of the body to do leaves less to do
  pub still_lighter : IsOn p q a b before now → weight b < weight a → weight_in q b < weight_in p a
  still_lighter on less = let few = none_more p q on.went.grew.more on.went.grew.later in omega (arith, less, few)

  pub no_heavier : IsOn p q a b before now → weight b ≤ weight a → weight_in q b ≤ weight_in p a
  no_heavier on less = let few = none_more p q on.went.grew.more on.went.grew.later in omega (arith, less, few)

-- a step behind a part that left no more to do
pub step_after : (p q : Sight (Option Tree)) (a b d : Shown) (last : Option Last) → weight b ≤ weight a → IsStep p q b d last → IsStep p q a d last
step_after p q a b d None less step = omega (arith, less, step)
step_after p q a b d (Some last) less step =
    let most = step.1 in
    (step.0, omega (arith, less, most))

-- the turn's last call behind a part that left no more to do
pub last_after : (p q r : Sight (Option Tree)) (a b d : Shown) (result : Result Last PortFault) → weight_in q b ≤ weight_in p a → IfOk result (λ last. IsLast d last × (weight_in r d ≤ weight_in q b)) → IfOk result (λ last. IsLast d last × (weight_in r d ≤ weight_in p a))
last_after p q r a b d (Ok last) less is =
    let most = is.1 in
    (is.0, omega (arith, less, most))
last_after p q r a b d (Err fault) less is = tt

-- a wait for a computation that is to arm again has made a trigger for it
pub rearms : {p q : Sight (Option Tree)} (a b : Carry (Option Tree)) {before now : Option (List ℕ)} (u : Under) (k : ℕ) (parts later : Parts) → (ran : RanTelling (following u (fiber_of a) k) p q a b before now (following_at u parts.at parts) (following_at u later.at later))
    → parts.at ≡ 9 → later.at ≡ 7 → triggers_left q < triggers_left p
rearms {p} {q} a b u k parts later ran nine seven =
    let f = fiber_of a in
    let there : following_at u later.at later ≡ suspending (unwrap_or later.trigger 0) arming = ap (λ (n : ℕ). following_at u n later) seven in
    let here : following_at u parts.at parts ≡ suspending (unwrap_or parts.trigger 0) (awake u) = ap (λ (n : ℕ). following_at u n parts) nine in
    let found = remakes u f k (unwrap_or later.trigger 0) ran.goes there (subst IsEarly (sym here) (awake_early (unwrap_or parts.trigger 0) u.permitted)) in
    one_less p q a ran.went.going found.0 ran.free.holds.legal ran.went.grew found.1
