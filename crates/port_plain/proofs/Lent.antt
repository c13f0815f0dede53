-- How what the port made shows as what the contract of ports asks of a body that is lent.
use Rattle.std.proofs.Common.{◌≡◌, ℕ, ◌-◌, ◌≤◌, inl, inr, nat_lt, Bool, true, false, Option, Some, None, List, [], ◌∷◌, ◌++◌, length, refl, sym, ap, subst, ◌∙◌, append-nil, arith}
use Rattle.std.proofs.lemmas.Option.{slice_get_within}
use Rattle.pic_base.specs.declared.duty.Duty.{Duty}
use Rattle.pic_machine.specs.declared.entry.Call.{Call}
use Rattle.pic_machine.specs.declared.entry.Call.TheVariants as call
use Rattle.pic_machine.specs.declared.entry.Call.TheVariants.{Attach, Complete, Fork, Look, NewPlace, NewTrigger, Peek, Say}
use Rattle.pic_machine.specs.declared.entry.Entry.{Entry}
use Rattle.pic_machine.specs.declared.entry.Reply.{Reply}
use Rattle.pic_machine.specs.declared.entry.Reply.TheVariants as answer
use Rattle.pic_machine.specs.declared.port.PortFault.{PortFault}
use Rattle.pic_machine.specs.declared.port.PortFault.TheVariants.{Full, Memory}
use Rattle.pic_machine.specs.declared.state.FiberState.TheVariants.{Live}
use Rattle.pic_machine.specs.Duty.{LeavesDuties, is_owing}
use Rattle.pic_machine.specs.Happened.{Happened}
use Rattle.pic_machine.specs.State.{State, owed_of}
use Rattle.pic_machine.specs.Step.{MakesNoFiber, MayAct, after, made_below, reply_of}
use Rattle.pic_machine.specs.History.{Follows, IsLegal, event, forked, happening, world}
use Rattle.pic_machine.specs.Log.{is_hidden, is_turn, visible}
use Rattle.pic_machine.specs.Sight.{CanMake, Carry, Holds, IsChild, Notes, fiber_of}
use Rattle.pic_machine.specs.Lending.{Answered, Began, Called, Lent, Made, RefusesMaking, Spared}
use Rattle.pic_machine.proofs.Histories.{world-push}
use Rattle.pic_machine.proofs.Onward.{Onward, onward_began, onward_lent, onward_made, spared_same}
use Rattle.pic_machine.proofs.Owns.{IsUnasked, answered_free, can_free, unasked_free}
use Rattle.pic_machine.proofs.Steps.{EndsNone, acts_own, owed_left}
use Rattle.port_plain.specs.Shown.{IsLent, MakesThing, NoFiber, Settles, Shown, made_of, marked, origin_in, sight_of, with_entry}

-- ---- which calls are which

pub lent_no_fiber : (call : Call) → IsLent call → MakesNoFiber call
lent_no_fiber (Fork text value) is = is
lent_no_fiber _ is = tt

lent_acts : (call : Call) → IsLent call → EndsNone call
lent_acts (call.Arm t action) is = is
lent_acts (call.End o) is = is
lent_acts _ is = tt

lent_leaves : (call : Call) → IsLent call → LeavesDuties call
lent_leaves (call.Signal t) is = is
lent_leaves (Complete c o) is = is
lent_leaves (Peek c) is = is
lent_leaves _ is = tt

lent_within : (call : Call) → IsLent call → is_turn call ≡ false
lent_within call.Turn is = absurd is
lent_within _ is = refl

lent_shown : (call : Call) (reply : Reply) → IsLent call → is_hidden call reply ≡ false
lent_shown (Look t) reply is = refl
lent_shown (Attach p c t) reply is = refl
lent_shown (Say v) reply is = refl
lent_shown _ reply is = absurd is

pub settles_no_fiber : (call : Call) → Settles call → MakesNoFiber call
settles_no_fiber (Fork text value) is = is
settles_no_fiber _ is = tt

settles_acts : (call : Call) → Settles call → EndsNone call
settles_acts (call.Arm t action) is = is
settles_acts (call.End o) is = is
settles_acts _ is = tt

settles_within : (call : Call) → Settles call → is_turn call ≡ false
settles_within call.Turn is = absurd is
settles_within _ is = refl

settles_shown : (call : Call) (reply : Reply) → Settles call → is_hidden call reply ≡ false
settles_shown (call.Signal t) reply is = refl
settles_shown (Complete c o) reply is = refl
settles_shown (Peek c) reply is = refl
settles_shown _ reply is = absurd is

pub thing_no_fiber : (call : Call) → MakesThing call → MakesNoFiber call
thing_no_fiber (Fork text value) is = is
thing_no_fiber _ is = tt

thing_acts : (call : Call) → MakesThing call → EndsNone call
thing_acts (call.Arm t action) is = is
thing_acts (call.End o) is = is
thing_acts _ is = tt

thing_leaves : (call : Call) → MakesThing call → LeavesDuties call
thing_leaves (call.Signal t) is = is
thing_leaves (Complete c o) is = is
thing_leaves (Peek c) is = is
thing_leaves _ is = tt

thing_unasked : (call : Call) → MakesThing call → IsUnasked call
thing_unasked (Look t) is = is
thing_unasked (call.Signal t) is = is
thing_unasked (Complete c o) is = is
thing_unasked (Peek c) is = is
thing_unasked _ is = tt

thing_within : (call : Call) → MakesThing call → is_turn call ≡ false
thing_within call.Turn is = absurd is
thing_within _ is = refl

thing_hidden : (call : Call) (n : ℕ) → MakesThing call → is_hidden call (answer.Made n) ≡ true
thing_hidden NewTrigger n is = refl
thing_hidden NewPlace n is = refl
thing_hidden _ n is = absurd is

full_shown : (call : Call) → is_turn call ≡ false → is_hidden call answer.Full ≡ false
full_shown NewTrigger within = refl
full_shown NewPlace within = refl
full_shown _ within = within

-- ---- what is told of a thing that was made

made_is : (reply : Reply) (n : ℕ) → Some n ≡ made_of reply → reply ≡ answer.Made n
made_is (answer.Made m) n made = let same : Some n ≡ Some m = made in cc
made_is _ n made = absurd (let none : Some n ≡ None = made in cc)

below_full : (count limit : ℕ) (room : Bool) → nat_lt count limit ≡ room → None ≡ made_of (made_below count limit) → made_below count limit ≡ answer.Full
below_full count limit true is none = absurd (let made : None ≡ Some count = none ∙ (rw is refl) in cc)
below_full count limit false is none = rw is refl

thing_full : (w : State) (f : ℕ) (call : Call) → MakesThing call → None ≡ made_of (reply_of w f call) → reply_of w f call ≡ answer.Full
thing_full w f NewTrigger is none = below_full (length w.triggers) w.limits.triggers (nat_lt (length w.triggers) w.limits.triggers) refl none
thing_full w f NewPlace is none = below_full w.places w.limits.places (nat_lt w.places w.limits.places) refl none
thing_full w f _ is none = absurd is

-- ---- the front

pub fiber_is : {S : Type 0} (body : Carry S) (n : ℕ) → body.number ≡ Some n → fiber_of body ≡ n
fiber_is body n number = ap (λ (m : Option ℕ). fiber_of (record body { number = m })) number

-- whoever acts has a list of duties
acts_within : (w : State) (f : ℕ) → MayAct w f → f ≤ length w.fibers
acts_within w f (inl clock) = omega (arith, clock)
acts_within w f (inr live) = let within = slice_get_within w.fibers (f - 1) Live live.live in omega (arith, within)

-- these entries were noted in the body, and it owes this; all else but the room is as it was
record Took {S : Type 0} (old new : Carry S) (es : List Entry) (duties : List Duty) : Type 0 where
  birth : new.birth ≡ old.birth
  number : new.number ≡ old.number
  noted : new.noted ≡ old.noted ++ es
  owes : new.owes ≡ duties
  share : new.share ≡ old.share

-- an entry that a report shows is noted as it stands
took_shown : {S : Type 0} (a b : Carry S) (h : Happened) (duties : List Duty) → is_hidden h.entry.call h.entry.reply ≡ false → Notes a b (h.entry ∷ []) → a.owes ≡ duties → Took a b (visible (h ∷ [])) duties
took_shown a b h duties shown notes owes =
    let one : visible (h ∷ []) ≡ h.entry ∷ [] = rw shown refl in
    record { birth = notes.birth; number = notes.number; noted = notes.noted ∙ ap (λ (es : List Entry). a.noted ++ es) (sym one); owes = notes.owes ∙ owes; share = notes.share }

-- and another isn't noted
took_hidden : {S : Type 0} (a : Carry S) (h : Happened) (duties : List Duty) → is_hidden h.entry.call h.entry.reply ≡ true → a.owes ≡ duties → Took a a (visible (h ∷ [])) duties
took_hidden a h duties hidden owes =
    let none : visible (h ∷ []) ≡ [] = rw hidden refl in
    record { birth = refl; number = refl; noted = sym (append-nil a.noted) ∙ ap (λ (es : List Entry). a.noted ++ es) (sym none); owes = owes; share = refl }

module _ {B S : Type 0} (seen : B → Carry S) (port : Shown B) (h : Happened) (legal : IsLegal (origin_in seen port) port.front) (follows : Follows (origin_in seen port) port.front h) where
  -- the front grew by this entry, whatever is out then
  pub onward : (out : Option ℕ) → Onward (sight_of seen port) (sight_of seen (record (with_entry port h) { out = out })) [] h
  onward out = record {
    origin = refl;
    share = refl;
    board = refl;
    alone = refl;
    calm = refl;
    front = ap (λ (zs : List Happened). zs ++ h ∷ []) (sym (append-nil port.front));
    none = λ alone. refl;
    legal = subst (IsLegal (origin_in seen port)) (sym (append-nil port.front)) legal;
    follows = subst (λ (zs : List Happened). Follows (origin_in seen port) zs h) (sym (append-nil port.front)) follows;
  }

  pub front_made : (out : Option ℕ) → Made (sight_of seen port) (sight_of seen (record (with_entry port h) { out = out })) h
  front_made out = onward_made (sight_of seen port) (sight_of seen (record (with_entry port h) { out = out })) [] h (onward out) tt

  pub front_began : (out : Option ℕ) → Began (sight_of seen port) (sight_of seen (record (with_entry port h) { out = out })) h
  front_began out = onward_began (sight_of seen port) (sight_of seen (record (with_entry port h) { out = out })) [] h (onward out)

  -- the body whose fiber made it, and which took it and owes what is left
  lent : (a b : Carry S) → Holds (sight_of seen port) a → h.entry.fiber ≡ fiber_of a → is_turn h.entry.call ≡ false → MayAct (after (world (origin_in seen port) port.front) h.entry.fiber h.entry.call) (fiber_of a)
      → Took a b (visible (h ∷ [])) (owed_of (after (world (origin_in seen port) port.front) h.entry.fiber h.entry.call) (fiber_of a)) → Lent (sight_of seen port) (sight_of seen (with_entry port h)) a b h
  lent a b holds mine within acts took =
      let there : after (world (origin_in seen port) port.front) h.entry.fiber h.entry.call ≡ world (origin_in seen port) (port.front ++ h ∷ []) = sym (world-push (origin_in seen port) port.front h) in
      onward_lent (sight_of seen port) (sight_of seen (with_entry port h)) a b [] h (onward port.out) tt holds refl mine within took.birth took.number took.noted took.share
      (took.owes ∙ ap (λ (v : State). owed_of v (fiber_of a)) there) (subst (λ (v : State). MayAct v (fiber_of a)) there acts)

-- ---- nothing happened

module _ {B S : Type 0} (seen : B → Carry S) (port : Shown B) where
  pub refused : (new : Shown B) (a : Carry S) → new ≡ port → Holds (sight_of seen port) a → Spared (sight_of seen port) (sight_of seen new) a a
  refused new a same holds = subst (λ (q : Shown B). Spared (sight_of seen port) (sight_of seen q) a a) (sym same) (spared_same (sight_of seen port) a holds)

-- ---- a call of a body that is out, which makes no fiber

module _ {B S : Type 0} (seen : B → Carry S) (port new : Shown B) (a : Carry S) (holds : Holds (sight_of seen port) a) (f : ℕ) (number : a.number ≡ Some f) where
  -- the fiber has a list of duties
  pub fiber_within : f ≤ length (world (origin_in seen port) port.front).fibers
  fiber_within = subst (λ (n : ℕ). n ≤ length (world (origin_in seen port) port.front).fibers) (fiber_is a f number) (acts_within (world (origin_in seen port) port.front) (fiber_of a) holds.acts)

  -- what the port found is what the body owes
  pub owes_there : owed_of (world (origin_in seen port) port.front) f ≡ a.owes
  owes_there = sym (holds.owes ∙ ap (owed_of (world (origin_in seen port) port.front)) (fiber_is a f number))

  module _ (call : Call) (reply : Reply) (made : new ≡ with_entry port (marked seen port f call reply)) (follows : Follows (origin_in seen port) port.front (marked seen port f call reply)) where
    abbrev w : State
    w = world (origin_in seen port) port.front

    abbrev h : Happened
    h = happening (is_owing a.owes call) (fiber_of a) call reply

    is_h : marked seen port f call reply ≡ h
    is_h = ap (λ (duties : List Duty). happening (is_owing duties call) f call reply) owes_there ∙ ap (λ (n : ℕ). happening (is_owing a.owes call) n call reply) (sym (fiber_is a f number))

    h_made : new ≡ with_entry port h
    h_made = made ∙ ap (with_entry port) is_h

    h_follows : Follows (origin_in seen port) port.front h
    h_follows = subst (Follows (origin_in seen port) port.front) is_h follows

    world_then : world (origin_in seen new) new.front ≡ after w (fiber_of a) call
    world_then = ap (λ (q : Shown B). world (origin_in seen q) q.front) h_made ∙ world-push (origin_in seen port) port.front h

    answered : (b : Carry S) → is_turn call ≡ false → MayAct (after w (fiber_of a) call) (fiber_of a) → Took a b (visible (h ∷ [])) (owed_of (after w (fiber_of a) call) (fiber_of a)) → Answered (sight_of seen port) (sight_of seen new) a b call reply
    answered b within acts took =
        subst (λ (q : Shown B). Lent (sight_of seen port) (sight_of seen q) a b h) (sym h_made) (lent seen port h holds.legal h_follows a b holds refl within acts took)

    left_alone : LeavesDuties call → a.owes ≡ owed_of (after w (fiber_of a) call) (fiber_of a)
    left_alone leaves = holds.owes ∙ sym (owed_left w (fiber_of a) call (fiber_of a) leaves)

    -- the entry has no mark where no duty asks for the call
    pub free : IsUnasked call → is_owing a.owes call ≡ false
    free unasked = ap (λ (duties : List Duty). is_owing duties call) holds.owes ∙ unasked_free (owed_of w (fiber_of a)) call unasked h_follows.may.allowed.duties

    pub unmarked : IsUnasked call → marked seen port f call reply ≡ event (fiber_of a) call reply
    unmarked unasked = is_h ∙ ap (λ (owing : Bool). happening owing (fiber_of a) call reply) (free unasked)

    -- a call that leaves the duties, and that a report shows
    pub lent_answered : (b : Carry S) → IsLent call → Notes a b ((event (fiber_of a) call reply).entry ∷ []) → Answered (sight_of seen port) (sight_of seen new) a b call reply
    lent_answered b is notes =
        answered b (lent_within call is) (acts_own w (fiber_of a) call (lent_acts call is) holds.acts)
        (took_shown a b h (owed_of (after w (fiber_of a) call) (fiber_of a)) (lent_shown call reply is) notes (left_alone (lent_leaves call is)))

    -- a call that no duty asks for, and that a report shows with this reply
    pub called_then : (b : Carry S) (told : Reply) → reply ≡ told → IsUnasked call → LeavesDuties call → is_turn call ≡ false → is_hidden call told ≡ false → MayAct (after w (fiber_of a) call) (fiber_of a)
        → Notes a b ((event (fiber_of a) call reply).entry ∷ []) → Called (sight_of seen port) (sight_of seen new) a b call told
    called_then b told is unasked leaves within shown acts notes =
        let found : Answered (sight_of seen port) (sight_of seen new) a b call reply =
        answered b within acts (took_shown a b h (owed_of (after w (fiber_of a) call) (fiber_of a)) (rw is shown) notes (left_alone leaves)) in
        answered_free (sight_of seen port) (sight_of seen new) a b call told (free unasked) (subst (λ (r : Reply). Answered (sight_of seen port) (sight_of seen new) a b call r) is found)

    -- a call that a duty asks for
    module _ (settles : Settles call) where
      acts_still : MayAct (after w (fiber_of a) call) (fiber_of a)
      acts_still = acts_own w (fiber_of a) call (settles_acts call settles) holds.acts

      pub settled_within : f ≤ length (world (origin_in seen new) new.front).fibers
      settled_within =
          rw world_then (subst (λ (n : ℕ). n ≤ length (after w (fiber_of a) call).fibers) (fiber_is a f number) (acts_within (after w (fiber_of a) call) (fiber_of a) acts_still))

      pub settled_answered : (noted b : Carry S) (duties : List Duty) → Notes a noted ((event (fiber_of a) call reply).entry ∷ []) → b ≡ record noted { owes = duties } → duties ≡ owed_of (world (origin_in seen new) new.front) f
          → Answered (sight_of seen port) (sight_of seen new) a b call reply
      settled_answered noted b duties notes is owed =
          let shown : Took a noted (visible (h ∷ [])) a.owes = took_shown a noted h a.owes (settles_shown call reply settles) notes refl in
          let left : duties ≡ owed_of (after w (fiber_of a) call) (fiber_of a) = owed ∙ (ap (λ (v : State). owed_of v f) world_then ∙ ap (owed_of (after w (fiber_of a) call)) (sym (fiber_is a f number))) in
          answered b (settles_within call settles) acts_still (rw is (record { birth = shown.birth; number = shown.number; noted = shown.noted; owes = left; share = shown.share }))

    -- a call that makes a thing
    module _ (makes : MakesThing call) where
      thing_still : MayAct (after w (fiber_of a) call) (fiber_of a)
      thing_still = acts_own w (fiber_of a) call (thing_acts call makes) holds.acts

      pub thing_called : (n : ℕ) → Some n ≡ made_of reply → Called (sight_of seen port) (sight_of seen new) a a call (answer.Made n)
      thing_called n told =
          let is : reply ≡ answer.Made n = made_is reply n told in
          answered_free (sight_of seen port) (sight_of seen new) a a call (answer.Made n) (free (thing_unasked call makes))
          (subst (λ (r : Reply). Answered (sight_of seen port) (sight_of seen new) a a call r) is
          (answered a (thing_within call makes) thing_still
          (took_hidden a h (owed_of (after w (fiber_of a) call) (fiber_of a)) (rw is (thing_hidden call n makes)) (left_alone (thing_leaves call makes)))))

      pub thing_refused : (b : Carry S) → None ≡ made_of reply → Notes a b ((event (fiber_of a) call reply).entry ∷ []) → RefusesMaking Full (sight_of seen port) (sight_of seen new) a b call
      thing_refused b none notes =
          let is : reply ≡ answer.Full = h_follows.reply ∙ thing_full w (fiber_of a) call makes (none ∙ ap made_of h_follows.reply) in
          called_then b answer.Full is (thing_unasked call makes) (thing_leaves call makes) (thing_within call makes) (full_shown call (thing_within call makes)) thing_still notes

-- no duty asks for what is said
pub said : {B S : Type 0} (seen : B → Carry S) (port new : Shown B) (a b : Carry S) (value : ℕ) (reply : Reply) → CanMake (sight_of seen port) a (Say value) → reply ≡ reply_of (world (origin_in seen port) port.front) (fiber_of a) (Say value)
    → Answered (sight_of seen port) (sight_of seen new) a b (Say value) reply → Called (sight_of seen port) (sight_of seen new) a b (Say value) answer.Plain
said seen port new a b value reply can is found =
    answered_free (sight_of seen port) (sight_of seen new) a b (Say value) answer.Plain (can_free (sight_of seen port) a (Say value) can tt)
    (subst (λ (r : Reply). Answered (sight_of seen port) (sight_of seen new) a b (Say value) r) is found)

-- ---- a fork

module _ {B S : Type 0} (seen : B → Carry S) (port new : Shown B) (f text value : ℕ) (a b : Carry S) (holds : Holds (sight_of seen port) a) (number : a.number ≡ Some f) where
  -- the fork's entry was made, whatever it says
  fork_made : (h : Happened) → new ≡ with_entry port h → Follows (origin_in seen port) port.front h → h.entry.fiber ≡ fiber_of a → h.entry.call ≡ Fork text value
      → is_hidden h.entry.call h.entry.reply ≡ false → Notes a b (h.entry ∷ []) → Lent (sight_of seen port) (sight_of seen new) a b h
  fork_made h made follows mine forks shown notes =
      let w : State = world (origin_in seen port) port.front in
      subst (λ (q : Shown B). Lent (sight_of seen port) (sight_of seen q) a b h) (sym made)
      (lent seen port h holds.legal follows a b holds mine (rw forks refl)
      (rw (mine, forks) (acts_own w (fiber_of a) (Fork text value) tt holds.acts))
      (took_shown a b h (owed_of (after w h.entry.fiber h.entry.call) (fiber_of a)) shown notes
      (rw forks (holds.owes ∙ sym (owed_left w h.entry.fiber (Fork text value) (fiber_of a) tt)))))

  pub fork_lent : (n : ℕ) (child : Carry S) → IsChild (sight_of seen port) child text value → new ≡ with_entry port (forked f n child.birth) → Follows (origin_in seen port) port.front (forked f n child.birth)
      → Notes a b (record { fiber = fiber_of a; call = Fork text value; reply = answer.Made n } ∷ []) → Lent (sight_of seen port) (sight_of seen new) a b (forked (fiber_of a) n child.birth)
  fork_lent n child is_child made follows notes =
      let is : fiber_of a ≡ f = fiber_is a f number in
      let here : forked f n child.birth ≡ forked (fiber_of a) n child.birth = ap (λ (m : ℕ). forked m n child.birth) (sym is) in
      fork_made (forked (fiber_of a) n child.birth) (made ∙ ap (with_entry port) here) (subst (Follows (origin_in seen port) port.front) here follows) refl
      (rw (is_child.same_text, is_child.same_value) refl) refl (rw (is_child.same_text, is_child.same_value) notes)

  pub fork_full : (fault : PortFault) → fault ≡ Full → NoFiber seen fault port new f (Fork text value) → Notes a b (record { fiber = fiber_of a; call = Fork text value; reply = answer.Full } ∷ []) → RefusesMaking Full (sight_of seen port) (sight_of seen new) a b (Fork text value)
  fork_full fault is none notes =
      let full : NoFiber seen Full port new f (Fork text value) = subst (λ (x : PortFault). NoFiber seen x port new f (Fork text value)) is none in
      let here : event f (Fork text value) answer.Full ≡ event (fiber_of a) (Fork text value) answer.Full = ap (λ (m : ℕ). event m (Fork text value) answer.Full) (sym (fiber_is a f number)) in
      fork_made (event (fiber_of a) (Fork text value) answer.Full) (full.0 ∙ ap (with_entry port) here) (subst (Follows (origin_in seen port) port.front) here full.1) refl refl refl notes

pub fork_none : {B S : Type 0} (seen : B → Carry S) (port new : Shown B) (f : ℕ) (call : Call) (fault : PortFault) → fault ≡ Memory → NoFiber seen fault port new f call → new ≡ port
fork_none seen port new f call fault is none = subst (λ (x : PortFault). NoFiber seen x port new f call) is none
