-- How the tests' bodies, which yield so many times, fit the logs of their fibers.
use Rattle.std.proofs.Common.{◌≡◌, ◌≢◌, ℕ, ◌+◌, ◌≤◌, ◌<◌, inl, Some, Option, List, [], ◌∷◌, ◌++◌, length, slice_get, true, false, refl, sym, ap, subst, ◌∙◌, append_assoc, append-nil, arith}
use Rattle.std.specs.List.{AllByRecursion}
use Rattle.std.specs.Option.{is_some}
use Rattle.pic_base.specs.declared.duty.Duty.{Duty}
use Rattle.pic_base.specs.Steps.{most_steps}
use Rattle.pic_base.specs.declared.action.Action.TheVariants.{Resume}
use Rattle.pic_machine.specs.declared.entry.Call.TheVariants as call
use Rattle.pic_machine.specs.declared.entry.Call.TheVariants.{Arm, Fork}
use Rattle.pic_machine.specs.Happened.{Happened}
use Rattle.pic_machine.specs.declared.entry.Reply.TheVariants as reply
use Rattle.pic_machine.specs.declared.entry.SignalReply.{SignalReply}
use Rattle.pic_machine.specs.declared.port.ParkRefusal.{ParkRefusal}
use Rattle.pic_machine.specs.declared.port.ParkRefusal.TheVariants as park
use Rattle.pic_machine.specs.declared.port.PortFault.{PortFault}
use Rattle.pic_machine.specs.declared.port.PortFault.TheVariants.{Full, Again, Memory}
use Rattle.pic_machine.specs.History.{IsLegal, Origin, world, world_from}
use Rattle.pic_machine.specs.Log.{log, visible}
use Rattle.pic_machine.specs.Order.{GoesOn, readied_by, yields}
use Rattle.pic_machine.specs.Sight.{CanMake, Carry, Holds, Notes, Sight, fiber_of}
use Rattle.pic_machine.specs.State.{State, owed_of}
use Rattle.pic_machine.specs.Step.{after}
use Rattle.pic_machine.specs.Lending.{Answered, NotParked, RefusesMaking, Spared}
use Rattle.pic_machine.specs.Turning.{Adds, Went}
use Rattle.pic_machine.proofs.Owns.{answered_called}
use Rattle.pic_machine.proofs.Polls.{went_same}
use Rattle.pic_machine.proofs.Staying.{owed_stays}
use Rattle.pic_machine.proofs.Steps.{triggers_stay}
use Rattle.pic_machine.proofs.Turnings.{yields-goes}
use Rattle.pic_machine.proofs.Turns.{Adds-nil, Went-trans, same_fiber, went_lent, went_spared}

-- what is asked of a body with so many turns left
abbrev pub IsFit : {S : Type 0} → Carry S → ℕ → List Happened → Type 0
IsFit body left log = (body.noted ≡ visible log) × (body.number ≢ Some 0 → yields log + left ≤ most_steps)

-- no part of a turn but its end is a yield
yields-on : (hs going : List Happened) → AllByRecursion GoesOn going → yields (hs ++ going) ≡ yields hs
yields-on hs [] on = ap (λ (zs : List Happened). yields zs) (append-nil hs)
yields-on hs (h ∷ going) on = ap (λ (zs : List Happened). yields zs) (sym (append_assoc hs (h ∷ []) going)) ∙ (yields-on (hs ++ h ∷ []) going on.1 ∙ yields-goes hs h on.0)

module _ {S : Type 0} {p q : Sight S} {a b : Carry S} {before now : Option (List ℕ)} {left less : ℕ} where
  -- so the body fits still
  pub fits_went : Went p q a b before now → less ≡ left → IsFit a left (log p.front (fiber_of a)) → IsFit b less (log q.front (fiber_of a))
  fits_went went same fits =
      let f = fiber_of a in
      let over : yields (log q.front f) ≡ yields (log p.front f) = ap (λ (hs : List Happened). yields hs) went.grew.log ∙ yields-on (log p.front f) went.going went.on in (
        subst (λ (n : ℕ). b.noted ≡ visible (log q.front n)) (same_fiber a b went.number) went.holds.noted,
        λ other. rw (over, same) (fits.1 (λ zero_is. other (went.number ∙ zero_is))),
      )

module _ {S : Type 0} {p q : Sight S} {a b : Carry S} {before now : Option (List ℕ)} (went : Went p q a b before now) where
  -- it is that fiber's still
  pub still_fiber : fiber_of a ≢ 0 → fiber_of b ≢ 0
  still_fiber fiber = subst (λ (n : ℕ). n ≢ 0) (sym (same_fiber a b went.number)) fiber

  pub still_fits : (left : ℕ) → IsFit b left (log q.front (fiber_of a)) → IsFit b left (log q.front (fiber_of b))
  still_fits left fits = subst (λ (n : ℕ). IsFit b left (log q.front n)) (sym (same_fiber a b went.number)) fits

-- ---- calls of a body

-- it owes nothing where there is no first duty
pub none_first : (duties : List Duty) (first : Option Duty) → first ≡ slice_get duties 0 → is_some first ≡ false → duties ≡ []
none_first [] first is none = refl
none_first (duty ∷ duties) first is none = let some : true ≡ false = sym (ap is_some is) ∙ none in absurd cc

module _ {S : Type 0} {p q : Sight S} {a b : Carry S} where
  -- what a body owes that a call spared
  pub owes_spared : Holds p a → Spared p q a b → b.owes ≡ a.owes
  owes_spared holds spared =
      let f = fiber_of a in
      let others = spared.kept.grown.others in
      let later = spared.kept.grown.later in
      let legal : IsLegal p.origin (p.front ++ others) = subst (IsLegal p.origin) later.front (subst (λ (o : Origin). IsLegal o q.front) later.origin spared.kept.grown.legal) in
      spared.holds.owes
      ∙ (ap (λ (n : ℕ). owed_of (world q.origin q.front) n) (same_fiber a b spared.same.number)
      ∙ (ap (λ (o : Origin). owed_of (world o q.front) f) later.origin
      ∙ (ap (λ (hs : List Happened). owed_of (world p.origin hs) f) later.front
      ∙ (owed_stays p.origin p.front others f legal spared.not_mine ∙ sym holds.owes))))

  -- a call spared it, and then it got room
  pub went_ready : {c : Carry S} → Spared p q a b → Notes b c [] → (line : Option (List ℕ)) → Went p q a c line line
  went_ready {c = c} spared notes line =
      Went-trans p q q a b c line line line (went_spared p q a b line spared)
      (went_same q b c line spared.holds (record { birth = notes.birth; number = notes.number; noted = notes.noted ∙ append-nil b.noted; share = notes.share }) notes.owes)

  -- it signalled the trigger, and the line was told whom that resumed
  pub went_signalled : {before now : Option (List ℕ)} (how : SignalReply) → a.owes ≡ [] → Answered p q a b (call.Signal 0) (reply.Signalled how) → ((f : ℕ) → Adds before now (readied_by f (call.Signal 0) (reply.Signalled how))) → Went p q a b before now
  went_signalled {before} {now} how owes answered line =
      went_lent p q a b before now _ (answered_called p q a b (call.Signal 0) (reply.Signalled how) owes answered) refl refl refl
      (subst (Adds before now) (sym (append-nil (readied_by (fiber_of a) (call.Signal 0) (reply.Signalled how)))) (line (fiber_of a)))

-- the fork was refused
pub went_refused : {S : Type 0} {p q : Sight S} {a b : Carry S} (line : Option (List ℕ)) (fault : PortFault) → RefusesMaking fault p q a b (Fork 4 0) → Went p q a b line line
went_refused {p = p} {q} {a} {b} line Full full = went_lent p q a b line line _ full refl refl refl (Adds-nil line)
went_refused {p = p} {q} {a} {b} line Again refused = went_spared p q a b line refused.0
went_refused {p = p} {q} {a} {b} line Memory refused = went_spared p q a b line refused.0

-- it wasn't suspended
pub went_unparked : {S : Type 0} {p q : Sight S} {a b : Carry S} (line : Option (List ℕ)) (why : ParkRefusal) → NotParked why p q a b (Arm 0 (Resume (fiber_of a))) → Went p q a b line line
went_unparked {p = p} {q} {a} {b} line park.Signalled called = went_lent p q a b line line _ called refl refl refl (Adds-nil line)
went_unparked {p = p} {q} {a} {b} line park.Taken called = went_lent p q a b line line _ called refl refl refl (Adds-nil line)
went_unparked {p = p} {q} {a} {b} line park.Again refused = went_spared p q a b line refused.0
went_unparked {p = p} {q} {a} {b} line park.Memory refused = went_spared p q a b line refused.0

-- ---- the trigger

-- no trigger goes away
pub triggers_stand : (origin : Origin) (hs : List Happened) → 0 < length origin.world.triggers → 0 < length (world origin hs).triggers
triggers_stand origin hs some = from origin.world hs some where
  from : (w : State) (hs : List Happened) → 0 < length w.triggers → 0 < length (world_from w hs).triggers
  from w [] some = some
  from w (h ∷ hs) some = from (after w h.entry.fiber h.entry.call) hs (let more = triggers_stay w h.entry.call in omega (arith, some, more))

module _ {S : Type 0} {p : Sight S} {a : Carry S} (holds : Holds p a) (fiber : fiber_of a ≢ 0) (owes : a.owes ≡ []) (room : 0 < a.room) (some : 0 < length p.origin.world.triggers) where
  free : owed_of (world p.origin p.front) (fiber_of a) ≡ []
  free = sym holds.owes ∙ owes

  -- it may signal trigger 0, or wait for it
  pub can_signal : CanMake p a (call.Signal 0)
  can_signal = record {
    holds = holds;
    may = record {
      allowed = record { caller = holds.acts; clock = λ clock. absurd (fiber clock); duties = rw free tt; names = triggers_stand p.origin p.front some; own = tt };
      numbers = tt;
    };
    room = room;
  }

  pub can_wait : CanMake p a (Arm 0 (Resume (fiber_of a)))
  can_wait = record {
    holds = holds;
    may = record {
      allowed = record { caller = holds.acts; clock = λ clock. absurd (fiber clock); duties = rw free tt; names = triggers_stand p.origin p.front some; own = refl };
      numbers = inl some;
    };
    room = room;
  }
