-- What the fiber of a body that is out may call in the tests.
use Rattle.std.proofs.Common.{◌≡◌, ℕ, ◌<◌, ◌≤◌, inl, nat_lt, Bool, true, false, Option, Some, None, List, [], ◌∷◌, ◌++◌, length, slice_get, refl, sym, ap, subst, ◌∙◌, append_assoc, arith}
use Rattle.std.specs.List.{AllByRecursion}
use Rattle.pic_base.specs.declared.action.Action.TheVariants.{Resume}
use Rattle.pic_base.specs.declared.duty.Duty.{Duty}
use Rattle.pic_base.specs.declared.duty.Duty.TheVariants.{Signal}
use Rattle.pic_base.specs.declared.outcome.Outcome.{Outcome}
use Rattle.pic_machine.specs.declared.entry.Call.{Call}
use Rattle.pic_machine.specs.declared.entry.Call.TheVariants as call
use Rattle.pic_machine.specs.declared.entry.Call.TheVariants.{Arm, Attach, Complete, End, Fork, Look, NewPlace, NewTrigger}
use Rattle.pic_machine.specs.declared.entry.Reply.TheVariants.{Full, Made}
use Rattle.pic_machine.specs.Duty.{DutiesAllow}
use Rattle.pic_machine.specs.Happened.{Happened}
use Rattle.pic_machine.specs.State.{State}
use Rattle.pic_machine.specs.Step.{ArmsOwn, NamesStand, after, made_below}
use Rattle.pic_machine.specs.History.{Follows, IsLegal, NumbersFit, Origin, Takes, event, world, world_from}
use Rattle.pic_machine.specs.Lending.{Called}
use Rattle.pic_machine.specs.Log.{is_hidden, log, visible}
use Rattle.pic_machine.specs.Sight.{CanMake, Carry, Notes, Sight, fiber_of}
use Rattle.port_plain.specs.Handed.{IsOut}
use Rattle.pic_machine.proofs.Freeing.{lent_free}
use Rattle.pic_machine.proofs.Histories.{visible-push, world-push, world_from-append}
use Rattle.pic_machine.proofs.Lists.{each-append}
use Rattle.pic_machine.proofs.Steps.{length-comps, places_stay, triggers_stay}
use Rattle.port_plain.proofs.Handing.{fiber_still, lent_out, roomy_out}

-- ---- what stands from the start

triggers_from : (w : State) (hs : List Happened) → length w.triggers ≤ length (world_from w hs).triggers
triggers_from w [] = omega arith
triggers_from w (h ∷ hs) = omega (arith, triggers_stay w h.entry.call, triggers_from (after w h.entry.fiber h.entry.call) hs)

comps_from : (w : State) (hs : List Happened) → length w.comps ≤ length (world_from w hs).comps
comps_from w [] = omega arith
comps_from w (h ∷ hs) = omega (arith, length-comps w h.entry.call, comps_from (after w h.entry.fiber h.entry.call) hs)

places_from : (w : State) (hs : List Happened) → w.places ≤ (world_from w hs).places
places_from w [] = omega arith
places_from w (h ∷ hs) = omega (arith, places_stay w h.entry.call, places_from (after w h.entry.fiber h.entry.call) hs)

module _ {S : Type 0} {p : Sight S} {a : Carry S} (out : IsOut p a) where
  trigger_stands : (t : ℕ) → t < 2 → t < length (world p.origin p.front).triggers
  trigger_stands t within = omega (arith, within, out.begun.triggers, triggers_from p.origin.world p.front)

  pub comp_stands : 0 < length (world p.origin p.front).comps
  comp_stands = omega (arith, out.begun.comps, comps_from p.origin.world p.front)

-- ---- a fiber that owes nothing

module _ {S : Type 0} {p : Sight S} {a : Carry S} (out : IsOut p a) (free : a.owes ≡ []) (room : 0 < a.room) where
  can_call : (call : Call) → NamesStand (world p.origin p.front) call → ArmsOwn (fiber_of a) call → NumbersFit p.origin p.front (fiber_of a) call → CanMake p a call
  can_call call names own numbers = record {
    holds = out.holds;
    may = record {
      allowed = record {
        caller = out.holds.acts;
        clock = λ clock. absurd (out.fiber clock);
        duties = subst (λ (duties : List Duty). DutiesAllow duties call) (sym (sym out.holds.owes ∙ free)) tt;
        names = names;
        own = own;
      };
      numbers = numbers;
    };
    room = room;
  }

  pub can_make_trigger : CanMake p a NewTrigger
  can_make_trigger = can_call NewTrigger tt tt tt

  pub can_make_place : CanMake p a NewPlace
  can_make_place = can_call NewPlace tt tt tt

  pub can_look : (t : ℕ) → t < 2 → CanMake p a (Look t)
  can_look t within = can_call (Look t) (trigger_stands out t within) tt tt

  pub can_signal : (t : ℕ) → t < 2 → CanMake p a (call.Signal t)
  can_signal t within = can_call (call.Signal t) (trigger_stands out t within) tt tt

  pub can_complete : (o : Outcome) → CanMake p a (Complete 0 o)
  can_complete o = can_call (Complete 0 o) (comp_stands out) tt tt

  pub can_fork : (text value : ℕ) → CanMake p a (Fork text value)
  can_fork text value = can_call (Fork text value) tt tt tt

  pub can_park : (t : ℕ) → t < 2 → CanMake p a (Arm t (Resume (fiber_of a)))
  can_park t within = can_call (Arm t (Resume (fiber_of a))) (trigger_stands out t within) refl (inl (omega (arith, within, out.begun.triggers)))

  pub can_end : (o : Outcome) → CanMake p a (End o)
  can_end o = can_call (End o) tt tt tt

-- the body is as the log says, with a visible entry that was noted
pub shown_fits : {S : Type 0} {p : Sight S} {a b : Carry S} (h : Happened) → is_hidden h.entry.call h.entry.reply ≡ false → IsOut p a → Notes a b (h.entry ∷ []) → b.noted ≡ visible (log p.front (fiber_of a) ++ h ∷ [])
shown_fits {p = p} {a} h shown out notes =
    notes.noted ∙ (ap (λ es. es ++ h.entry ∷ []) out.holds.noted ∙ sym (visible-push (log p.front (fiber_of a)) h shown))

-- ---- what is owed first

pub nothing_first : (duties : List Duty) → slice_get duties 0 ≡ None → duties ≡ []
nothing_first [] none = refl
nothing_first (duty ∷ duties) none = absurd cc

first_allows : (duties : List Duty) (t : ℕ) → slice_get duties 0 ≡ Some (Signal t) → DutiesAllow duties (call.Signal t)
first_allows [] t first = absurd cc
first_allows (duty ∷ duties) t first =
    let e : Some duty ≡ Some (Signal t) = first in
    let is : duty ≡ Signal t = cc in
    subst (λ (d : Duty). DutiesAllow (d ∷ duties) (call.Signal t)) (sym is) refl

-- whoever owes a signal first may make it
pub can_pay : {S : Type 0} {p : Sight S} {a : Carry S} → IsOut p a → 0 < a.room → (t : ℕ) → slice_get a.owes 0 ≡ Some (Signal t) → t < 2 → CanMake p a (call.Signal t)
can_pay {a = a} out room t first within = record {
  holds = out.holds;
  may = record {
    allowed = record {
      caller = out.holds.acts;
      clock = λ clock. absurd (out.fiber clock);
      duties = subst (λ (duties : List Duty). DutiesAllow duties (call.Signal t)) out.holds.owes (first_allows a.owes t first);
      names = trigger_stands out t within;
      own = tt;
    };
    numbers = tt;
  };
  room = room;
}

-- ---- a place that was just made

below_places : (origin : Origin) (whole front back : List Happened) (h : Happened) (c t p : ℕ) → whole ≡ front ++ h ∷ back → Follows origin front h → h.entry.call ≡ Attach p c t → p < (world origin whole).places
below_places origin whole front back h c t p is follows call_is =
    let names : NamesStand (world origin front) (Attach p c t) = subst (NamesStand (world origin front)) call_is follows.may.allowed.names in
    let there : (world origin whole).places ≡ (world_from (world origin front) (h ∷ back)).places =
    ap (λ (hs : List Happened). (world origin hs).places) is ∙ ap (λ (w : State). w.places) (world_from-append origin.world front (h ∷ back)) in
    omega (arith, names.0, there, places_from (world origin front) (h ∷ back))

untaken_from : (origin : Origin) (whole front back : List Happened) (p : ℕ) → IsLegal origin whole → whole ≡ front ++ back → (world origin whole).places ≤ p → AllByRecursion (λ h. Takes p h → ⊥) back
untaken_from origin whole front [] p legal is least = tt
untaken_from origin whole front (h ∷ back) p legal is least = (
  λ takes. absurd (omega (arith, least, below_places origin whole front back h takes.0 takes.1 p is (legal.each front back h is) takes.2.0)),
  untaken_from origin whole (front ++ h ∷ []) back p legal (is ∙ sym (append_assoc front (h ∷ []) back)) least,
)

record IsNewest (w : State) (f p : ℕ) : Type 0 where
  number : p ≡ w.places
  behind : p < (after w f NewPlace).places

newest_at : (w : State) (f p : ℕ) (room : Bool) → nat_lt w.places w.limits.places ≡ room → Made p ≡ made_below w.places w.limits.places → IsNewest w f p
newest_at w f p true room is =
    let made : Made p ≡ Made w.places = is ∙ (rw room refl) in
    let number : p ≡ w.places = cc in
    record { number = number; behind = rw (room, number) (omega arith) }
newest_at w f p false room is = absurd (let full : Made p ≡ Full = is ∙ (rw room refl) in cc)

-- the fiber may attach a trigger at it
record IsFreePlace {S : Type 0} (q : Sight S) (f p c t : ℕ) : Type 0 where
  stands : p < (world q.origin q.front).places
  numbers : NumbersFit q.origin q.front f (Attach p c t)

free_place : (origin : Origin) (hs whole : List Happened) (f p c t : ℕ) → IsLegal origin whole → whole ≡ hs ++ event f NewPlace (Made p) ∷ []
    → (p < (world origin whole).places) × NumbersFit origin whole f (Attach p c t)
free_place origin hs whole f p c t legal is =
    let h : Happened = event f NewPlace (Made p) in
    let w : State = world origin hs in
    let follows : Follows origin hs h = legal.each hs [] h is in
    let newest : IsNewest w f p = newest_at w f p (nat_lt w.places w.limits.places) refl follows.reply in
    let before : IsLegal origin hs = record { each = λ front back x split. legal.each front (back ++ h ∷ []) x (is ∙ (ap (λ (zs : List Happened). zs ++ h ∷ []) split ∙ append_assoc front (x ∷ back) (h ∷ []))) } in
    let apart : AllByRecursion (λ x. Takes p x → ⊥) whole =
    subst (AllByRecursion (λ x. Takes p x → ⊥)) (sym is)
    (each-append (λ x. Takes p x → ⊥) hs (h ∷ []) (untaken_from origin hs [] hs p before refl (omega (arith, newest.number))) (λ takes. (let e : NewPlace ≡ Attach p takes.0 takes.1 = takes.2.0 in cc), tt)) in
    (rw (is, world-push origin hs h) newest.behind, (record { front = hs; back = []; is = is }, apart))

place_free : {S : Type 0} (p q : Sight S) (a b : Carry S) (n c t : ℕ) → Called p q a b NewPlace (Made n) → IsFreePlace q (fiber_of b) n c t
place_free p q a b n c t called =
    let others : List Happened = called.made.others in
    let is : q.front ≡ (p.front ++ others) ++ event (fiber_of a) NewPlace (Made n) ∷ [] = called.made.later.front ∙ sym (append_assoc p.front others (event (fiber_of a) NewPlace (Made n) ∷ [])) in
    let same : fiber_of b ≡ fiber_of a = ap (λ (m : Option ℕ). fiber_of (record a { number = m })) called.number in
    let free = free_place q.origin (p.front ++ others) q.front (fiber_of a) n c t called.made.legal is in
    record { stands = free.0; numbers = rw same free.1 }

-- so a trigger may be attached at a place that the fiber just made
pub can_attach : {S : Type 0} {p q : Sight S} {a b d : Carry S} (n t : ℕ) → IsOut p a → a.owes ≡ [] → Called p q a b NewPlace (Made n) → Notes b d [] → 0 < d.room → t < 2 → CanMake q d (Attach n 0 t)
can_attach {p = p} {q} {a} {b} {d} n t out free called notes room within =
    let there : IsOut q d = roomy_out (lent_out out called) notes in
    let place : IsFreePlace q (fiber_of b) n 0 t = place_free p q a b n 0 t called in
    let owes : d.owes ≡ [] = notes.owes ∙ lent_free p q a b (event (fiber_of a) NewPlace (Made n)) called out.holds refl tt free in
    can_call there owes room (Attach n 0 t) (place.stands, comp_stands there, trigger_stands there t within) tt
    (subst (λ (f : ℕ). NumbersFit q.origin q.front f (Attach n 0 t)) (sym (fiber_still b d notes.number)) place.numbers)
