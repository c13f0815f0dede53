-- How a body that is out stays so as tests hand it about, and how bodies come home.
use Rattle.std.proofs.Common.{◌≡◌, ◌≢◌, ℕ, ◌≤◌, Option, None, Result, Ok, Err, IfOk, IfErr, List, [], ◌++◌, sym, ap, subst, ◌∙◌, append-nil, arith}
use Rattle.pic_machine.specs.declared.entry.Call.{Call}
use Rattle.pic_machine.specs.declared.port.ParkRefusal.{ParkRefusal}
use Rattle.pic_machine.specs.declared.port.ParkRefusal.TheVariants as park
use Rattle.pic_machine.specs.declared.port.PortFault.{PortFault}
use Rattle.pic_machine.specs.declared.port.PortFault.TheVariants.{Full, Again, Memory}
use Rattle.pic_machine.specs.Happened.{Happened}
use Rattle.pic_machine.specs.State.{owed_of}
use Rattle.pic_machine.specs.History.{IsLegal, Origin, world}
use Rattle.pic_machine.specs.Lending.{Began, Kept, Laid, Lent, Made, NotParked, Refuses, RefusesMaking, Spared}
use Rattle.pic_machine.specs.Sight.{Carry, Holds, Notes, Sight, fiber_of}
use Rattle.port_plain.specs.Handed.{Begins, IsIn, IsOut}
use Rattle.pic_machine.proofs.Staying.{owed_stays}

begins_still : {S : Type 0} (p q : Sight S) → q.origin ≡ p.origin → Begins p.origin.world → Begins q.origin.world
begins_still p q same begun = subst (λ (o : Origin). Begins o.world) (sym same) begun

-- the number is the fiber's still
pub fiber_still : {S : Type 0} (a b : Carry S) → b.number ≡ a.number → fiber_of b ≡ fiber_of a
fiber_still a b number = ap (λ (n : Option ℕ). fiber_of (record a { number = n })) number

still_other : {S : Type 0} (a b : Carry S) → b.number ≡ a.number → fiber_of a ≢ 0 → fiber_of b ≢ 0
still_other a b number other = subst (λ (f : ℕ). f ≢ 0) (sym (fiber_still a b number)) other

-- ---- a body that stays out

module _ {S : Type 0} {p q : Sight S} {a b : Carry S} where
  pub lent_out : {h : Happened} → IsOut p a → Lent p q a b h → IsOut q b
  lent_out out lent = record { holds = lent.holds; fiber = still_other a b lent.number out.fiber; begun = begins_still p q lent.made.later.origin out.begun }

  pub spared_out : IsOut p a → Spared p q a b → IsOut q b
  spared_out out spared = record { holds = spared.holds; fiber = still_other a b spared.same.number out.fiber; begun = begins_still p q spared.kept.grown.later.origin out.begun }

  -- and then owes what it owed
  pub spared_owes : IsOut p a → Spared p q a b → b.owes ≡ a.owes
  spared_owes out spared =
      let f : ℕ = fiber_of a in
      let others : List Happened = spared.kept.grown.others in
      let front : q.front ≡ p.front ++ others = spared.kept.grown.later.front in
      let legal : IsLegal p.origin (p.front ++ others) = subst (IsLegal p.origin) front (subst (λ (o : Origin). IsLegal o q.front) spared.kept.grown.later.origin spared.kept.grown.legal) in
      spared.holds.owes ∙ (ap (owed_of (world q.origin q.front)) (fiber_still a b spared.same.number) ∙ (ap (λ (o : Origin). owed_of (world o q.front) f) spared.kept.grown.later.origin
      ∙ (ap (λ (hs : List Happened). owed_of (world p.origin hs) f) front ∙ (owed_stays p.origin p.front others f legal spared.not_mine ∙ sym out.holds.owes))))

  -- nothing could be made
  refused_out : (fault : PortFault) (call : Call) → IsOut p a → RefusesMaking fault p q a b call → IsOut q b
  refused_out Full call out called = lent_out out called
  refused_out Again call out refused = spared_out out refused.0
  refused_out Memory call out refused = spared_out out refused.0

  -- whatever came of a call
  pub lent_or_spared : {A : Type 0} (result : Result A PortFault) (h : A → Happened) → IsOut p a → IfOk result (λ x. Lent p q a b (h x)) → IfErr result (λ fault. Refuses fault p q a b) → IsOut q b
  lent_or_spared (Ok x) h out lent none = lent_out out lent
  lent_or_spared (Err fault) h out none refused = spared_out out refused.0

  -- the same of a call that makes something
  pub lent_or_refused : {A E : Type 0} (result : Result A E) (h : A → Happened) (fault : E → PortFault) (call : Call) → IsOut p a → IfOk result (λ x. Lent p q a b (h x)) → IfErr result (λ e. RefusesMaking (fault e) p q a b call) → IsOut q b
  lent_or_refused (Ok x) h fault call out lent none = lent_out out lent
  lent_or_refused (Err e) h fault call out none refused = refused_out (fault e) call out refused

  -- it wasn't suspended
  pub unparked_out : (why : ParkRefusal) (call : Call) → IsOut p a → NotParked why p q a b call → IsOut q b
  unparked_out park.Signalled call out called = lent_out out called
  unparked_out park.Taken call out called = lent_out out called
  unparked_out park.Again call out refused = spared_out out refused.0
  unparked_out park.Memory call out refused = spared_out out refused.0

module _ {S : Type 0} {p : Sight S} {a b : Carry S} where
  -- it got room
  pub roomy_out : IsOut p a → Notes a b [] → IsOut p b
  roomy_out out notes =
      let same : fiber_of b ≡ fiber_of a = fiber_still a b notes.number in
      record {
        holds = record {
          legal = out.holds.legal;
          out = rw same out.holds.out;
          number = rw same (notes.number ∙ out.holds.number);
          noted = rw same (notes.noted ∙ (append-nil a.noted ∙ out.holds.noted));
          owes = rw same (notes.owes ∙ out.holds.owes);
          acts = rw same out.holds.acts;
          birth = rw (same, notes.birth) out.holds.birth;
          share = rw (same, notes.share) out.holds.share;
        };
        fiber = still_other a b notes.number out.fiber;
        begun = out.begun;
      }

-- ---- bodies that come home, and go out

module _ {S : Type 0} {p q : Sight S} {a : Carry S} where
  pub home_in : {h : Happened} → IsOut p a → Made p q h → q.out ≡ None → IsIn q
  home_in out made none = record { out = none; begun = begins_still p q made.later.origin out.begun }

  pub laid_in : {f : ℕ} → IsOut p a → Laid p q f → q.out ≡ None → IsIn q
  laid_in out laid none = record { out = none; begun = begins_still p q laid.grown.later.origin out.begun }

  pub began_out : {h : Happened} {f : ℕ} → 1 ≤ f → IsIn p → Began p q h → Holds q a → fiber_of a ≡ f → IsOut q a
  began_out least at_home began holds is = record { holds = holds; fiber = λ zero_is. absurd (omega (arith, least, is, zero_is)); begun = begins_still p q began.later.origin at_home.begun }

module _ {S : Type 0} {p q : Sight S} where
  pub kept_in : IsIn p → Kept p q → IsIn q
  kept_in at_home kept = record { out = kept.out ∙ at_home.out; begun = begins_still p q kept.grown.later.origin at_home.begun }
