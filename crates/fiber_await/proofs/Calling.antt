-- What one call of a port did, of a fiber that owes nothing.
use Rattle.std.proofs.Common.{◌≡◌, ◌≢◌, ℕ, false, List, [], ◌∷◌, ◌++◌, refl, sym, ap, subst, ◌∙◌}
use Rattle.std.specs.Prelude.{Result, IfOk, IfErr}
use Rattle.pic_machine.specs.declared.entry.Call.{Call}
use Rattle.pic_machine.specs.declared.entry.Reply.{Reply}
use Rattle.pic_machine.specs.declared.entry.Reply.TheVariants as reply
use Rattle.pic_machine.specs.declared.port.PortFault.{PortFault}
use Rattle.pic_machine.specs.declared.port.PortFault.TheVariants.{Full, Again, Memory}
use Rattle.pic_machine.specs.Duty.{BringsNone}
use Rattle.pic_machine.specs.Happened.{Happened}
use Rattle.pic_machine.specs.History.{IsLegal, Origin, event, world}
use Rattle.pic_machine.specs.Lending.{Answered, Called, Refuses, RefusesMaking, Spared}
use Rattle.pic_machine.specs.Log.{is_turn}
use Rattle.pic_machine.specs.Order.{readied_by, stops}
use Rattle.pic_machine.specs.Sight.{Carry, Notes, Sight, fiber_of}
use Rattle.pic_machine.specs.State.{owed_of}
use Rattle.pic_machine.proofs.Freeing.{lent_free}
use Rattle.pic_machine.proofs.Owns.{answered_called}
use Rattle.pic_machine.proofs.Staying.{owed_stays}
use Rattle.pic_machine.proofs.Turns.{grew_made, grew_others, same_fiber}
use Rattle.fiber_await.specs.Doing.{Did, IsFree}
use Rattle.fiber_await.specs.Refusing.{Refused, RefusedMaking}
use Rattle.fiber_await.proofs.Answering.{on_err, on_ok}
use Rattle.fiber_await.proofs.Reserving.{answered_behind, called_behind, refuses_behind, refuses_making_behind}

module _ {S : Type 0} (p q : Sight S) (a b : Carry S) where
  -- what a body owes that a call spared
  pub owes_spared : a.owes ≡ owed_of (world p.origin p.front) (fiber_of a) → Spared p q a b → b.owes ≡ a.owes
  owes_spared owes spared =
      let f = fiber_of a in
      let others = spared.kept.grown.others in
      let later = spared.kept.grown.later in
      let legal : IsLegal p.origin (p.front ++ others) = subst (IsLegal p.origin) later.front (subst (λ (o : Origin). IsLegal o q.front) later.origin spared.kept.grown.legal) in
      spared.holds.owes ∙ (ap (λ (n : ℕ). owed_of (world q.origin q.front) n) (same_fiber a b spared.same.number)
      ∙ (ap (λ (o : Origin). owed_of (world o q.front) f) later.origin ∙ (ap (λ (hs : List Happened). owed_of (world p.origin hs) f) later.front
      ∙ (owed_stays p.origin p.front others f legal spared.not_mine ∙ sym owes))))

-- the turn goes on behind the call, which brings no duty and makes nobody ready
pub record IsQuiet (call : Call) (re : Reply) : Type 0 where
  pub brings : BringsNone call
  pub on : stops call re ≡ false
  pub none : (f : ℕ) → readied_by f call re ≡ []
  pub within : is_turn call ≡ false

module _ {S : Type 0} (p q : Sight S) (a b : Carry S) where
  pub did_called : (call : Call) (re : Reply) → IsQuiet call re → IsFree p a → Called p q a b call re → Did p q a b (event (fiber_of a) call re ∷ [])
  did_called call re quiet free called =
      let f = fiber_of a in
      let h = event f call re in
      record {
        grew = grew_made p q f h called.made refl quiet.within;
        on = (quiet.on, tt);
        none = ap (λ (ns : List ℕ). ns ++ []) (quiet.none f);
        free = record {
          holds = called.holds;
          fiber = subst (λ (n : ℕ). n ≢ 0) (sym (same_fiber a b called.number)) free.fiber;
          owes = lent_free p q a b h called free.holds refl quiet.brings free.owes;
        };
        number = called.number;
        birth = called.birth;
        share = called.share;
      }

  pub did_spared : IsFree p a → Spared p q a b → Did p q a b []
  did_spared free spared = record {
    grew = grew_others p q (fiber_of a) spared.kept.grown spared.not_mine;
    on = tt;
    none = refl;
    free = record {
      holds = spared.holds;
      fiber = subst (λ (n : ℕ). n ≢ 0) (sym (same_fiber a b spared.same.number)) free.fiber;
      owes = owes_spared p q a b free.holds.owes spared ∙ free.owes;
    };
    number = spared.same.number;
    birth = spared.same.birth;
    share = spared.same.share;
  }

  pub did_refused : (fault : PortFault) → IsFree p a → Refuses fault p q a b → Refused fault p q a b
  did_refused fault free refuses = (did_spared free refuses.0, refuses.1)

  pub did_refused_making : (fault : PortFault) (call : Call) → IsQuiet call reply.Full → IsFree p a → RefusesMaking fault p q a b call → RefusedMaking fault p q a b call
  did_refused_making Full call quiet free refuses = (did_called call reply.Full quiet free refuses, refuses.made.calm)
  did_refused_making Again call quiet free refuses = did_refused Again free refuses
  did_refused_making Memory call quiet free refuses = did_refused Memory free refuses

-- the answers of such calls, behind the making of room
module _ {S : Type 0} (p q : Sight S) (a r b : Carry S) (free : IsFree p a) (notes : Notes a r []) where
  pub each_called : {A : Type 0} (call : Call) (re : A → Reply) (result : Result A PortFault) → ((x : A) → IsQuiet call (re x))
      → IfOk result (λ x. Called p q r b call (re x)) → IfOk result (λ x. Did p q a b (event (fiber_of a) call (re x) ∷ []))
  each_called call re result quiet made =
      on_ok (λ x. Called p q r b call (re x)) (λ x. Did p q a b (event (fiber_of a) call (re x) ∷ [])) result
      (λ x called. did_called p q a b call (re x) (quiet x) free (called_behind p q a r b call (re x) notes called)) made

  pub each_answered : {A : Type 0} (call : Call) (re : A → Reply) (result : Result A PortFault) → ((x : A) → IsQuiet call (re x))
      → IfOk result (λ x. Answered p q r b call (re x)) → IfOk result (λ x. Did p q a b (event (fiber_of a) call (re x) ∷ []))
  each_answered call re result quiet made =
      on_ok (λ x. Answered p q r b call (re x)) (λ x. Did p q a b (event (fiber_of a) call (re x) ∷ [])) result
      (λ x answered. did_called p q a b call (re x) (quiet x) free (answered_called p q a b call (re x) free.owes (answered_behind p q a r b call (re x) notes answered))) made

  pub each_refused : {A : Type 0} (result : Result A PortFault) → IfErr result (λ fault. Refuses fault p q r b) → IfErr result (λ fault. Refused fault p q a b)
  each_refused result none =
      on_err (λ fault. Refuses fault p q r b) (λ fault. Refused fault p q a b) result
      (λ fault refuses. did_refused p q a b fault free (refuses_behind p q a r b fault notes refuses)) none

  pub each_refused_making : {A : Type 0} (call : Call) (result : Result A PortFault) → IsQuiet call reply.Full → IfErr result (λ fault. RefusesMaking fault p q r b call) → IfErr result (λ fault. RefusedMaking fault p q a b call)
  each_refused_making call result quiet none =
      on_err (λ fault. RefusesMaking fault p q r b call) (λ fault. RefusedMaking fault p q a b call) result
      (λ fault refuses. did_refused_making p q a b fault call quiet free (refuses_making_behind p q a r b fault call notes refuses)) none
