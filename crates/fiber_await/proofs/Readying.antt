-- Making ready, by one call at most each.
use Rattle.std.proofs.Common.{◌≡◌, ◌≢◌, ℕ, ◌⊎◌, inl, inr, true, false, Some, None, [], ◌∷◌, refl, sym, subst}
use Rattle.pic_machine.specs.declared.entry.Call.TheVariants.{NewTrigger, NewPlace}
use Rattle.pic_machine.specs.declared.entry.Reply.TheVariants as reply
use Rattle.pic_machine.specs.declared.waits.Parts.{Parts}
use Rattle.pic_machine.specs.declared.waits.Standing.{Standing}
use Rattle.pic_machine.specs.History.{event}
use Rattle.pic_machine.specs.Sight.{Carry, Sight, fiber_of}
use Rattle.pic_machine.specs.Waits.{Making, full, made, making, making_at, place, trigger}
use Rattle.fiber_await.specs.Doing.{Did, Ran}
use Rattle.fiber_await.specs.Phases.{trigger_of}
use Rattle.fiber_await.proofs.Running.{ran_none, ran_one}

module _ {S : Type 0} (p q : Sight S) (a b : Carry S) (s : Standing) (parts : Parts) where
  from : (x y z : Making) → x ≡ y → Ran (making s) p q a b y z → Ran (making s) p q a b x z
  from x y z same ran = subst (λ (v : Making). Ran (making s) p q a b v z) (sym same) ran

  -- nothing was to be made, or the call was refused
  pub making_still : Did p q a b [] → Ran (making s) p q a b (making_at parts.at parts) (making_at parts.at parts)
  making_still did = ran_none (making s) p q a b (making_at parts.at parts) did

  -- the trigger
  pub permitted_trigger : (t : ℕ) → parts.at ≡ 0 → s.permitted ≡ true → Did p q a b (event (fiber_of a) NewTrigger (reply.Made t) ∷ []) → Ran (making s) p q a b (making_at parts.at parts) (place t)
  permitted_trigger t none on did = from (making_at parts.at parts) trigger (place t) (rw none refl) (ran_one (making s) p q a b trigger (place t) NewTrigger (reply.Made t) refl (rw on refl) did)

  pub forbidden_trigger : (t : ℕ) → parts.at ≡ 0 → s.permitted ≡ false → Did p q a b (event (fiber_of a) NewTrigger (reply.Made t) ∷ []) → Ran (making s) p q a b (making_at parts.at parts) (made t None)
  forbidden_trigger t none off did = from (making_at parts.at parts) trigger (made t None) (rw none refl) (ran_one (making s) p q a b trigger (made t None) NewTrigger (reply.Made t) refl (rw off refl) did)

  pub full_trigger : parts.at ≡ 0 → Did p q a b (event (fiber_of a) NewTrigger reply.Full ∷ []) → Ran (making s) p q a b (making_at parts.at parts) full
  full_trigger none did = from (making_at parts.at parts) trigger full (rw none refl) (ran_one (making s) p q a b trigger full NewTrigger reply.Full refl refl did)

  -- the place
  pub one_place : (n : ℕ) → parts.at ≡ 1 → Did p q a b (event (fiber_of a) NewPlace (reply.Made n) ∷ []) → Ran (making s) p q a b (making_at parts.at parts) (made (trigger_of parts) (Some n))
  one_place n one did =
      from (making_at parts.at parts) (place (trigger_of parts)) (made (trigger_of parts) (Some n)) (rw one refl)
      (ran_one (making s) p q a b (place (trigger_of parts)) (made (trigger_of parts) (Some n)) NewPlace (reply.Made n) refl refl did)

  pub full_place : parts.at ≡ 1 → Did p q a b (event (fiber_of a) NewPlace reply.Full ∷ []) → Ran (making s) p q a b (making_at parts.at parts) full
  full_place one did =
      from (making_at parts.at parts) (place (trigger_of parts)) full (rw one refl)
      (ran_one (making s) p q a b (place (trigger_of parts)) full NewPlace reply.Full refl refl did)

pub not_second : (n : ℕ) → (n ≡ 1) ⊎ (n ≡ 2) → n ≢ 2 → n ≡ 1
not_second n (inl one) apart = one
not_second n (inr two) apart = absurd (apart two)
