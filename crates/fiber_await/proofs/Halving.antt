-- The two halves of a wait, by one call at most each.
use Rattle.std.proofs.Common.{◌≡◌, ◌≢◌, ℕ, ◌⊎◌, inl, inr, true, false, Option, Some, None, [], ◌∷◌, refl, sym, subst}
use Rattle.std.specs.Prelude.{Ok}
use Rattle.pic_base.specs.declared.outcome.Outcome.{Outcome}
use Rattle.pic_base.specs.declared.outcome.Outcome.TheVariants.{Returned, Cancelled}
use Rattle.pic_machine.specs.declared.entry.AttachReply.{AttachReply}
use Rattle.pic_machine.specs.declared.entry.AttachReply.TheVariants as attach
use Rattle.pic_machine.specs.declared.entry.Call.TheVariants.{Attach, Peek}
use Rattle.pic_machine.specs.declared.entry.Reply.TheVariants as reply
use Rattle.pic_machine.specs.declared.waits.Parts.{Parts}
use Rattle.pic_machine.specs.declared.waits.Standing.{Standing}
use Rattle.pic_machine.specs.History.{event}
use Rattle.pic_machine.specs.Sight.{Carry, Sight, fiber_of}
use Rattle.pic_machine.specs.Waits.{Waiting, arming, attaching, awake, checking, over, told, waiting, waiting_at, waiting_leads, woken}
use Rattle.fiber_await.specs.declared.ahead.Ahead.{Ahead}
use Rattle.fiber_await.specs.declared.ahead.Ahead.TheVariants as ahead
use Rattle.fiber_await.specs.Doing.{Did, Ran}
use Rattle.fiber_await.specs.Phases.{attach_tells, peek_tells, trigger_of, unsuspended_at}
use Rattle.fiber_await.proofs.Running.{ran_none, ran_one}

pub not_attached : (n : ℕ) → (n ≡ 2) ⊎ (n ≡ 3) → n ≢ 3 → n ≡ 2
not_attached n (inl two) apart = two
not_attached n (inr three) apart = absurd (apart three)

-- where an attachment leads that tells this
abbrev pub attached_to : Ahead → Waiting
attached_to ahead.Go = arming
attached_to (ahead.Cancelled code) = over (told code)

attach_leads : (s : Standing) (place : ℕ) (how : AttachReply) → waiting_leads s (attaching place) (reply.Attached how) ≡ Some (attached_to (attach_tells how))
attach_leads s place attach.Attached = refl
attach_leads s place (attach.Completed (Returned value)) = refl
attach_leads s place (attach.Completed (Cancelled code)) = refl

peek_leads : (s : Standing) (seen : Option Outcome) → waiting_leads s checking (reply.Peeked seen) ≡ Some (unsuspended_at s (Ok (peek_tells seen)))
peek_leads s None = refl
peek_leads s (Some (Returned value)) = refl
peek_leads s (Some (Cancelled code)) = refl

-- a fiber that isn't told of a cancellation doesn't look
pub unchecked : (s : Standing) → s.permitted ≡ false → awake s ≡ over woken
unchecked s off = rw off refl

module _ {S : Type 0} (p q : Sight S) (a b : Carry S) (s : Standing) where
  -- no call was made, or it was refused
  pub waiting_still : (t : ℕ) (x y : Waiting) → x ≡ y → Did p q a b [] → Ran (waiting s (fiber_of a) t) p q a b x y
  waiting_still t x y same did = subst (λ (z : Waiting). Ran (waiting s (fiber_of a) t) p q a b x z) same (ran_none (waiting s (fiber_of a) t) p q a b x did)

  pub attached : (parts : Parts) (t place : ℕ) (how : AttachReply) (tells : Ahead) → parts.at ≡ 2 → parts.place ≡ Some place → tells ≡ attach_tells how → trigger_of parts ≡ t
      → Did p q a b (event (fiber_of a) (Attach place s.current t) (reply.Attached how) ∷ []) → Ran (waiting s (fiber_of a) (trigger_of parts)) p q a b (waiting_at s parts.at parts) (attached_to tells)
  attached parts t place how tells two placed is named did =
      let start : waiting_at s parts.at parts ≡ attaching place = rw (two, placed) refl in
      subst (λ (n : ℕ). Ran (waiting s (fiber_of a) n) p q a b (waiting_at s parts.at parts) (attached_to tells)) (sym named)
      (subst (λ (x : Waiting). Ran (waiting s (fiber_of a) t) p q a b x (attached_to tells)) (sym start)
      (subst (λ (r : Ahead). Ran (waiting s (fiber_of a) t) p q a b (attaching place) (attached_to r)) (sym is)
      (ran_one (waiting s (fiber_of a) t) p q a b (attaching place) (attached_to (attach_tells how)) (Attach place s.current t) (reply.Attached how) refl (attach_leads s place how) did)))

  pub checked : (t : ℕ) (seen : Option Outcome) (tells : Ahead) → s.permitted ≡ true → tells ≡ peek_tells seen
      → Did p q a b (event (fiber_of a) (Peek s.current) (reply.Peeked seen) ∷ []) → Ran (waiting s (fiber_of a) t) p q a b (awake s) (unsuspended_at s (Ok tells))
  checked t seen tells permitted is did =
      let start : awake s ≡ checking = rw permitted refl in
      subst (λ (x : Waiting). Ran (waiting s (fiber_of a) t) p q a b x (unsuspended_at s (Ok tells))) (sym start)
      (subst (λ (r : Ahead). Ran (waiting s (fiber_of a) t) p q a b checking (unsuspended_at s (Ok r))) (sym is)
      (ran_one (waiting s (fiber_of a) t) p q a b checking (unsuspended_at s (Ok (peek_tells seen))) (Peek s.current) (reply.Peeked seen) refl (peek_leads s seen) did))
