-- What the port's own steps rest on.
use Rattle.std.proofs.Common.{◌≡◌, ◌≢◌, ℕ, zero, suc, ◌≤◌, Option, Some, List, refl, sym, ap, subst, ◌∙◌, arith}
use Rattle.pic_machine.specs.declared.entry.Call.{Call}
use Rattle.pic_machine.specs.declared.entry.Reply.{Reply}
use Rattle.pic_machine.specs.Duty.{is_owing}
use Rattle.pic_machine.specs.Happened.{Happened}
use Rattle.pic_machine.specs.State.{State, owed_of}
use Rattle.pic_machine.specs.Step.{Allowed, MakesNoFiber, reply_of}
use Rattle.pic_machine.specs.History.{Follows, MayMake, Origin, happening, world}
use Rattle.pic_machine.specs.Sight.{Carry, fiber_of}
use Rattle.pic_machine.proofs.Histories.{BirthFits-none}

-- the entry of a call that makes no fiber may follow, with the machine's reply and the mark of what is owed
pub event_follows : (origin : Origin) (front : List Happened) (w : State) (f : ℕ) (call : Call) (reply : Reply) → w ≡ world origin front
    → MayMake origin front f call → MakesNoFiber call → reply ≡ reply_of w f call → Follows origin front (happening (is_owing (owed_of (world origin front) f) call) f call reply)
event_follows origin front w f call reply now may none is = record {
  may = may;
  reply = is ∙ ap (λ (u : State). reply_of u f call) now;
  birth = BirthFits-none (world origin front) call reply none;
  owing = refl;
}

pub allowed_now : (origin : Origin) (front : List Happened) (w : State) (f : ℕ) (call : Call) → w ≡ world origin front → MayMake origin front f call → Allowed w f call
allowed_now origin front w f call now may = subst (λ (u : State). Allowed u f call) (sym now) may.allowed

pub positive : {S : Type 0} (body : Carry S) (n : ℕ) → body.number ≡ Some n → fiber_of body ≢ 0 → 1 ≤ n
positive body n number other =
    let is : fiber_of body ≡ n = ap (λ (m : Option ℕ). fiber_of (record body { number = m })) number in
    one_on n is where
      one_on : (n : ℕ) → fiber_of body ≡ n → 1 ≤ n
      one_on zero is = absurd (other is)
      one_on (suc m) is = omega arith
