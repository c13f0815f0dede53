-- A call of a port behind the making of room: what it did to the body as it was before.
use Rattle.std.proofs.Common.{ℕ, List, [], refl, subst, ◌∙◌, append-nil}
use Rattle.pic_base.specs.declared.duty.Duty.{Duty}
use Rattle.pic_machine.specs.declared.entry.Call.{Call}
use Rattle.pic_machine.specs.declared.entry.Reply.{Reply}
use Rattle.pic_machine.specs.declared.entry.Reply.TheVariants as reply
use Rattle.pic_machine.specs.declared.port.PortFault.{PortFault}
use Rattle.pic_machine.specs.declared.port.PortFault.TheVariants.{Full, Again, Memory}
use Rattle.pic_machine.specs.Duty.{is_owing}
use Rattle.pic_machine.specs.Happened.{Happened}
use Rattle.pic_machine.specs.History.{event, happening}
use Rattle.pic_machine.specs.Lending.{Answered, Called, Kept, Lent, Refuses, RefusesMaking, Spared}
use Rattle.pic_machine.specs.Log.{Others}
use Rattle.pic_machine.specs.Sight.{Carry, Holds, IsSame, Notes, Sight, fiber_of}
use Rattle.pic_machine.proofs.Onward.{later_same, spared}
use Rattle.pic_machine.proofs.Turns.{same_fiber}

module _ {S : Type 0} (p : Sight S) (a r : Carry S) where
  -- a body with more room is the same
  pub same_reserved : Notes a r [] → IsSame a r
  same_reserved notes = record { birth = notes.birth; number = notes.number; noted = notes.noted ∙ append-nil a.noted; share = notes.share }

  -- room was made, and nothing else
  pub spared_reserved : Holds p a → Notes a r [] → Spared p p a r
  spared_reserved holds notes =
      let kept : Kept p p = record { grown = record { others = []; none = λ alone. refl; later = later_same p; legal = holds.legal }; out = refl } in
      spared p p a r kept tt holds (same_reserved notes) notes.owes

  -- and memory was wanted for it
  pub refuses_reserved : Holds p a → Notes a r [] → Refuses Memory p p a r
  refuses_reserved holds notes = (spared_reserved holds notes, refl)

-- what was done to the body with more room was done to the body
module _ {S : Type 0} (p q : Sight S) (a r b : Carry S) where
  lent_behind : (h : Happened) → Notes a r [] → Lent p q r b h → Lent p q a b h
  lent_behind h notes lent = record {
    made = lent.made;
    holds = lent.holds;
    number = lent.number ∙ notes.number;
    birth = lent.birth ∙ notes.birth;
    share = lent.share ∙ notes.share;
  }

  pub answered_behind : (call : Call) (re : Reply) → Notes a r [] → Answered p q r b call re → Answered p q a b call re
  answered_behind call re notes answered =
      lent_behind (happening (is_owing a.owes call) (fiber_of a) call re) notes
      (subst (λ (f : ℕ). Lent p q r b (happening (is_owing a.owes call) f call re)) (same_fiber a r notes.number)
      (subst (λ (ds : List Duty). Lent p q r b (happening (is_owing ds call) (fiber_of r) call re)) notes.owes answered))

  pub called_behind : (call : Call) (re : Reply) → Notes a r [] → Called p q r b call re → Called p q a b call re
  called_behind call re notes called =
      lent_behind (event (fiber_of a) call re) notes (subst (λ (f : ℕ). Lent p q r b (event f call re)) (same_fiber a r notes.number) called)

  pub refuses_behind : (fault : PortFault) → Notes a r [] → Refuses fault p q r b → Refuses fault p q a b
  refuses_behind fault notes refuses =
      let same = same_reserved p a r notes in
      let left = refuses.0 in (
        record {
          kept = left.kept;
          not_mine = subst (λ (f : ℕ). Others f left.kept.grown.others) (same_fiber a r notes.number) left.not_mine;
          holds = left.holds;
          same = record {
            birth = left.same.birth ∙ same.birth;
            number = left.same.number ∙ same.number;
            noted = left.same.noted ∙ same.noted;
            share = left.same.share ∙ same.share;
          };
        },
        refuses.1,
      )

  pub refuses_making_behind : (fault : PortFault) (call : Call) → Notes a r [] → RefusesMaking fault p q r b call → RefusesMaking fault p q a b call
  refuses_making_behind Full call notes refuses = called_behind call reply.Full notes refuses
  refuses_making_behind Again call notes refuses = refuses_behind Again notes refuses
  refuses_making_behind Memory call notes refuses = refuses_behind Memory notes refuses
