use Rattle.std.proofs.Common.{ℕ, Some, List, slice_get, sym, ap, ◌∙◌}
use Rattle.pic_base.specs.declared.duty.Duty.{Duty}
use Rattle.pic_base.specs.declared.duty.Duty.TheVariants.{Signal}
use Rattle.port_plain.proofs.Callable.{can_pay}
use Rattle.port_plain.proofs.Handing.{lent_or_spared, roomy_out, spared_out, spared_owes}
use Rattle.port_plain.proofs.tests.out.Out.pay.Goals as goal

pub walk_next-requires : goal.walk_next-requires
walk_next-requires c = c.self.invariant.holds

pub invariant_of-self : goal.invariant_of-self
invariant_of-self c = spared_out c.self.invariant c.walk_next.ensures.spared

pub invariant_of-self-then-first-trigger : goal.invariant_of-self-then-first-trigger
invariant_of-self-then-first-trigger c = spared_out c.self.invariant c.walk_next.ensures.spared

pub invariant_of-self-in_err-reserve : goal.invariant_of-self-in_err-reserve
invariant_of-self-in_err-reserve c = roomy_out (spared_out c.self.invariant c.walk_next.ensures.spared) c.reserve.ensures.notes

pub signal-requires : goal.signal-requires
signal-requires c =
    can_pay (roomy_out (spared_out c.self.invariant c.walk_next.ensures.spared) c.reserve.ensures.notes) c.in_ok-reserve.ensures.room c.args.trigger
    (ap (λ (duties : List Duty). slice_get duties 0) (c.reserve.ensures.notes.owes ∙ spared_owes c.self.invariant c.walk_next.ensures.spared)
    ∙ (sym c.walk_next.ensures.first ∙ (c.in-Some-Signal.is ∙ (ap Some c.in-Some-Signal.field-0-is ∙ ap (λ (t : ℕ). Some (Signal t)) c.if-first-trigger.false))))
    c.requires

pub invariant_of-self-2 : goal.invariant_of-self-2
invariant_of-self-2 c = lent_or_spared c.signal.result _ (roomy_out (spared_out c.self.invariant c.walk_next.ensures.spared) c.reserve.ensures.notes) c.signal.ensures.made c.signal.ensures.none
