use Rattle.port_plain.proofs.Callable.{can_attach, can_make_place}
use Rattle.port_plain.proofs.Handing.{lent_or_refused, lent_or_spared, lent_out, roomy_out}
use Rattle.port_plain.proofs.tests.out.Out.attach.Goals as goal

pub make_ready-requires : goal.make_ready-requires
make_ready-requires c = c.self.invariant

pub invariant_of-self : goal.invariant_of-self
invariant_of-self c = c.make_ready.ensures.out

pub new_place-requires : goal.new_place-requires
new_place-requires c = can_make_place c.make_ready.ensures.out c.in_ok-make_ready.ensures.owes c.in_ok-make_ready.ensures.room

pub invariant_of-self-in_default : goal.invariant_of-self-in_default
invariant_of-self-in_default c = lent_or_refused c.new_place.result _ (λ fault. fault) _ c.make_ready.ensures.out c.new_place.ensures.made c.new_place.ensures.none

pub invariant_of-self-in_err-reserve : goal.invariant_of-self-in_err-reserve
invariant_of-self-in_err-reserve c = roomy_out (lent_out c.make_ready.ensures.out c.in-Ok.ensures.made) c.reserve.ensures.notes

pub attach-requires : goal.attach-requires
attach-requires c = can_attach c.in-Ok.place c.args.trigger c.make_ready.ensures.out c.in_ok-make_ready.ensures.owes c.in-Ok.ensures.made c.reserve.ensures.notes c.in_ok-reserve.ensures.room c.requires

pub invariant_of-self-2 : goal.invariant_of-self-2
invariant_of-self-2 c = lent_or_spared c.attach.result _ (roomy_out (lent_out c.make_ready.ensures.out c.in-Ok.ensures.made) c.reserve.ensures.notes) c.attach.ensures.made c.attach.ensures.none
