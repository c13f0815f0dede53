use Rattle.port_plain.proofs.Callable.{can_make_trigger}
use Rattle.port_plain.proofs.Handing.{lent_or_refused}
use Rattle.port_plain.proofs.tests.out.Out.new_trigger.Goals as goal

pub make_ready-requires : goal.make_ready-requires
make_ready-requires c = c.self.invariant

pub invariant_of-self : goal.invariant_of-self
invariant_of-self c = c.make_ready.ensures.out

pub new_trigger-requires : goal.new_trigger-requires
new_trigger-requires c = can_make_trigger c.make_ready.ensures.out c.in_ok-make_ready.ensures.owes c.in_ok-make_ready.ensures.room

pub invariant_of-self-2 : goal.invariant_of-self-2
invariant_of-self-2 c = lent_or_refused c.new_trigger.result _ (λ fault. fault) _ c.make_ready.ensures.out c.new_trigger.ensures.made c.new_trigger.ensures.none
