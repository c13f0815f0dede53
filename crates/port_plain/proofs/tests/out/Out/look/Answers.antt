use Rattle.port_plain.proofs.Callable.{can_look}
use Rattle.port_plain.proofs.Handing.{lent_or_spared}
use Rattle.port_plain.proofs.tests.out.Out.look.Goals as goal

pub make_ready-requires : goal.make_ready-requires
make_ready-requires c = c.self.invariant

pub invariant_of-self : goal.invariant_of-self
invariant_of-self c = c.make_ready.ensures.out

pub look-requires : goal.look-requires
look-requires c = can_look c.make_ready.ensures.out c.in_ok-make_ready.ensures.owes c.in_ok-make_ready.ensures.room c.args.trigger c.requires

pub invariant_of-self-2 : goal.invariant_of-self-2
invariant_of-self-2 c = lent_or_spared c.look.result _ c.make_ready.ensures.out c.look.ensures.made c.look.ensures.none
