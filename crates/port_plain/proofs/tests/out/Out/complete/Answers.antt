use Rattle.port_plain.proofs.Callable.{can_complete}
use Rattle.port_plain.proofs.Handing.{lent_or_spared}
use Rattle.port_plain.proofs.tests.out.Out.complete.Goals as goal

pub make_ready-requires : goal.make_ready-requires
make_ready-requires c = c.self.invariant

pub invariant_of-self : goal.invariant_of-self
invariant_of-self c = c.make_ready.ensures.out

pub complete-requires : goal.complete-requires
complete-requires c = can_complete c.make_ready.ensures.out c.in_ok-make_ready.ensures.owes c.in_ok-make_ready.ensures.room c.args.outcome

pub invariant_of-self-2 : goal.invariant_of-self-2
invariant_of-self-2 c = lent_or_spared c.complete.result _ c.make_ready.ensures.out c.complete.ensures.made c.complete.ensures.none
