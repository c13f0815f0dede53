use Rattle.std.proofs.Common.{refl}
use Rattle.port_plain.proofs.Callable.{can_fork, comp_stands}
use Rattle.port_plain.proofs.Handing.{lent_or_refused}
use Rattle.port_plain.proofs.tests.out.Out.fork.Goals as goal

pub make_ready-requires : goal.make_ready-requires
make_ready-requires c = c.self.invariant

pub invariant_of-self : goal.invariant_of-self
invariant_of-self c = c.make_ready.ensures.out

pub fork-requires-clause-can : goal.fork-requires-clause-can
fork-requires-clause-can c = can_fork c.make_ready.ensures.out c.in_ok-make_ready.ensures.owes c.in_ok-make_ready.ensures.room 5 7

pub fork-requires-clause-child : goal.fork-requires-clause-child
fork-requires-clause-child c =
    let born = c.new-child.ensures.birth in
    record {
      unnumbered = c.new-child.ensures.number;
      owes = c.new-child.ensures.owes;
      same_text = rw born refl;
      same_value = rw born refl;
      stands = rw born (comp_stands c.make_ready.ensures.out);
      share = refl;
    }

pub invariant_of-self-2 : goal.invariant_of-self-2
invariant_of-self-2 c = lent_or_refused c.fork.result _ (λ refused. refused.1) _ c.make_ready.ensures.out c.fork.ensures.made c.fork.ensures.none
