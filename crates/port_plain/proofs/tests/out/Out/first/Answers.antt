use Rattle.port_plain.proofs.Handing.{spared_out}
use Rattle.port_plain.proofs.tests.out.Out.first.Goals as goal

pub walk_next-requires : goal.walk_next-requires
walk_next-requires c = c.self.invariant.holds

pub invariant_of-self : goal.invariant_of-self
invariant_of-self c = spared_out c.self.invariant c.walk_next.ensures.spared
