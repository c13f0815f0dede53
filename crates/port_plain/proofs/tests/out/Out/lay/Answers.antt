use Rattle.port_plain.proofs.Handing.{laid_in}
use Rattle.port_plain.proofs.tests.out.Out.lay.Goals as goal

pub lay-requires-clause-holds : goal.lay-requires-clause-holds
lay-requires-clause-holds c = c.self.invariant.holds

pub lay-requires-clause-fiber : goal.lay-requires-clause-fiber
lay-requires-clause-fiber c = c.self.invariant.fiber

pub lay-requires-clause-fits : goal.lay-requires-clause-fits
lay-requires-clause-fits c = c.self.invariant.holds.noted

pub invariant_of-result : goal.invariant_of-result
invariant_of-result c = laid_in c.self.invariant c.in-Ok.ensures.laid c.in-Ok.ensures.out
