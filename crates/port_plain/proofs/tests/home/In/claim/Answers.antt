use Rattle.std.proofs.Common.{arith}
use Rattle.port_plain.proofs.Handing.{began_out, kept_in}
use Rattle.port_plain.proofs.tests.home.In.claim.Goals as goal

pub claim-requires-clause-out : goal.claim-requires-clause-out
claim-requires-clause-out c = c.self.invariant.out

pub claim-requires-clause-range : goal.claim-requires-clause-range
claim-requires-clause-range c = (c.requires.0, omega (arith, c.requires.1, c.self.invariant.begun.fibers))

pub invariant_of-result : goal.invariant_of-result
invariant_of-result c = began_out c.requires.0 c.self.invariant c.in-Ok.ensures.made c.in-Ok.ensures.body.0 c.in-Ok.ensures.body.1

pub invariant_of-result-in-Err-NotReady : goal.invariant_of-result-in-Err-NotReady
invariant_of-result-in-Err-NotReady c = kept_in c.self.invariant c.in-Err-NotReady.ensures.none.0
