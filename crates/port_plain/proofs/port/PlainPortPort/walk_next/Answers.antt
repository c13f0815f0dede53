use Rattle.std.proofs.Common.{refl}
use Rattle.port_plain.proofs.Lent.{refused}
use Rattle.port_plain.proofs.port.PlainPortPort.walk_next.Goals as goal

pub returns-clause-spared : goal.returns-clause-spared
returns-clause-spared g c = refused g.B.Carried.seen c.args.self.now c.args.self.now (g.B.Carried.seen c.args.body.now) refl c.requires
