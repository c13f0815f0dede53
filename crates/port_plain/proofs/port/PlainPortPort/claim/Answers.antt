use Rattle.std.proofs.Common.{refl}
use Rattle.port_plain.proofs.Turns.{claim_began, claim_held}
use Rattle.port_plain.proofs.port.PlainPortPort.claim.Goals as goal

pub returns-in-Ok-clause-made : goal.returns-in-Ok-clause-made
returns-in-Ok-clause-made g c =
    claim_began g.B.Carried.seen g.B.Carried.fits c.args.self.now c.args.fiber c.take-body.new.self c.make.new.self c.in-Ok.field-0 c.take-body.ensures.out c.in-Ok.ensures.made c.in-Ok.ensures.legal c.in-Ok.ensures.follows

pub returns-in-Ok-clause-body : goal.returns-in-Ok-clause-body
returns-in-Ok-clause-body g c =
    claim_held g.B.Carried.seen g.B.Carried.fits c.args.self.now c.args.fiber c.take-body.new.self c.make.new.self c.in-Ok.field-0 c.take-body.ensures.out c.in-Ok.ensures.made c.in-Ok.ensures.legal c.in-Ok.ensures.follows
    g.met.B.Carried.shows c.take-body.result c.take-body.ensures.home (c.if-not-is_live.ensures.live.0 refl)
