use Rattle.pic_machine.specs.Sight.{fiber_of}
use Rattle.port_plain.proofs.Turns.{laid_back}
use Rattle.port_plain.proofs.port.PlainPortPort.lay.Goals as goal

pub returns-clause-laid : goal.returns-clause-laid
returns-clause-laid g c =
    rw c.if-yielded.false (laid_back g.B.Carried.seen g.B.Carried.fits c.args.self.now (fiber_of (g.B.Carried.seen c.args.body)) c.keep.new.self c.keep.ensures c.requires.holds.legal)
