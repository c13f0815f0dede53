use Rattle.std.proofs.Common.{refl}
use Rattle.port_plain.proofs.Lent.{lent_answered, refused}
use Rattle.port_plain.proofs.plain.PlainPort.lend.Goals as goal

pub returns-in_default-clause-none : goal.returns-in_default-clause-none
returns-in_default-clause-none g c =
    (refused g.B.Carried.seen c.args.self.now c.make.new.self (g.B.Carried.seen c.args.body.now) c.in_default.ensures.err c.requires.can.holds, refl)

pub returns-clause-made : goal.returns-clause-made
returns-clause-made g c =
    lent_answered g.B.Carried.seen c.args.self.now c.make.new.self (g.B.Carried.seen c.args.body.now) c.requires.can.holds c.fiber-fiber.result c.fiber-fiber.ensures c.args.call c.in-Ok.reply c.in-Ok.ensures.made c.in-Ok.ensures.follows
    (g.B.Carried.seen c.note.new.self) c.requires.lent c.note.ensures.notes
