use Rattle.std.proofs.Common.{refl}
use Rattle.port_plain.proofs.Lent.{refused, thing_called, thing_refused}
use Rattle.port_plain.proofs.plain.PlainPort.make_thing.Goals as goal

pub returns-in_default-clause-none : goal.returns-in_default-clause-none
returns-in_default-clause-none g c =
    (refused g.B.Carried.seen c.args.self.now c.make.new.self (g.B.Carried.seen c.args.body.now) c.in_default.ensures.err c.requires.can.holds, refl)

pub returns-in-Some-clause-made : goal.returns-in-Some-clause-made
returns-in-Some-clause-made g c =
    thing_called g.B.Carried.seen c.args.self.now c.make.new.self (g.B.Carried.seen c.args.body.now) c.requires.can.holds c.fiber-fiber.result c.fiber-fiber.ensures c.args.call c.in-Ok.reply c.in-Ok.ensures.made c.in-Ok.ensures.follows
    c.requires.makes c.in-Some.number c.in-Some.ensures

pub returns-in-None-clause-none : goal.returns-in-None-clause-none
returns-in-None-clause-none g c =
    thing_refused g.B.Carried.seen c.args.self.now c.make.new.self (g.B.Carried.seen c.args.body.now) c.requires.can.holds c.fiber-fiber.result c.fiber-fiber.ensures c.args.call c.in-Ok.reply c.in-Ok.ensures.made c.in-Ok.ensures.follows
    c.requires.makes (g.B.Carried.seen c.note.new.self) c.in-None.ensures c.note.ensures.notes
