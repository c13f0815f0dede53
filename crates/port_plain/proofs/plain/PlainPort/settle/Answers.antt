use Rattle.std.proofs.Common.{◌∙◌, refl}
use Rattle.port_plain.proofs.Lent.{refused, settled_answered, settled_within}
use Rattle.port_plain.proofs.plain.PlainPort.settle.Goals as goal

pub returns-in_default-clause-none : goal.returns-in_default-clause-none
returns-in_default-clause-none g c =
    (refused g.B.Carried.seen c.args.self.now c.make.new.self (g.B.Carried.seen c.args.body.now) c.in_default.ensures.err c.requires.can.holds, refl)

pub owed-requires : goal.owed-requires
owed-requires g c =
    settled_within g.B.Carried.seen c.args.self.now c.make.new.self (g.B.Carried.seen c.args.body.now) c.requires.can.holds c.fiber-fiber.result c.fiber-fiber.ensures c.args.call c.in-Ok.reply c.in-Ok.ensures.made c.in-Ok.ensures.follows
    c.requires.settles

pub returns-clause-made : goal.returns-clause-made
returns-clause-made g c =
    settled_answered g.B.Carried.seen c.args.self.now c.make.new.self (g.B.Carried.seen c.args.body.now) c.requires.can.holds c.fiber-fiber.result c.fiber-fiber.ensures c.args.call c.in-Ok.reply c.in-Ok.ensures.made c.in-Ok.ensures.follows
    c.requires.settles (g.B.Carried.seen c.note.new.self) (g.B.Carried.seen c.owe.new.self) c.of.result.value c.note.ensures.notes c.owe.ensures.seen (c.of.ensures ∙ c.owed.ensures)
