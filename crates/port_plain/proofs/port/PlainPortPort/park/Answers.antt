use Rattle.std.proofs.Common.{refl}
use Rattle.pic_machine.specs.declared.entry.ArmReply.TheVariants.{Signalled, Taken}
use Rattle.port_plain.proofs.Lent.{refused}
use Rattle.port_plain.proofs.Turns.{not_parked, parked, parked_home}
use Rattle.port_plain.proofs.port.PlainPortPort.park.Goals as goal

pub returns-in_default-clause-none : goal.returns-in_default-clause-none
returns-in_default-clause-none g c =
    ((refused g.B.Carried.seen c.args.self.now c.make.new.self (g.B.Carried.seen c.args.body) c.in_default.ensures.err c.requires.can.holds, refl), g.met.B.Carried.rest_same c.args.body)

pub keep-requires-clause-home : goal.keep-requires-clause-home
keep-requires-clause-home g c =
    parked_home g.B.Carried.seen g.B.Carried.fits g.B.Carried.same_rest c.args.self.now c.make.new.self c.args.body c.requires.can.holds c.fiber-fiber.result c.args.trigger c.fiber-fiber.ensures c.in-Ok.reply
    c.in-Ok.ensures.made c.in-Ok.ensures.follows c.in-Set.ensures c.note.new.self c.note.ensures.notes c.note.ensures.rest c.requires.after

pub returns-in-Set-clause-made : goal.returns-in-Set-clause-made
returns-in-Set-clause-made g c =
    parked g.B.Carried.seen g.B.Carried.fits g.B.Carried.same_rest c.args.self.now c.make.new.self c.args.body c.requires.can.holds c.fiber-fiber.result c.args.trigger c.fiber-fiber.ensures c.in-Ok.reply
    c.in-Ok.ensures.made c.in-Ok.ensures.follows c.in-Set.ensures c.keep.new.self c.keep.ensures

pub returns-in-Signalled-clause-none : goal.returns-in-Signalled-clause-none
returns-in-Signalled-clause-none g c = (
  not_parked g.B.Carried.seen c.args.self.now c.make.new.self (g.B.Carried.seen c.args.body) (g.B.Carried.seen c.note.new.self) c.requires.can.holds c.fiber-fiber.result c.args.trigger c.fiber-fiber.ensures c.in-Ok.reply
      c.in-Ok.ensures.made c.in-Ok.ensures.follows Signalled c.in-Signalled.ensures (λ same. cc) c.note.ensures.notes,
  c.note.ensures.rest,
)

pub returns-in-Taken-clause-none : goal.returns-in-Taken-clause-none
returns-in-Taken-clause-none g c = (
  not_parked g.B.Carried.seen c.args.self.now c.make.new.self (g.B.Carried.seen c.args.body) (g.B.Carried.seen c.note.new.self) c.requires.can.holds c.fiber-fiber.result c.args.trigger c.fiber-fiber.ensures c.in-Ok.reply
      c.in-Ok.ensures.made c.in-Ok.ensures.follows Taken c.in-Taken.ensures (λ same. cc) c.note.ensures.notes,
  c.note.ensures.rest,
)
