use Rattle.std.proofs.Common.{refl}
use Rattle.pic_machine.specs.declared.entry.Call.TheVariants.{Fork}
use Rattle.port_plain.proofs.Lent.{fork_full, fork_none, fork_lent, refused}
use Rattle.port_plain.proofs.port.PlainPortPort.fork.Goals as goal

pub returns-in-Ok-clause-made : goal.returns-in-Ok-clause-made
returns-in-Ok-clause-made g c =
    fork_lent g.B.Carried.seen c.args.self.now c.make_fiber.new.self c.fiber-fiber.result c.args.text c.args.value (g.B.Carried.seen c.args.body.now) (g.B.Carried.seen c.note.new.self) c.requires.can.holds c.fiber-fiber.ensures
    c.in-Ok.number (g.B.Carried.seen c.args.child) c.requires.child c.in-Ok.ensures.made c.in-Ok.ensures.follows c.note.ensures.notes

pub returns-in-Err-default-Full-clause-none : goal.returns-in-Err-default-Full-clause-none
returns-in-Err-default-Full-clause-none g c =
    fork_full g.B.Carried.seen c.args.self.now c.make_fiber.new.self c.fiber-fiber.result c.args.text c.args.value (g.B.Carried.seen c.args.body.now) (g.B.Carried.seen c.note-in-Err-default-Full.new.self) c.requires.can.holds c.fiber-fiber.ensures
    c.in-Err-default-Full.field-0-1 c.in-Err-default-Full.field-0-1-is c.in-Err-default-Full.ensures.err c.note-in-Err-default-Full.ensures.notes

pub returns-in-Err-default-Memory-clause-none : goal.returns-in-Err-default-Memory-clause-none
returns-in-Err-default-Memory-clause-none g c = (
  refused g.B.Carried.seen c.args.self.now c.make_fiber.new.self (g.B.Carried.seen c.args.body.now)
      (fork_none g.B.Carried.seen c.args.self.now c.make_fiber.new.self c.fiber-fiber.result (Fork c.args.text c.args.value) c.in-Err-default-Memory.field-0-1 c.in-Err-default-Memory.field-0-1-is c.in-Err-default-Memory.ensures.err) c.requires.can.holds,
  refl,
)
