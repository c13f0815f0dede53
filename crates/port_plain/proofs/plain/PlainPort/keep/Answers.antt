use Rattle.std.proofs.Common.{arith}
use Rattle.pic_machine.specs.State.{world_at}
use Rattle.port_plain.specs.Paired.{paired}
use Rattle.port_plain.proofs.Steps.{positive}
use Rattle.port_plain.proofs.Keeping.{back_stored, back_within}
use Rattle.port_plain.proofs.plain.PlainPort.keep.Goals as goal

pub index_mut-requires : goal.index_mut-requires
index_mut-requires g c =
    omega (
      arith,
      c.self.inside.bodies.ok.0,
      back_within g.B.Carried.seen g.B.Carried.fits (record { start = c.self.inside.start; main = c.self.inside.main.value; front = paired (world_at c.self.inside.start) c.self.inside.history.entries c.self.inside.births.items; out = c.self.inside.out }) c.args.self.now c.self.inside.world c.self.inside.bodies.items c.self.inside.clock c.self.view_is c.self.invariant.0
          c.fiber.result c.args.body c.fiber.ensures c.requires.out,
    )

pub invariant_of-self : goal.invariant_of-self
invariant_of-self g c = (
  back_stored g.B.Carried.seen g.B.Carried.fits (record { start = c.self.inside.start; main = c.self.inside.main.value; front = paired (world_at c.self.inside.start) c.self.inside.history.entries c.self.inside.births.items; out = c.self.inside.out }) c.args.self.now c.self.inside.world c.self.inside.bodies.items c.self.inside.clock c.self.view_is c.self.invariant.0
      c.fiber.result c.args.body c.fiber.ensures c.requires.out c.requires.home,
  c.self.invariant.1,
)

pub overflow_sub-place : goal.overflow_sub-place
overflow_sub-place g c =
    positive (g.B.Carried.seen c.args.body) c.fiber.result c.fiber.ensures c.requires.fiber
