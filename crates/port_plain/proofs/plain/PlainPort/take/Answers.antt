use Rattle.std.proofs.Common.{Some, sym, subst, Option, slice_index_or}
use Rattle.std.proofs.Common.{◌≡◌, ◌-◌, slice_set}
use Rattle.pic_machine.specs.State.{world_at}
use Rattle.port_plain.specs.Paired.{paired}
use Rattle.port_plain.specs.Stored.{IsStored}
use Rattle.port_plain.proofs.Keeping.{out_home, out_stored}
use Rattle.port_plain.proofs.plain.PlainPort.take.Goals as goal

pub invariant_of-self : goal.invariant_of-self
invariant_of-self g c = (
  subst (λ (b : Option g.row.B.Denot). IsStored g.B.Carried.seen g.B.Carried.fits (record { start = c.self.inside.start; main = c.self.inside.main.value; front = paired (world_at c.self.inside.start) c.self.inside.history.entries c.self.inside.births.items; out = Some c.args.fiber }) c.self.inside.world (slice_set c.self.inside.bodies.items (c.args.fiber - 1) b) c.self.inside.clock) (sym c.take-body.ensures.after)
      (out_stored g.B.Carried.seen g.B.Carried.fits (record { start = c.self.inside.start; main = c.self.inside.main.value; front = paired (world_at c.self.inside.start) c.self.inside.history.entries c.self.inside.births.items; out = c.self.inside.out }) c.args.self.now c.self.inside.world c.self.inside.bodies.items c.self.inside.clock c.self.view_is c.self.invariant.0
      c.args.fiber c.requires.out c.requires.live c.in-Some.body (subst (λ (x : Option g.row.B.Denot). x ≡ slice_index_or c.self.inside.bodies.items (c.args.fiber - 1) x) (sym (c.in-Some.ensures.value)) c.index_mut.ensures.value)),
  c.self.invariant.1,
)

pub returns-clause-home : goal.returns-clause-home
returns-clause-home g c =
    out_home g.B.Carried.seen g.B.Carried.fits (record { start = c.self.inside.start; main = c.self.inside.main.value; front = paired (world_at c.self.inside.start) c.self.inside.history.entries c.self.inside.births.items; out = c.self.inside.out }) c.args.self.now c.self.inside.world c.self.inside.bodies.items c.self.inside.clock c.self.view_is c.self.invariant.0
    c.args.fiber c.requires.out c.requires.live c.in-Some.body (subst (λ (x : Option g.row.B.Denot). x ≡ slice_index_or c.self.inside.bodies.items (c.args.fiber - 1) x) (sym (c.in-Some.ensures.value)) c.index_mut.ensures.value)
