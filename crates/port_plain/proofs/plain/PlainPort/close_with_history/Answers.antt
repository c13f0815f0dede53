use Rattle.std.proofs.Common.{refl, sym, ap, ◌∙◌}
use Rattle.pic_machine.specs.Log.{entries}
use Rattle.pic_machine.specs.State.{world_at}
use Rattle.port_plain.specs.Paired.{paired}
use Rattle.port_plain.specs.Shown.{Shown}
use Rattle.pic_machine.proofs.Lawfully.{starts_lawful}
use Rattle.port_plain.proofs.Keeping.{legal_seen}
use Rattle.port_plain.proofs.Pairing.{entries-paired}
use Rattle.port_plain.proofs.Unloading.{left_of, owes_left}
use Rattle.port_plain.proofs.plain.PlainPort.close_with_history.Goals as goal

pub returns-clause-left : goal.returns-clause-left
returns-clause-left g c =
    left_of g.B.Carried.seen g.B.Carried.fits (record { start = c.self.inside.start; main = c.self.inside.main.value; front = paired (world_at c.self.inside.start) c.self.inside.history.entries c.self.inside.births.items; out = c.self.inside.out }) c.args.self c.self.inside.world c.self.inside.bodies.items c.self.inside.clock c.self.view_is c.self.invariant.0
    c.requires (record { bodies = c.all_there.result; clock = c.self.inside.clock; now = 0 }) c.all_there.ensures refl refl

pub returns-clause-owes : goal.returns-clause-owes
returns-clause-owes g c =
    owes_left g.B.Carried.seen g.B.Carried.fits (record { start = c.self.inside.start; main = c.self.inside.main.value; front = paired (world_at c.self.inside.start) c.self.inside.history.entries c.self.inside.births.items; out = c.self.inside.out }) c.args.self c.self.inside.world c.self.inside.bodies.items c.self.inside.clock c.self.view_is c.self.invariant.0
    c.requires (record { bodies = c.all_there.result; clock = c.self.inside.clock; now = 0 }) c.all_there.ensures refl

pub returns-clause-history : goal.returns-clause-history
returns-clause-history g c = sym (entries-paired (world_at c.self.inside.start) c.self.inside.history.entries c.self.inside.births.items) ∙ ap (λ (port : Shown g.row.B.Denot). entries port.front) c.self.view_is

pub returns-clause-laws : goal.returns-clause-laws
returns-clause-laws g c =
    starts_lawful c.args.self.start (g.B.Carried.seen c.args.self.main).birth c.args.self.front
    (legal_seen g.B.Carried.seen g.B.Carried.fits (record { start = c.self.inside.start; main = c.self.inside.main.value; front = paired (world_at c.self.inside.start) c.self.inside.history.entries c.self.inside.births.items; out = c.self.inside.out }) c.args.self c.self.inside.world c.self.inside.bodies.items c.self.inside.clock c.self.view_is c.self.invariant.0)
