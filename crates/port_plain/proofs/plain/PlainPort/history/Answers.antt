use Rattle.std.proofs.Common.{sym, ap, ◌∙◌}
use Rattle.pic_machine.proofs.Lawfully.{starts_lawful}
use Rattle.pic_machine.specs.Log.{entries}
use Rattle.pic_machine.specs.State.{world_at}
use Rattle.port_plain.specs.Shown.{Shown}
use Rattle.port_plain.specs.Paired.{paired}
use Rattle.port_plain.proofs.Keeping.{legal_seen}
use Rattle.port_plain.proofs.Pairing.{entries-paired}
use Rattle.port_plain.proofs.plain.PlainPort.history.Goals as goal

pub returns-clause-entries : goal.returns-clause-entries
returns-clause-entries g c = sym (entries-paired (world_at c.self.inside.start) c.self.inside.history.entries c.self.inside.births.items) ∙ ap (λ (port : Shown g.row.B.Denot). entries port.front) c.self.view_is

pub returns-clause-laws : goal.returns-clause-laws
returns-clause-laws g c =
    starts_lawful c.args.self.now.start (g.B.Carried.seen c.args.self.now.main).birth c.args.self.now.front
    (legal_seen g.B.Carried.seen g.B.Carried.fits (record { start = c.self.inside.start; main = c.self.inside.main.value; front = paired (world_at c.self.inside.start) c.self.inside.history.entries c.self.inside.births.items; out = c.self.inside.out }) c.args.self.now c.self.inside.world c.self.inside.bodies.items c.self.inside.clock c.self.view_is c.self.invariant.0)
