use Rattle.std.proofs.Common.{sym, ap, ◌∙◌}
use Rattle.pic_machine.specs.State.{world_at}
use Rattle.port_plain.specs.Shown.{Shown, births_in}
use Rattle.port_plain.proofs.Pairing.{births_in-paired}
use Rattle.port_plain.proofs.plain.PlainPort.births.Goals as goal

pub returns : goal.returns
returns g c = c.as_slice.ensures.value ∙ (sym (births_in-paired (world_at c.self.inside.start) c.self.inside.history.entries c.self.inside.births.items c.self.invariant.1) ∙ ap (λ (port : Shown g.row.B.Denot). births_in port.front) c.self.view_is)
