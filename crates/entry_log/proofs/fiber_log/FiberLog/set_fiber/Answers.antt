use Rattle.std.proofs.Common.{List, ap, ◌∙◌}
use Rattle.entry_log.specs.declared.kind.Deed.{Deed}
use Rattle.entry_log.specs.Kept.{by_fiber}
use Rattle.entry_log.specs.Logged.{Logged}
use Rattle.entry_log.proofs.Owners.{deeds_from_none}
use Rattle.entry_log.proofs.fiber_log.FiberLog.set_fiber.Goals as goal

pub returns-clause-entries : goal.returns-clause-entries
returns-clause-entries c =
    ap (λ (ds : List Deed). by_fiber c.args.fiber ds)
    (deeds_from_none c.self.inside.fiber c.self.inside.deeds.list (ap (λ (v : Logged). v.entries) c.self.view_is ∙ c.requires))
