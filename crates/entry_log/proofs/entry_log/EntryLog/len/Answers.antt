use Rattle.std.proofs.Common.{length, sym, ap, ◌∙◌}
use Rattle.entry_log.specs.Logged.{Recorded}
use Rattle.entry_log.proofs.Owners.{length-by_fibers}
use Rattle.entry_log.proofs.entry_log.EntryLog.len.Goals as goal

pub returns : goal.returns
returns c =
    c.len.ensures ∙ (c.self.inside.fibers.ok.0
    ∙ (sym (length-by_fibers c.self.inside.fibers.items c.self.inside.deeds.list c.self.invariant) ∙ ap (λ (v : Recorded). length v.entries) c.self.view_is))
