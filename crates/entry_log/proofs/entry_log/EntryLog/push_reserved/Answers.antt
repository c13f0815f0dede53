use Rattle.std.proofs.Common.{[], ◌∷◌, ◌++◌, ap, ◌∙◌}
use Rattle.entry_log.specs.Logged.{Recorded}
use Rattle.entry_log.proofs.Owners.{by_fibers-push}
use Rattle.entry_log.proofs.entry_log.EntryLog.push_reserved.Goals as goal

pub returns-clause-entries : goal.returns-clause-entries
returns-clause-entries c =
    rw (c.push_reserved.ensures.items, c.note.ensures.list)
    (by_fibers-push c.self.inside.fibers.items c.self.inside.deeds.list c.args.entry.fiber (record { call = c.args.entry.call; reply = c.args.entry.reply }) c.self.invariant
    ∙ ap (λ (v : Recorded). v.entries ++ c.args.entry ∷ []) c.self.view_is)
