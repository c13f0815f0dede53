use Rattle.std.proofs.Common.{length, sym, ap, ◌∙◌}
use Rattle.entry_log.specs.Kept.{Kept}
use Rattle.entry_log.proofs.Lists.{length-deeds_of}
use Rattle.entry_log.proofs.deeds.Deeds.len.Goals as goal

pub returns : goal.returns
returns c =
    c.len.ensures ∙ (c.self.inside.kinds.ok.0
    ∙ (sym (length-deeds_of c.self.inside.kinds.items c.self.inside.numbers.items c.self.inside.kept.items) ∙ ap (λ (k : Kept). length k.list) c.self.view_is))
