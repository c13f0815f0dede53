use Rattle.std.proofs.Common.{◌-◌, ℕ, List, length, take, ap, sym, ◌∙◌}
use Rattle.std.proofs.lemmas.List.{length-map, take-map}
use Rattle.entry_log.specs.declared.kind.Deed.{Deed}
use Rattle.entry_log.specs.Kept.{by_fiber, entry_by}
use Rattle.entry_log.specs.Logged.{Logged}
use Rattle.entry_log.proofs.fiber_log.FiberLog.unnote.Goals as goal

pub returns-clause-entries : goal.returns-clause-entries
returns-clause-entries c =
    let f = c.self.inside.fiber in
    let ds = c.self.inside.deeds.list in
    ap (λ (left : List Deed). by_fiber f left) c.unnote.ensures.list
    ∙ (sym (take-map (entry_by f) (length ds - 1) ds)
    ∙ (ap (λ (n : ℕ). take (n - 1) (by_fiber f ds)) (sym (length-map ds (entry_by f)))
    ∙ ap (λ (v : Logged). take (length v.entries - 1) v.entries) c.self.view_is))
