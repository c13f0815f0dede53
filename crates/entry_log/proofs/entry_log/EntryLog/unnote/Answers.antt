use Rattle.std.proofs.Common.{◌≡◌, ◌-◌, ℕ, length, take, ap, sym, refl, ◌∙◌}
use Rattle.entry_log.specs.Kept.{by_fibers}
use Rattle.entry_log.specs.Logged.{Recorded}
use Rattle.entry_log.proofs.Owners.{length-by_fibers, take-by_fibers}
use Rattle.entry_log.proofs.entry_log.EntryLog.unnote.Goals as goal

pub returns-then-is_some-clause-entries : goal.returns-then-is_some-clause-entries
returns-then-is_some-clause-entries c =
    let fs = c.self.inside.fibers.items in
    let ds = c.self.inside.deeds.list in
    let fibers : c.pop.new.self.items ≡ take (length fs - 1) fs = rw (c.pop.ensures.rest, c.self.inside.fibers.ok.0) refl in
    let deeds : c.unnote.new.self.list ≡ take (length fs - 1) ds = c.unnote.ensures.list ∙ ap (λ (n : ℕ). take (n - 1) ds) (sym c.self.invariant) in
    rw (fibers, deeds) (take-by_fibers (length fs - 1) fs ds
    ∙ (ap (λ (n : ℕ). take (n - 1) (by_fibers fs ds)) (sym (length-by_fibers fs ds c.self.invariant))
    ∙ ap (λ (v : Recorded). take (length v.entries - 1) v.entries) c.self.view_is))
