use Rattle.std.proofs.Common.{◌≡◌, ◌-◌, ℕ, Some, slice_get, length, ap, sym, ◌∙◌}
use Rattle.entry_log.specs.Kept.{by_fibers}
use Rattle.entry_log.specs.Logged.{Recorded}
use Rattle.entry_log.proofs.Owners.{get-by_fibers, length-by_fibers}
use Rattle.entry_log.proofs.entry_log.EntryLog.last.Goals as goal

pub returns : goal.returns
returns c =
    let fs = c.self.inside.fibers.items in
    let ds = c.self.inside.deeds.list in
    let fiber = c.in_ok-fiber.field-0.now in
    let deed = c.in_ok-call.field-0 in
    let here : slice_get fs (length fs - 1) ≡ Some fiber = sym (rw c.deref.ensures.value at c.in_ok-fiber.ensures.value) in
    let there : slice_get ds (length fs - 1) ≡ Some deed = ap (λ (n : ℕ). slice_get ds (n - 1)) c.self.invariant ∙ sym c.in_ok-call.ensures in
    sym (get-by_fibers (length fs - 1) fs ds fiber deed here there)
    ∙ (ap (λ (n : ℕ). slice_get (by_fibers fs ds) (n - 1)) (sym (length-by_fibers fs ds c.self.invariant))
    ∙ ap (λ (v : Recorded). slice_get v.entries (length v.entries - 1)) c.self.view_is)
