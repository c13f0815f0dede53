use Rattle.std.proofs.Common.{◌≡◌, ◌-◌, List, length, take, ap, sym, refl, ◌∙◌}
use Rattle.entry_log.specs.declared.kind.Deed.{Deed}
use Rattle.entry_log.specs.Kept.{Kept}
use Rattle.entry_log.specs.Packing.{width, wholes}
use Rattle.entry_log.proofs.Lists.{deeds-split, take_push}
use Rattle.entry_log.proofs.deeds.Deeds.unnote.Goals as goal

pub returns-in-Some-clause-list : goal.returns-in-Some-clause-list
returns-in-Some-clause-list c =
    let k = c.in-Some.kind in
    let ns = c.self.inside.numbers.items in
    let ds = c.self.inside.kept.items in
    let split = deeds-split c.self.inside.kinds.items c.pop.new.self.items k ns ds c.in-Some.ensures.items c.self.invariant.0 c.self.invariant.1 in
    let numbers : c.truncate.new.self.items ≡ take (length ns - width k) ns = rw (c.truncate.ensures.items, c.len.ensures, c.width.ensures, c.self.inside.numbers.ok.0) refl in
    let kept : c.truncate-in-Some.new.self.items ≡ take (length ds - wholes k) ds = rw (c.truncate-in-Some.ensures.items, c.len-in-Some.ensures, c.wholes.ensures, c.self.inside.kept.ok.0) refl in
    let was = ap (λ (v : Kept). take (length v.list - 1) v.list) c.self.view_is in
    rw (numbers, kept) (sym (ap (λ (all : List Deed). take (length all - 1) all) split ∙ take_push _ _) ∙ was)
