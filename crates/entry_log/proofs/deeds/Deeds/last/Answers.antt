use Rattle.std.proofs.Common.{◌≡◌, ◌-◌, List, Some, slice_get, length, take, drop, ap, sym, refl, ◌∙◌}
use Rattle.entry_log.specs.declared.kind.Deed.{Deed}
use Rattle.entry_log.specs.Kept.{Kept}
use Rattle.entry_log.specs.Packing.{width, wholes}
use Rattle.entry_log.specs.Reading.{deed_of, deeds_of}
use Rattle.entry_log.proofs.Lists.{deeds-split, get_push, last_split}
use Rattle.entry_log.proofs.deeds.Deeds.last.Goals as goal

pub returns : goal.returns
returns c =
    let k = c.in_ok-kind.field-0.now in
    let all = c.self.inside.kinds.items in
    let ns = c.self.inside.numbers.items in
    let ds = c.self.inside.kept.items in
    let found : Some k ≡ slice_get all (length all - 1) = rw c.deref.ensures.value at c.in_ok-kind.ensures.value in
    let split = deeds-split all (take (length all - 1) all) k ns ds (last_split all k (sym found)) c.self.invariant.0 c.self.invariant.1 in
    let numbers : c.split_at.result.1.now ≡ drop (length ns - width k) ns = rw (c.split_at.ensures.back, c.deref-2.ensures.value, c.len.ensures, c.width.ensures, c.self.inside.numbers.ok.0) refl in
    let kept : c.split_at-2.result.1.now ≡ drop (length ds - wholes k) ds = rw (c.split_at-2.ensures.back, c.deref-3.ensures.value, c.len-2.ensures, c.wholes.ensures, c.self.inside.kept.ok.0) refl in
    let read : c.read.result ≡ deed_of k (drop (length ns - width k) ns) (drop (length ds - wholes k) ds) = rw (sym numbers, sym kept) c.read.ensures in
    let before = deeds_of (take (length all - 1) all) (take (length ns - width k) ns) (take (length ds - wholes k) ds) in
    let was = ap (λ (v : Kept). slice_get v.list (length v.list - 1)) c.self.view_is in
    rw read (sym (ap (λ (list : List Deed). slice_get list (length list - 1)) split ∙ get_push before (deed_of k (drop (length ns - width k) ns) (drop (length ds - wholes k) ds))) ∙ was)
