use Rattle.std.proofs.Common.{◌≡◌, ℕ, List, drop, take, rules, subst, arith}
use Rattle.std.specs.Io.KnownBytes.{Appends}
use Rattle.pic_io.proofs.Handed.{HandsOn-more}
use Rattle.pic_io.proofs.gathered.Gathered.finish.Goals as goal

pub writes-preserved : goal.writes-preserved
writes-preserved g c =
    let left : c.drop-drain.new.self.0.items ≡ drop c.in_ok-count.count c.writes.self.gathered.items = search rules in
    let took = subst (λ (piece : List ℕ). Appends (g.S.Sink.taken c.writes.self.inner) (g.S.Sink.taken c.put.new.self) (take c.in_ok-count.count piece)) c.as_slice.ensures.value c.in_ok-count.ensures.front in
    (HandsOn-more _ _ _ _ _ _ c.in_ok-count.count c.writes.invariant.0 took left, omega (arith, c.writes.invariant.1, c.put.ensures.steady))
