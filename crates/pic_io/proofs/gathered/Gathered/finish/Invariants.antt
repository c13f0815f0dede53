use Rattle.std.proofs.Common.{◌≤◌, length}
use Rattle.pic_io.specs.Handed.{HandsOn}
use Rattle.pic_io.proofs.gathered.Gathered.finish.Given as goal

-- the part that was handed on is the front of what was gathered
abbrev pub invariant-writes : goal.invariant-writes
invariant-writes g l = HandsOn (g.S.Sink.taken l.initial.self.inner) (g.S.Sink.taken l.self.inner) l.initial.self.gathered.items l.self.gathered.items × (g.S.Sink.fault_count l.initial.self.inner ≤ g.S.Sink.fault_count l.self.inner)

abbrev pub decreases-writes : goal.decreases-writes
decreases-writes g l = length l.self.gathered.items
