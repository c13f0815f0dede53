use Rattle.std.proofs.Common.{◌≡◌, ◌+◌, ◌≤◌, drop}
use Rattle.fiber_body.specs.Context.{count_of}
use Rattle.fiber_body.specs.Counted.{sort_counted}
use Rattle.fiber_body.proofs.numbering.count_of.Given as goal

-- what is counted so far and what is left make up all
abbrev pub invariant-loop-decl : goal.invariant-loop-decl
invariant-loop-decl l =
    (l.count + count_of (sort_counted l.counted) (drop l.decl-index l.decls) ≡ count_of (sort_counted l.counted) l.decls)
    × (l.count ≤ l.decl-index)
