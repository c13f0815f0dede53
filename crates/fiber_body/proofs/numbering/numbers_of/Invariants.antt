use Rattle.std.proofs.Common.{◌≡◌, ◌+◌, ◌≤◌, ◌++◌, drop}
use Rattle.fiber_body.specs.Context.{numbers_of}
use Rattle.fiber_body.specs.Counted.{sort_counted}
use Rattle.fiber_body.proofs.numbering.numbers_of.Given as goal

-- behind the numbers so far come those of the declarations that are left
abbrev pub invariant-loop-decl : goal.invariant-loop-decl
invariant-loop-decl l =
    (l.numbers.items ++ numbers_of (sort_counted l.counted) l.next (drop l.decl-index l.decls) ≡ numbers_of (sort_counted l.counted) l.first l.decls)
    × (l.next ≤ l.decl-index + 1)
