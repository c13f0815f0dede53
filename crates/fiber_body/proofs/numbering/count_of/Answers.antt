use Rattle.std.proofs.Common.{◌+◌, drop, length, ◌<◌, ℕ, ap, ◌∙◌, arith}
use Rattle.fiber_body.specs.Context.{count_of}
use Rattle.fiber_body.specs.Counted.{sort_counted}
use Rattle.fiber_body.proofs.Declared.{no_more, one_counted}
use Rattle.fiber_body.proofs.numbering.count_of.Goals as goal

pub behind-count-requires : goal.behind-count-requires
behind-count-requires c = omega (arith, c.requires, c.loop-decl.invariant.1, c.loop-decl-test.true)

pub loop-decl-preserved : goal.loop-decl-preserved
loop-decl-preserved c =
    let sort = sort_counted c.args.counted in
    let all = c.args.decls.now in
    let at = c.loop-decl.decl-index in
    let within : at < length all = c.loop-decl-test.true in
    let more = one_counted sort c.loop-decl.count at c.decl-item.result all all within c.decl-item.is c.loop-decl.invariant.0 in
    let least = no_more sort c.loop-decl.count c.decl-item.result.kind in (
      ap (λ (n : ℕ). n + count_of sort (drop (at + 1) all)) c.behind-count.ensures ∙ more,
      omega (arith, least, c.behind-count.ensures, c.loop-decl.invariant.1),
    )
