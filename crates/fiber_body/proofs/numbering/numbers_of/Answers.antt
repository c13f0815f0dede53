use Rattle.std.proofs.Common.{◌+◌, ◌++◌, ◌∷◌, [], drop, length, ◌<◌, ℕ, List, ap, ◌∙◌, arith}
use Rattle.fiber_body.specs.Context.{numbers_of}
use Rattle.fiber_body.specs.Counted.{sort_counted}
use Rattle.fiber_body.proofs.Declared.{no_more, numbered}
use Rattle.fiber_body.proofs.numbering.numbers_of.Goals as goal

pub behind-next-requires : goal.behind-next-requires
behind-next-requires c = omega (arith, c.requires.few, c.loop-decl.invariant.1, c.loop-decl-test.true)

pub loop-decl-preserved : goal.loop-decl-preserved
loop-decl-preserved c =
    let sort = sort_counted c.args.counted in
    let all = c.args.decls.now in
    let at = c.loop-decl.decl-index in
    let within : at < length all = c.loop-decl-test.true in
    let more = numbered sort c.loop-decl.numbers.items c.loop-decl.next c.args.first at c.decl-item.result all all within c.decl-item.is c.loop-decl.invariant.0 in
    let least = no_more sort c.loop-decl.next c.decl-item.result.kind in (
      ap (λ (ns : List ℕ). ns ++ numbers_of sort c.behind-next.result (drop (at + 1) all)) c.in_ok-push.ensures.items
          ∙ (ap (λ (n : ℕ). (c.loop-decl.numbers.items ++ c.loop-decl.next ∷ []) ++ numbers_of sort n (drop (at + 1) all)) c.behind-next.ensures ∙ more),
      omega (arith, least, c.behind-next.ensures, c.loop-decl.invariant.1),
    )
