use Rattle.std.proofs.Common.{◌≡◌, ◌≢◌, ◌+◌, ◌-◌, ◌<◌, ℕ, List, None, slice_get, refl, ap, subst, sym, ◌∙◌, arith, rules}
use Rattle.std.specs.Bool.{OnTrue}
use Rattle.script_tree.specs.declared.program.Stmt.{Stmt}
use Rattle.script_tree.specs.Tree.{Tree}
use Rattle.fiber_body.specs.declared.standing.Exit.{Exit}
use Rattle.fiber_body.specs.declared.standing.Exit.TheVariants.{Next}
use Rattle.fiber_body.specs.declared.standing.Standing.{Standing}
use Rattle.fiber_body.specs.declared.standing.Standing.TheVariants.{At, Out}
use Rattle.fiber_body.specs.Context.{block_at}
use Rattle.fiber_body.specs.Shown.{Shown, stood}
use Rattle.fiber_body.specs.Texts.{script_in}
use Rattle.fiber_poll.specs.Moving.{EndsAtOnce, Goes, behind_at, branched, weight}
use Rattle.fiber_poll.proofs.Entering.{branch_on, branched_lighter, branched_stands}
use Rattle.fiber_poll.proofs.Moves.{behind_within, goes_trans, same_frames, statement_on}
use Rattle.fiber_poll.proofs.silent.run_silently.Goals as goal

-- the statements are those of the block in the body's program
here : (old : Shown) {tree : Tree} {stmts : List Stmt} (block : ℕ) → script_in old.program ≡ tree → stmts ≡ block_at tree.blocks block → stmts ≡ block_at (script_in old.program).blocks block
here old block program are = are ∙ ap (λ (t : Tree). block_at t.blocks block) (sym program)

pub loop-steps-preserved-in_default : goal.loop-steps-preserved-in_default
loop-steps-preserved-in_default c =
    let l = c.loop-steps in
    let went = c.in-Some-go_on.ensures.went in (
      goes_trans c.args.body.now (stood l.body (At l.spot.block l.spot.place) l.steps) (stood c.go_on.new.body (At c.in-Some-go_on.next.block c.in-Some-go_on.next.place) c.in-Some-go_on.left) l.invariant.0 went.goes,
      (let less = went.lighter in let before = l.invariant.1 in omega (arith, less, before)),
      c.stmts_of-stmts.ensures.is,
      c.stmts_of-stmts.ensures.few,
      c.stmts_of-stmts.ensures.fit,
    )

pub at_once-requires : goal.at_once-requires
at_once-requires c = (c.args.program.now, c.loop-steps.spot.block, c.loop-steps.invariant.4 c.loop-steps.spot.place c.in-Some.stmt.now c.in-Some.ensures.some)

pub overflow_add-spot : goal.overflow_add-spot
overflow_add-spot c = let within = behind_within c.loop-steps.stmts.now c.loop-steps.spot.place c.in-Some.stmt.now c.in-Some.ensures.some c.loop-steps.invariant.3 in omega (arith, within)

pub take_branch-requires-clause-within : goal.take_branch-requires-clause-within
take_branch-requires-clause-within c = behind_within c.loop-steps.stmts.now c.loop-steps.spot.place c.in-Some.stmt.now c.in-Some.ensures.some c.loop-steps.invariant.3

pub loop-steps-preserved-in-Chooses : goal.loop-steps-preserved-in-Chooses
loop-steps-preserved-in-Chooses c =
    let l = c.loop-steps in
    let b : Shown = c.take_branch.new.body in
    let inner : ℕ = c.in-Chooses.inner in
    let last = c.is_none-last.result in
    let a : Shown = stood l.body (At l.spot.block l.spot.place) l.steps in
    let stands : c.stand.new.self ≡ a =
    c.stand.ensures ∙ (ap (λ (st : Standing). stood c.at_once.new.body st l.steps) c.here.ensures ∙ ap (λ (z : Shown). stood z (At l.spot.block l.spot.place) l.steps) c.in-Chooses.ensures.0) in
    let entered : b ≡ branched a l.spot inner last = c.in_ok-take_branch-in-Chooses.ensures.entered ∙ ap (λ (z : Shown). branched z l.spot inner last) stands in
    let there : b ≡ stood b (At inner 0) (l.steps - 1) = entered ∙ (branched_stands a l.spot inner last ∙ ap (λ (z : Shown). stood z (At inner 0) (l.steps - 1)) (sym entered)) in
    let over : OnTrue last (slice_get l.stmts.now (l.spot.place + 1) ≡ None) = search rules in (
      subst (Goes c.args.body.now) there
          (branch_on c.args.body.now l.body l.spot.block l.spot.place l.steps l.invariant.0 b l.stmts.now c.in-Some.stmt.now inner last (here c.args.body.now l.spot.block c.requires.program l.invariant.2) l.invariant.3 c.in-Some.ensures.some
          c.loop-steps-test.true c.in-Chooses.ensures.1 over entered),
      (let same = ap weight (sym there ∙ entered) in let less = branched_lighter l.body l.spot inner last l.spot.block l.spot.place l.steps c.loop-steps-test.true in let before = l.invariant.1 in omega (arith, same, less, before)),
      c.block_at-stmts-in-Chooses.ensures.is,
      c.block_at-stmts-in-Chooses.ensures.few,
      c.block_at-stmts-in-Chooses.ensures.fit,
    )

pub overflow_add-spot-in-loop-steps : goal.overflow_add-spot-in-loop-steps
overflow_add-spot-in-loop-steps c = let within = behind_within c.loop-steps.stmts.now c.loop-steps.spot.place c.in-Some.stmt.now c.in-Some.ensures.some c.loop-steps.invariant.3 in omega (arith, within)

pub loop-steps-preserved : goal.loop-steps-preserved
loop-steps-preserved c =
    let l = c.loop-steps in
    let b : Shown = c.at_once.new.body in
    let one : Stmt = c.in-Some.stmt.now in
    let ends : EndsAtOnce l.body b one Next = subst (EndsAtOnce l.body b one) c.in-Next.is c.in-Ends.ensures in (
      statement_on c.args.body.now l.body l.spot.block l.spot.place l.steps l.invariant.0 b l.stmts.now one Next (here c.args.body.now l.spot.block c.requires.program l.invariant.2) l.invariant.3 c.in-Some.ensures.some c.loop-steps-test.true ends,
      (let less = l.invariant.1 in let same = same_frames l.body b one Next ends in omega (arith, less, same, c.loop-steps-test.true)),
      l.invariant.2,
      l.invariant.3,
      l.invariant.4,
    )

out_of : (place : ℕ) (block : ℕ) (x : Exit) → x ≢ Next → behind_at (record { block = block; place = place }) x ≡ Out x
out_of place block Next apart = absurd (apart refl)
out_of place block x apart = refl

pub returns-in_default-exit : goal.returns-in_default-exit
returns-in_default-exit c =
    let l = c.loop-steps in
    let b : Shown = c.at_once.new.body in
    let one : Stmt = c.in-Some.stmt.now in
    let x : Exit = c.in-Ends.exit in
    let ends : EndsAtOnce l.body b one x = c.in-Ends.ensures in
    let there : stood b (behind_at (record { block = l.spot.block; place = l.spot.place }) x) (l.steps - 1) ≡ c.stand-in_default-exit.new.self =
    ap (λ (st : Standing). stood b st (l.steps - 1)) (out_of l.spot.place l.spot.block x c.in_default-exit.not-Next) ∙ sym c.stand-in_default-exit.ensures in
    let less : weight c.stand-in_default-exit.new.self < weight c.args.body.now =
    (let before = l.invariant.1 in let same = same_frames l.body b one x ends in let light : weight c.stand-in_default-exit.new.self ≡ weight (stood b (Out x) (l.steps - 1)) = ap weight c.stand-in_default-exit.ensures in omega (arith, before, same, light, c.loop-steps-test.true)) in
    record {
      goes = subst (Goes c.args.body.now) there
          (statement_on c.args.body.now l.body l.spot.block l.spot.place l.steps l.invariant.0 b l.stmts.now one x (here c.args.body.now l.spot.block c.requires.program l.invariant.2) l.invariant.3 c.in-Some.ensures.some c.loop-steps-test.true ends);
      no_heavier = omega (arith, less);
      lighter = λ none. less;
      left = tt;
    }
