use Rattle.std.proofs.Common.{◌≡◌, ◌≤◌, length}
use Rattle.fiber_body.specs.declared.standing.Standing.TheVariants.{At}
use Rattle.fiber_body.specs.Context.{block_at}
use Rattle.fiber_body.specs.Shown.{stood}
use Rattle.fiber_body.specs.Texts.{EachFits}
use Rattle.fiber_poll.specs.Moving.{Goes, weight}
use Rattle.fiber_poll.proofs.silent.run_silently.Given as goal

abbrev pub decreases-loop-steps : goal.decreases-loop-steps
decreases-loop-steps l = weight (stood l.body (At l.spot.block l.spot.place) l.steps)

-- at this place and with these steps the body stands where the turn went, which is no farther; and the statements are
-- those of the block there
abbrev pub invariant-loop-steps : goal.invariant-loop-steps
invariant-loop-steps l =
    Goes l.fn.body (stood l.body (At l.spot.block l.spot.place) l.steps)
    × (weight (stood l.body (At l.spot.block l.spot.place) l.steps) ≤ weight l.fn.body)
    × (l.stmts ≡ block_at l.fn.program.blocks l.spot.block)
    × (length l.stmts ≤ 10000)
    × EachFits l.fn.program l.spot.block l.stmts
