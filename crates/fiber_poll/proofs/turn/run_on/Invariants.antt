use Rattle.std.proofs.Common.{◌≡◌, ◌≤◌, []}
use Rattle.pic_machine.specs.Lending.{Calm}
use Rattle.fiber_poll.specs.UnderWay.{IsOn, weight_in}
use Rattle.fiber_poll.proofs.turn.run_on.Given as goal

-- what the blocks so far did, that nobody was in the way, that nothing is owed, and that no more is left to do
abbrev pub invariant-loop-outcome : goal.invariant-loop-outcome
invariant-loop-outcome g l = IsOn (g.P.Port.sight l.fn.port) (g.P.Port.sight l.port) l.fn.body l.body (g.R.ReadyLine.told l.fn.line) (g.R.ReadyLine.told l.line)
    × Calm (g.P.Port.sight l.fn.port) (g.P.Port.sight l.port) × (l.body.owes ≡ []) × (weight_in (g.P.Port.sight l.port) l.body ≤ weight_in (g.P.Port.sight l.fn.port) l.fn.body)

-- each leaves less to do
abbrev pub decreases-loop-outcome : goal.decreases-loop-outcome
decreases-loop-outcome g l = weight_in (g.P.Port.sight l.port) l.body
