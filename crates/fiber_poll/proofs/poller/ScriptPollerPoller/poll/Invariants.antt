use Rattle.pic_machine.specs.Lending.{Calm}
use Rattle.fiber_poll.specs.UnderWay.{IsOn, weight_in}
use Rattle.fiber_poll.proofs.poller.ScriptPollerPoller.poll.Given as goal

-- what the turn did so far, and that nobody was in the way
abbrev pub invariant-loop-spot : goal.invariant-loop-spot
invariant-loop-spot g l = IsOn (g.P.Port.sight l.fn.port) (g.P.Port.sight l.port) l.fn.body l.body (g.R.ReadyLine.told l.fn.line) (g.R.ReadyLine.told l.line)
    × Calm (g.P.Port.sight l.fn.port) (g.P.Port.sight l.port)

-- each wait that is over at once leaves less to do
abbrev pub decreases-loop-spot : goal.decreases-loop-spot
decreases-loop-spot g l = weight_in (g.P.Port.sight l.port) l.body
