use Rattle.std.proofs.Common.{length}
use Rattle.pic_machine.specs.Lending.{Calm}
use Rattle.fiber_await.specs.Discharging.{Discharged}
use Rattle.fiber_await.proofs.owed.discharge.Given as goal

-- what the signals so far did, and that nobody was in the way
abbrev pub invariant-loop-duty : goal.invariant-loop-duty
invariant-loop-duty g l = record {
  done : Discharged (g.P.Port.sight l.fn.port) (g.P.Port.sight l.port) (g.P.Body.Carried.seen l.fn.body) (g.P.Body.Carried.seen l.body) (g.R.ReadyLine.told l.fn.line) (g.R.ReadyLine.told l.line);
  calm : Calm (g.P.Port.sight l.fn.port) (g.P.Port.sight l.port);
  rest : g.P.Body.Carried.same_rest l.fn.body l.body;
}

-- each takes one duty away
abbrev pub decreases-loop-duty : goal.decreases-loop-duty
decreases-loop-duty g l = length (g.P.Body.Carried.seen l.body).owes
