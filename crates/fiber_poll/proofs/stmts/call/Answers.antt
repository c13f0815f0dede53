use Rattle.fiber_poll.proofs.Going.{on_trans}
use Rattle.fiber_poll.proofs.stmts.call.Goals as goal

pub returns-in_err-discharge-clause-on : goal.returns-in_err-discharge-clause-on
returns-in_err-discharge-clause-on g c = on_trans c.in_ok-may_owe.ensures.on c.discharge.ensures.on

pub returns-in_ok-discharge-clause-on : goal.returns-in_ok-discharge-clause-on
returns-in_ok-discharge-clause-on g c = on_trans c.in_ok-may_owe.ensures.on c.discharge.ensures.on
