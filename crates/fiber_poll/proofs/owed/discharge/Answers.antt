use Rattle.fiber_poll.proofs.Going.{on_discharged}
use Rattle.fiber_poll.proofs.owed.discharge.Goals as goal

pub returns-clause-on : goal.returns-clause-on
returns-clause-on g c = on_discharged c.requires.up c.discharge.ensures.discharged c.discharge.ensures.own c.discharge.ensures.rest
