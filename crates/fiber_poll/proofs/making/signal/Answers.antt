use Rattle.fiber_poll.proofs.Going.{on_err, on_refused}
use Rattle.fiber_poll.proofs.making.signal.Goals as goal

pub returns-in_err-how-clause-refused : goal.returns-in_err-how-clause-refused
returns-in_err-how-clause-refused g c = on_err c.from_residual.result (_) (on_refused c.in_err-how.field-0.0 c.requires.up c.in_err-how.ensures.none c.signal.ensures.rest)
