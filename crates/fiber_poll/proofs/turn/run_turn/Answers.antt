use Rattle.std.proofs.Common.{◌≡◌, arith}
use Rattle.fiber_poll.specs.Moving.{weight}
use Rattle.fiber_poll.proofs.Going.{on_trans, port_stays}
use Rattle.fiber_poll.proofs.Lighter.{same_weight}
use Rattle.fiber_poll.proofs.Remaking.{last_after, no_heavier}
use Rattle.fiber_poll.proofs.turn.run_turn.Goals as goal

pub run_on-requires-clause-port_of : goal.run_on-requires-clause-port_of
run_on-requires-clause-port_of g c = port_stays c.requires.port_of c.discharge.ensures.on

pub returns-clause-on : goal.returns-clause-on
returns-clause-on g c = on_trans c.discharge.ensures.on c.run_on.ensures.on

pub returns-clause-last : goal.returns-clause-last
returns-clause-last g c =
    let same : weight c.discharge.new.body ≡ weight c.args.body.now = same_weight c.args.body.now c.discharge.new.body c.discharge.ensures.rest in
    last_after (g.P.Port.sight c.args.port.now) (g.P.Port.sight c.discharge.new.port) (g.P.Port.sight c.run_on.new.port) c.args.body.now c.discharge.new.body c.run_on.new.body c.run_on.result (no_heavier c.discharge.ensures.on (omega (arith, same))) c.run_on.ensures.last
