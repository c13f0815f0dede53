use Rattle.fiber_await.proofs.Owning.{first_known, owns_first}
use Rattle.fiber_await.proofs.Stages.{first_made, follow_gave_up}
use Rattle.fiber_await.proofs.following.make_first.Goals as goal

pub make_ready-ready-requires-clause-trigger : goal.make_ready-ready-requires-clause-trigger
make_ready-ready-requires-clause-trigger g c = first_known (g.P.Port.sight c.args.port.now) (g.P.Body.Carried.seen c.args.body.now) c.args.parts.now c.requires.at.0 c.requires.at.1 c.requires.own

pub returns-clause-ran : goal.returns-clause-ran
returns-clause-ran g c comp =
    first_made _ _ _ _ c.args.s.now comp c.args.parts.now c.make_ready-ready.new.parts c.requires.at.0 c.requires.at.1 c.make_ready-ready.ensures.at c.make_ready-ready.ensures.ran

pub returns-clause-own : goal.returns-clause-own
returns-clause-own g c =
    owns_first (g.P.Port.sight c.args.port.now) (g.P.Port.sight c.make_ready-ready.new.port) (g.P.Body.Carried.seen c.args.body.now) (g.P.Body.Carried.seen c.make_ready-ready.new.body) c.args.parts.now c.make_ready-ready.new.parts c.requires.at.0 c.requires.at.1 c.make_ready-ready.ensures.at c.make_ready-ready.ensures.own c.requires.own

pub returns-clause-gave_up : goal.returns-clause-gave_up
returns-clause-gave_up g c =
    follow_gave_up (g.P.Port.sight c.args.port.now) (g.P.Port.sight c.make_ready-ready.new.port) c.make_ready-ready.new.parts c.make_ready-ready.result c.make_ready-ready.ensures.gave_up
