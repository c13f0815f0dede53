use Rattle.pic_machine.specs.Lending.{Refuses}
use Rattle.fiber_await.proofs.Answering.{on_err}
use Rattle.fiber_await.proofs.Reserving.{refuses_behind, refuses_reserved}
use Rattle.fiber_await.proofs.calls.signal.Goals as goal

pub returns-then-is_err-clause-refused : goal.returns-then-is_err-clause-refused
returns-then-is_err-clause-refused g c = refuses_reserved _ _ _ c.requires.holds c.reserve.ensures.notes

pub returns-clause-refused : goal.returns-clause-refused
returns-clause-refused g c =
    on_err (λ fault. Refuses fault (g.P.Port.sight c.args.port.now) (g.P.Port.sight c.signal.new.self) (g.P.Body.Carried.seen c.reserve.new.self) (g.P.Body.Carried.seen c.signal.new.body))
    (λ fault. Refuses fault (g.P.Port.sight c.args.port.now) (g.P.Port.sight c.signal.new.self) (g.P.Body.Carried.seen c.args.body.now) (g.P.Body.Carried.seen c.signal.new.body)) c.signal.result
    (λ fault refuses. refuses_behind (g.P.Port.sight c.args.port.now) (g.P.Port.sight c.signal.new.self) (g.P.Body.Carried.seen c.args.body.now) (g.P.Body.Carried.seen c.reserve.new.self) (g.P.Body.Carried.seen c.signal.new.body) fault c.reserve.ensures.notes refuses) c.signal.ensures.none
