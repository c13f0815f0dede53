use Rattle.std.proofs.Common.{refl}
use Rattle.pic_machine.specs.declared.entry.Call.TheVariants.{Attach}
use Rattle.pic_machine.specs.declared.entry.Reply.TheVariants as reply
use Rattle.fiber_await.proofs.Calling.{each_called, each_refused}
use Rattle.fiber_await.proofs.calls.attach.Goals as goal

pub returns-clause-did : goal.returns-clause-did
returns-clause-did g c =
    each_called (g.P.Port.sight c.args.port.now) (g.P.Port.sight c.attach.new.self) (g.P.Body.Carried.seen c.args.body.now) (g.P.Body.Carried.seen c.reserve.new.self) (g.P.Body.Carried.seen c.attach.new.body)
    c.requires.free c.reserve.ensures.notes (Attach c.args.place c.args.comp c.args.trigger) (λ how. reply.Attached how) c.attach.result (λ how. record { brings = tt; on = refl; none = λ f. refl; within = refl }) c.attach.ensures.made

pub returns-clause-refused : goal.returns-clause-refused
returns-clause-refused g c =
    each_refused (g.P.Port.sight c.args.port.now) (g.P.Port.sight c.attach.new.self) (g.P.Body.Carried.seen c.args.body.now) (g.P.Body.Carried.seen c.reserve.new.self) (g.P.Body.Carried.seen c.attach.new.body)
    c.requires.free c.reserve.ensures.notes c.attach.result c.attach.ensures.none
