use Rattle.std.proofs.Common.{refl}
use Rattle.pic_machine.specs.declared.entry.Call.TheVariants.{Look}
use Rattle.pic_machine.specs.declared.entry.Reply.TheVariants as reply
use Rattle.fiber_await.proofs.Calling.{each_answered, each_refused}
use Rattle.fiber_await.proofs.calls.look.Goals as goal

pub returns-clause-did : goal.returns-clause-did
returns-clause-did g c =
    each_answered (g.P.Port.sight c.args.port.now) (g.P.Port.sight c.look.new.self) (g.P.Body.Carried.seen c.args.body.now) (g.P.Body.Carried.seen c.reserve.new.self) (g.P.Body.Carried.seen c.look.new.body)
    c.requires.free c.reserve.ensures.notes (Look c.args.trigger) (λ state. reply.Seen state) c.look.result (λ state. record { brings = tt; on = refl; none = λ f. refl; within = refl }) c.look.ensures.made

pub returns-clause-refused : goal.returns-clause-refused
returns-clause-refused g c =
    each_refused (g.P.Port.sight c.args.port.now) (g.P.Port.sight c.look.new.self) (g.P.Body.Carried.seen c.args.body.now) (g.P.Body.Carried.seen c.reserve.new.self) (g.P.Body.Carried.seen c.look.new.body)
    c.requires.free c.reserve.ensures.notes c.look.result c.look.ensures.none
