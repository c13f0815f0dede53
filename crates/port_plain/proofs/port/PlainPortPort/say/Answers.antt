use Rattle.port_plain.proofs.Lent.{said}
use Rattle.port_plain.proofs.port.PlainPortPort.say.Goals as goal

pub returns-clause-made : goal.returns-clause-made
returns-clause-made g c =
    said g.B.Carried.seen c.args.self.now c.lend.new.self (g.B.Carried.seen c.args.body.now) (g.B.Carried.seen c.lend.new.body) c.args.value c.in_ok-lend.field-0
    c.requires c.in_ok-lend.ensures.reply c.in_ok-lend.ensures.made
