use Rattle.std.proofs.Common.{refl}
use Rattle.std.proofs.lemmas.Bool.{false≢true}
use Rattle.pic_machine.specs.History.{world}
use Rattle.pic_machine.proofs.Finals.{busy_unless_final}
use Rattle.pic_machine.proofs.Lawfully.{starts_lawful}
use Rattle.pic_machine.proofs.Onward.{kept_same}
use Rattle.port_plain.specs.Shown.{origin_in, sight_of}
use Rattle.port_plain.proofs.port.PlainPortPort.idle.Goals as goal

pub returns-else-is_final-clause-busy : goal.returns-else-is_final-clause-busy
returns-else-is_final-clause-busy g c = λ busy. (
  kept_same (sight_of g.B.Carried.seen c.args.self.now) c.if-is_final.ensures.legal,
  refl,
  busy_unless_final (world (origin_in g.B.Carried.seen c.args.self.now) c.args.self.now.front)
      (starts_lawful c.args.self.now.start (g.B.Carried.seen c.args.self.now.main).birth c.args.self.now.front c.if-is_final.ensures.legal).tied
      (λ final. false≢true (c.if-is_final.ensures.done.1 final)),
)
