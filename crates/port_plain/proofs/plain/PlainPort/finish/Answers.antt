use Rattle.std.proofs.Common.{◌≡◌, ◌∙◌, refl}
use Rattle.pic_machine.specs.declared.entry.Reply.TheVariants.{Plain}
use Rattle.pic_machine.specs.History.{world}
use Rattle.port_plain.specs.Shown.{origin_in}
use Rattle.port_plain.proofs.Lent.{refused}
use Rattle.port_plain.proofs.Turns.{finished, finished_home, last_over, last_plain}
use Rattle.port_plain.proofs.plain.PlainPort.finish.Goals as goal

pub returns-in_default-clause-none : goal.returns-in_default-clause-none
returns-in_default-clause-none g c =
    ((refused g.B.Carried.seen c.args.self.now c.make.new.self (g.B.Carried.seen c.args.body) c.in_default.ensures.err c.requires.can.holds, refl), g.met.B.Carried.rest_same c.args.body)

pub keep-requires-clause-home : goal.keep-requires-clause-home
keep-requires-clause-home g c =
    let plain : c.in-Ok.reply ≡ Plain = c.in-Ok.ensures.follows.reply ∙ last_plain (world (origin_in g.B.Carried.seen c.args.self.now) c.args.self.now.front) c.fiber-fiber.result c.args.call c.requires.last in
    finished_home g.B.Carried.seen g.B.Carried.fits g.B.Carried.same_rest c.args.self.now c.make.new.self c.args.body c.requires.can.holds c.fiber-fiber.result c.fiber-fiber.ensures c.args.call c.in-Ok.reply Plain
    c.in-Ok.ensures.made c.in-Ok.ensures.follows (last_over c.args.call c.requires.last) plain c.note.new.self c.note.ensures.notes c.note.ensures.rest c.requires.after

pub returns-clause-made : goal.returns-clause-made
returns-clause-made g c =
    let plain : c.in-Ok.reply ≡ Plain = c.in-Ok.ensures.follows.reply ∙ last_plain (world (origin_in g.B.Carried.seen c.args.self.now) c.args.self.now.front) c.fiber-fiber.result c.args.call c.requires.last in
    finished g.B.Carried.seen g.B.Carried.fits g.B.Carried.same_rest c.args.self.now c.make.new.self c.args.body c.requires.can.holds c.fiber-fiber.result c.fiber-fiber.ensures c.args.call c.in-Ok.reply Plain
    c.in-Ok.ensures.made c.in-Ok.ensures.follows (last_over c.args.call c.requires.last) plain c.keep.new.self c.keep.ensures
