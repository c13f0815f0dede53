use Rattle.std.proofs.Common.{◌≡◌, [], ◌∷◌, ◌++◌, refl}
use Rattle.pic_machine.specs.State.{world_at}
use Rattle.port_plain.specs.Paired.{paired}
use Rattle.port_plain.specs.Shown.{Shown, marked}
use Rattle.port_plain.proofs.Keeping.{made_stored}
use Rattle.port_plain.proofs.Pairing.{event_births, event_front, making_none, shown_more, stored_more}
use Rattle.port_plain.proofs.plain.PlainPort.make.Goals as goal

pub invariant_of-self-2 : goal.invariant_of-self-2
invariant_of-self-2 g c =
    let port : Shown g.row.B.Denot = record { start = c.self.inside.start; main = c.self.inside.main.value; front = paired (world_at c.self.inside.start) c.self.inside.history.entries c.self.inside.births.items; out = c.self.inside.out } in
    let more : c.push_reserved.new.self.entries ≡ c.self.inside.history.entries ++ record { fiber = c.args.fiber; call = c.args.call; reply = c.in_ok-reply.reply } ∷ [] = rw (c.push_reserved.ensures.entries, c.reserve.ensures.entries) refl in
    let front = event_front (world_at c.self.inside.start) c.self.inside.history.entries c.push_reserved.new.self.entries c.self.inside.births.items c.args.fiber c.args.call c.in_ok-reply.reply more (making_none c.args.call c.in_ok-reply.reply c.requires.none) in (
      stored_more port (paired (world_at c.self.inside.start) c.push_reserved.new.self.entries c.self.inside.births.items) (λ q. marked g.B.Carried.seen q c.args.fiber c.args.call c.in_ok-reply.reply) front
          g.B.Carried.seen g.B.Carried.fits c.apply.new.self c.self.inside.bodies.items c.self.inside.clock
          (made_stored g.B.Carried.seen g.B.Carried.fits port c.args.self.now c.self.inside.world c.self.inside.bodies.items c.self.inside.clock c.self.view_is c.self.invariant.0
          c.args.fiber c.args.call c.requires.may c.requires.none c.in_ok-reply.reply c.in_ok-reply.ensures.reply c.requires.out c.apply.new.self c.in_ok-reply.ensures.after),
      event_births (world_at c.self.inside.start) c.self.inside.history.entries c.push_reserved.new.self.entries c.self.inside.births.items c.args.fiber c.args.call c.in_ok-reply.reply more (making_none c.args.call c.in_ok-reply.reply c.requires.none) c.self.invariant.1,
    )

pub returns-clause-made : goal.returns-clause-made
returns-clause-made g c =
    let port : Shown g.row.B.Denot = record { start = c.self.inside.start; main = c.self.inside.main.value; front = paired (world_at c.self.inside.start) c.self.inside.history.entries c.self.inside.births.items; out = c.self.inside.out } in
    let more : c.push_reserved.new.self.entries ≡ c.self.inside.history.entries ++ record { fiber = c.args.fiber; call = c.args.call; reply = c.in_ok-reply.reply } ∷ [] = rw (c.push_reserved.ensures.entries, c.reserve.ensures.entries) refl in
    let front = event_front (world_at c.self.inside.start) c.self.inside.history.entries c.push_reserved.new.self.entries c.self.inside.births.items c.args.fiber c.args.call c.in_ok-reply.reply more (making_none c.args.call c.in_ok-reply.reply c.requires.none) in
    shown_more port (paired (world_at c.self.inside.start) c.push_reserved.new.self.entries c.self.inside.births.items) (λ q. marked g.B.Carried.seen q c.args.fiber c.args.call c.in_ok-reply.reply) front c.args.self.now c.self.view_is
