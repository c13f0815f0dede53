use Rattle.std.proofs.Common.{◌≡◌, [], ◌∷◌, ◌++◌, Some, refl}
use Rattle.pic_machine.specs.declared.entry.Call.TheVariants.{Fork}
use Rattle.pic_machine.specs.declared.entry.Reply.TheVariants.{Full}
use Rattle.pic_machine.specs.History.{event, forked}
use Rattle.pic_machine.specs.State.{world_at}
use Rattle.port_plain.specs.Paired.{paired}
use Rattle.port_plain.specs.Shown.{Shown}
use Rattle.port_plain.proofs.Forking.{fork_free, fork_stored, full_follows, full_reply, full_stored, made_follows}
use Rattle.port_plain.proofs.Pairing.{event_births, forked_births, forked_front, free_front, making_full, shown_more, stored_more}
use Rattle.port_plain.proofs.plain.PlainPort.make_fiber.Goals as goal

pub invariant_of-self-in-None : goal.invariant_of-self-in-None
invariant_of-self-in-None g c =
    let port : Shown g.row.B.Denot = record { start = c.self.inside.start; main = c.self.inside.main.value; front = paired (world_at c.self.inside.start) c.self.inside.history.entries c.self.inside.births.items; out = c.self.inside.out } in
    let more : c.push_reserved.new.self.entries ≡ c.self.inside.history.entries ++ record { fiber = c.args.fiber; call = Fork c.args.text c.args.value; reply = c.in-Ok.reply } ∷ [] = rw (c.push_reserved.ensures.entries, c.reserve.ensures.entries) refl in
    let free = fork_free g.B.Carried.seen port c.args.self.now c.self.view_is c.args.fiber c.args.text c.args.value c.requires.may in
    let front = free_front (world_at c.self.inside.start) c.self.inside.history.entries c.push_reserved.new.self.entries c.self.inside.births.items c.args.fiber (Fork c.args.text c.args.value) c.in-Ok.reply more (making_full c.args.text c.args.value c.in-Ok.reply c.in-None.ensures) free in
    rw (c.reserve-else-is_err.ensures.items, c.reserve-else-is_err-2.ensures.items) (
      stored_more port (paired (world_at c.self.inside.start) c.push_reserved.new.self.entries c.self.inside.births.items) (λ q. event c.args.fiber (Fork c.args.text c.args.value) c.in-Ok.reply) front
          g.B.Carried.seen g.B.Carried.fits c.apply.new.self c.self.inside.bodies.items c.self.inside.clock
          (full_stored g.B.Carried.seen g.B.Carried.fits port c.args.self.now c.self.inside.world c.self.inside.bodies.items c.self.inside.clock c.self.view_is c.self.invariant.0
          c.args.fiber c.args.text c.args.value c.requires.may c.requires.out c.in-Ok.reply c.in-Ok.ensures.reply c.apply.new.self c.in-Ok.ensures.after c.in-None.ensures),
      event_births (world_at c.self.inside.start) c.self.inside.history.entries c.push_reserved.new.self.entries c.self.inside.births.items c.args.fiber (Fork c.args.text c.args.value) c.in-Ok.reply more (making_full c.args.text c.args.value c.in-Ok.reply c.in-None.ensures) c.self.invariant.1,
    )

pub invariant_of-self-in-Some : goal.invariant_of-self-in-Some
invariant_of-self-in-Some g c =
    let port : Shown g.row.B.Denot = record { start = c.self.inside.start; main = c.self.inside.main.value; front = paired (world_at c.self.inside.start) c.self.inside.history.entries c.self.inside.births.items; out = c.self.inside.out } in
    let more : c.push_reserved.new.self.entries ≡ c.self.inside.history.entries ++ record { fiber = c.args.fiber; call = Fork c.args.text c.args.value; reply = c.in-Ok.reply } ∷ [] = rw (c.push_reserved.ensures.entries, c.reserve.ensures.entries) refl in
    let all : c.push_reserved-in-Some.new.self.items ≡ c.self.inside.births.items ++ (g.B.Carried.seen c.args.child).birth ∷ [] = rw (c.push_reserved-in-Some.ensures.items, c.birth.ensures, c.reserve-else-is_err.ensures.items) refl in
    let free = fork_free g.B.Carried.seen port c.args.self.now c.self.view_is c.args.fiber c.args.text c.args.value c.requires.may in
    let front = forked_front (world_at c.self.inside.start) c.self.inside.history.entries c.push_reserved.new.self.entries c.self.inside.births.items c.push_reserved-in-Some.new.self.items c.args.fiber c.args.text c.args.value c.in-Some.number c.in-Ok.reply (g.B.Carried.seen c.args.child).birth more all c.in-Some.ensures c.self.invariant.1 free c.requires.child.same_text c.requires.child.same_value in
    rw (c.push_reserved-in-Some-2.ensures.items, c.reserve-else-is_err-2.ensures.items) (
      stored_more port (paired (world_at c.self.inside.start) c.push_reserved.new.self.entries c.push_reserved-in-Some.new.self.items) (λ q. forked c.args.fiber c.in-Some.number (g.B.Carried.seen c.args.child).birth) front
          g.B.Carried.seen g.B.Carried.fits c.apply.new.self (c.self.inside.bodies.items ++ Some c.number.new.self ∷ []) c.self.inside.clock
          (fork_stored g.B.Carried.seen g.B.Carried.fits port c.args.self.now c.self.inside.world c.self.inside.bodies.items c.self.inside.clock c.self.view_is c.self.invariant.0
          c.args.fiber c.args.text c.args.value c.requires.may c.requires.out c.in-Ok.reply c.in-Ok.ensures.reply c.apply.new.self c.in-Ok.ensures.after
          c.in-Some.number c.in-Some.ensures c.args.child c.number.new.self c.requires.child
          (rw c.number.ensures.seen refl) (rw c.number.ensures.seen refl) (rw c.number.ensures.seen refl) (rw c.number.ensures.seen refl)
          (g.met.B.Carried.fits_fresh c.args.child c.number.new.self c.requires.fresh c.requires.child.unnumbered c.number.ensures.rest (rw c.number.ensures.seen refl) (rw c.number.ensures.seen refl) (rw c.number.ensures.seen refl))),
      forked_births (world_at c.self.inside.start) c.self.inside.history.entries c.push_reserved.new.self.entries c.self.inside.births.items c.push_reserved-in-Some.new.self.items c.args.fiber c.args.text c.args.value c.in-Some.number c.in-Ok.reply (g.B.Carried.seen c.args.child).birth more all c.in-Some.ensures c.self.invariant.1,
    )

pub returns-in-Some-clause-made : goal.returns-in-Some-clause-made
returns-in-Some-clause-made g c =
    let port : Shown g.row.B.Denot = record { start = c.self.inside.start; main = c.self.inside.main.value; front = paired (world_at c.self.inside.start) c.self.inside.history.entries c.self.inside.births.items; out = c.self.inside.out } in
    let more : c.push_reserved.new.self.entries ≡ c.self.inside.history.entries ++ record { fiber = c.args.fiber; call = Fork c.args.text c.args.value; reply = c.in-Ok.reply } ∷ [] = rw (c.push_reserved.ensures.entries, c.reserve.ensures.entries) refl in
    let all : c.push_reserved-in-Some.new.self.items ≡ c.self.inside.births.items ++ (g.B.Carried.seen c.args.child).birth ∷ [] = rw (c.push_reserved-in-Some.ensures.items, c.birth.ensures, c.reserve-else-is_err.ensures.items) refl in
    let free = fork_free g.B.Carried.seen port c.args.self.now c.self.view_is c.args.fiber c.args.text c.args.value c.requires.may in
    let front = forked_front (world_at c.self.inside.start) c.self.inside.history.entries c.push_reserved.new.self.entries c.self.inside.births.items c.push_reserved-in-Some.new.self.items c.args.fiber c.args.text c.args.value c.in-Some.number c.in-Ok.reply (g.B.Carried.seen c.args.child).birth more all c.in-Some.ensures c.self.invariant.1 free c.requires.child.same_text c.requires.child.same_value in
    shown_more port (paired (world_at c.self.inside.start) c.push_reserved.new.self.entries c.push_reserved-in-Some.new.self.items) (λ q. forked c.args.fiber c.in-Some.number (g.B.Carried.seen c.args.child).birth) front c.args.self.now c.self.view_is

pub returns-in-Some-clause-follows : goal.returns-in-Some-clause-follows
returns-in-Some-clause-follows g c =
    let port : Shown g.row.B.Denot = record { start = c.self.inside.start; main = c.self.inside.main.value; front = paired (world_at c.self.inside.start) c.self.inside.history.entries c.self.inside.births.items; out = c.self.inside.out } in
    made_follows g.B.Carried.seen g.B.Carried.fits port c.args.self.now c.self.inside.world c.self.inside.bodies.items c.self.inside.clock c.self.view_is c.self.invariant.0
    c.args.fiber c.args.text c.args.value c.requires.may c.requires.out c.in-Ok.reply c.in-Ok.ensures.reply c.apply.new.self c.in-Ok.ensures.after
    c.in-Some.number c.in-Some.ensures c.args.child c.number.new.self c.requires.child

pub returns-in-None-clause-err : goal.returns-in-None-clause-err
returns-in-None-clause-err g c =
    let port : Shown g.row.B.Denot = record { start = c.self.inside.start; main = c.self.inside.main.value; front = paired (world_at c.self.inside.start) c.self.inside.history.entries c.self.inside.births.items; out = c.self.inside.out } in
    let full = full_reply g.B.Carried.seen g.B.Carried.fits port c.args.self.now c.self.inside.world c.self.inside.bodies.items c.self.inside.clock c.self.view_is c.self.invariant.0
    c.args.fiber c.args.text c.args.value c.requires.may c.requires.out c.in-Ok.reply c.in-Ok.ensures.reply c.apply.new.self c.in-Ok.ensures.after c.in-None.ensures in
    let more : c.push_reserved.new.self.entries ≡ c.self.inside.history.entries ++ record { fiber = c.args.fiber; call = Fork c.args.text c.args.value; reply = Full } ∷ [] = rw (c.push_reserved.ensures.entries, c.reserve.ensures.entries, full) refl in
    let free = fork_free g.B.Carried.seen port c.args.self.now c.self.view_is c.args.fiber c.args.text c.args.value c.requires.may in
    let front = free_front (world_at c.self.inside.start) c.self.inside.history.entries c.push_reserved.new.self.entries c.self.inside.births.items c.args.fiber (Fork c.args.text c.args.value) Full more refl free in
    rw c.reserve-else-is_err.ensures.items (
      shown_more port (paired (world_at c.self.inside.start) c.push_reserved.new.self.entries c.self.inside.births.items) (λ q. event c.args.fiber (Fork c.args.text c.args.value) Full) front c.args.self.now c.self.view_is,
      full_follows g.B.Carried.seen g.B.Carried.fits port c.args.self.now c.self.inside.world c.self.inside.bodies.items c.self.inside.clock c.self.view_is c.self.invariant.0
          c.args.fiber c.args.text c.args.value c.requires.may c.requires.out c.in-Ok.reply c.in-Ok.ensures.reply c.apply.new.self c.in-Ok.ensures.after c.in-None.ensures,
    )
