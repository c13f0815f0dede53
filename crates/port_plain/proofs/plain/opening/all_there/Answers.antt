use Rattle.std.proofs.Common.{length, sym, ap, arith, List, Option, ◌≡◌}
use Rattle.port_plain.proofs.Unloading.{none_empty, unloaded, unloads_more}
use Rattle.port_plain.proofs.plain.opening.all_there.Goals as goal

pub loop-place-init : goal.loop-place-init
loop-place-init g c =
    let items : c.into_iter-place-iterator.result.rest.items ≡ c.args.places.items = c.into_iter-place-iterator.ensures.into_iter_gives.0 in
    let count : c.into_iter-place-iterator.result.rest.len ≡ c.args.places.len = c.into_iter-place-iterator.ensures.into_iter_gives.1 in
    record {
      so_far = rw c.requires.empty items;
      count = omega (arith, count, c.args.places.ok.0, ap (λ (xs : List (Option g.row.B.Denot)). length xs) items);
      room = omega (arith, count, c.requires.room, c.args.room.ok.0, ap (λ (xs : List g.row.B.Denot). length xs) c.requires.empty);
    }

pub push_reserved-requires : goal.push_reserved-requires
push_reserved-requires g c = omega (arith, c.loop-place.invariant.room, c.in-Some.ensures.steps.1)

pub loop-place-preserved : goal.loop-place-preserved
loop-place-preserved g c =
    rw c.push_reserved.ensures.items
    (unloads_more c.args.places.items c.loop-place.place-iterator.rest.items c.next.new.self.rest.items c.loop-place.bodies.items c.loop-place.place-iterator.rest.len c.next.new.self.rest.len c.loop-place.bodies.len c.push_reserved.new.self.len
    c.push_reserved.new.self.cap c.in-Some-place.body (rw c.push_reserved.ensures.capacity c.loop-place.invariant) (rw (sym c.in-Some-place.is) c.in-Some.ensures.steps.0) c.in-Some.ensures.steps.1 c.push_reserved.ensures.len)

pub unreachable-requires : goal.unreachable-requires
unreachable-requires g c =
    none_empty c.args.places.items c.loop-place.place-iterator.rest.items c.next.new.self.rest.items c.loop-place.bodies.items c.loop-place.place-iterator.rest.len c.loop-place.bodies.len c.loop-place.bodies.cap c.loop-place.invariant
    (rw (sym c.in-None-place.is) c.in-Some.ensures.steps.0) c.requires.none

pub returns : goal.returns
returns g c =
    unloaded c.args.places.items c.loop-place.place-iterator.rest.items c.loop-place.bodies.items c.loop-place.place-iterator.rest.len c.loop-place.bodies.len c.loop-place.bodies.cap c.loop-place.invariant c.in-None.ensures.steps.0
