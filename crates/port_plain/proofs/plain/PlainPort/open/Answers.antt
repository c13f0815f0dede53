use Rattle.std.proofs.Common.{[], refl}
use Rattle.port_plain.proofs.Beginning.{opened_stored, roomy}
use Rattle.port_plain.proofs.plain.PlainPort.open.Goals as goal

pub invariant_of-result : goal.invariant_of-result
invariant_of-result g c =
    rw (c.new.ensures, c.new-2.ensures.items, c.in_ok-start.ensures, c.in_ok-push.ensures.items, c.in_ok-bodies.ensures.items, c.of-of_main.ensures) (
      opened_stored g.B.Carried.seen g.B.Carried.fits c.args.start.now c.args.main c.args.clock c.number.new.self c.reserve.new.self c.requires.start
          c.requires.main c.number.ensures.seen
          (g.met.B.Carried.fits_fresh c.args.main c.number.new.self c.requires.main.fitting c.requires.main.unnumbered c.number.ensures.rest (rw c.number.ensures.seen refl) (rw c.number.ensures.seen refl) (rw c.number.ensures.seen refl))
          c.requires.clock c.reserve.ensures.notes c.in_ok-reserve.ensures.room
          (g.met.B.Carried.fits_same c.args.clock c.reserve.new.self [] c.requires.clock.fitting c.reserve.ensures.rest (roomy (g.B.Carried.seen c.args.clock) (g.B.Carried.seen c.reserve.new.self) c.reserve.ensures.notes)),
      refl,
    )
