use Rattle.std.proofs.Common.{refl}
use Rattle.port_plain.proofs.Callable.{can_park, shown_fits}
use Rattle.port_plain.proofs.Handing.{home_in, unparked_out}
use Rattle.port_plain.proofs.tests.out.Out.park.Goals as goal

pub make_ready-requires : goal.make_ready-requires
make_ready-requires c = c.self.invariant

pub park-requires-clause-can : goal.park-requires-clause-can
park-requires-clause-can c = can_park c.make_ready.ensures.out c.in_ok-make_ready.ensures.owes c.in_ok-make_ready.ensures.room c.args.trigger c.requires

pub park-requires-clause-after : goal.park-requires-clause-after
park-requires-clause-after c = λ noted notes rest. shown_fits _ refl c.make_ready.ensures.out notes

pub invariant_of-result : goal.invariant_of-result
invariant_of-result c = home_in c.make_ready.ensures.out c.in-Ok.ensures.made c.in-Ok.ensures.out

pub invariant_of-result-in-Err-default-Signalled : goal.invariant_of-result-in-Err-default-Signalled
invariant_of-result-in-Err-default-Signalled c = unparked_out _ _ c.make_ready.ensures.out c.in-Err-default-Signalled.ensures.none.0

pub invariant_of-result-in-Err-default-Taken : goal.invariant_of-result-in-Err-default-Taken
invariant_of-result-in-Err-default-Taken c = unparked_out _ _ c.make_ready.ensures.out c.in-Err-default-Taken.ensures.none.0
