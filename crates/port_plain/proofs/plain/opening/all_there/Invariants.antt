use Rattle.port_plain.proofs.Unloading.{Unloads}
use Rattle.port_plain.proofs.plain.opening.all_there.Given as goal

abbrev pub invariant-loop-place : goal.invariant-loop-place
invariant-loop-place g l = Unloads l.fn.places.items l.place-iterator.rest.items l.bodies.items l.place-iterator.rest.len l.bodies.len l.bodies.cap
