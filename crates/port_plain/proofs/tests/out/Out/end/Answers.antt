use Rattle.std.proofs.Common.{refl}
use Rattle.port_plain.proofs.Callable.{can_end, shown_fits}
use Rattle.port_plain.proofs.Handing.{home_in}
use Rattle.port_plain.proofs.tests.out.Out.end.Goals as goal

pub make_ready-requires : goal.make_ready-requires
make_ready-requires c = c.self.invariant

pub end-requires-clause-can : goal.end-requires-clause-can
end-requires-clause-can c = can_end c.make_ready.ensures.out c.in_ok-make_ready.ensures.owes c.in_ok-make_ready.ensures.room c.args.outcome

pub end-requires-clause-after : goal.end-requires-clause-after
end-requires-clause-after c = λ noted notes rest. shown_fits _ refl c.make_ready.ensures.out notes

pub invariant_of-result : goal.invariant_of-result
invariant_of-result c = home_in c.make_ready.ensures.out c.in-Ok.ensures.made c.in-Ok.ensures.out
