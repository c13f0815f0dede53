-- What those may rest on who run fibers on this port alone.
use Rattle.std.proofs.Common.{inl, inr, arith}
use Rattle.pic_machine.specs.Sight.{Carry}
use Rattle.pic_machine.specs.Lending.{Rose}
use Rattle.port_plain.specs.Shown.{Shown, sight_of}

-- nobody was in the way, so no call was refused for that
pub never_again : {B S : Type 0} (seen : B → Carry S) (old new : Shown B) → Rose (sight_of seen old).contention (sight_of seen new).contention → ⊥
never_again seen old new (inl more) = omega (arith, more)
never_again seen old new (inr most) = omega (arith, most)
