use Rattle.std.proofs.Common.{refl, ap, ◌∙◌, arith}
use Rattle.pic_machine.specs.Sight.{Carry}
use Rattle.pic_machine.specs.State.{world_at}
use Rattle.port_plain.specs.Shown.{Shown}
use Rattle.port_plain.proofs.Opened.{numbered_clock, opened_in}
use Rattle.port_plain.proofs.tests.home.In.open.Goals as goal

pub open-requires-clause-start : goal.open-requires-clause-start
open-requires-clause-start c = rw c.start.ensures (record { root = omega arith; triggers = omega arith; comps = omega arith; main = omega arith })

pub open-requires-clause-main : goal.open-requires-clause-main
open-requires-clause-main c = record {
  unnumbered = c.new-main.ensures.number;
  text = rw (c.start.ensures, c.new-main.ensures.birth) refl;
  current = rw (c.start.ensures, c.new-main.ensures.birth) (omega arith);
  owes = c.new-main.ensures.owes;
  fitting = c.new-main.ensures.noted;
}

pub open-requires-clause-clock : goal.open-requires-clause-clock
open-requires-clause-clock c = numbered_clock _ _ c.new-clock.result c.number.new.self c.number.ensures.seen c.new-clock.ensures.owes (ap (λ (a : Carry _). a.noted) c.number.ensures.seen ∙ c.new-clock.ensures.noted)

pub invariant_of-result : goal.invariant_of-result
invariant_of-result c = opened_in c.start.result (ap (λ (port : Shown _). port.out) c.in_ok-port.ensures) (ap (λ (port : Shown _). world_at port.start) c.in_ok-port.ensures) c.start.ensures
