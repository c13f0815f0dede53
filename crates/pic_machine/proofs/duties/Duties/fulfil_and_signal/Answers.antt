use Rattle.std.proofs.Common.{◌∙◌, List, reverse, sym, ap, arith}
use Rattle.pic_base.specs.declared.duty.Duty.{Duty}
use Rattle.pic_machine.specs.Duty.{fulfilled}
use Rattle.pic_machine.proofs.Owing.{signal_all, signal_more}
use Rattle.pic_machine.proofs.duties.Duties.fulfil_and_signal.Goals as goal

pub loop-trigger-init : goal.loop-trigger-init
loop-trigger-init c = (c.take_first.ensures.left ∙ ap fulfilled (ap (λ (ds : List Duty). reverse ds) c.reserve.ensures.items ∙ c.self.view_is), omega (arith, c.take_first.ensures.len, c.take_first.ensures.capacity, c.in_ok-reserve.ensures.ok))

pub push_reserved-requires : goal.push_reserved-requires
push_reserved-requires c = omega (arith, c.loop-trigger.invariant.1, c.loop-trigger-test.true)

pub loop-trigger-preserved : goal.loop-trigger-preserved
loop-trigger-preserved c = (
  signal_more _ _ _ _ _ _ c.loop-trigger-test.true c.loop-trigger.invariant.0 c.push_reserved.ensures.items,
  omega (arith, c.loop-trigger.invariant.1, c.push_reserved.ensures.len, c.push_reserved.ensures.capacity),
)

pub returns-clause-owes : goal.returns-clause-owes
returns-clause-owes c = rw (sym c.as_slice-triggers.ensures) (signal_all c.loop-trigger.self-inside.duties.items _ _ c.loop-trigger.trigger-index (omega (arith, c.loop-trigger-test.false, c.loop-trigger.auto.trigger-index-end)) c.loop-trigger.invariant.0)
