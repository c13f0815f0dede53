use Rattle.std.proofs.Common.{◌≡◌, ◌+◌, ◌≤◌, ◌++◌, length, map, reverse, take}
use Rattle.std.specs.Vec.{vec_capacity, vec_len}
use Rattle.pic_base.specs.declared.duty.Duty.TheVariants.{Signal}
use Rattle.pic_machine.specs.Duty.{fulfilled}
use Rattle.pic_machine.proofs.duties.Duties.fulfil_and_signal.Given as goal

abbrev pub invariant-loop-trigger : goal.invariant-loop-trigger
invariant-loop-trigger l =
    (reverse l.self-inside.duties.items ≡ map Signal (reverse (take l.trigger-index l.triggers)) ++ fulfilled l.fn.self)
    × (vec_len l.self-inside.duties + length l.triggers ≤ vec_capacity l.self-inside.duties + l.trigger-index)
