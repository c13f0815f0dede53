use Rattle.std.proofs.Common.{◌≡◌, ◌≤◌, [], replicate}
use Rattle.pic_machine.specs.declared.state.CompState.TheVariants.{Running}
use Rattle.pic_machine.proofs.world.running.Given as goal

abbrev pub invariant-loop : goal.invariant-loop
invariant-loop l = (l.comps.items ≡ replicate l.counter (Running [])) × (l.counter ≤ l.count)
