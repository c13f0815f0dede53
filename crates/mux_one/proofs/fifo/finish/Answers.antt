use Rattle.std.proofs.Common.{ap, Ok, refl, ◌∙◌}
use Rattle.pic_machine.proofs.Finals.{final_or_busy}
use Rattle.mux_one.proofs.Running.{found_over}
use Rattle.mux_one.proofs.fifo.finish.Goals as goal

pub unreachable-requires : goal.unreachable-requires
unreachable-requires g c =
    let told = c.idle.ensures.busy (c.in-Ok-Busy.is ∙ ap Ok c.in-Ok-Busy.field-0-is) in
    final_or_busy _ (found_over refl c.requires.under_way told.0) told.2
