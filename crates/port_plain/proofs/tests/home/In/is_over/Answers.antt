use Rattle.std.proofs.Common.{Ok, ap, ◌∙◌}
use Rattle.port_plain.proofs.Handing.{kept_in}
use Rattle.port_plain.proofs.tests.home.In.is_over.Goals as goal

pub idle-requires : goal.idle-requires
idle-requires c = c.self.invariant.out

pub invariant_of-result : goal.invariant_of-result
invariant_of-result c = kept_in c.self.invariant (c.idle.ensures.busy (c.in-Ok-Busy.is ∙ ap Ok c.in-Ok-Busy.field-0-is)).0

pub invariant_of-result-in-Ok-Over : goal.invariant_of-result-in-Ok-Over
invariant_of-result-in-Ok-Over c = kept_in c.self.invariant (c.idle.ensures.over (c.in-Ok-Over.is ∙ ap Ok c.in-Ok-Over.field-0-is)).0
