use Rattle.std.proofs.Common.{◌<◌, length, refl, subst}
use Rattle.script_tree.specs.Tree.{Tree}
use Rattle.pic_run.proofs.Opening.{can_start, new_clock, new_main}
use Rattle.pic_run.proofs.run.open.Goals as goal

pub open-requires-clause-start : goal.open-requires-clause-start
open-requires-clause-start c = can_start c.deref.result.now c.start_of-start.result c.start_of-start.ensures.is c.start_of-start.ensures.few_triggers c.start_of-start.ensures.few_comps

pub open-requires-clause-main : goal.open-requires-clause-main
open-requires-clause-main c =
    new_main _ _ _ c.in_ok-main.ensures c.start_of-start.result (can_start c.deref.result.now c.start_of-start.result c.start_of-start.ensures.is c.start_of-start.ensures.few_triggers c.start_of-start.ensures.few_comps) refl

pub open-requires-clause-clock : goal.open-requires-clause-clock
open-requires-clause-clock c = new_clock _ _ _ c.in_ok-clock.ensures

pub new-requires : goal.new-requires
new-requires c = subst (λ (t : Tree). c.start_of-start.result.text < length t.texts) c.deref.ensures c.start_of-start.ensures.main
