-- Where the history began, and what its bodies share, are all that matters of a port.
use Rattle.std.proofs.Common.{◌≡◌, ◌+◌, ◌<◌, ◌≤◌, Option, length, sym, subst, ◌∙◌}
use Rattle.pic_machine.specs.History.{Origin}
use Rattle.pic_machine.specs.Sight.{Sight}
use Rattle.script_tree.specs.declared.thing.Sort.TheVariants as sort
use Rattle.script_tree.specs.Tree.{Tree}
use Rattle.fiber_body.specs.Context.{count_of}
use Rattle.fiber_poll.specs.Polls.{IsPortOf}

pub port_later : (script : Tree) (old new : Sight (Option Tree)) → IsPortOf script old → new.origin ≡ old.origin
    → new.share ≡ old.share → IsPortOf script new
port_later script old new port origin share = record {
  share = share ∙ port.share;
  built = port.built;
  triggers = subst (λ (o : Origin). count_of sort.Trigger script.decls ≤ length o.world.triggers) (sym origin) port.triggers;
  comps = subst (λ (o : Origin). count_of sort.Comp script.decls + 1 ≤ length o.world.comps) (sym origin) port.comps;
  main = subst (λ (o : Origin). o.main.current < length o.world.comps) (sym origin) port.main;
}
