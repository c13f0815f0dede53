-- For which ports a script's poller polls.
use Rattle.std.specs.Prelude.{◌≡◌, ◌+◌, ◌<◌, ◌≤◌, IsTrue, Option, Some, length}
use Rattle.pic_machine.specs.Sight.{Sight}
use Rattle.script_tree.specs.declared.thing.Sort.TheVariants as sort
use Rattle.script_tree.specs.Tree.{Tree}
use Rattle.fiber_body.specs.Context.{count_of}
use Rattle.fiber_poll.specs.Built.{is_built}

-- the bodies run the program, each of its forms is built, and its triggers and computations stand, and so
-- does main's current one
pub record IsPortOf (script : Tree) (port : Sight (Option Tree)) : Type 0 where
  pub share : port.share ≡ Some script
  pub built : IsTrue (is_built script)
  pub triggers : count_of sort.Trigger script.decls ≤ length port.origin.world.triggers
  pub comps : count_of sort.Comp script.decls + 1 ≤ length port.origin.world.comps
  pub main : port.origin.main.current < length port.origin.world.comps
