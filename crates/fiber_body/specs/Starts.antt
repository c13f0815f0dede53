-- What stands before the first entry of a script's runs.
use Rattle.std.specs.Prelude.{◌+◌}
use Rattle.pic_base.specs.declared.limits.Limits.{Limits}
use Rattle.pic_machine.specs.declared.birth.Birth.{Birth}
use Rattle.pic_machine.specs.declared.world.Start.{Start}
use Rattle.script_tree.specs.declared.thing.Sort.TheVariants as sort
use Rattle.script_tree.specs.Tree.{Tree}
use Rattle.fiber_body.specs.Context.{count_of}
use Rattle.fiber_body.specs.Texts.{main_text}

-- the declared triggers stand, and the root and the declared computations, and main runs the main text
abbrev pub start_of : Tree → Limits → Start
start_of script limits = record {
  triggers = count_of sort.Trigger script.decls;
  comps = count_of sort.Comp script.decls + 1;
  text = main_text script;
  limits = limits;
}

-- main runs the main text and is handed 0, and its current computation is the root
abbrev pub main_birth : Tree → Birth
main_birth script = record { text = main_text script; value = 0; current = 0 }
