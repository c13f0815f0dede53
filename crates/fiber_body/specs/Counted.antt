-- Which sort of declared things the code counts.
use Rattle.script_tree.specs.declared.thing.Sort.{Sort}
use Rattle.script_tree.specs.declared.thing.Sort.TheVariants as sort
use Rattle.fiber_body.specs.declared.numbering.Counted.{Counted}
use Rattle.fiber_body.specs.declared.numbering.Counted.TheVariants.{Triggers, Comps}

abbrev pub sort_counted : Counted → Sort
sort_counted Triggers = sort.Trigger
sort_counted Comps = sort.Comp
