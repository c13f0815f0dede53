use Rattle.std.proofs.Common.{length, arith}
use Rattle.script_tree.proofs.Formed.{is_program, well_formed}
use Rattle.script_tree.proofs.Goings.{whole}
use Rattle.script_tree.proofs.Spanning.{apart_within, apart_few, lines_few}
use Rattle.script_tree.proofs.parsing.parse.Goals as goal

pub overflow_add-found : goal.overflow_add-found
overflow_add-found c = omega (arith, c.requires, c.in-Ok.ensures.count, lines_few c.args.text.now)

pub read_script-requires-clause-within : goal.read_script-requires-clause-within
read_script-requires-clause-within c = rw c.deref.ensures.value (apart_within c.args.text.now 0 c.in-Ok.found.words.items c.in-Ok.ensures.apart)

pub read_script-requires-clause-few : goal.read_script-requires-clause-few
read_script-requires-clause-few c =
    rw c.deref.ensures.value (omega (arith, c.requires, apart_few 0 (length c.args.text.now) c.in-Ok.found.words.items (omega arith) c.in-Ok.ensures.apart))

pub invariant_of-result : goal.invariant_of-result
invariant_of-result c = is_program _ (
  c.args.text.now,
  whole c.args.text.now c.in-Ok.found.words.items c.in-Ok.found.lines _ c.in-Ok.ensures.faultless c.in-Ok.ensures.rows c.in-Ok.ensures.count
      (rw c.deref.ensures.value at c.in-Ok-read_script.ensures.program),
)

pub returns-in-Ok-read_script-clause-formed : goal.returns-in-Ok-read_script-clause-formed
returns-in-Ok-read_script-clause-formed c = well_formed _ (
  c.args.text.now,
  whole c.args.text.now c.in-Ok.found.words.items c.in-Ok.found.lines _ c.in-Ok.ensures.faultless c.in-Ok.ensures.rows c.in-Ok.ensures.count
      (rw c.deref.ensures.value at c.in-Ok-read_script.ensures.program),
)
