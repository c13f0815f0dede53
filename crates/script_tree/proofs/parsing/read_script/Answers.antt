use Rattle.std.proofs.lemmas.List.{take_rest}
use Rattle.script_tree.proofs.Grouping.{within_drop}
use Rattle.script_tree.proofs.parsing.read_script.Goals as goal

pub read_lines-requires-clause-within : goal.read_lines-requires-clause-within
read_lines-requires-clause-within c = rw take_rest (within_drop c.args.text.now c.in_ok-count.count c.args.tokens.now c.requires.within)
