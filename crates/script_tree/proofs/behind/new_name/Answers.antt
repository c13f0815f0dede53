use Rattle.std.proofs.Common.{sym}
use Rattle.script_tree.proofs.Ascii.{name_ascii}
use Rattle.script_tree.proofs.behind.new_name.Goals as goal

pub invariant_of-result : goal.invariant_of-result
invariant_of-result c = name_ascii c.args.word.now (sym c.in-Name.ensures)
