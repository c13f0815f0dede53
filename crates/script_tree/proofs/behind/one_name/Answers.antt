use Rattle.std.proofs.Common.{rules, []}
use Rattle.script_tree.proofs.behind.one_name.Goals as goal

pub returns-in_err-name-clause-read : goal.returns-in_err-name-clause-read
returns-in_err-name-clause-read c = let e = c.in_err-name.ensures.read [] in search (e, rules)
