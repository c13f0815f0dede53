use Rattle.std.proofs.Common.{rules, [], ◌∷◌}
use Rattle.script_tree.specs.Parts.{a_number}
use Rattle.script_tree.proofs.behind.name_and_number.Goals as goal

pub returns-in_err-name-clause-read : goal.returns-in_err-name-clause-read
returns-in_err-name-clause-read c = let e = c.in_err-name.ensures.read (a_number ∷ []) in search (e, rules)
