use Rattle.std.proofs.Common.{rules, [], ◌∷◌}
use Rattle.script_tree.proofs.behind.three.Goals as goal

pub returns-in_err-part : goal.returns-in_err-part
returns-in_err-part g c = let e = c.in_err-part.ensures (g.B.Part.shape ∷ (g.C.Part.shape ∷ [])) in search (e, rules)
