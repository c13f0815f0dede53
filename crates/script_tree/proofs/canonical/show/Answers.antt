use Rattle.std.proofs.Common.{rules, ◌≡◌, ap, subst, ◌∙◌, string_bytes}
use Rattle.script_tree.specs.Canon.{canon}
use Rattle.script_tree.specs.Grammar.{grammar}
use Rattle.script_tree.specs.WellFormed.{IsProgram}
use Rattle.script_tree.proofs.RoundTrip.{round_trip}
use Rattle.script_tree.proofs.canonical.show.Goals as goal

pub returns-clause-again : goal.returns-clause-again
returns-clause-again c =
    let written : string_bytes c.write_texts.new.out ≡ canon c.args.program.now = search rules in
    ap grammar written ∙ round_trip c.args.program.now (subst IsProgram c.program.view_is c.program.invariant).script
