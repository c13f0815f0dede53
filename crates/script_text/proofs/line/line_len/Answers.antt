use Rattle.script_text.proofs.Sought.{first_end, no_end}
use Rattle.script_text.proofs.line.line_len.Goals as goal

pub returns-in-Some-clause-end : goal.returns-in-Some-clause-end
returns-in-Some-clause-end c = let f = c.in-Some.ensures in first_end c.args.text.now c.in-Some.place f.0 f.1

pub returns-in-None-clause-end : goal.returns-in-None-clause-end
returns-in-None-clause-end c = no_end c.args.text.now c.in-None.ensures
