use Rattle.script_text.proofs.Passing.{open_count, closed_count}
use Rattle.script_text.proofs.word.line_count.Goals as goal

pub returns-then-is_open : goal.returns-then-is_open
returns-then-is_open c = open_count c.args.text.now c.args.number c.requires c.if-is_open.ensures

pub returns : goal.returns
returns c = closed_count c.args.text.now c.args.number c.requires c.if-is_open.ensures
