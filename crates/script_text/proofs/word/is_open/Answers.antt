use Rattle.script_text.proofs.Passing.{open_last}
use Rattle.script_text.proofs.word.is_open.Goals as goal

pub returns-in-Some : goal.returns-in-Some
returns-in-Some c = open_last c.args.text.now c.in-Some.byte.now c.in-Some.ensures.value
