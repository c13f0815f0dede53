use Rattle.script_text.proofs.Sought.{end_in_front}
use Rattle.script_text.proofs.fault.last_line_end.Goals as goal

pub returns : goal.returns
returns c = end_in_front c.args.text.now c.memrchr.result c.requires c.memrchr.ensures
