use Rattle.std.proofs.Common.{sym, refl}
use Rattle.script_text.proofs.Clean.{text_clean}
use Rattle.script_text.proofs.fault.check_text.Goals as goal

pub returns-then-lines_fit : goal.returns-then-lines_fit
returns-then-lines_fit c = text_clean c.args.text.now (sym c.if-all_fit.ensures) (c.if-lines_fit.ensures refl)
