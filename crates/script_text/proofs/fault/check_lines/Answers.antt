use Rattle.std.proofs.Common.{rules}
use Rattle.std.proofs.lemmas.Result.{err_from_is_err_and}
use Rattle.script_text.proofs.Scanning.{scan_more, fault_here}
use Rattle.script_text.proofs.fault.check_lines.Goals as goal

pub returns-in_err-check_line : goal.returns-in_err-check_line
returns-in_err-check_line c =
    let p = err_from_is_err_and c.from_residual.result c.from_residual.ensures.1 in
    rw p.1 (rw p.2 (fault_here _ _ _ _ _ c.loop-rest.invariant (search rules) c.split_line.ensures.line c.split_line.ensures.below _ c.in_err-check_line.ensures))

pub loop-rest-preserved : goal.loop-rest-preserved
loop-rest-preserved c =
    scan_more _ _ _ _ _ c.loop-rest.invariant (search rules) c.split_line.ensures.line c.split_line.ensures.below c.in_ok-check_line.ensures
