use Rattle.std.proofs.Common.{length}
use Rattle.script_text.proofs.Scanning.{IsScanned}
use Rattle.script_text.proofs.fault.check_lines.Given as goal

abbrev pub invariant-loop-rest : goal.invariant-loop-rest
invariant-loop-rest l = IsScanned l.fn.text l.rest l.number

abbrev pub decreases-loop-rest : goal.decreases-loop-rest
decreases-loop-rest l = length l.rest
