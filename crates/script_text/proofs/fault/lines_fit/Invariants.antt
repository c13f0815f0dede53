use Rattle.std.proofs.Common.{length}
use Rattle.script_text.specs.Lines.{lines}
use Rattle.script_text.specs.Scan.{AreShort}
use Rattle.script_text.proofs.fault.lines_fit.Given as goal

-- all is well if it is with what is left
abbrev pub invariant-loop-rest : goal.invariant-loop-rest
invariant-loop-rest l = AreShort (lines l.rest) → AreShort (lines l.fn.text)

abbrev pub decreases-loop-rest : goal.decreases-loop-rest
decreases-loop-rest l = length l.rest
