use Rattle.pic_report.proofs.Found.{IsPassed}
use Rattle.pic_report.proofs.completions.completions_of.Given as goal

abbrev pub invariant-loop-fiber : goal.invariant-loop-fiber
invariant-loop-fiber l = IsPassed l.found.items l.fn.count l.fn.view.fibers.items l.fiber-index
