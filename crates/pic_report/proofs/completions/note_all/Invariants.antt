use Rattle.pic_report.proofs.Found.{IsFound}
use Rattle.pic_report.proofs.completions.note_all.Given as goal

abbrev pub invariant-loop-entry : goal.invariant-loop-entry
invariant-loop-entry l = IsFound l.initial.found.items l.found.items l.entries.entries l.entry-iterator
