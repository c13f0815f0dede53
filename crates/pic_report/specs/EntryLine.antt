-- The lines of entries, by where they stand. Only private contracts cite this word.
use Rattle.std.specs.Prelude.{ℕ, List}
use Rattle.pic_machine.specs.declared.entry.Entry.{Entry}
use Rattle.pic_report.specs.declared.entry_lines.Place.{Place}
use Rattle.pic_report.specs.declared.entry_lines.Place.TheVariants.{Trace, Log}
use Rattle.pic_report.specs.Report.{log_line, trace_line}

abbrev pub entry_line : Place → List (List ℕ) → Entry → List ℕ
entry_line Trace = trace_line
entry_line Log = log_line
