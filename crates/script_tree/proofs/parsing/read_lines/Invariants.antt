use Rattle.std.proofs.Common.{◌≡◌, length}
use Rattle.script_text.specs.Spans.{rows_of}
use Rattle.script_tree.specs.Grammar.{rows_read}
use Rattle.script_tree.specs.Reading.{start}
use Rattle.script_tree.specs.Stand.{state_of}
use Rattle.script_tree.specs.Within.{AreWithin}
use Rattle.script_tree.proofs.Growth.{Fits}
use Rattle.script_tree.proofs.parsing.read_lines.Given as goal

-- reading what is left gives what the whole gives
abbrev pub invariant-loop-rest : goal.invariant-loop-rest
invariant-loop-rest l = record {
  goes_on : rows_read (state_of l.reading) (rows_of l.text l.rest) l.end ≡ rows_read start (rows_of l.text l.fn.tokens) l.end;
  within : AreWithin l.text l.rest;
  fits : Fits (state_of l.reading) (length l.rest) (length l.fn.tokens);
}

abbrev pub decreases-loop-rest : goal.decreases-loop-rest
decreases-loop-rest l = length l.rest
