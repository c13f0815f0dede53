use Rattle.std.proofs.Common.{◌≡◌, ◌+◌, ◌++◌, ◌≤◌, length}
use Rattle.script_text.specs.Lines.{lines}
use Rattle.script_text.specs.Scan.{line_ends, spans}
use Rattle.script_text.proofs.word.words_of.Given as goal

-- what was found and what is left make up the whole
abbrev pub invariant-loop-byte : goal.invariant-loop-byte
invariant-loop-byte l = record {
  found : l.words.items ++ spans l.number l.place (lines l.rest) ≡ spans 1 0 (lines l.fn.text);
  counted : l.number + line_ends l.rest ≡ 1 + line_ends l.fn.text;
  long : l.place + length l.rest ≡ length l.fn.text;
  few : l.number ≤ 1 + l.place;
}

abbrev pub decreases-loop-byte : goal.decreases-loop-byte
decreases-loop-byte l = length l.rest
