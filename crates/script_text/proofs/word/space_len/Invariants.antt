use Rattle.std.proofs.Common.{◌≡◌, ◌≤◌, ◌-◌, length, take}
use Rattle.script_text.specs.Scan.{IsSpace, line_ends}
use Rattle.script_text.proofs.word.space_len.Given as goal

abbrev pub invariant-loop-block : goal.invariant-loop-block
invariant-loop-block l = record {
  within : l.len ≤ length l.text;
  space : IsSpace (take l.len l.text);
  counted : l.ends ≡ line_ends (take l.len l.text);
  few : l.ends ≤ l.len;
}

abbrev pub decreases-loop-block : goal.decreases-loop-block
decreases-loop-block l = length l.text - l.len
