use Rattle.std.proofs.Common.{◌≡◌, ◌+◌, ◌≤◌, true, drop}
use Rattle.script_text.specs.Scan.{IsSpace, line_ends}
use Rattle.script_text.proofs.word.line_ends_of.Given as goal

-- the bytes that were read and those that are left
abbrev pub invariant-loop-byte : goal.invariant-loop-byte
invariant-loop-byte l = record {
  space : l.all ≡ true → IsSpace (drop l.byte-index l.block) → IsSpace l.block;
  counted : l.ends + line_ends (drop l.byte-index l.block) ≡ line_ends l.block;
  few : l.ends ≤ l.byte-index;
}
