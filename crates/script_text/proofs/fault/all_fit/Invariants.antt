use Rattle.std.proofs.Common.{◌≡◌, ◌&&◌, drop}
use Rattle.script_text.specs.Scan.{all_fit}
use Rattle.script_text.proofs.fault.all_fit.Given as goal

-- the bytes that were read and those that are left
abbrev pub invariant-loop-byte : goal.invariant-loop-byte
invariant-loop-byte l = (l.all && all_fit (drop l.byte-index l.text)) ≡ all_fit l.text
