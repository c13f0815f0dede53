use Rattle.std.proofs.Common.{◌≡◌, drop}
use Rattle.script_tree.specs.Words.{all_name_bytes}
use Rattle.script_tree.proofs.class.are_name_bytes.Given as goal

abbrev pub invariant-loop-byte : goal.invariant-loop-byte
invariant-loop-byte l = all_name_bytes (drop l.byte-index l.word) ≡ all_name_bytes l.word
