use Rattle.std.proofs.Common.{◌≡◌, ◌+◌, drop}
use Rattle.std.specs.List.{prefix_len}
use Rattle.script_text.specs.Scan.{is_word_byte}
use Rattle.script_text.proofs.word.word_len.Given as goal

-- the word's end is sought in what is left
abbrev pub invariant-loop-place : goal.invariant-loop-place
invariant-loop-place l = l.place + prefix_len is_word_byte (drop l.place l.text) ≡ prefix_len is_word_byte l.text
