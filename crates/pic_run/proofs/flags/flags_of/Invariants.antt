use Rattle.std.proofs.Common.{◌≡◌, Some, map, drop}
use Rattle.std.specs.String.{string_bytes}
use Rattle.pic_run.specs.Request.{no_flags, with_flags}
use Rattle.pic_run.proofs.flags.flags_of.Given as goal

abbrev pub invariant-loop-word : goal.invariant-loop-word
invariant-loop-word l = with_flags (Some l.flags) (map string_bytes (drop l.word-index l.words)) ≡ with_flags (Some no_flags) (map string_bytes l.words)
