use Rattle.std.proofs.Common.{◌≡◌, ◌*◌, ◌++◌, replicate, string_bytes}
use Rattle.script_tree.proofs.layout.write_indent.Given as goal

-- two blanks were written for each level
abbrev pub invariant-loop-level : goal.invariant-loop-level
invariant-loop-level l = string_bytes l.out ≡ string_bytes l.initial.out ++ replicate (2 * l._level) 32
