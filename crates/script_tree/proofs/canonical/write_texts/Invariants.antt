use Rattle.std.proofs.Common.{◌≡◌, ◌++◌, length, string_bytes}
use Rattle.script_tree.specs.Canon.{texts_text}
use Rattle.script_tree.proofs.canonical.write_texts.Given as goal

-- what was written and what is left make up the whole
abbrev pub invariant-loop-text : goal.invariant-loop-text
invariant-loop-text l = string_bytes l.out ++ texts_text l.program l.rest ≡ string_bytes l.initial.out ++ texts_text l.program l.fn.texts

abbrev pub decreases-loop-text : goal.decreases-loop-text
decreases-loop-text l = length l.rest
