use Rattle.std.proofs.Common.{◌≡◌, ◌++◌, take, flat_map, string_bytes}
use Rattle.script_tree.specs.Canon.{decl_text}
use Rattle.script_tree.proofs.canonical.write_declarations.Given as goal

-- the declarations so far were written
abbrev pub invariant-loop-decl : goal.invariant-loop-decl
invariant-loop-decl l = string_bytes l.out ≡ string_bytes l.initial.out ++ flat_map (decl_text l.program) (take l.decl-index l.decl-items)
