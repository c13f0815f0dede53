use Rattle.std.proofs.Common.{◌≡◌, ◌+◌, ◌*◌, ◌++◌, take, flat_map, string_bytes}
use Rattle.script_tree.specs.Canon.{stmt_text, block_text}
use Rattle.script_tree.proofs.showing.+blocks.Given as goal

abbrev pub decreases-write_around : goal.decreases-write_around
decreases-write_around l = 5 * l.levels + 1

abbrev pub decreases-write_else : goal.decreases-write_else
decreases-write_else l = 5 * l.levels + 1

abbrev pub decreases-write_if : goal.decreases-write_if
decreases-write_if l = 5 * l.levels + 2

abbrev pub decreases-write_handler : goal.decreases-write_handler
decreases-write_handler l = 5 * l.levels + 1

abbrev pub decreases-write_try : goal.decreases-write_try
decreases-write_try l = 5 * l.levels + 2

abbrev pub decreases-write_stmt : goal.decreases-write_stmt
decreases-write_stmt l = 5 * l.levels + 3

abbrev pub decreases-write_block : goal.decreases-write_block
decreases-write_block l = 5 * l.levels

abbrev pub decreases-write_stmts : goal.decreases-write_stmts
decreases-write_stmts l = 5 * l.levels + 4

-- the statements so far were written
abbrev pub invariant-write_stmts-loop-stmt : goal.invariant-write_stmts-loop-stmt
invariant-write_stmts-loop-stmt l =
    string_bytes l.out ≡ string_bytes l.initial.out
    ++ flat_map (stmt_text (block_text l.levels l.program (l.depth + 1)) l.program l.depth) (take l.stmt-index l.stmts)
