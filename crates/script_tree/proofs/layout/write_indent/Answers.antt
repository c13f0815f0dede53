use Rattle.std.proofs.Common.{string_bytes}
use Rattle.script_tree.proofs.Indents.{indent_more}
use Rattle.script_tree.proofs.layout.write_indent.Goals as goal

pub loop-level-preserved : goal.loop-level-preserved
loop-level-preserved c =
    indent_more c.loop-level._level (string_bytes c.args.out.now) (string_bytes c.loop-level.out) (string_bytes c.push_str.new.self) c.loop-level.invariant c.in_ok-push_str.ensures.bytes
