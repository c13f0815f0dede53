use Rattle.std.proofs.Common.{string_bytes}
use Rattle.script_tree.proofs.Texts.{texts_more}
use Rattle.script_tree.proofs.canonical.write_texts.Goals as goal

pub loop-text-preserved : goal.loop-text-preserved
loop-text-preserved c =
    texts_more c.args.program.now c.loop-text.rest.now c.in-Some.others.now c.in-Some.text.now (string_bytes c.loop-text.out) (string_bytes c.write_text.new.out) _
    c.in-Some.ensures.cases.0 c.in_ok-write_text.ensures c.loop-text.invariant
