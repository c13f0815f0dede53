use Rattle.std.proofs.Common.{◌≤◌, length, rules, ap, append-nil, ◌∙◌}
use Rattle.script_tree.specs.Tree.{Tree}
use Rattle.script_tree.proofs.BlockTexts.{read_at, block_there, block_missing}
use Rattle.script_tree.proofs.showing.+blocks.Goals as goal

pub write_block-returns-in-Some : goal.write_block-returns-in-Some
write_block-returns-in-Some t c =
    let blocks = c.deref.ensures.value ∙ ap (λ (p : Tree). p.blocks) c.program.view_is in
    let at = read_at c.deref.result.now c.args.program.now.blocks c.args.place c.in-Some.block.now c.deref-in-Some.result.now blocks
    c.in-Some.ensures.lookup.3.0 c.in-Some.ensures.lookup.1 (c.deref-in-Some.ensures.value ∙ c.block.view_is) in
    rw (← (block_there c.args.program.now c.args.levels c.args.depth c.args.place c.deref-in-Some.result.now c.if-levels-eq0.false at)) c.write_stmts.ensures

pub write_block-returns-in-None : goal.write_block-returns-in-None
write_block-returns-in-None t c =
    let past : length c.args.program.now.blocks ≤ c.args.place = search rules in
    rw ((block_missing c.args.program.now c.args.levels c.args.depth c.args.place past), append-nil)
