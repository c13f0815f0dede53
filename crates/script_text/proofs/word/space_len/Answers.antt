use Rattle.std.proofs.Common.{◌≡◌, ◌≤◌, length, take, drop}
use Rattle.std.proofs.lemmas.List.{take_rest}
use Rattle.script_text.proofs.Passing.{within_more, space_more, counted_more, few_more}
use Rattle.script_text.proofs.word.space_len.Goals as goal

pub loop-block-preserved : goal.loop-block-preserved
loop-block-preserved c =
    let text = c.args.text.now in
    let block = c.in-Some.block.now in
    let len = c.loop-block.len in
    let more = c.in-Some-line_ends_of.more in
    let chunk = c.in-Some.ensures.cases in
    let is : block ≡ take 16 (drop len text) = rw take_rest at chunk.same in
    let room : 16 ≤ length (drop len text) = rw take_rest at chunk.enough in
    let was = c.loop-block.invariant in
    let found = c.in-Some-line_ends_of.ensures in
    record {
      within = within_more text block len more is found was.within room;
      space = space_more text block len more is found was.space;
      counted = counted_more text block len more is found _ was.counted;
      few = few_more text block len more is found _ was.few room;
    }
