use Rattle.std.proofs.Common.{◌≡◌, map, take}
use Rattle.script_text.specs.Spans.{bytes_of}
use Rattle.script_tree.specs.Slices.{words_of}
use Rattle.script_tree.proofs.Grouping.{AreOnLine}
use Rattle.script_tree.proofs.row.collect.Given as goal

-- the words so far are those of the first spans, which are on one line
abbrev pub invariant-loop-token : goal.invariant-loop-token
invariant-loop-token l = record {
  counted : l.count ≡ l.token-index;
  collected : words_of l.words.items ≡ map (bytes_of l.text) (take l.token-index l.tokens);
  on_line : AreOnLine l.number (take l.token-index l.tokens);
}
