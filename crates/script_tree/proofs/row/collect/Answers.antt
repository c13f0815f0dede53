use Rattle.std.proofs.Common.{arith}
use Rattle.script_text.specs.declared.token.Token.{Token}
use Rattle.script_tree.proofs.Grouping.{row_collected, on_line_more, elsewhere_at, elsewhere_all, collected_more, within_at, moved}
use Rattle.script_tree.proofs.row.collect.Goals as goal

-- the token that stands for none
none : Token
none = record { start = 0; end = 0; line = 0 }

pub returns-then-token-number-clause-row : goal.returns-then-token-number-clause-row
unfolding none
returns-then-token-number-clause-row c =
    let now = c.loop-token.invariant in
    row_collected c.args.text.now _ c.loop-token.token-index c.loop-token.count c.args.tokens.now c.loop-token.words.items now.counted now.collected
    (moved c.args.tokens.now c.loop-token.token-index none c.if-token-number.true) (omega arith) now.on_line
    (elsewhere_at _ c.loop-token.token-index c.args.tokens.now none c.loop-token-test.true c.if-token-number.true)

pub word_of-requires : goal.word_of-requires
unfolding none
word_of-requires c =
    let w = within_at c.args.text.now c.args.tokens.now c.loop-token.token-index none c.requires.within c.loop-token-test.true in
    record { order = w.0; within = w.1 }

pub loop-token-preserved : goal.loop-token-preserved
unfolding none
loop-token-preserved c =
    let now = c.loop-token.invariant in
    record {
      counted = omega (arith, now.counted);
      collected = rw c.in_ok-push.ensures.items (collected_more c.args.text.now c.loop-token.token-index c.args.tokens.now none c.loop-token.words.items c.word_of.result
          c.loop-token-test.true now.collected c.word_of.ensures);
      on_line = on_line_more _ c.loop-token.token-index c.args.tokens.now none c.loop-token-test.true now.on_line c.if-token-number.false;
    }

pub returns-clause-row : goal.returns-clause-row
returns-clause-row c =
    let now = c.loop-token.invariant in
    row_collected c.args.text.now _ c.loop-token.token-index c.loop-token.count c.args.tokens.now c.loop-token.words.items now.counted now.collected
    (omega (arith, c.requires.some)) (omega arith) now.on_line
    (elsewhere_all _ c.loop-token.token-index c.args.tokens.now (omega arith))
