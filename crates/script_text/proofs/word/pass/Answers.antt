use Rattle.std.proofs.Common.{rules}
use Rattle.script_text.proofs.Passing.{line_ends_passed, blank_passed, comment_passed, word_passed}
use Rattle.script_text.proofs.word.pass.Goals as goal

pub returns-in-LineEnd : goal.returns-in-LineEnd
returns-in-LineEnd c = let s = c.space_len-len.ensures in line_ends_passed c.args.byte c.args.below.now c.args.number c.args.place c.args.words.now.items _ _ c.in-LineEnd.ensures s.within s.few s.space s.ends

pub returns-in-Blank : goal.returns-in-Blank
returns-in-Blank c = blank_passed c.args.byte c.args.below.now c.args.number c.args.place c.args.words.now.items c.in-Blank.ensures

pub returns-in-Comment : goal.returns-in-Comment
returns-in-Comment c = comment_passed c.args.byte c.args.below.now c.args.number c.args.place c.args.words.now.items _ c.in-Comment.ensures c.line_len.ensures.within c.line_len.ensures.end

pub returns-in_ok-push-in-Word : goal.returns-in_ok-push-in-Word
returns-in_ok-push-in-Word c = word_passed c.args.byte c.args.below.now c.args.number c.args.place c.args.words.now.items _ _ c.in-Word.ensures c.word_len-len.ensures.within c.word_len-len.ensures.len (search rules)
