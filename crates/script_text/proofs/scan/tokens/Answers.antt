use Rattle.std.proofs.lemmas.Result.{IfOk-weaker}
use Rattle.script_text.specs.declared.token.Tokens.{Tokens}
use Rattle.script_text.proofs.Laws.{are_apart, cover_words, make_rows}
use Rattle.script_text.proofs.scan.tokens.Goals as goal

pub returns-clause-apart : goal.returns-clause-apart
returns-clause-apart c = IfOk-weaker _ _ _ (λ (t : Tokens) e. are_apart c.args.text.now t.words.items e) c.scan.ensures.words

pub returns-clause-cover : goal.returns-clause-cover
returns-clause-cover c = IfOk-weaker _ _ _ (λ (t : Tokens) e. cover_words c.args.text.now t.words.items e) c.scan.ensures.words

pub returns-clause-rows : goal.returns-clause-rows
returns-clause-rows c = IfOk-weaker _ _ _ (λ (t : Tokens) e. make_rows c.args.text.now t.words.items e) c.scan.ensures.words
