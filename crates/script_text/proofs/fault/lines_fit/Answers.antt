use Rattle.std.proofs.lemmas.List.{take_rest}
use Rattle.script_text.proofs.Clean.{short_behind, short_text}
use Rattle.script_text.proofs.fault.lines_fit.Goals as goal

pub loop-rest-preserved : goal.loop-rest-preserved
loop-rest-preserved c = λ s. c.loop-rest.invariant (short_behind c.loop-rest.rest.now c.in-Some.place c.in-Some.ensures (rw take_rest at s))

pub returns : goal.returns
returns c = λ _. c.loop-rest.invariant (short_text c.loop-rest.rest.now c.loop-rest-test.false)
