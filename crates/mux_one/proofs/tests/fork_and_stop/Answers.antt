use Rattle.pic_machine.proofs.Polls.{polled_after}
use Rattle.mux_one.proofs.tests.fork_and_stop.Goals as goal

pub returns-in-Ok : goal.returns-in-Ok
returns-in-Ok g c =
    polled_after _ _ _ _ _ _ _ _ _ c.stop.result _ c.fork_child.ensures.went (c.in-Ok.ensures.calm (λ same. cc)) c.stop.ensures
