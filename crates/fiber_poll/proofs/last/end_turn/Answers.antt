use Rattle.std.proofs.Common.{None, refl, ◌∙◌}
use Rattle.pic_machine.specs.declared.entry.Call.TheVariants.{End}
use Rattle.pic_machine.specs.declared.entry.Reply.TheVariants.{Plain}
use Rattle.pic_machine.specs.declared.poller.Turn.TheVariants as turn
use Rattle.pic_machine.specs.declared.port.PortFault.TheVariants.{Memory}
use Rattle.pic_machine.specs.Turning.{EndsSo}
use Rattle.pic_machine.proofs.Turns.{Adds-nil}
use Rattle.fiber_body.specs.declared.standing.Standing.TheVariants.{Ended, Ending}
use Rattle.fiber_poll.proofs.Giving.{fits_ended, handed, handed_set_back, stopped}
use Rattle.fiber_poll.proofs.Going.{on_reserved}
use Rattle.fiber_poll.proofs.last.end_turn.Goals as goal

pub returns-then-is_err : goal.returns-then-is_err
returns-then-is_err g c = λ told. handed Memory (turn.Memory c.reserve.new.self) (on_reserved {told = told} c.requires.up c.reserve.ensures.notes c.reserve.ensures.rest) refl refl

pub end-requires-clause-after : goal.end-requires-clause-after
end-requires-clause-after g c =
    let on = on_reserved {told = None} c.requires.up c.reserve.ensures.notes c.reserve.ensures.rest in
    fits_ended on.up c.args.outcome c.steps-steps.result (c.reserve.ensures.rest.standing ∙ c.requires.ending) c.steps-steps.ensures c.stand.ensures

pub returns-in-Ok : goal.returns-in-Ok
returns-in-Ok g c = λ told.
    let on = on_reserved {told = told} c.requires.up c.reserve.ensures.notes c.reserve.ensures.rest in
    stopped Ended c.steps-steps.result (End c.args.outcome) Plain (λ h. EndsSo h.entry.call) on c.stand.ensures c.in-Ok.ensures.made refl refl tt (Adds-nil told) c.in-Ok.ensures.out

pub returns-in-Err : goal.returns-in-Err
returns-in-Err g c = λ told.
    let on = on_reserved {told = told} c.requires.up c.reserve.ensures.notes c.reserve.ensures.rest in
    handed_set_back Ended (Ending c.args.outcome) c.steps-steps.result c.steps-steps.result c.in-Err.fault c.handed_back.result on c.stand.ensures c.in-Err.ensures.none
    (c.reserve.ensures.rest.standing ∙ c.requires.ending) c.steps-steps.ensures c.stand-in-Err.ensures c.handed_back.ensures
