use Rattle.fiber_poll.proofs.Amid.{on_refusal}
use Rattle.fiber_poll.proofs.Placings.{on_placed_there}
use Rattle.fiber_poll.proofs.within.place_attachment.Goals as goal

pub returns-in_err-place-clause-on : goal.returns-in_err-place-clause-on
returns-in_err-place-clause-on g c line = on_refusal line c.requires.up c.in_err-place.ensures.refused.0 c.make_place.ensures.rest

pub returns-clause-on : goal.returns-clause-on
returns-clause-on g c line =
    on_placed_there c.args.body.now c.make_place.new.body line c.args.spot c.args.register c.args.comp c.args.trigger c.in_ok-place.place c.placed_for_attachment-standing.result c.steps.result c.requires.up c.requires.within
    c.in_ok-place.ensures.did c.in_ok-place.ensures.free c.make_place.ensures.rest c.placed_for_attachment-standing.ensures c.steps.ensures c.stand.ensures
