use Rattle.fiber_poll.proofs.Amid.{on_refusal}
use Rattle.fiber_poll.proofs.Owning.{attach_may}
use Rattle.fiber_poll.proofs.Placings.{on_attached}
use Rattle.fiber_poll.proofs.within.attach_at.Goals as goal

pub attach-requires-clause-may : goal.attach-requires-clause-may
attach-requires-clause-may g c = attach_may c.requires.port_of.0 c.args.spot c.args.register c.args.comp c.args.trigger c.args.place c.requires.port_of.1 c.requires.up c.requires.free c.requires.within

pub returns-in_err-how-clause-on : goal.returns-in_err-how-clause-on
returns-in_err-how-clause-on g c line = on_refusal line c.requires.up c.in_err-how.ensures.refused.0 c.attach.ensures.rest

pub returns-clause-on : goal.returns-clause-on
returns-clause-on g c line =
    on_attached c.args.body.now c.attach.new.body line c.args.spot c.args.register c.args.comp c.args.trigger c.args.place c.in_ok-how.how c.attached.result c.set_register.new.self c.behind.result c.steps.result c.requires.up c.requires.within
    c.in_ok-how.ensures.did c.attach.ensures.rest c.attached.ensures c.set_register.ensures c.behind.ensures c.steps.ensures c.stand.ensures
