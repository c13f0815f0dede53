use Rattle.std.proofs.Common.{◌≡◌, [], Ok, Err, ap, ◌∙◌}
use Rattle.fiber_await.specs.declared.ahead.CompAhead.{CompAhead}
use Rattle.fiber_body.specs.declared.under_way.UnderWay.TheVariants.{Follows}
use Rattle.fiber_poll.proofs.Followed.{MayFollow, arrived_owes, arrived_step, given_up_calm, given_up_free, given_up_owes, given_up_step, given_up_why, on_arrived, on_given_up, ran_so}
use Rattle.fiber_poll.proofs.Owning.{current_here, followed_stands, is_free}
use Rattle.fiber_poll.proofs.Stages.{within_up}
use Rattle.fiber_poll.proofs.follow.follow.Goals as goal

pub await_comp-ahead-requires-clause-free : goal.await_comp-ahead-requires-clause-free
await_comp-ahead-requires-clause-free g c = is_free c.requires.up c.requires.free

pub await_comp-ahead-requires-clause-comp : goal.await_comp-ahead-requires-clause-comp
await_comp-ahead-requires-clause-comp g c = followed_stands c.requires.port_of.0 c.args.spot c.args.register c.args.comp c.args.parts c.requires.port_of.1 c.requires.up c.requires.within

pub await_comp-ahead-requires-clause-current : goal.await_comp-ahead-requires-clause-current
await_comp-ahead-requires-clause-current g c = current_here c.requires.port_of.0 c.waits_under-under.result c.requires.port_of.1 c.requires.up c.waits_under-under.ensures.may

pub await_comp-ahead-requires-clause-following : goal.await_comp-ahead-requires-clause-following
await_comp-ahead-requires-clause-following g c = (within_up c.args.spot (Follows c.args.register c.args.comp c.args.parts) c.requires.up c.requires.within).1.on

pub arrive-requires-clause-within : goal.arrive-requires-clause-within
arrive-requires-clause-within g c = (within_up c.args.spot (Follows c.args.register c.args.comp c.args.parts) c.requires.up c.requires.within).0

pub arrive-requires-clause-register : goal.arrive-requires-clause-register
arrive-requires-clause-register g c = (within_up c.args.spot (Follows c.args.register c.args.comp c.args.parts) c.requires.up c.requires.within).1.register

pub give_up-requires : goal.give_up-requires
give_up-requires g c = (within_up c.args.spot (Follows c.args.register c.args.comp c.args.parts) c.requires.up c.requires.within).0

pub returns-in-Ok-clause-on : goal.returns-in-Ok-clause-on
returns-in-Ok-clause-on g c =
    let later = c.await_comp-ahead.new.parts in
    on_arrived (g.P.Port.sight c.args.port.now) (g.P.Port.sight c.await_comp-ahead.new.port) (g.R.ReadyLine.told c.args.line.now) (g.R.ReadyLine.told c.await_comp-ahead.new.line) c.args.body.now c.await_comp-ahead.new.body c.arrive.new.body c.args.spot c.args.register c.args.comp c.args.parts later c.requires.up c.requires.within c.await_comp-ahead.ensures.rest c.in-Ok.ahead c.arrive.result
    (ran_so c.args.body.now c.await_comp-ahead.new.body c.args.comp c.waits_under-under.result c.args.parts later (Ok c.in-Ok.ahead) c.waits_under-under.ensures.under c.in-Ok.is c.await_comp-ahead.ensures.ran)
    (λ parks. c.await_comp-ahead.ensures.own (c.in-Ok.is ∙ ap (λ (x : CompAhead). Ok x) parks)) c.arrive.ensures

pub returns-in-Ok-clause-step : goal.returns-in-Ok-clause-step
returns-in-Ok-clause-step g c =
    let later = c.await_comp-ahead.new.parts in
    arrived_step (g.P.Port.sight c.args.port.now) (g.P.Port.sight c.await_comp-ahead.new.port) (g.R.ReadyLine.told c.args.line.now) (g.R.ReadyLine.told c.await_comp-ahead.new.line) c.args.body.now c.await_comp-ahead.new.body c.arrive.new.body c.args.spot c.args.register c.args.comp c.args.parts later c.requires.up c.requires.within c.await_comp-ahead.ensures.rest c.in-Ok.ahead c.arrive.result
    (ran_so c.args.body.now c.await_comp-ahead.new.body c.args.comp c.waits_under-under.result c.args.parts later (Ok c.in-Ok.ahead) c.waits_under-under.ensures.under c.in-Ok.is c.await_comp-ahead.ensures.ran)
    (λ parks. c.await_comp-ahead.ensures.park (c.in-Ok.is ∙ ap (λ (x : CompAhead). Ok x) parks)) c.arrive.ensures

pub returns-in-Ok-clause-free : goal.returns-in-Ok-clause-free
returns-in-Ok-clause-free g c = arrived_owes c.await_comp-ahead.new.body c.arrive.new.body c.args.spot c.args.register (Follows c.args.register c.args.comp c.await_comp-ahead.new.parts) c.in-Ok.ahead c.arrive.result c.arrive.ensures ∙ c.await_comp-ahead.ensures.ran.free.owes

pub returns-in-Err-clause-on : goal.returns-in-Err-clause-on
returns-in-Err-clause-on g c =
    let later = c.await_comp-ahead.new.parts in
    on_given_up (g.P.Port.sight c.args.port.now) (g.P.Port.sight c.await_comp-ahead.new.port) (g.R.ReadyLine.told c.args.line.now) (g.R.ReadyLine.told c.await_comp-ahead.new.line) c.args.body.now c.await_comp-ahead.new.body c.give_up.new.body c.args.spot c.args.register c.args.comp c.args.parts later c.requires.up c.requires.within c.await_comp-ahead.ensures.rest c.in-Err.fault c.give_up.result
    (ran_so c.args.body.now c.await_comp-ahead.new.body c.args.comp c.waits_under-under.result c.args.parts later (Err c.in-Err.fault) c.waits_under-under.ensures.under c.in-Err.is c.await_comp-ahead.ensures.ran)
    c.in-Err.ensures.gave_up c.give_up.ensures

pub returns-in-Err-clause-step : goal.returns-in-Err-clause-step
returns-in-Err-clause-step g c =
    given_up_step (g.P.Port.sight c.args.port.now) (g.P.Port.sight c.await_comp-ahead.new.port) (g.R.ReadyLine.told c.args.line.now) (g.R.ReadyLine.told c.await_comp-ahead.new.line) c.args.body.now c.await_comp-ahead.new.body c.give_up.new.body c.args.spot c.args.register c.args.comp c.args.parts c.await_comp-ahead.new.parts c.requires.up c.requires.within c.await_comp-ahead.ensures.rest c.in-Err.fault c.give_up.result c.give_up.ensures

pub returns-in-Err-clause-free : goal.returns-in-Err-clause-free
returns-in-Err-clause-free g c =
    let way = Follows c.args.register c.args.comp c.await_comp-ahead.new.parts in
    given_up_free c.give_up.result (c.give_up.new.body.owes ≡ []) (given_up_owes c.await_comp-ahead.new.body c.give_up.new.body c.args.spot way c.in-Err.fault c.give_up.result c.give_up.ensures ∙ c.await_comp-ahead.ensures.ran.free.owes)

pub returns-in-Err-clause-calm : goal.returns-in-Err-clause-calm
returns-in-Err-clause-calm g c =
    given_up_calm (g.P.Port.sight c.args.port.now) (g.P.Port.sight c.await_comp-ahead.new.port) c.await_comp-ahead.new.body c.give_up.new.body c.args.spot (Follows c.args.register c.args.comp c.await_comp-ahead.new.parts) c.await_comp-ahead.new.parts (MayFollow (g.P.Port.sight c.await_comp-ahead.new.port) c.await_comp-ahead.new.body c.await_comp-ahead.new.parts)
    c.in-Err.fault c.give_up.result c.in-Err.ensures.gave_up c.give_up.ensures

pub returns-in-Err-clause-gave_up : goal.returns-in-Err-clause-gave_up
returns-in-Err-clause-gave_up g c =
    given_up_why (g.P.Port.sight c.args.port.now) (g.P.Port.sight c.await_comp-ahead.new.port) c.await_comp-ahead.new.body c.give_up.new.body c.args.spot (Follows c.args.register c.args.comp c.await_comp-ahead.new.parts) c.await_comp-ahead.new.parts (MayFollow (g.P.Port.sight c.await_comp-ahead.new.port) c.await_comp-ahead.new.body c.await_comp-ahead.new.parts)
    c.in-Err.fault c.give_up.result c.in-Err.ensures.gave_up c.give_up.ensures
