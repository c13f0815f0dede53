use Rattle.std.proofs.Common.{refl, ◌∙◌, arith}
use Rattle.pic_machine.proofs.Polls.{polled_after}
use Rattle.fiber_body.specs.Fits.{Fits}
use Rattle.fiber_body.specs.Shown.{carry_of}
use Rattle.fiber_poll.proofs.Giving.{handed}
use Rattle.fiber_poll.proofs.Going.{gave_up_after, on_none, on_trans}
use Rattle.fiber_poll.proofs.Looping.{up_fit}
use Rattle.fiber_poll.proofs.Remaking.{still_lighter}
use Rattle.fiber_poll.proofs.poller.ScriptPollerPoller.poll.Goals as goal

pub loop-spot-init : goal.loop-spot-init
loop-spot-init g c = (on_none (up_fit (g.met.P.Port.starts c.args.port.now) c.requires.holds c.requires.fiber c.requires.fits), refl)

pub run_turn-requires-clause-up : goal.run_turn-requires-clause-up
run_turn-requires-clause-up g c = c.loop-spot.invariant.0.up

pub returns-in-Ok-Yield : goal.returns-in-Ok-Yield
returns-in-Ok-Yield g c =
    let on = on_trans c.loop-spot.invariant.0 c.run_turn.ensures.on in
    polled_after carry_of Fits (g.P.Port.sight c.args.port.now) (g.P.Port.sight c.run_turn.new.port) (g.P.Port.sight c.yield_turn.new.port) (carry_of c.args.body)
    (g.R.ReadyLine.told c.args.line.now) (g.R.ReadyLine.told c.run_turn.new.line) (g.R.ReadyLine.told c.yield_turn.new.line) c.yield_turn.result (carry_of c.run_turn.new.body)
    on.went (c.in-Ok-Yield.ensures.calm ∙ c.loop-spot.invariant.1) c.yield_turn.ensures

pub returns-in-Ok-End : goal.returns-in-Ok-End
returns-in-Ok-End g c =
    let on = on_trans c.loop-spot.invariant.0 c.run_turn.ensures.on in
    let told = g.R.ReadyLine.told c.run_turn.new.line in
    polled_after carry_of Fits (g.P.Port.sight c.args.port.now) (g.P.Port.sight c.run_turn.new.port) (g.P.Port.sight c.end_turn.new.port) (carry_of c.args.body)
    (g.R.ReadyLine.told c.args.line.now) told told c.end_turn.result (carry_of c.run_turn.new.body) on.went (c.in-Ok-End.ensures.calm ∙ c.loop-spot.invariant.1) (c.end_turn.ensures told)

pub returns-in-Err-park_turn : goal.returns-in-Err-park_turn
returns-in-Err-park_turn g c =
    let on = on_trans c.loop-spot.invariant.0 c.run_turn.ensures.on in
    let told = g.R.ReadyLine.told c.run_turn.new.line in
    polled_after carry_of Fits (g.P.Port.sight c.args.port.now) (g.P.Port.sight c.run_turn.new.port) (g.P.Port.sight c.park_turn.new.port) (carry_of c.args.body)
    (g.R.ReadyLine.told c.args.line.now) told told c.in-Err-park_turn.turn (carry_of c.run_turn.new.body) on.went (c.in-Ok-Park.ensures.calm ∙ c.loop-spot.invariant.1) (c.in-Err-park_turn.ensures.over told)

pub returns-in-Err : goal.returns-in-Err
returns-in-Err g c =
    let on = on_trans c.loop-spot.invariant.0 c.run_turn.ensures.on in
    handed c.in-Err.fault c.handed_back.result on
    (gave_up_after (g.P.Port.sight c.args.port.now) (g.P.Port.sight c.loop-spot.port) (g.P.Port.sight c.run_turn.new.port) c.in-Err.fault c.loop-spot.invariant.0.went.grew.later.steady c.loop-spot.invariant.1 c.in-Err.ensures.gave_up) c.handed_back.ensures

pub loop-spot-preserved : goal.loop-spot-preserved
loop-spot-preserved g c =
    let on = on_trans c.loop-spot.invariant.0 c.run_turn.ensures.on in
    (on_trans on (c.in-Ok.ensures.on (g.R.ReadyLine.told c.run_turn.new.line)), c.in-Ok.ensures.calm ∙ (c.in-Ok-Park.ensures.calm ∙ c.loop-spot.invariant.1))

pub loop-spot-smaller : goal.loop-spot-smaller
loop-spot-smaller g c =
    let told = g.R.ReadyLine.told c.run_turn.new.line in
    let less = still_lighter (c.in-Ok.ensures.on told) c.in-Ok.ensures.lighter in
    let before = c.in-Ok-Park.ensures.last.1 in
    omega (arith, less, before)
