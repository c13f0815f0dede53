use Rattle.std.proofs.lemmas.Result.{err_from_is_err_and}
use Rattle.std.proofs.Common.{refl, sym, subst, ◌∙◌, arith}
use Rattle.fiber_poll.specs.UnderWay.{IsStep}
use Rattle.fiber_poll.proofs.Going.{free_gone, gave_up_after, on_none, on_trans, port_stays}
use Rattle.fiber_poll.proofs.Looping.{on_with}
use Rattle.fiber_poll.proofs.Remaking.{still_lighter}
use Rattle.fiber_poll.proofs.turn.run_on.Goals as goal

pub loop-outcome-init : goal.loop-outcome-init
loop-outcome-init g c = (on_none c.requires.up, refl, c.requires.free, omega arith)

pub run_from-requires-clause-port_of : goal.run_from-requires-clause-port_of
run_from-requires-clause-port_of g c = port_stays c.requires.port_of c.loop-outcome.invariant.0

pub run_from-requires-clause-up : goal.run_from-requires-clause-up
run_from-requires-clause-up g c = c.loop-outcome.invariant.0.up

pub returns-in_err-last-in-At-clause-on : goal.returns-in_err-last-in-At-clause-on
returns-in_err-last-in-At-clause-on g c = on_trans c.loop-outcome.invariant.0 c.run_from.ensures.on

pub returns-in_err-last-in-At-clause-gave_up : goal.returns-in_err-last-in-At-clause-gave_up
returns-in_err-last-in-At-clause-gave_up g c =
    let p = err_from_is_err_and c.from_residual-in_err-last-in-At.result c.from_residual-in_err-last-in-At.ensures.1 in
    rw p.1 (rw p.2 (gave_up_after (g.P.Port.sight c.args.port.now) (g.P.Port.sight c.loop-outcome.port) (g.P.Port.sight c.run_from.new.port) c.in_err-last-in-At.field-0.0 c.loop-outcome.invariant.0.went.grew.later.steady c.loop-outcome.invariant.1 c.in_err-last-in-At.ensures.gave_up))

pub returns-in-Some-2-clause-on : goal.returns-in-Some-2-clause-on
returns-in-Some-2-clause-on g c = on_trans c.loop-outcome.invariant.0 c.run_from.ensures.on

pub returns-in-Some-2-clause-last : goal.returns-in-Some-2-clause-last
returns-in-Some-2-clause-last g c =
    let step = subst (IsStep (g.P.Port.sight c.loop-outcome.port) (g.P.Port.sight c.run_from.new.port) c.loop-outcome.body c.run_from.new.body) c.in-Some-2.is c.in_ok-last-in-At.ensures.step in
    let before = c.loop-outcome.invariant.3 in
    let most = step.1 in
    (step.0, omega (arith, most, before))

pub returns-in_err-last-in-Within-clause-on : goal.returns-in_err-last-in-Within-clause-on
returns-in_err-last-in-Within-clause-on g c = on_trans c.loop-outcome.invariant.0 c.go_on.ensures.on

pub returns-in-Some-clause-on : goal.returns-in-Some-clause-on
returns-in-Some-clause-on g c = on_trans c.loop-outcome.invariant.0 c.go_on.ensures.on

pub returns-in-Some-clause-last : goal.returns-in-Some-clause-last
returns-in-Some-clause-last g c =
    let step = subst (IsStep (g.P.Port.sight c.loop-outcome.port) (g.P.Port.sight c.go_on.new.port) c.loop-outcome.body c.go_on.new.body) c.in-Some.is c.in_ok-last-in-Within.ensures.step in
    let before = c.loop-outcome.invariant.3 in
    let most = step.1 in
    (step.0, omega (arith, most, before))

pub returns-in-Ending-clause-last : goal.returns-in-Ending-clause-last
returns-in-Ending-clause-last g c = (sym c.standing.ensures ∙ c.in-Ending.is, c.loop-outcome.invariant.3)

pub loop-outcome-smaller : goal.loop-outcome-smaller
loop-outcome-smaller g c =
    still_lighter c.run_from.ensures.on (subst (IsStep (g.P.Port.sight c.loop-outcome.port) (g.P.Port.sight c.run_from.new.port) c.loop-outcome.body c.run_from.new.body) c.in_default-2.is c.in_ok-last-in-At.ensures.step)

pub loop-outcome-smaller-in_default : goal.loop-outcome-smaller-in_default
loop-outcome-smaller-in_default g c =
    still_lighter c.go_on.ensures.on (subst (IsStep (g.P.Port.sight c.loop-outcome.port) (g.P.Port.sight c.go_on.new.port) c.loop-outcome.body c.go_on.new.body) c.in_default.is c.in_ok-last-in-Within.ensures.step)

pub loop-outcome-preserved : goal.loop-outcome-preserved
loop-outcome-preserved g c =
    let less = still_lighter c.run_from.ensures.on (subst (IsStep (g.P.Port.sight c.loop-outcome.port) (g.P.Port.sight c.run_from.new.port) c.loop-outcome.body c.run_from.new.body) c.in_default-2.is c.in_ok-last-in-At.ensures.step) in
    let before = c.loop-outcome.invariant.3 in
    (on_trans c.loop-outcome.invariant.0 c.run_from.ensures.on, c.in_ok-last-in-At.ensures.calm ∙ c.loop-outcome.invariant.1, c.in_ok-last-in-At.ensures.free, omega (arith, less, before))

pub loop-outcome-preserved-in_default : goal.loop-outcome-preserved-in_default
loop-outcome-preserved-in_default g c =
    let less = still_lighter c.go_on.ensures.on (subst (IsStep (g.P.Port.sight c.loop-outcome.port) (g.P.Port.sight c.go_on.new.port) c.loop-outcome.body c.go_on.new.body) c.in_default.is c.in_ok-last-in-Within.ensures.step) in
    let before = c.loop-outcome.invariant.3 in
    (on_trans c.loop-outcome.invariant.0 c.go_on.ensures.on, c.in_ok-last-in-Within.ensures.calm ∙ c.loop-outcome.invariant.1, c.in_ok-last-in-Within.ensures.free, omega (arith, less, before))

pub loop-outcome-preserved-in-Out : goal.loop-outcome-preserved-in-Out
loop-outcome-preserved-in-Out g c = (on_with c.loop-outcome.invariant.0 c.leave.ensures.goes, c.loop-outcome.invariant.1, free_gone c.leave.ensures.goes c.loop-outcome.invariant.2, (let less = c.leave.ensures.lighter in let before = c.loop-outcome.invariant.3 in omega (arith, less, before)))

pub run_from-requires-clause-free : goal.run_from-requires-clause-free
run_from-requires-clause-free g c = c.loop-outcome.invariant.2

pub returns-in-Ending-clause-free : goal.returns-in-Ending-clause-free
returns-in-Ending-clause-free g c = c.loop-outcome.invariant.2
