use Rattle.std.proofs.Common.{◌≡◌, ℕ, ◌-◌, Option, None, [], ◌∷◌, refl, sym, ap, subst, ◌∙◌}
use Rattle.std.specs.Prelude.{unwrap_or}
use Rattle.pic_machine.specs.declared.entry.Call.TheVariants.{Yield}
use Rattle.pic_machine.specs.declared.entry.Reply.TheVariants.{Plain}
use Rattle.pic_machine.specs.declared.poller.Turn.TheVariants as turn
use Rattle.pic_machine.specs.declared.port.PortFault.TheVariants.{Memory}
use Rattle.pic_machine.specs.Sight.{fiber_of}
use Rattle.pic_machine.specs.Turning.{Adds, YieldsSo}
use Rattle.fiber_body.specs.declared.standing.Standing.TheVariants.{At}
use Rattle.fiber_body.specs.Shown.{carry_of}
use Rattle.fiber_poll.proofs.Giving.{before_same, fits_yielded, handed, handed_set_back, stopped}
use Rattle.fiber_poll.proofs.Going.{on_reserved}
use Rattle.fiber_poll.proofs.last.yield_turn.Goals as goal

pub returns-then-is_err : goal.returns-then-is_err
returns-then-is_err g c = handed Memory (turn.Memory c.reserve.new.self) (on_reserved {told = g.R.ReadyLine.told c.args.line.now} c.requires.up c.reserve.ensures.notes c.reserve.ensures.rest) refl refl

pub lay-requires-clause-after : goal.lay-requires-clause-after
lay-requires-clause-after g c =
    let on = on_reserved {told = None} c.requires.up c.reserve.ensures.notes c.reserve.ensures.rest in
    fits_yielded on.up c.args.spot c.behind.result c.steps-steps.result (before_same c.reserve.ensures.rest c.reserve.ensures.notes.share c.requires.before) c.behind.ensures c.steps-steps.ensures c.stand.ensures

pub returns-in-Ok : goal.returns-in-Ok
returns-in-Ok g c =
    let told = g.R.ReadyLine.told c.args.line.now in
    let on = on_reserved {told = told} c.requires.up c.reserve.ensures.notes c.reserve.ensures.rest in
    let number : fiber_of (carry_of c.reserve.new.self) ≡ c.fiber-fiber.result = ap (λ (n : Option ℕ). unwrap_or n 0) c.fiber-fiber.ensures in
    stopped c.behind.result (c.steps-steps.result - 1) Yield Plain (λ h. YieldsSo h.entry.call) on c.stand.ensures c.in-Ok.ensures.yielded refl refl tt
    (subst (λ (n : ℕ). Adds told (g.R.ReadyLine.told c.add.new.self) (n ∷ [])) (sym number) c.add.ensures) c.in-Ok.ensures.out

pub returns-in-Err : goal.returns-in-Err
returns-in-Err g c =
    let on = on_reserved {told = g.R.ReadyLine.told c.args.line.now} c.requires.up c.reserve.ensures.notes c.reserve.ensures.rest in
    handed_set_back c.behind.result (At c.args.spot.block c.args.spot.place) (c.steps-steps.result - 1) c.steps-steps.result c.in-Err.fault c.handed_back.result on c.stand.ensures c.in-Err.ensures.none
    (c.reserve.ensures.rest.standing ∙ c.requires.before.here.at) c.steps-steps.ensures c.stand-in-Err.ensures c.handed_back.ensures
