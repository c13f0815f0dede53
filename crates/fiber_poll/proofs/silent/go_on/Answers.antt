use Rattle.std.proofs.Common.{◌≡◌, Some, slice_get, sym, ap, ◌∙◌}
use Rattle.fiber_body.specs.declared.standing.Frame.TheVariants.{Repeats, Rest}
use Rattle.fiber_body.specs.Shown.{Shown}
use Rattle.fiber_poll.proofs.Moves.{went_behind, went_round}
use Rattle.fiber_poll.proofs.silent.go_on.Goals as goal

pub returns-in-Rest-clause-went : goal.returns-in-Rest-clause-went
returns-in-Rest-clause-went c =
    let a : Shown = c.args.body.now in
    let first : slice_get a.frames 0 ≡ Some (Rest c.in-Rest.block c.in-Rest.place) = sym c.innermost.ensures ∙ (c.in_ok-block.was ∙ ap Some c.in-Rest.is) in
    went_behind a c.pop_frame.new.self c.pop_frame.result c.args.spot.block c.args.spot.place c.args.steps c.in-Rest.block c.in-Rest.place c.requires.over first c.pop_frame.ensures.popped

pub returns-in-Repeats-clause-went : goal.returns-in-Repeats-clause-went
returns-in-Repeats-clause-went c =
    let a : Shown = c.args.body.now in
    let first : slice_get a.frames 0 ≡ Some (Repeats c.in-Repeats.block) = sym c.innermost.ensures ∙ (c.in_ok-block.was ∙ ap Some c.in-Repeats.is) in
    went_round a c.args.spot.block c.args.spot.place c.args.steps c.in-Repeats.block c.requires.over first c.requires.steps
