use Rattle.std.proofs.Common.{◌≡◌, ◌-◌, ℕ, slice_get, ap, subst, sym, ◌∙◌}
use Rattle.pic_base.specs.declared.outcome.Outcome.{Outcome}
use Rattle.fiber_body.specs.declared.standing.Exit.{Exit}
use Rattle.fiber_body.specs.declared.standing.Standing.TheVariants.{At, Ending, Out}
use Rattle.fiber_body.specs.Shown.{Shown, stood}
use Rattle.fiber_body.specs.Tables.{outcome_of}
use Rattle.fiber_poll.specs.Moving.{Goes, passed}
use Rattle.fiber_poll.proofs.Entering.{again_goes, goes_round, not_some, passed_goes, text_goes}
use Rattle.fiber_poll.proofs.blocks.leave.Goals as goal

pub returns-in-Some-clause-goes : goal.returns-in-Some-clause-goes
returns-in-Some-clause-goes c =
    let body = c.args.body.now in
    let round = goes_round (slice_get body.frames 0) c.args.exit body.context.steps c.in-Some.block (sym c.round_of.ensures ∙ c.in-Some.is) in
    let there : c.stand.new.self ≡ stood body (At c.in-Some.block 0) (body.context.steps - 1) = c.stand.ensures ∙ ap (λ (n : ℕ). stood body (At c.in-Some.block 0) (n - 1)) c.steps-steps.ensures in
    subst (Goes body) (sym there) (again_goes body c.in-Some.block (c.requires ∙ ap (λ (x : Exit). Out x) round.0) round.1 round.2)

pub returns-in_default-pop_frame-clause-goes : goal.returns-in_default-pop_frame-clause-goes
returns-in_default-pop_frame-clause-goes c =
    let body = c.args.body.now in
    let popped = c.in_default-pop_frame.ensures.popped in
    let there : c.stand-in_default-pop_frame.new.self ≡ stood body (Ending (outcome_of c.args.exit body.context)) body.context.steps =
    c.stand-in_default-pop_frame.ensures
    ∙ (ap (λ (o : Outcome). stood c.pop_frame.new.self (Ending o) c.steps-steps.result) (c.outcome_of-outcome.ensures ∙ ap (λ (z : Shown). outcome_of c.args.exit z.context) popped.1)
    ∙ (ap (λ (z : Shown). stood z (Ending (outcome_of c.args.exit body.context)) c.steps-steps.result) popped.1
    ∙ ap (λ (n : ℕ). stood body (Ending (outcome_of c.args.exit body.context)) n) c.steps-steps.ensures)) in
    subst (Goes body) (sym there) (text_goes body c.args.exit c.requires popped.0)

pub returns-clause-goes : goal.returns-clause-goes
returns-clause-goes c =
    let body = c.args.body.now in
    let popped = c.in-Some-pop_frame.ensures.popped in
    let none = sym c.round_of.ensures ∙ not_some c.round_of.result c.in_default.not-Some in
    let there : c.pass.new.body ≡ passed (record body { frames = popped.0 }) c.in-Some-pop_frame.frame c.args.exit =
    c.pass.ensures ∙ ap (λ (z : Shown). passed z c.in-Some-pop_frame.frame c.args.exit) popped.2 in
    subst (Goes body) (sym there) (passed_goes body c.args.exit c.in-Some-pop_frame.frame popped.0 c.requires popped.1 none)
