use Rattle.std.proofs.Common.{ap, refl, sym, ◌∙◌, arith, ℕ, Option, unwrap_or}
use Rattle.mux_one.proofs.Running.{first_in_range, first_live, next_turn, one_further, whole_stopped}
use Rattle.mux_one.proofs.fifo.run_turn.Goals as goal

pub claim-requires-clause-range : goal.claim-requires-clause-range
claim-requires-clause-range g c = first_in_range c.requires.under_way

pub claim-requires-clause-live : goal.claim-requires-clause-live
claim-requires-clause-live g c = first_live c.requires.under_way

pub returns-clause-under_way : goal.returns-clause-under_way
returns-clause-under_way g c =
    next_turn refl c.in_ok-body.ensures.made (whole_stopped c.in_ok-body.ensures.body.1 c.requires.whole (sym c.is_lost.ensures ∙ c.if-is_lost.false) c.in_ok-poll.ensures) c.requires.under_way
    (g.met.Q.Poller.few c.args.poller.now _ _
    (λ clock. let none = ap (λ (number : Option ℕ). unwrap_or number 0) clock in absurd (omega (arith, none, c.in_ok-body.ensures.body.1, (first_live c.requires.under_way).made)))
    c.in_ok-body.ensures.body.2)

pub returns-clause-further : goal.returns-clause-further
returns-clause-further g c =
    one_further refl c.in_ok-body.ensures.made (whole_stopped c.in_ok-body.ensures.body.1 c.requires.whole (sym c.is_lost.ensures ∙ c.if-is_lost.false) c.in_ok-poll.ensures)
