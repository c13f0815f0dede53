use Rattle.std.proofs.Common.{ap, refl, ◌∙◌}
use Rattle.pic_machine.specs.History.{Origin}
use Rattle.mux_one.proofs.Running.{at_start, fewer_left}
use Rattle.mux_one.proofs.fifo.run_fifo.Goals as goal

pub loop-fiber-init : goal.loop-fiber-init
loop-fiber-init g c = record {
  origin = refl;
  share = refl;
  polls_it = c.requires.polls;
  whole = c.in_ok-line.ensures.lost;
  under_way = rw c.in_ok-line.ensures.queue (at_start c.args.port.start refl c.world.ensures.start c.requires.fresh c.requires.out);
}

pub loop-fiber-smaller : goal.loop-fiber-smaller
loop-fiber-smaller g c =
    fewer_left _ (ap (λ (o : Origin). o.world.limits) (c.in_ok-run_turn.ensures.origin ∙ c.loop-fiber.invariant.origin)) c.in_ok-run_turn.ensures.under_way c.in_ok-run_turn.ensures.further

pub loop-fiber-preserved : goal.loop-fiber-preserved
loop-fiber-preserved g c = record {
  origin = c.in_ok-run_turn.ensures.origin ∙ c.loop-fiber.invariant.origin;
  share = c.in_ok-run_turn.ensures.share ∙ c.loop-fiber.invariant.share;
  polls_it = g.met.Q.Poller.polls_later _ _ _ c.loop-fiber.invariant.polls_it c.in_ok-run_turn.ensures.origin c.in_ok-run_turn.ensures.share;
  whole = c.in_ok-run_turn.ensures.whole;
  under_way = c.in_ok-run_turn.ensures.under_way;
}

pub finish-requires : goal.finish-requires
finish-requires g c = record { under_way = rw c.in_default.ensures.queue at c.loop-fiber.invariant.under_way }
