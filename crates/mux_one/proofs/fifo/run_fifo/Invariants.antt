use Rattle.std.proofs.Common.{◌-◌}
use Rattle.pic_machine.specs.Order.{turns_over}
use Rattle.mux_one.specs.UnderWay.{most_turns}
use Rattle.mux_one.proofs.Running.{Runs}
use Rattle.mux_one.proofs.fifo.run_fifo.Given as goal

abbrev pub invariant-loop-fiber : goal.invariant-loop-fiber
invariant-loop-fiber g l = Runs g.B.Carried.seen (g.Q.Poller.polls l.poller) l.fn.port l.port l.line.lost l.line.queue.items

abbrev pub decreases-loop-fiber : goal.decreases-loop-fiber
decreases-loop-fiber g l = most_turns l.fn.port.start.limits - turns_over l.port.front
