use Rattle.std.proofs.Common.{None, refl}
use Rattle.pic_machine.proofs.Polls.{polled_after}
use Rattle.pic_machine.proofs.Turns.{went_none}
use Rattle.mux_one.proofs.Patients.{still_fiber, still_fits}
use Rattle.mux_one.proofs.tests.PatientlyPoller.poll.Goals as goal

pub returns-then-body-eq0 : goal.returns-then-body-eq0
returns-then-body-eq0 g c = (went_none _ _ _ c.requires.holds, c.requires.fits, refl)

pub stop-requires-clause-holds : goal.stop-requires-clause-holds
stop-requires-clause-holds g c = (c.make_ready.ensures.went None).holds

pub stop-requires-clause-fiber : goal.stop-requires-clause-fiber
stop-requires-clause-fiber g c = still_fiber (c.make_ready.ensures.went None) c.requires.fiber

pub stop-requires-clause-fits : goal.stop-requires-clause-fits
stop-requires-clause-fits g c = still_fits (c.make_ready.ensures.went None) _ c.make_ready.ensures.fits

pub returns-in-Nothing : goal.returns-in-Nothing
returns-in-Nothing g c = polled_after _ _ _ _ _ _ _ _ _ c.stop.result _ (c.make_ready.ensures.went _) c.make_ready.ensures.calm c.stop.ensures

pub fork_and_stop-requires-clause-holds : goal.fork_and_stop-requires-clause-holds
fork_and_stop-requires-clause-holds g c = (c.make_ready.ensures.went None).holds

pub fork_and_stop-requires-clause-fiber : goal.fork_and_stop-requires-clause-fiber
fork_and_stop-requires-clause-fiber g c = still_fiber (c.make_ready.ensures.went None) c.requires.fiber

pub fork_and_stop-requires-clause-fits : goal.fork_and_stop-requires-clause-fits
fork_and_stop-requires-clause-fits g c = still_fits (c.make_ready.ensures.went None) _ c.make_ready.ensures.fits

pub fork_and_stop-requires-clause-comps : goal.fork_and_stop-requires-clause-comps
fork_and_stop-requires-clause-comps g c = rw (c.make_ready.ensures.went None).grew.later.origin c.requires.polls.0

pub returns-in-Fork : goal.returns-in-Fork
returns-in-Fork g c = polled_after _ _ _ _ _ _ _ _ _ c.fork_and_stop.result _ (c.make_ready.ensures.went _) c.make_ready.ensures.calm c.fork_and_stop.ensures

pub signal_and_stop-requires-clause-holds : goal.signal_and_stop-requires-clause-holds
signal_and_stop-requires-clause-holds g c = (c.make_ready.ensures.went None).holds

pub signal_and_stop-requires-clause-fiber : goal.signal_and_stop-requires-clause-fiber
signal_and_stop-requires-clause-fiber g c = still_fiber (c.make_ready.ensures.went None) c.requires.fiber

pub signal_and_stop-requires-clause-fits : goal.signal_and_stop-requires-clause-fits
signal_and_stop-requires-clause-fits g c = still_fits (c.make_ready.ensures.went None) _ c.make_ready.ensures.fits

pub signal_and_stop-requires-clause-triggers : goal.signal_and_stop-requires-clause-triggers
signal_and_stop-requires-clause-triggers g c = rw (c.make_ready.ensures.went None).grew.later.origin c.requires.polls.1

pub returns-in-Signal : goal.returns-in-Signal
returns-in-Signal g c = polled_after _ _ _ _ _ _ _ _ _ c.signal_and_stop.result _ (c.make_ready.ensures.went _) c.make_ready.ensures.calm c.signal_and_stop.ensures

pub wait_or_stop-requires-clause-holds : goal.wait_or_stop-requires-clause-holds
wait_or_stop-requires-clause-holds g c = (c.make_ready.ensures.went None).holds

pub wait_or_stop-requires-clause-fiber : goal.wait_or_stop-requires-clause-fiber
wait_or_stop-requires-clause-fiber g c = still_fiber (c.make_ready.ensures.went None) c.requires.fiber

pub wait_or_stop-requires-clause-fits : goal.wait_or_stop-requires-clause-fits
wait_or_stop-requires-clause-fits g c = still_fits (c.make_ready.ensures.went None) _ c.make_ready.ensures.fits

pub wait_or_stop-requires-clause-triggers : goal.wait_or_stop-requires-clause-triggers
wait_or_stop-requires-clause-triggers g c = rw (c.make_ready.ensures.went None).grew.later.origin c.requires.polls.1

pub returns-in-Wait : goal.returns-in-Wait
returns-in-Wait g c = polled_after _ _ _ _ _ _ _ _ _ c.wait_or_stop.result _ (c.make_ready.ensures.went _) c.make_ready.ensures.calm c.wait_or_stop.ensures
