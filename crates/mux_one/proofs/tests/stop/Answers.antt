use Rattle.std.proofs.Common.{None}
use Rattle.pic_machine.proofs.Polls.{polled_after}
use Rattle.mux_one.proofs.Patients.{still_fiber, still_fits}
use Rattle.mux_one.proofs.tests.stop.Goals as goal

pub stop_with_room-requires-clause-holds : goal.stop_with_room-requires-clause-holds
stop_with_room-requires-clause-holds g c = (c.make_ready.ensures.went None).holds

pub stop_with_room-requires-clause-fiber : goal.stop_with_room-requires-clause-fiber
stop_with_room-requires-clause-fiber g c = still_fiber (c.make_ready.ensures.went None) c.requires.fiber

pub stop_with_room-requires-clause-fits : goal.stop_with_room-requires-clause-fits
stop_with_room-requires-clause-fits g c = still_fits (c.make_ready.ensures.went None) _ c.make_ready.ensures.fits

pub returns : goal.returns
returns g c = polled_after _ _ _ _ _ _ _ _ _ c.stop_with_room.result _ (c.make_ready.ensures.went _) c.make_ready.ensures.calm c.stop_with_room.ensures
