use Rattle.std.proofs.Common.{refl, None}
use Rattle.pic_machine.proofs.Polls.{polled_after}
use Rattle.pic_machine.proofs.Turns.{Adds-nil, went_none, went_stopped}
use Rattle.mux_one.proofs.Patients.{can_wait, fits_went, still_fits, went_unparked}
use Rattle.mux_one.proofs.tests.wait_or_stop.Goals as goal

pub park-requires-clause-can : goal.park-requires-clause-can
park-requires-clause-can g c = can_wait c.requires.holds c.requires.fiber c.requires.owes c.requires.room c.requires.triggers

pub returns-in-Ok : goal.returns-in-Ok
returns-in-Ok g c = went_stopped _ _ _ _ _ _ _ _ _ _ (went_none _ _ _ c.requires.holds) c.in-Ok.ensures.made refl refl refl tt (Adds-nil _) c.in-Ok.ensures.out

pub stop-requires-clause-fits : goal.stop-requires-clause-fits
stop-requires-clause-fits g c =
    let went = went_unparked None _ c.in-Err-default-Signalled.ensures.none.0 in
    still_fits went _ (fits_went went c.in-Err-default-Signalled.ensures.none.1 c.requires.fits)

pub stop-requires-in-Err-default-Taken-clause-fits : goal.stop-requires-in-Err-default-Taken-clause-fits
stop-requires-in-Err-default-Taken-clause-fits g c =
    let went = went_unparked None _ c.in-Err-default-Taken.ensures.none.0 in
    still_fits went _ (fits_went went c.in-Err-default-Taken.ensures.none.1 c.requires.fits)

pub returns-in-Err-default-Signalled : goal.returns-in-Err-default-Signalled
returns-in-Err-default-Signalled g c =
    let made = rw c.in-Err-default-Signalled.field-0-1-is at c.in-Err-default-Signalled.ensures.none in
    polled_after _ _ _ _ _ _ _ _ _ c.stop.result _ (went_unparked _ _ c.in-Err-default-Signalled.ensures.none.0) made.0.made.calm c.stop.ensures

pub returns-in-Err-default-Taken : goal.returns-in-Err-default-Taken
returns-in-Err-default-Taken g c =
    let made = rw c.in-Err-default-Taken.field-0-1-is at c.in-Err-default-Taken.ensures.none in
    polled_after _ _ _ _ _ _ _ _ _ c.stop-in-Err-default-Taken.result _ (went_unparked _ _ c.in-Err-default-Taken.ensures.none.0) made.0.made.calm c.stop-in-Err-default-Taken.ensures

pub returns-in-Err-default-Again : goal.returns-in-Err-default-Again
returns-in-Err-default-Again g c =
    let refused = rw c.in-Err-default-Again.field-0-1-is at c.in-Err-default-Again.ensures.none in
    (went_unparked _ _ c.in-Err-default-Again.ensures.none.0, fits_went (went_unparked None _ c.in-Err-default-Again.ensures.none.0) c.in-Err-default-Again.ensures.none.1 c.requires.fits, refused.0.1)

pub returns-in-Err-default-Memory : goal.returns-in-Err-default-Memory
returns-in-Err-default-Memory g c =
    let refused = rw c.in-Err-default-Memory.field-0-1-is at c.in-Err-default-Memory.ensures.none in
    (went_unparked _ _ c.in-Err-default-Memory.ensures.none.0, fits_went (went_unparked None _ c.in-Err-default-Memory.ensures.none.0) c.in-Err-default-Memory.ensures.none.1 c.requires.fits, refused.0.1)
