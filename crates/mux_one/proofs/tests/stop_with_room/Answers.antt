use Rattle.std.proofs.Common.{refl, None, arith}
use Rattle.pic_machine.proofs.Polls.{polled_refused}
use Rattle.pic_machine.proofs.Turns.{Adds-nil, went_none, went_spared, went_stopped}
use Rattle.mux_one.proofs.Patients.{fits_went}
use Rattle.mux_one.proofs.tests.stop_with_room.Goals as goal

pub returns-in-Ok : goal.returns-in-Ok
returns-in-Ok g c = went_stopped _ _ _ _ _ _ _ _ _ _ (went_none _ _ _ c.requires.holds) c.in-Ok.ensures.made refl refl refl tt (Adds-nil _) c.in-Ok.ensures.out

pub returns-in-Ok-lay : goal.returns-in-Ok-lay
returns-in-Ok-lay g c =
    went_stopped _ _ _ _ _ _ _ _ _ _ (went_none _ _ _ c.requires.holds) c.in-Ok-lay.ensures.yielded refl refl refl tt (rw c.fiber-fiber.ensures c.add.ensures) c.in-Ok-lay.ensures.out

pub returns-in-Err : goal.returns-in-Err
returns-in-Err g c =
    polled_refused _ _ _ _ _ _ _ _ _ c.in-Err.ensures.none.0 c.refused.ensures.again c.refused.ensures.memory
    (fits_went (went_spared _ _ _ _ None c.in-Err.ensures.none.0.0) (omega (arith, c.in-Err.ensures.none.1, c.requires.left)) c.requires.fits)

pub returns-in-Err-lay : goal.returns-in-Err-lay
returns-in-Err-lay g c =
    polled_refused _ _ _ _ _ _ _ _ _ c.in-Err-lay.ensures.none.0 c.refused-in-Err-lay.ensures.again c.refused-in-Err-lay.ensures.memory
    (fits_went (went_spared _ _ _ _ None c.in-Err-lay.ensures.none.0.0) (omega (arith, c.in-Err-lay.ensures.none.1, c.requires.left)) c.requires.fits)
