use Rattle.std.proofs.Common.{None}
use Rattle.pic_machine.proofs.Turns.{went_spared}
use Rattle.mux_one.proofs.Patients.{can_signal, fits_went, went_signalled}
use Rattle.mux_one.proofs.tests.signal.Goals as goal

pub signal-requires : goal.signal-requires
signal-requires g c = can_signal c.requires.holds c.requires.fiber c.requires.owes c.requires.room c.requires.triggers

pub returns-in-Ok-clause-went : goal.returns-in-Ok-clause-went
returns-in-Ok-clause-went g c = went_signalled _ c.requires.owes c.in-Ok.ensures.made c.tell.ensures

pub returns-in-Ok-clause-fits : goal.returns-in-Ok-clause-fits
returns-in-Ok-clause-fits g c = fits_went (went_signalled _ c.requires.owes c.in-Ok.ensures.made c.tell.ensures) c.in-Ok.ensures.rest c.requires.fits

pub returns-in-Err-clause-went : goal.returns-in-Err-clause-went
returns-in-Err-clause-went g c = went_spared _ _ _ _ _ c.in-Err.ensures.none.0

pub returns-in-Err-clause-fits : goal.returns-in-Err-clause-fits
returns-in-Err-clause-fits g c = fits_went (went_spared _ _ _ _ None c.in-Err.ensures.none.0) c.in-Err.ensures.rest c.requires.fits
