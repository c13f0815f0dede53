use Rattle.std.proofs.Common.{refl, None}
use Rattle.pic_machine.proofs.Comps.{comps_stay}
use Rattle.pic_machine.proofs.Turns.{went_lent}
use Rattle.mux_one.proofs.Patients.{fits_went, went_refused}
use Rattle.mux_one.proofs.tests.fork_child.Goals as goal

pub fork-requires-clause-child : goal.fork-requires-clause-child
fork-requires-clause-child g c =
    let p = g.P.Port.sight c.args.port.now in
    let born = c.new-child.ensures.birth in
    record {
      unnumbered = c.new-child.ensures.number;
      owes = c.new-child.ensures.owed;
      same_text = rw born refl;
      same_value = rw born refl;
      stands = rw (born, comps_stay p.origin p.front) c.requires.comps;
      share = refl;
    }

pub returns-in-Ok-clause-went : goal.returns-in-Ok-clause-went
returns-in-Ok-clause-went g c = went_lent _ _ _ _ _ _ _ c.in-Ok.ensures.made refl refl refl c.add.ensures

pub returns-in-Ok-clause-fits : goal.returns-in-Ok-clause-fits
returns-in-Ok-clause-fits g c = fits_went (went_lent _ _ _ _ _ _ _ c.in-Ok.ensures.made refl refl refl c.add.ensures) c.in-Ok.ensures.rest c.requires.fits

pub returns-in-Err-default-Full-clause-went : goal.returns-in-Err-default-Full-clause-went
returns-in-Err-default-Full-clause-went g c = went_refused _ _ c.in-Err-default-Full.ensures.none

pub returns-in-Err-default-Full-clause-fits : goal.returns-in-Err-default-Full-clause-fits
returns-in-Err-default-Full-clause-fits g c = fits_went (went_refused None _ c.in-Err-default-Full.ensures.none) c.in-Err-default-Full.ensures.rest c.requires.fits

pub returns-in-Err-default-Again-clause-went : goal.returns-in-Err-default-Again-clause-went
returns-in-Err-default-Again-clause-went g c = went_refused _ _ c.in-Err-default-Again.ensures.none

pub returns-in-Err-default-Again-clause-fits : goal.returns-in-Err-default-Again-clause-fits
returns-in-Err-default-Again-clause-fits g c = fits_went (went_refused None _ c.in-Err-default-Again.ensures.none) c.in-Err-default-Again.ensures.rest c.requires.fits

pub returns-clause-went : goal.returns-clause-went
returns-clause-went g c = went_refused _ _ c.in-Err-default-Memory.ensures.none

pub returns-clause-fits : goal.returns-clause-fits
returns-clause-fits g c = fits_went (went_refused None _ c.in-Err-default-Memory.ensures.none) c.in-Err-default-Memory.ensures.rest c.requires.fits
