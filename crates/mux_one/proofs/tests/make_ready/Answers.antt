use Rattle.std.proofs.Common.{None, sym, ◌∙◌}
use Rattle.pic_machine.proofs.Turns.{went_spared}
use Rattle.mux_one.proofs.Patients.{fits_went, none_first, owes_spared, went_ready}
use Rattle.mux_one.proofs.tests.make_ready.Goals as goal

pub returns-then-is_some-clause-went : goal.returns-then-is_some-clause-went
returns-then-is_some-clause-went g c = λ line. went_spared _ _ _ _ line c.walk_next.ensures.spared

pub returns-then-is_some-clause-fits : goal.returns-then-is_some-clause-fits
returns-then-is_some-clause-fits g c = fits_went (went_spared _ _ _ _ None c.walk_next.ensures.spared) c.walk_next.ensures.rest c.requires.fits

pub returns-clause-went : goal.returns-clause-went
returns-clause-went g c = λ line. went_ready c.walk_next.ensures.spared c.reserve.ensures.notes line

pub returns-clause-fits : goal.returns-clause-fits
returns-clause-fits g c = fits_went (went_ready c.walk_next.ensures.spared c.reserve.ensures.notes None) (c.reserve.ensures.rest ∙ c.walk_next.ensures.rest) c.requires.fits

pub returns-clause-owes : goal.returns-clause-owes
returns-clause-owes g c = λ ready. c.reserve.ensures.notes.owes ∙ (owes_spared c.requires.holds c.walk_next.ensures.spared ∙ none_first _ _ c.walk_next.ensures.first (sym c.is_some.ensures ∙ c.if-is_some.false))
