use Rattle.pic_report.proofs.fibers.put_state.Goals as goal

pub returns-in-Suspended : goal.returns-in-Suspended
returns-in-Suspended g c = rw c.in-Suspended.is c.put_line-in-Suspended.ensures
