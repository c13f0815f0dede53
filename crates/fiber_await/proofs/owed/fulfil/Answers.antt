use Rattle.std.proofs.Common.{Some, sym, ap, ◌∙◌}
use Rattle.fiber_await.proofs.Fulfilling.{discharged_signal, discharged_spared, fewer_owed, may_signal, no_other}
use Rattle.fiber_await.proofs.owed.fulfil.Goals as goal

pub unreachable-requires : goal.unreachable-requires
unreachable-requires g c = no_other _ _ c.args.duty (g.met.P.Port.starts c.args.port.now) c.requires.holds c.requires.first c.in_default.not-Signal

pub signal-requires-clause-may : goal.signal-requires-clause-may
signal-requires-clause-may g c = may_signal _ _ c.in-Signal.trigger (g.met.P.Port.starts c.args.port.now) c.requires.holds (ap Some (sym c.in-Signal.is) ∙ c.requires.first)

pub returns-in_err-how-clause-discharged : goal.returns-in_err-how-clause-discharged
returns-in_err-how-clause-discharged g c = discharged_spared _ _ _ _ _ c.in_err-how.ensures.refused.0

pub returns-clause-discharged : goal.returns-clause-discharged
returns-clause-discharged g c =
    discharged_signal _ _ _ _ c.in-Signal.trigger c.in_ok-how.how (ap Some (sym c.in-Signal.is) ∙ c.requires.first) c.in_ok-how.ensures.made _ _ c.tell.ensures

pub returns-clause-fewer : goal.returns-clause-fewer
returns-clause-fewer g c =
    fewer_owed (g.P.Port.sight c.args.port.now) (g.P.Port.sight c.signal.new.port) (g.P.Body.Carried.seen c.args.body.now) (g.P.Body.Carried.seen c.signal.new.body)
    c.in-Signal.trigger c.in_ok-how.how (ap Some (sym c.in-Signal.is) ∙ c.requires.first) c.in_ok-how.ensures.made (g.met.P.Port.starts c.args.port.now) c.requires.holds
