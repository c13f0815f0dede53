use Rattle.std.proofs.Common.{List, length, slice_get, refl, sym, ap, ◌∙◌, arith}
use Rattle.pic_base.specs.declared.duty.Duty.{Duty}
use Rattle.fiber_await.proofs.Calling.{owes_spared}
use Rattle.fiber_await.proofs.Fulfilling.{Discharged-trans, discharged_more, discharged_none, discharged_spared, none_first, own_discharged}
use Rattle.fiber_await.proofs.owed.discharge.Goals as goal

pub loop-duty-init : goal.loop-duty-init
loop-duty-init g c = record { done = discharged_none _ _ _ c.requires; calm = refl; rest = g.met.P.Body.Carried.rest_same c.args.body.now }

pub fulfil-requires-clause-first : goal.fulfil-requires-clause-first
fulfil-requires-clause-first g c =
    sym c.in-Some.is ∙ (c.walk_next.ensures.first ∙ ap (λ (ds : List Duty). slice_get ds 0) (sym (owes_spared _ _ _ _ c.loop-duty.invariant.done.went.holds.owes c.walk_next.ensures.spared)))

pub loop-duty-smaller : goal.loop-duty-smaller
loop-duty-smaller g c = omega (arith, c.in_ok-fulfil.ensures.fewer, ap length (owes_spared _ _ _ _ c.loop-duty.invariant.done.went.holds.owes c.walk_next.ensures.spared))

pub loop-duty-preserved : goal.loop-duty-preserved
loop-duty-preserved g c = record {
  done = discharged_more _ _ _ _ _ _ _ _ _ _ _ c.loop-duty.invariant.done c.walk_next.ensures.spared c.fulfil.ensures.discharged;
  calm = c.in_ok-fulfil.ensures.calm ∙ (c.walk_next.ensures.calm ∙ c.loop-duty.invariant.calm);
  rest = g.met.P.Body.Carried.rest_after _ _ _ c.loop-duty.invariant.rest (g.met.P.Body.Carried.rest_after _ _ _ c.walk_next.ensures.rest c.fulfil.ensures.rest);
}

pub returns-in_err-fulfil-clause-discharged : goal.returns-in_err-fulfil-clause-discharged
returns-in_err-fulfil-clause-discharged g c =
    discharged_more _ _ _ _ _ _ _ _ _ _ _ c.loop-duty.invariant.done c.walk_next.ensures.spared c.fulfil.ensures.discharged

pub returns-in_err-fulfil-clause-own : goal.returns-in_err-fulfil-clause-own
returns-in_err-fulfil-clause-own g c =
    own_discharged _ _ _ _ _ _ (discharged_more _ _ _ _ _ _ _ _ _ _ _ c.loop-duty.invariant.done c.walk_next.ensures.spared c.fulfil.ensures.discharged)

pub returns-in_err-fulfil-clause-rest : goal.returns-in_err-fulfil-clause-rest
returns-in_err-fulfil-clause-rest g c =
    g.met.P.Body.Carried.rest_after _ _ _ c.loop-duty.invariant.rest (g.met.P.Body.Carried.rest_after _ _ _ c.walk_next.ensures.rest c.fulfil.ensures.rest)

pub returns-clause-discharged : goal.returns-clause-discharged
returns-clause-discharged g c = Discharged-trans _ _ _ _ _ _ _ _ _ c.loop-duty.invariant.done (discharged_spared _ _ _ _ _ c.walk_next.ensures.spared)

pub returns-clause-own : goal.returns-clause-own
returns-clause-own g c = own_discharged _ _ _ _ _ _ (Discharged-trans _ _ _ _ _ _ _ _ _ c.loop-duty.invariant.done (discharged_spared _ _ _ _ _ c.walk_next.ensures.spared))

pub returns-clause-owes : goal.returns-clause-owes
returns-clause-owes g c =
    owes_spared _ _ _ _ c.loop-duty.invariant.done.went.holds.owes c.walk_next.ensures.spared ∙ none_first _ (sym c.in_default.is ∙ c.walk_next.ensures.first)

pub returns-clause-rest : goal.returns-clause-rest
returns-clause-rest g c = g.met.P.Body.Carried.rest_after _ _ _ c.loop-duty.invariant.rest c.walk_next.ensures.rest
