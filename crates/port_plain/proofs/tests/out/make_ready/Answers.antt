use Rattle.std.proofs.Common.{◌∙◌, Ok, Err, OnOk, Result, sym}
use Rattle.port_plain.proofs.Callable.{nothing_first}
use Rattle.port_plain.proofs.Handing.{roomy_out, spared_out, spared_owes}
use Rattle.port_plain.proofs.tests.out.make_ready.Goals as goal

pub walk_next-requires : goal.walk_next-requires
walk_next-requires c = c.requires.holds

pub returns-in_default-clause-out : goal.returns-in_default-clause-out
returns-in_default-clause-out c = spared_out c.requires c.walk_next.ensures.spared

pub returns-clause-out : goal.returns-clause-out
returns-clause-out c = roomy_out (spared_out c.requires c.walk_next.ensures.spared) c.reserve.ensures.notes

on_ok : {A E P : Type 0} (result : Result A E) → P → OnOk result P
on_ok (Ok a) holds = holds
on_ok (Err e) holds = tt

pub returns-clause-owes : goal.returns-clause-owes
returns-clause-owes c =
    on_ok c.reserve.result (c.reserve.ensures.notes.owes ∙ (spared_owes c.requires c.walk_next.ensures.spared ∙ nothing_first _ (sym c.walk_next.ensures.first ∙ c.in-None.is)))
