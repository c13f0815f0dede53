use Rattle.std.proofs.Common.{ℕ, List, arith}
use Rattle.std.specs.Borrow.{Bor}
use Rattle.pic_report.proofs.Names.{comp_named}
use Rattle.pic_report.proofs.comps.comp_name.Goals as goal

pub returns-in-Some : goal.returns-in-Some
returns-in-Some c =
    comp_named (λ (name : Bor (List ℕ)). name.now) c.args.names.now c.args.number c.in-Some.name.now (omega arith) c.in-Some.ensures.lookup.3.0 (c.in-Some.ensures.lookup.3.1 c.in-Some.name.now)
