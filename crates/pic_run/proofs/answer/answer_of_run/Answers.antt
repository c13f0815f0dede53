use Rattle.std.proofs.Common.{sym, subst}
use Rattle.std.proofs.lemmas.Result.{IfOk-weaker}
use Rattle.script_tree.specs.Tree.{Tree}
use Rattle.pic_run.specs.Over.{IsReportOf}
use Rattle.pic_run.specs.Refusal.{not_served, unserved}
use Rattle.pic_run.specs.Request.{run}
use Rattle.pic_run.proofs.Calls.{answers_ran, answers_told}
use Rattle.pic_run.proofs.answer.answer_of_run.Goals as goal

pub returns-then-not-built : goal.returns-then-not-built
returns-then-not-built c =
    IfOk-weaker c.refusal.result _ _ (λ made tells bytes script input reads.
    answers_told bytes (run script input c.args.trace c.args.log) unserved made (not_served c.args.program reads (sym c.if-not-built.ensures)) tells) c.refusal.ensures

pub returns : goal.returns
returns c = λ bytes script input reads.
    answers_ran bytes script input c.args.trace c.args.log c.args.program c.in_ok-port.port.front c.in_ok-report_of.field-0 reads (sym c.if-not-built.ensures)
    (subst (λ (tree : Tree). IsReportOf tree c.in_ok-port.port.front c.args.trace c.args.log c.in_ok-report_of.field-0) c.in_ok-program.ensures.ok c.in_ok-report_of.ensures)
