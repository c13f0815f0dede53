use Rattle.std.proofs.Common.{◌≡◌, List, ℕ, Ok, codes, sym, subst}
use Rattle.script_tree.specs.Grammar.{grammar}
use Rattle.std.specs.String.{string_bytes}
use Rattle.pic_run.specs.declared.request.Mode.{Mode}
use Rattle.pic_run.specs.declared.status.Status.TheVariants.{Done}
use Rattle.pic_run.specs.Due.{Answers, checked, shown}
use Rattle.pic_run.specs.Request.{show, command_of_mode}
use Rattle.pic_run.proofs.answer.answer_of_program.Goals as goal

pub returns-in-Check : goal.returns-in-Check
returns-in-Check c = λ bytes reads.
    subst (λ (m : Mode). Answers bytes (command_of_mode m c.args.request.now.trace c.args.request.now.log) (codes "ok\n") Done) (sym c.in-Check.is) (checked c.args.program reads)

pub returns-in_ok-show-in-Show : goal.returns-in_ok-show-in-Show
returns-in_ok-show-in-Show c = λ bytes reads.
    let is = c.in_ok-show-in-Show.ensures.text in
    let again = subst (λ (text : List ℕ). grammar text ≡ Ok c.args.program) is c.in_ok-show-in-Show.ensures.again in
    subst (λ (m : Mode). Answers bytes (command_of_mode m c.args.request.now.trace c.args.request.now.log) (string_bytes c.in_ok-show-in-Show.field-0) Done) (sym c.in-Show.is)
    (subst (λ (text : List ℕ). Answers bytes (show (string_bytes c.in-Show.script)) text Done) (sym is) (shown c.args.program reads again))
