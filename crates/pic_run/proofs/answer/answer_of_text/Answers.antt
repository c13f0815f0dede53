use Rattle.std.proofs.lemmas.Result.{IfOk-weaker}
use Rattle.pic_run.specs.Refusal.{no_script}
use Rattle.pic_run.specs.Request.{command_of}
use Rattle.pic_run.proofs.Calls.{answers_told, denied}
use Rattle.pic_run.proofs.answer.answer_of_text.Goals as goal

pub returns-in-Err-Refused : goal.returns-in-Err-Refused
returns-in-Err-Refused c =
    let r = c.in-Err-Refused.refused in
    let cause = denied c.args.bytes.now c.in-Err-Refused.field-0 r c.in-Err-Refused.ensures.refused c.in-Err-Refused.field-0-is in
    IfOk-weaker c.refusal.result _ _ (λ made tells. answers_told c.args.bytes.now (command_of c.args.request.now) r made (no_script cause) tells) c.refusal.ensures
