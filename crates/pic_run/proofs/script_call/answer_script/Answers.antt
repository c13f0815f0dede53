use Rattle.pic_run.specs.Promise.{output_of}
use Rattle.pic_run.specs.Request.{command_of}
use Rattle.pic_run.proofs.Calls.{owed_on, script_headline}
use Rattle.pic_run.proofs.script_call.answer_script.Goals as goal

pub returns : goal.returns
returns g c =
    let o = output_of g.K.Sink.taken g.K.Sink.fault_count c.args.out.now c.put_answer.new.out in
    let serves = c.put_answer.ensures.serves in
    record {
      serves = serves;
      headline = script_headline c.args.script.now (command_of c.args.request.now) o serves;
      owed = owed_on c.args.script.now (command_of c.args.request.now) o serves;
      steady = c.put_answer.ensures.steady;
    }
