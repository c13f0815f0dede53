use Rattle.std.proofs.Common.{map}
use Rattle.std.specs.String.{string_bytes}
use Rattle.pic_run.specs.Due.{asked_of}
use Rattle.pic_run.specs.Promise.{output_of}
use Rattle.pic_run.proofs.Calls.{headline, owed}
use Rattle.pic_run.proofs.call.run_one_call.Goals as goal

pub returns : goal.returns
returns g c =
    let asked = asked_of g.F.Files.held g.F.Files.fault_count g.F.Files.last_failed (map string_bytes c.args.words.now) c.args.files.now c.call_once.new.files in
    let o = output_of g.K.Sink.taken g.K.Sink.fault_count c.args.out.now c.call_once.new.out in
    let told = c.call_once.ensures in
    record {
      serves = told.serves;
      headline = headline asked o told.serves;
      owed = owed asked o told.serves;
      reads = told.reads;
      untouched = told.untouched;
      kept = told.kept;
      steady = told.steady;
    }
