use Rattle.std.proofs.Common.{map}
use Rattle.std.specs.String.{string_bytes}
use Rattle.pic_run.specs.Due.{asked_of}
use Rattle.pic_run.specs.Promise.{inner_output}
use Rattle.pic_run.proofs.Calls.{headline, owed}
use Rattle.pic_run.proofs.to_end.run_to_end.Goals as goal

pub returns : goal.returns
returns g c =
    let asked = asked_of g.F.Files.held g.F.Files.fault_count g.F.Files.last_failed (map string_bytes c.args.words.now) c.args.files.now c.gather_to_end.new.files in
    let o = inner_output g.S.Sink.taken g.S.Sink.fault_count c.args.out.now c.gather_to_end.new.out in
    let told = c.gather_to_end.ensures in
    record {
      serves = told.serves;
      headline = headline asked o told.serves;
      owed = owed asked o told.serves;
      reads = told.reads;
      untouched = told.untouched;
      kept = told.kept;
    }
