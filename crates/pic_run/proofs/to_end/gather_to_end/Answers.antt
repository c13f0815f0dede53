use Rattle.std.proofs.Common.{map}
use Rattle.std.specs.String.{string_bytes}
use Rattle.std.specs.Io.KnownBytes.{append_known}
use Rattle.pic_run.specs.Due.{Due, asked_of}
use Rattle.pic_run.proofs.Handing.{finishes}
use Rattle.pic_run.proofs.to_end.gather_to_end.Goals as goal

pub returns-clause-serves : goal.returns-clause-serves
returns-clause-serves g c =
    let asked = asked_of g.F.Files.held g.F.Files.fault_count g.F.Files.last_failed (map string_bytes c.args.words.now) c.args.files.now c.run_one_call-called.new.files in
    let before = append_known (g.S.Sink.taken c.args.out.now.inner) c.args.out.now.gathered.items in
    let called = c.run_one_call-called.new.out in
    let ended = c.finish.new.self in
    rw c.finished.ensures (finishes (Due asked) before (g.S.Sink.taken called.inner) (g.S.Sink.taken ended.inner) called.gathered.items ended.gathered.items c.finish.ensures.handed
    (g.S.Sink.fault_count c.args.out.now.inner) (g.S.Sink.fault_count called.inner) (g.S.Sink.fault_count ended.inner) c.run_one_call-called.ensures.steady c.finish.ensures.steady
    c.finish.result c.run_one_call-called.result c.finish.ensures.all c.finish.ensures.failed c.run_one_call-called.ensures.serves)
