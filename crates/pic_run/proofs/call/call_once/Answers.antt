use Rattle.std.proofs.Common.{List, ℕ, inl, map, Err, codes, ap, subst}
use Rattle.std.specs.String.{string_bytes}
use Rattle.std.proofs.KnownBytes.{Appends-nil}
use Rattle.pic_report.specs.Output.{Puts}
use Rattle.pic_run.specs.declared.status.Status.TheVariants.{Usage}
use Rattle.pic_run.specs.Due.{Due, asked_of, usage}
use Rattle.pic_run.specs.Promise.{memory, output_of}
use Rattle.pic_run.proofs.Calls.{serves_put}
use Rattle.pic_run.proofs.call.call_once.Goals as goal

pub returns-in-Err-Usage-clause-serves : goal.returns-in-Err-Usage-clause-serves
returns-in-Err-Usage-clause-serves g c =
    let asked = asked_of g.F.Files.held g.F.Files.fault_count g.F.Files.last_failed (map string_bytes c.args.words.now) c.args.files.now c.args.files.now in
    let o = output_of g.K.Sink.taken g.K.Sink.fault_count c.args.out.now c.put_all.new.out in
    let due = usage (c.in-Err-Usage.ensures.usage (ap Err c.in-Err-Usage.field-0-is)) in
    let puts = subst (λ (w : List ℕ). Puts o.before o.now o.faults o.faults_now w c.put_all.result) c.as_bytes.ensures.value c.put_all.ensures in
    rw c.ended.ensures (serves_put (Due asked) o (codes "usage\n") Usage c.put_all.result due puts)

pub returns-in-Err-Memory-clause-serves : goal.returns-in-Err-Memory-clause-serves
returns-in-Err-Memory-clause-serves g c = memory (inl (Appends-nil (g.K.Sink.taken c.args.out.now)))
