use Rattle.std.proofs.Common.{◌≡◌, List, ℕ, ◌≤◌, inl, length, Some, Err, codes, ap, sym, subst}
use Rattle.std.proofs.KnownBytes.{Appends-nil}
use Rattle.pic_io.specs.Held.{Gives, IsLongerThan}
use Rattle.pic_report.specs.Output.{Puts}
use Rattle.pic_run.specs.declared.status.Status.TheVariants.{ReadFault, TooLarge}
use Rattle.pic_run.specs.Due.{Due, asked_of, read_fault, too_large}
use Rattle.pic_run.specs.Limits.{most_bytes}
use Rattle.pic_run.specs.Promise.{memory, output_of}
use Rattle.pic_run.specs.Request.{command_of, script_of}
use Rattle.pic_run.proofs.Calls.{serves_given, serves_put}
use Rattle.pic_run.proofs.call.answer_file.Goals as goal

pub returns-in-Ok-clause-serves : goal.returns-in-Ok-clause-serves
returns-in-Ok-clause-serves g c = λ words asks.
    let asked = asked_of g.F.Files.held g.F.Files.fault_count g.F.Files.last_failed words c.args.files.now c.read.new.self in
    let o = output_of g.K.Sink.taken g.K.Sink.fault_count c.args.out.now c.answer_script.new.out in
    let given = subst (λ (w : List ℕ). Gives (g.F.Files.held c.args.files.now (script_of (command_of c.args.request.now))) w) (sym c.as_slice.ensures.value)
    (subst (λ (n : List ℕ). Gives (g.F.Files.held c.args.files.now n) c.in-Ok.bytes.items) c.script.ensures c.in-Ok.ensures.whole) in
    let within = subst (λ (w : List ℕ). length w ≤ most_bytes) (sym c.as_slice.ensures.value) c.in-Ok.ensures.within in
    serves_given asked o asks given within c.answer_script.ensures.serves

pub returns-in-Err-TooLarge-clause-serves : goal.returns-in-Err-TooLarge-clause-serves
returns-in-Err-TooLarge-clause-serves g c = λ words asks.
    let asked = asked_of g.F.Files.held g.F.Files.fault_count g.F.Files.last_failed words c.args.files.now c.read.new.self in
    let o = output_of g.K.Sink.taken g.K.Sink.fault_count c.args.out.now c.put_all.new.out in
    let longer = c.in-Err-TooLarge.ensures.too_large (ap Err c.in-Err-TooLarge.field-0-is) in
    let due = too_large asks (subst (λ (n : List ℕ). IsLongerThan (g.F.Files.held c.args.files.now n) most_bytes) c.script.ensures longer) in
    let puts = subst (λ (w : List ℕ). Puts o.before o.now o.faults o.faults_now w c.put_all.result) c.as_bytes.ensures.value c.put_all.ensures in
    rw c.ended.ensures (serves_put (Due asked) o (codes "too large\n") TooLarge c.put_all.result due puts)

pub returns-in-Err-Failed-clause-serves : goal.returns-in-Err-Failed-clause-serves
returns-in-Err-Failed-clause-serves g c = λ words asks.
    let asked = asked_of g.F.Files.held g.F.Files.fault_count g.F.Files.last_failed words c.args.files.now c.read.new.self in
    let o = output_of g.K.Sink.taken g.K.Sink.fault_count c.args.out.now c.put_all-in-Err-Failed.new.out in
    let named = c.in-Err-Failed.ensures.named (ap Err c.in-Err-Failed.field-0-is) in
    let due = read_fault asks (c.in-Err-Failed.ensures.failed (ap Err c.in-Err-Failed.field-0-is))
    (subst (λ (n : List ℕ). g.F.Files.last_failed c.read.new.self ≡ Some n) c.script.ensures named) in
    let puts = subst (λ (w : List ℕ). Puts o.before o.now o.faults o.faults_now w c.put_all-in-Err-Failed.result) c.as_bytes-in-Err-Failed.ensures.value c.put_all-in-Err-Failed.ensures in
    rw c.ended-in-Err-Failed.ensures (serves_put (Due asked) o (codes "read fault\n") ReadFault c.put_all-in-Err-Failed.result due puts)

pub returns-in-Err-Memory-clause-serves : goal.returns-in-Err-Memory-clause-serves
returns-in-Err-Memory-clause-serves g c = λ words asks. memory (inl (Appends-nil (g.K.Sink.taken c.args.out.now)))
