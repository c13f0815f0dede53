use Rattle.std.proofs.Common.{List, ℕ, inl, subst, ◌∙◌}
use Rattle.std.specs.Arc.{arc_value}
use Rattle.std.specs.String.{string_bytes}
use Rattle.std.proofs.KnownBytes.{Appends-nil}
use Rattle.pic_report.specs.Output.{Puts}
use Rattle.pic_report.specs.View.{view_text}
use Rattle.script_tree.specs.Tree.{Tree}
use Rattle.pic_run.specs.Due.{Answers}
use Rattle.pic_run.specs.Promise.{memory, output_of}
use Rattle.pic_run.specs.Request.{command_of}
use Rattle.pic_run.proofs.Calls.{serves_put}
use Rattle.pic_run.proofs.script_call.put_answer.Goals as goal

pub returns-in_default-clause-serves : goal.returns-in_default-clause-serves
returns-in_default-clause-serves g c = memory (inl (Appends-nil (g.K.Sink.taken c.args.out.now)))

pub returns-in-Text-clause-serves : goal.returns-in-Text-clause-serves
returns-in-Text-clause-serves g c =
    let o = output_of g.K.Sink.taken g.K.Sink.fault_count c.args.out.now c.put_all.new.out in
    let due = rw c.in-Text.is at c.in-Ok.ensures in
    let puts = subst (λ (w : List ℕ). Puts o.before o.now o.faults o.faults_now w c.put_all.result) c.as_bytes.ensures.value c.put_all.ensures in
    rw c.ended.ensures (serves_put (Answers c.args.script.now (command_of c.args.request.now)) o c.in-Text.text.now c.in-Text.status c.put_all.result due puts)

pub returns-in-Made-clause-serves : goal.returns-in-Made-clause-serves
returns-in-Made-clause-serves g c =
    let o = output_of g.K.Sink.taken g.K.Sink.fault_count c.args.out.now c.put_all-in-Made.new.out in
    let due = rw c.in-Made.is at c.in-Ok.ensures in
    let puts = subst (λ (w : List ℕ). Puts o.before o.now o.faults o.faults_now w c.put_all-in-Made.result) (c.as_bytes-in-Made.ensures.value ∙ c.as_str.ensures.value) c.put_all-in-Made.ensures in
    rw c.ended-in-Made.ensures (serves_put (Answers c.args.script.now (command_of c.args.request.now)) o (string_bytes c.in-Made.text) c.in-Made.status c.put_all-in-Made.result due puts)

pub returns-in-Report-clause-serves : goal.returns-in-Report-clause-serves
returns-in-Report-clause-serves g c =
    let o = output_of g.K.Sink.taken g.K.Sink.fault_count c.args.out.now c.write_report.new.out in
    let due = rw c.in-Report.is at c.in-Ok.ensures in
    let puts = subst (λ (t : Tree). Puts o.before o.now o.faults o.faults_now (view_text t c.in-Report.report.view) c.write_report.result) c.deref.ensures c.write_report.ensures in
    rw c.ended-in-Report.ensures (serves_put (Answers c.args.script.now (command_of c.args.request.now)) o (view_text (arc_value c.in-Report.report.program) c.in-Report.report.view) c.in-Report.report.status c.write_report.result due puts)
