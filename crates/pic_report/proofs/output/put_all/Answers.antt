use Rattle.std.proofs.Common.{List, ℕ, sym, subst}
use Rattle.std.proofs.lemmas.List.{take_rest}
use Rattle.pic_report.proofs.Putting.{IsPut, put_on}
use Rattle.pic_report.proofs.output.put_all.Goals as goal

pub pieces-preserved : goal.pieces-preserved
pieces-preserved g c =
    let before = g.K.Sink.taken c.args.out.now in
    let faults = g.K.Sink.fault_count c.args.out.now in
    let now = g.K.Sink.taken c.put.new.self in
    let faults_now = g.K.Sink.fault_count c.put.new.self in
    let rest = c.pieces.rest.now in
    let count = c.in_ok-count.count in
    subst (λ (w : List ℕ). IsPut before now faults faults_now c.args.text.now w) (sym (take_rest rest count))
    (put_on before (g.K.Sink.taken c.pieces.out) now faults (g.K.Sink.fault_count c.pieces.out) faults_now c.args.text.now rest count c.pieces.invariant c.in_ok-count.ensures.within c.in_ok-count.ensures.front c.in_ok-count.ensures.steady)
