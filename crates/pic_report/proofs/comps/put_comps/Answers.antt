use Rattle.std.proofs.Common.{◌≡◌, ◌+◌, ◌-◌, ◌<◌, Option, None, List, length, get_or, ap, ◌∙◌, arith}
use Rattle.std.proofs.lemmas.Result.{err_from_is_err_and}
use Rattle.pic_machine.specs.declared.state.Completion.{Completion}
use Rattle.pic_machine.specs.Completing.{completion, outcome_by}
use Rattle.pic_report.proofs.Names.{counted}
use Rattle.pic_report.specs.Report.{comp_line, comp_names, joined}
use Rattle.pic_report.specs.View.{all_entries, told_lines}
use Rattle.pic_report.proofs.Parts.{told_from}
use Rattle.pic_report.proofs.Putting.{puts_on, puts_then}
use Rattle.pic_report.proofs.comps.put_comps.Goals as goal

pub returns-in_err-put_comp : goal.returns-in_err-put_comp
returns-in_err-put_comp g c =
    let p = err_from_is_err_and c.from_residual-in_err-put_comp.result c.from_residual-in_err-put_comp.ensures.1 in
    let names = comp_names c.args.program.now in
    let es = all_entries c.args.view.now in
    let i = c.loop-number.number in
    let count = length (comp_names c.args.program.now) + 1 in
    let size : length c.in_ok-found.found.items ≡ count = omega (arith, c.in_ok-found.ensures.count, counted c.in_ok-names.names.items (comp_names c.args.program.now) c.in_ok-names.ensures, c.len.ensures, c.in_ok-names.names.ok.0) in
    let within : i < length c.in_ok-found.found.items = omega (arith, ap (λ (ks : List (Option Completion)). length ks) c.deref-by-items.ensures.value) in
    let by : get_or c.deref-by-items.result.now i None ≡ completion es i = ap (λ (ks : List (Option Completion)). get_or ks i None) c.deref-by-items.ensures.value ∙ c.in_ok-found.ensures.each i (omega (arith, within, c.in_ok-found.ensures.count)) in
    rw (p.1, p.2)
    (puts_then (comp_line names i (completion es i) (outcome_by (completion es i))) (joined (told_lines names es (i + 1) (count - (i + 1)))) c.in_err-put_comp.field-0.0 c.loop-number.invariant (told_from names es i count (omega (arith, within, size)))
    (rw (c.as_slice.ensures.value, c.in_ok-names.ensures, by) at c.in_err-put_comp.ensures))

pub loop-number-preserved : goal.loop-number-preserved
loop-number-preserved g c =
    let names = comp_names c.args.program.now in
    let es = all_entries c.args.view.now in
    let i = c.loop-number.number in
    let count = length (comp_names c.args.program.now) + 1 in
    let size : length c.in_ok-found.found.items ≡ count = omega (arith, c.in_ok-found.ensures.count, counted c.in_ok-names.names.items (comp_names c.args.program.now) c.in_ok-names.ensures, c.len.ensures, c.in_ok-names.names.ok.0) in
    let within : i < length c.in_ok-found.found.items = omega (arith, ap (λ (ks : List (Option Completion)). length ks) c.deref-by-items.ensures.value) in
    let by : get_or c.deref-by-items.result.now i None ≡ completion es i = ap (λ (ks : List (Option Completion)). get_or ks i None) c.deref-by-items.ensures.value ∙ c.in_ok-found.ensures.each i (omega (arith, within, c.in_ok-found.ensures.count)) in
    puts_on (comp_line names i (completion es i) (outcome_by (completion es i))) (joined (told_lines names es (i + 1) (count - (i + 1)))) c.loop-number.invariant (told_from names es i count (omega (arith, within, size)))
    (rw (c.as_slice.ensures.value, c.in_ok-names.ensures, by) at c.in_ok-put_comp.ensures)
