use Rattle.std.proofs.Common.{◌+◌, ◌++◌, length, codes, refl}
use Rattle.std.proofs.lemmas.Result.{err_from_is_err_and}
use Rattle.pic_report.specs.Report.{clock_line, comp_names, joined, run_line, suspended_count, text_names}
use Rattle.pic_report.specs.View.{all_entries, main_state, states_of, told_lines, traced_lines, view_text, views_lines}
use Rattle.pic_report.proofs.Parts.{view_parts}
use Rattle.pic_report.proofs.Putting.{put_none, puts_last, puts_on, puts_then}
use Rattle.pic_report.proofs.writing.write_report.Goals as goal

pub returns-in_err-put_all : goal.returns-in_err-put_all
returns-in_err-put_all g c =
    let p = err_from_is_err_and c.from_residual.result c.from_residual.ensures.1 in
    let script = c.args.program.now in
    let view = c.args.view.now in
    let heading = codes "picos report 1\n" in
    let traced = joined (traced_lines (text_names script) view.trace) in
    let fibers = joined (views_lines (text_names script) view.log 1 view.fibers.items) in
    let comps = joined (told_lines (comp_names script) (all_entries view) 0 (length (comp_names script) + 1)) in
    let clock = clock_line view.now in
    let ran = run_line (main_state view.fibers.items) (suspended_count (states_of view.fibers.items)) in
    rw (p.1, p.2)
    (puts_then heading (traced ++ (fibers ++ (comps ++ (clock ++ ran)))) c.in_err-put_all.field-0.0 (put_none (g.K.Sink.taken c.args.out.now) (g.K.Sink.fault_count c.args.out.now) (view_text script view)) (view_parts script view) (rw c.as_bytes.ensures.value at c.in_err-put_all.ensures))

pub returns-in_err-put_traced : goal.returns-in_err-put_traced
returns-in_err-put_traced g c =
    let p = err_from_is_err_and c.from_residual-in_err-put_traced.result c.from_residual-in_err-put_traced.ensures.1 in
    let script = c.args.program.now in
    let view = c.args.view.now in
    let heading = codes "picos report 1\n" in
    let traced = joined (traced_lines (text_names script) view.trace) in
    let fibers = joined (views_lines (text_names script) view.log 1 view.fibers.items) in
    let comps = joined (told_lines (comp_names script) (all_entries view) 0 (length (comp_names script) + 1)) in
    let clock = clock_line view.now in
    let ran = run_line (main_state view.fibers.items) (suspended_count (states_of view.fibers.items)) in
    rw (p.1, p.2)
    (puts_then traced (fibers ++ (comps ++ (clock ++ ran))) c.in_err-put_traced.field-0.0 (puts_on heading (traced ++ (fibers ++ (comps ++ (clock ++ ran)))) (put_none (g.K.Sink.taken c.args.out.now) (g.K.Sink.fault_count c.args.out.now) (view_text script view)) (view_parts script view) (rw c.as_bytes.ensures.value at c.in_ok-put_all.ensures)) refl c.in_err-put_traced.ensures)

pub returns-in_err-put_fibers : goal.returns-in_err-put_fibers
returns-in_err-put_fibers g c =
    let p = err_from_is_err_and c.from_residual-in_err-put_fibers.result c.from_residual-in_err-put_fibers.ensures.1 in
    let script = c.args.program.now in
    let view = c.args.view.now in
    let heading = codes "picos report 1\n" in
    let traced = joined (traced_lines (text_names script) view.trace) in
    let fibers = joined (views_lines (text_names script) view.log 1 view.fibers.items) in
    let comps = joined (told_lines (comp_names script) (all_entries view) 0 (length (comp_names script) + 1)) in
    let clock = clock_line view.now in
    let ran = run_line (main_state view.fibers.items) (suspended_count (states_of view.fibers.items)) in
    rw (p.1, p.2)
    (puts_then fibers (comps ++ (clock ++ ran)) c.in_err-put_fibers.field-0.0 (puts_on traced (fibers ++ (comps ++ (clock ++ ran))) (puts_on heading (traced ++ (fibers ++ (comps ++ (clock ++ ran)))) (put_none (g.K.Sink.taken c.args.out.now) (g.K.Sink.fault_count c.args.out.now) (view_text script view)) (view_parts script view) (rw c.as_bytes.ensures.value at c.in_ok-put_all.ensures)) refl c.in_ok-put_traced.ensures) refl (rw c.as_slice.ensures.value at c.in_err-put_fibers.ensures))

pub returns-in_err-put_comps : goal.returns-in_err-put_comps
returns-in_err-put_comps g c =
    let p = err_from_is_err_and c.from_residual-in_err-put_comps.result c.from_residual-in_err-put_comps.ensures.1 in
    let script = c.args.program.now in
    let view = c.args.view.now in
    let heading = codes "picos report 1\n" in
    let traced = joined (traced_lines (text_names script) view.trace) in
    let fibers = joined (views_lines (text_names script) view.log 1 view.fibers.items) in
    let comps = joined (told_lines (comp_names script) (all_entries view) 0 (length (comp_names script) + 1)) in
    let clock = clock_line view.now in
    let ran = run_line (main_state view.fibers.items) (suspended_count (states_of view.fibers.items)) in
    rw (p.1, p.2)
    (puts_then comps (clock ++ ran) c.in_err-put_comps.field-0.0 (puts_on fibers (comps ++ (clock ++ ran)) (puts_on traced (fibers ++ (comps ++ (clock ++ ran))) (puts_on heading (traced ++ (fibers ++ (comps ++ (clock ++ ran)))) (put_none (g.K.Sink.taken c.args.out.now) (g.K.Sink.fault_count c.args.out.now) (view_text script view)) (view_parts script view) (rw c.as_bytes.ensures.value at c.in_ok-put_all.ensures)) refl c.in_ok-put_traced.ensures) refl (rw c.as_slice.ensures.value at c.in_ok-put_fibers.ensures)) refl c.in_err-put_comps.ensures)

pub returns-in_err-put_clock : goal.returns-in_err-put_clock
returns-in_err-put_clock g c =
    let p = err_from_is_err_and c.from_residual-in_err-put_clock.result c.from_residual-in_err-put_clock.ensures.1 in
    let script = c.args.program.now in
    let view = c.args.view.now in
    let heading = codes "picos report 1\n" in
    let traced = joined (traced_lines (text_names script) view.trace) in
    let fibers = joined (views_lines (text_names script) view.log 1 view.fibers.items) in
    let comps = joined (told_lines (comp_names script) (all_entries view) 0 (length (comp_names script) + 1)) in
    let clock = clock_line view.now in
    let ran = run_line (main_state view.fibers.items) (suspended_count (states_of view.fibers.items)) in
    rw (p.1, p.2)
    (puts_then clock ran c.in_err-put_clock.field-0.0 (puts_on comps (clock ++ ran) (puts_on fibers (comps ++ (clock ++ ran)) (puts_on traced (fibers ++ (comps ++ (clock ++ ran))) (puts_on heading (traced ++ (fibers ++ (comps ++ (clock ++ ran)))) (put_none (g.K.Sink.taken c.args.out.now) (g.K.Sink.fault_count c.args.out.now) (view_text script view)) (view_parts script view) (rw c.as_bytes.ensures.value at c.in_ok-put_all.ensures)) refl c.in_ok-put_traced.ensures) refl (rw c.as_slice.ensures.value at c.in_ok-put_fibers.ensures)) refl c.in_ok-put_comps.ensures) refl c.in_err-put_clock.ensures)

pub returns : goal.returns
returns g c =
    let script = c.args.program.now in
    let view = c.args.view.now in
    let heading = codes "picos report 1\n" in
    let traced = joined (traced_lines (text_names script) view.trace) in
    let fibers = joined (views_lines (text_names script) view.log 1 view.fibers.items) in
    let comps = joined (told_lines (comp_names script) (all_entries view) 0 (length (comp_names script) + 1)) in
    let clock = clock_line view.now in
    let ran = run_line (main_state view.fibers.items) (suspended_count (states_of view.fibers.items)) in
    puts_last c.put_end.result (puts_on clock ran (puts_on comps (clock ++ ran) (puts_on fibers (comps ++ (clock ++ ran)) (puts_on traced (fibers ++ (comps ++ (clock ++ ran))) (puts_on heading (traced ++ (fibers ++ (comps ++ (clock ++ ran)))) (put_none (g.K.Sink.taken c.args.out.now) (g.K.Sink.fault_count c.args.out.now) (view_text script view)) (view_parts script view) (rw c.as_bytes.ensures.value at c.in_ok-put_all.ensures)) refl c.in_ok-put_traced.ensures) refl (rw c.as_slice.ensures.value at c.in_ok-put_fibers.ensures)) refl c.in_ok-put_comps.ensures) refl c.in_ok-put_clock.ensures) (rw (c.main_state.ensures, c.suspended_count.ensures) at c.put_end.ensures)
