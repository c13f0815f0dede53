use Rattle.std.proofs.Common.{◌≡◌, ◌+◌, ◌≤◌, length, drop, Ok, ◌∙◌, arith, length-drop}
use Rattle.std.proofs.lemmas.List.{take_rest}
use Rattle.script_tree.specs.Grammar.{step}
use Rattle.script_tree.specs.Slices.{words_of}
use Rattle.script_tree.specs.Stand.{state_of}
use Rattle.script_tree.proofs.Goings.{goes_on}
use Rattle.script_tree.proofs.Grouping.{within_drop}
use Rattle.script_tree.proofs.Growth.{fits_on, step_grows}
use Rattle.script_tree.proofs.parsing.read_lines.Goals as goal

pub loop-rest-preserved : goal.loop-rest-preserved
loop-rest-preserved c =
    let now = c.loop-rest.invariant in
    let count = c.in_ok-count.count in
    let old = c.loop-rest.rest.now in
    let taken : step (state_of c.loop-rest.reading) (words_of c.collect.new.words.items) ≡ Ok (state_of c.step.new.self) =
    rw c.deref.ensures.value at c.in_default.ensures.ok in
    let fewer : length (drop count old) + 1 ≤ length old = omega (arith, length-drop count old, c.in_ok-count.ensures.count.0, c.in_ok-count.ensures.count.1) in
    record {
      goes_on = rw (take_rest old count) (goes_on _ _ c.args.text.now c.in_ok-count.number c.args.end count old c.collect.new.words.items taken c.in_ok-count.ensures.row ∙ now.goes_on);
      within = rw (take_rest old count) (within_drop c.args.text.now count old now.within);
      fits = rw (take_rest old count) (fits_on now.fits (step_grows _ _ (words_of c.collect.new.words.items) taken) fewer);
    }
