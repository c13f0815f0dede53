use Rattle.std.proofs.Common.{◌≡◌, drop}
use Rattle.script_tree.specs.Forms.{first_form}
use Rattle.script_tree.proofs.telling.form_in.Given as goal

abbrev pub invariant-loop-form : goal.invariant-loop-form
invariant-loop-form l = first_form (drop l.form-index l.forms) l.word ≡ first_form l.forms l.word
