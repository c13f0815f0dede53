-- The words that tell each form tell that one and no other.
use Rattle.std.specs.Prelude.{◌≡◌, ℕ, Some, List, ◌++◌}
use Rattle.script_tree.specs.declared.form.Form.{Form}
use Rattle.script_tree.specs.Forms.{form_of}
use Rattle.script_tree.specs.Spelling.{lead}

-- a line that begins with these words has this form, whatever stands behind them
abbrev pub IsTold : Form → Type 0
IsTold f = (rest : List (List ℕ)) → form_of (lead f ++ rest) ≡ Some (record { form = f; rest = rest })

-- no form is left out, and none hides another
abbrev pub EachFormIsTold : Type 0
EachFormIsTold = (f : Form) → IsTold f
