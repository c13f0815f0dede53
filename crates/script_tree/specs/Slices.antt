-- The words of a line as slices, and a form with the words behind it.
use Rattle.std.specs.Prelude.{ℕ, Option, Some, None, List, map}
use Rattle.std.specs.Borrow.{Bor}
use Rattle.script_tree.specs.declared.form.Form.{Form}
use Rattle.script_tree.specs.Forms.{Seen}

abbrev pub words_of : List (Bor (List ℕ)) → List (List ℕ)
words_of slices = map (λ (slice : Bor (List ℕ)). slice.now) slices

abbrev pub seen_of : Option (Form × Bor (List (Bor (List ℕ)))) → Option Seen
seen_of None = None
seen_of (Some p) = Some (record { form = p.0; rest = words_of p.1.now })
