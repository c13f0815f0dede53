-- The line that a form makes of its parts has that form and those parts.
use Rattle.std.proofs.Common.{◌≡◌, ℕ, ◌+◌, Some, List, [], ◌∷◌, ◌++◌, length, refl, sym, ap, ap₂, ◌∙◌, append_assoc}
use Rattle.std.proofs.lemmas.List.{get_or_at, length_push}
use Rattle.script_tree.specs.declared.form.Form.{Form}
use Rattle.script_tree.specs.declared.form.Form.TheVariants as form
use Rattle.script_tree.specs.declared.form.DeclForm.{DeclForm}
use Rattle.script_tree.specs.declared.form.DeclForm.TheVariants as decl_form
use Rattle.script_tree.specs.declared.form.BasicForm.{BasicForm}
use Rattle.script_tree.specs.declared.form.BasicForm.TheVariants as basic_form
use Rattle.script_tree.specs.declared.form.CompForm.{CompForm}
use Rattle.script_tree.specs.declared.form.CompForm.TheVariants as comp_form
use Rattle.script_tree.specs.declared.form.ObjectForm.{ObjectForm}
use Rattle.script_tree.specs.declared.form.ObjectForm.TheVariants as object_form
use Rattle.script_tree.specs.declared.form.FiberForm.{FiberForm}
use Rattle.script_tree.specs.declared.form.FiberForm.TheVariants as fiber_form
use Rattle.script_tree.specs.declared.form.BlockForm.{BlockForm}
use Rattle.script_tree.specs.declared.form.BlockForm.TheVariants as block_form
use Rattle.script_tree.specs.declared.form.EventForm.{EventForm}
use Rattle.script_tree.specs.declared.form.EventForm.TheVariants as event_form
use Rattle.script_tree.specs.declared.form.GroupForm.{GroupForm}
use Rattle.script_tree.specs.declared.form.GroupForm.TheVariants as group_form
use Rattle.script_tree.specs.declared.line.Line.{Line}
use Rattle.script_tree.specs.declared.line.Line.TheVariants as line
use Rattle.script_tree.specs.Forms.{shapes}
use Rattle.script_tree.specs.Lines.{part_at, number_in, operand_in, comp_in, test_in, name_in, line_made, line_form, line_parts, basic_form_made, comp_form_made, object_form_made, fiber_form_made, block_form_made, event_form_made, group_form_made}
use Rattle.script_tree.specs.Parts.{Part, number_part, operand_part, comp_part, test_part, name_part, Shape, a_value, a_comp, a_test, a_new_name}

-- a part, taken as the kind that a shape wants
abbrev pub as_wanted : Shape → Part → Part
as_wanted a_value p = operand_part (operand_in p)
as_wanted a_comp p = comp_part (comp_in p)
as_wanted a_test p = test_part (test_in p)
as_wanted a_new_name p = name_part (name_in p)
as_wanted _ p = number_part (number_in p)

-- the parts from a place on, each taken so
abbrev pub all_wanted : List Shape → ℕ → List Part → List Part
all_wanted [] i parts = []
all_wanted (s ∷ ss) i parts = as_wanted s (part_at parts i) ∷ all_wanted ss (i + 1) parts

-- a line has this form, and these parts as the kinds that the form wants
pub record IsMade (f : Form) (parts : List Part) (l : Line) : Type 0 where
  pub has_form : line_form l ≡ Some f
  pub has_parts : line_parts l ≡ all_wanted (shapes f) 0 parts

declare_made : (f : DeclForm) (parts : List Part) → IsMade (form.Declare f) parts (line_made (form.Declare f) parts)
declare_made decl_form.Trigger parts = record { has_form = refl; has_parts = refl }
declare_made _ parts = record { has_form = refl; has_parts = refl }

basic_made : (f : BasicForm) (parts : List Part) → IsMade (form.Basic f) parts (line.Plain (basic_form_made f parts))
basic_made basic_form.Set parts = record { has_form = refl; has_parts = refl }
basic_made _ parts = record { has_form = refl; has_parts = refl }

comp_made : (f : CompForm) (parts : List Part) → IsMade (form.Comp f) parts (line.Plain (comp_form_made f parts))
comp_made comp_form.Signal parts = record { has_form = refl; has_parts = refl }
comp_made _ parts = record { has_form = refl; has_parts = refl }

object_made : (f : ObjectForm) (parts : List Part) → IsMade (form.Object f) parts (line.Plain (object_form_made f parts))
object_made object_form.Lock parts = record { has_form = refl; has_parts = refl }
object_made _ parts = record { has_form = refl; has_parts = refl }

fork_made : (f : FiberForm) (parts : List Part) → IsMade (form.Fork f) parts (line.Plain (fiber_form_made f parts))
fork_made fiber_form.Spawn parts = record { has_form = refl; has_parts = refl }
fork_made _ parts = record { has_form = refl; has_parts = refl }

block_made : (f : BlockForm) (parts : List Part) → IsMade (form.Block f) parts (line.Open (block_form_made f parts))
block_made block_form.If parts = record { has_form = refl; has_parts = refl }
block_made _ parts = record { has_form = refl; has_parts = refl }

event_made : (f : EventForm) (parts : List Part) → IsMade (form.Event f) parts (line.Leaf (event_form_made f parts))
event_made event_form.Ivar parts = record { has_form = refl; has_parts = refl }
event_made _ parts = record { has_form = refl; has_parts = refl }

group_made : (f : GroupForm) (parts : List Part) → IsMade (form.Group f) parts (line.Open (group_form_made f parts))
group_made group_form.Choose parts = record { has_form = refl; has_parts = refl }
group_made _ parts = record { has_form = refl; has_parts = refl }

-- what a form makes has that form, and its parts
pub made_again : (f : Form) (parts : List Part) → IsMade f parts (line_made f parts)
made_again (form.Declare f) parts = declare_made f parts
made_again (form.Basic f) parts = basic_made f parts
made_again (form.Comp f) parts = comp_made f parts
made_again (form.Object f) parts = object_made f parts
made_again (form.Fork f) parts = fork_made f parts
made_again (form.Block f) parts = block_made f parts
made_again (form.Event f) parts = event_made f parts
made_again (form.Group f) parts = group_made f parts
made_again _ parts = record { has_form = refl; has_parts = refl }

-- each part is of the kind that its shape wants
pub data AreWanted : List Shape → List Part → Type 0 where
  no_parts : AreWanted [] []
  one_more : {s : Shape} {p : Part} {ss : List Shape} {ps : List Part} → as_wanted s p ≡ p → AreWanted ss ps → AreWanted (s ∷ ss) (p ∷ ps)

wanted_behind : {ss : List Shape} {ps : List Part} → AreWanted ss ps → (front all : List Part) (i : ℕ) → all ≡ front ++ ps → i ≡ length front → all_wanted ss i all ≡ ps
wanted_behind no_parts front all i is at = refl
wanted_behind (one_more {s = s} {p = p} {ss = ss} {ps = ps} w ws) front all i is at =
    let here : part_at all i ≡ p = rw is (get_or_at front p ps (number_part 0) i (sym at)) in
    let below = wanted_behind ws (front ++ p ∷ []) all (i + 1) (is ∙ sym (append_assoc front (p ∷ []) ps)) (rw at (sym (length_push front p))) in
    ap₂ (λ (x : Part) (xs : List Part). x ∷ xs) (ap (as_wanted s) here ∙ w) below

-- such parts are the parts of the line that the form makes of them
pub wanted_same : {ss : List Shape} {ps : List Part} → AreWanted ss ps → all_wanted ss 0 ps ≡ ps
wanted_same {ps = ps} ws = wanted_behind ws [] ps 0 refl refl
