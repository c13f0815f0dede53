-- Each line that was taken adds its own canonical line to the canonical text so far.
use Rattle.std.proofs.Common.{◌≡◌, ℕ, false, Some, None, List}
use Rattle.script_tree.specs.declared.form.Form.{Form}
use Rattle.script_tree.specs.declared.line.Line.{Line}
use Rattle.script_tree.specs.declared.line.Line.TheVariants as line
use Rattle.script_tree.specs.Lines.{line_form, line_parts}
use Rattle.script_tree.specs.Reading.{State, after, limit_broken}
use Rattle.script_tree.specs.Tree.{Tree}
use Rattle.script_tree.proofs.Allowed.{May, opens_within}
use Rattle.script_tree.proofs.Endings.{ending_goes, else_goes, catch_goes}
use Rattle.script_tree.proofs.Groups.{GroupsDescend}
use Rattle.script_tree.proofs.Openings.{plain_goes, leaf_goes, declaration_goes, fiber_goes, main_goes, opening_goes}
use Rattle.script_tree.proofs.Paths.{BlocksDescend, ends_bare_else}
use Rattle.script_tree.proofs.Settled.{Settles}
use Rattle.script_tree.proofs.Standing.{Stands, Goes}

pub line_goes : (tree : Tree) (s : State) (l : Line) (text : List ℕ) (f : Form) → line_form l ≡ Some f → May s.top.what l → limit_broken s l ≡ None → ends_bare_else s l ≡ false
    → BlocksDescend s → GroupsDescend s → Settles (after s l) tree → Stands tree s text → Goes tree (after s l) text (line_form l) (line_parts l)
line_goes tree s (line.Declare k name) text f e may limit some blocks groups settle stands = declaration_goes tree s k name text may stands
line_goes tree s (line.Fiber name) text f e may limit some blocks groups settle stands = fiber_goes tree s name text may stands
line_goes tree s line.Main text f e may limit some blocks groups settle stands = main_goes tree s text may stands
line_goes tree s line.End text f e may limit some blocks groups settle stands = ending_goes tree s text may some blocks groups settle stands
line_goes tree s line.Else text f e may limit some blocks groups settle stands = else_goes tree s text may blocks settle stands
line_goes tree s (line.Catch register) text f e may limit some blocks groups settle stands = catch_goes tree s register text may blocks settle stands
line_goes tree s (line.Plain x) text f e may limit some blocks groups settle stands = plain_goes tree s x text f e may stands
line_goes tree s (line.Open o) text f e may limit some blocks groups settle stands = opening_goes tree s o text f e (opens_within s o limit) may stands
line_goes tree s (line.Leaf x) text f e may limit some blocks groups settle stands = leaf_goes tree s x text f e may groups settle stands
