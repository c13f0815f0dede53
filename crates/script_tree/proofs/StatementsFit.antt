-- The statements, openers and events that lines are made into have the parts that their forms want.
use Rattle.std.proofs.Common.{ℕ, List, subst}
use Rattle.script_tree.specs.declared.form.BasicForm.{BasicForm}
use Rattle.script_tree.specs.declared.form.BasicForm.TheVariants as basic_form
use Rattle.script_tree.specs.declared.form.CompForm.{CompForm}
use Rattle.script_tree.specs.declared.form.CompForm.TheVariants as comp_form
use Rattle.script_tree.specs.declared.form.ObjectForm.{ObjectForm}
use Rattle.script_tree.specs.declared.form.ObjectForm.TheVariants as object_form
use Rattle.script_tree.specs.declared.form.FiberForm.{FiberForm}
use Rattle.script_tree.specs.declared.form.FiberForm.TheVariants as fiber_form
use Rattle.script_tree.specs.declared.form.BlockForm.{BlockForm}
use Rattle.script_tree.specs.declared.form.BlockForm.TheVariants as block_form
use Rattle.script_tree.specs.declared.form.EventForm.{EventForm}
use Rattle.script_tree.specs.declared.form.EventForm.TheVariants as event_form
use Rattle.script_tree.specs.declared.form.GroupForm.{GroupForm}
use Rattle.script_tree.specs.declared.form.GroupForm.TheVariants as group_form
use Rattle.script_tree.specs.declared.form.Form.{Form}
use Rattle.script_tree.specs.declared.form.Form.TheVariants as form
use Rattle.script_tree.specs.declared.opener.Opener.{Opener}
use Rattle.script_tree.specs.declared.program.Stmt.{Stmt}
use Rattle.script_tree.specs.Forms.{shapes}
use Rattle.script_tree.specs.Lines.{basic_form_made, comp_form_made, object_form_made, fiber_form_made, block_form_made, group_form_made, event_form_made}
use Rattle.script_tree.specs.Parts.{Part}
use Rattle.script_tree.specs.Reading.{State}
use Rattle.script_tree.specs.Tree.{Tree}
use Rattle.script_tree.specs.WellFormed.{PartsFit, StmtFits, OpenerFits, EventFits}
use Rattle.script_tree.proofs.Fitting.{NamesFit}
use Rattle.script_tree.proofs.Moves.{IsStated, basic, on_comps, on_objects, on_fibers, IsBlock, a_block, IsSelect, a_select, IsGroup, a_group}
use Rattle.script_tree.proofs.Readings.{ArePartsOf}
use Rattle.script_tree.proofs.Rebuilding.{made_parts_fit}
use Rattle.script_tree.proofs.Remade.{all_wanted}

-- the parts fit the form, as the line that is made of them has them
abbrev pub AreFor : Tree → Form → List Part → Type 0
AreFor tree f parts = PartsFit tree (shapes f) (all_wanted (shapes f) 0 parts)

pub are_for : (s : State) (tree : Tree) (f : Form) (parts : List Part) → NamesFit tree s.names → ArePartsOf s f parts → AreFor tree f parts
are_for s tree f parts n p = made_parts_fit tree s.names (shapes f) p.words parts n p.read

basic_fits : (tree : Tree) (holder : ℕ) (f : BasicForm) (parts : List Part) → AreFor tree (form.Basic f) parts → StmtFits tree holder (basic_form_made f parts)
basic_fits tree holder basic_form.Set parts r = r
basic_fits tree holder _ parts r = r

comp_fits : (tree : Tree) (holder : ℕ) (f : CompForm) (parts : List Part) → AreFor tree (form.Comp f) parts → StmtFits tree holder (comp_form_made f parts)
comp_fits tree holder comp_form.Signal parts r = r
comp_fits tree holder _ parts r = r

object_fits : (tree : Tree) (holder : ℕ) (f : ObjectForm) (parts : List Part) → AreFor tree (form.Object f) parts → StmtFits tree holder (object_form_made f parts)
object_fits tree holder object_form.Lock parts r = r
object_fits tree holder _ parts r = r

fiber_fits : (tree : Tree) (holder : ℕ) (f : FiberForm) (parts : List Part) → AreFor tree (form.Fork f) parts → StmtFits tree holder (fiber_form_made f parts)
fiber_fits tree holder fiber_form.Spawn parts r = r
fiber_fits tree holder _ parts r = r

-- a statement that is a line of its own fits
pub stated_fits : (s : State) (tree : Tree) (holder : ℕ) (x : Stmt) → NamesFit tree s.names → IsStated s x → StmtFits tree holder x
stated_fits s tree holder x n (basic f parts p) = basic_fits tree holder f parts (are_for s tree (form.Basic f) parts n p)
stated_fits s tree holder x n (on_comps f parts p) = comp_fits tree holder f parts (are_for s tree (form.Comp f) parts n p)
stated_fits s tree holder x n (on_objects f parts p) = object_fits tree holder f parts (are_for s tree (form.Object f) parts n p)
stated_fits s tree holder x n (on_fibers f parts p) = fiber_fits tree holder f parts (are_for s tree (form.Fork f) parts n p)

block_fits : (tree : Tree) (f : BlockForm) (parts : List Part) → AreFor tree (form.Block f) parts → OpenerFits tree (block_form_made f parts)
block_fits tree block_form.If parts r = r
block_fits tree _ parts r = r

-- the parts of a block that a line opens fit
pub opened_fits : (s : State) (tree : Tree) (o : Opener) → NamesFit tree s.names → IsBlock s o → OpenerFits tree o
opened_fits s tree o n (a_block f parts p is) = block_fits tree f parts (are_for s tree (form.Block f) parts n p)

pub select_fits : (s : State) (tree : Tree) (o : Opener) → NamesFit tree s.names → IsSelect s o → OpenerFits tree o
select_fits s tree o n (a_select number value f parts p is) =
    subst (λ q. OpenerFits tree q) is (block_fits tree f parts (are_for s tree (form.Block f) parts n p))

group_parts_fit : (tree : Tree) (f : GroupForm) (parts : List Part) → AreFor tree (form.Group f) parts → OpenerFits tree (group_form_made f parts)
group_parts_fit tree group_form.Choose parts r = r
group_parts_fit tree _ parts r = r

pub group_fits : (s : State) (tree : Tree) (o : Opener) → NamesFit tree s.names → IsGroup s o → OpenerFits tree o
group_fits s tree o n (a_group f parts p) = group_parts_fit tree f parts (are_for s tree (form.Group f) parts n p)

event_fits : (tree : Tree) (place : ℕ) (f : EventForm) (parts : List Part) → AreFor tree (form.Event f) parts
    → EventFits tree place (event_form_made f parts)
event_fits tree place event_form.Ivar parts r = r
event_fits tree place _ parts r = r

-- an event alone fits
pub leaf_fits : (s : State) (tree : Tree) (place : ℕ) (f : EventForm) (parts : List Part) → NamesFit tree s.names
    → ArePartsOf s (form.Event f) parts → EventFits tree place (event_form_made f parts)
leaf_fits s tree place f parts n p = event_fits tree place f parts (are_for s tree (form.Event f) parts n p)
