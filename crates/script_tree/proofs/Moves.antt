-- What the lines of a script do, one by one: each move leads from a state to the one behind a line.
use Rattle.std.proofs.Common.{◌≡◌, ℕ, Bool, true, false, List, [], ◌∷◌, length, codes, slice_set, nat_le, Some, None}
use Rattle.script_tree.specs.declared.form.DeclForm.{DeclForm}
use Rattle.script_tree.specs.declared.form.BasicForm.{BasicForm}
use Rattle.script_tree.specs.declared.form.CompForm.{CompForm}
use Rattle.script_tree.specs.declared.form.ObjectForm.{ObjectForm}
use Rattle.script_tree.specs.declared.form.FiberForm.{FiberForm}
use Rattle.script_tree.specs.declared.form.BlockForm.{BlockForm}
use Rattle.script_tree.specs.declared.form.EventForm.{EventForm}
use Rattle.script_tree.specs.declared.form.GroupForm.{GroupForm}
use Rattle.script_tree.specs.declared.form.Form.TheVariants as form
use Rattle.script_tree.specs.declared.opener.Opener.{Opener}
use Rattle.script_tree.specs.declared.opener.Opener.TheVariants as opener
use Rattle.script_tree.specs.declared.program.CompRef.{CompRef}
use Rattle.script_tree.specs.declared.program.EventTree.{EventTree}
use Rattle.script_tree.specs.declared.program.EventTree.TheVariants as event
use Rattle.script_tree.specs.declared.program.Operand.{Operand}
use Rattle.script_tree.specs.declared.program.Stmt.{Stmt}
use Rattle.script_tree.specs.declared.program.Stmt.TheVariants as stmt
use Rattle.script_tree.specs.declared.program.Test.{Test}
use Rattle.script_tree.specs.Lines.{number_in, name_in, part_at, kind_made, basic_form_made, comp_form_made, object_form_made, fiber_form_made, block_form_made, event_form_made, group_form_made}
use Rattle.script_tree.specs.Parts.{Part}
use Rattle.script_tree.specs.Reading.{State, Frame, is_head, holds_statements, holds_events, is_kind_full, declared, fiber_begun, text_begun, stated, leaf_added, block_opened, select_opened, group_opened, part_begun, with_stmt, with_event, is_deep}
use Rattle.script_tree.proofs.Nesting.{takes_texts}
use Rattle.script_tree.proofs.Readings.{ArePartsOf}

abbrev pub is_break : Stmt → Bool
is_break stmt.Break = true
is_break _ = false

-- a statement that is a line of its own
pub data IsStated (s : State) : Stmt → Type 0 where
  basic : (f : BasicForm) (parts : List Part) → ArePartsOf s (form.Basic f) parts → IsStated s (basic_form_made f parts)
  on_comps : (f : CompForm) (parts : List Part) → ArePartsOf s (form.Comp f) parts → IsStated s (comp_form_made f parts)
  on_objects : (f : ObjectForm) (parts : List Part) → ArePartsOf s (form.Object f) parts → IsStated s (object_form_made f parts)
  on_fibers : (f : FiberForm) (parts : List Part) → ArePartsOf s (form.Fork f) parts → IsStated s (fiber_form_made f parts)

-- a block with statements of its own is opened
abbrev pub opens_block : Opener → Bool
opens_block (opener.Then l t r) = true
opens_block opener.Loop = true
opens_block opener.Try = true
opens_block opener.Forbid = true
opens_block opener.Permit = true
opens_block (opener.Under c) = true
opens_block (opener.Link a b) = true
opens_block (opener.Protect m) = true
opens_block opener.Bundle = true
opens_block opener.Flock = true
opens_block _ = false

-- a block that a line opens
pub data IsBlock (s : State) : Opener → Type 0 where
  a_block : (f : BlockForm) (parts : List Part) → ArePartsOf s (form.Block f) parts → opens_block (block_form_made f parts) ≡ true
      → IsBlock s (block_form_made f parts)

-- a select that a line opens
pub data IsSelect (s : State) : Opener → Type 0 where
  a_select : (number value : ℕ) (f : BlockForm) (parts : List Part) → ArePartsOf s (form.Block f) parts
      → block_form_made f parts ≡ opener.Select number value → IsSelect s (opener.Select number value)

-- a group of events that a line opens
pub data IsGroup (s : State) : Opener → Type 0 where
  a_group : (f : GroupForm) (parts : List Part) → ArePartsOf s (form.Group f) parts → IsGroup s (group_form_made f parts)

-- the statement that a block at a place is, when it ends
pub data Becomes (place : ℕ) : Opener → Stmt → Type 0 where
  a_then : {l r : Operand} {t : Test} → Becomes place (opener.Then l t r) (stmt.If l t r place None)
  an_else : {l r : Operand} {t : Test} {then_place : ℕ} → Becomes place (opener.Otherwise l t r then_place) (stmt.If l t r then_place (Some place))
  a_loop : Becomes place opener.Loop (stmt.Loop place)
  a_handler : {body register : ℕ} → Becomes place (opener.Catch body register) (stmt.Try body register place)
  a_forbid : Becomes place opener.Forbid (stmt.Forbid place)
  a_permit : Becomes place opener.Permit (stmt.Permit place)
  an_under : {c : CompRef} → Becomes place (opener.Under c) (stmt.Under c place)
  a_link : {a b : CompRef} → Becomes place (opener.Link a b) (stmt.Link a b place)
  a_protect : {m : ℕ} → Becomes place (opener.Protect m) (stmt.Protect m place)
  a_bundle : Becomes place opener.Bundle (stmt.Bundle place)
  a_flock : Becomes place opener.Flock (stmt.Flock place)

-- the event that a group of these members is, when it ends
pub data Groups (members : List ℕ) : Opener → EventTree → Type 0 where
  a_choose : Groups members opener.Choose (event.Choose members)
  a_wrap : {o : Operand} → Groups members (opener.Wrap o) (event.Wrap o members)
  a_guard : {l r : Operand} {t : Test} → Groups members (opener.Guard l t r) (event.Guard l t r members)

-- how the file goes on behind a text
pub data Ends : Opener → Opener → Type 0 where
  a_text : Ends opener.Text opener.Between
  the_main : Ends opener.Main opener.Over

-- from a state to the one behind a line that doesn't end an empty `else` part
pub data Moves (s : State) : State → Type 0 where
  declares : (f : DeclForm) (parts : List Part) → ArePartsOf s (form.Declare f) parts → is_head s.top.what ≡ true
      → is_kind_full s.counts (kind_made f parts) ≡ false → Moves s (declared s (kind_made f parts) (name_in (part_at parts 0)))
  begins_fiber : (parts : List Part) → ArePartsOf s form.Fiber parts → takes_texts s.top.what ≡ true → nat_le 64 (length s.texts) ≡ false
      → Moves s (fiber_begun s (name_in (part_at parts 0)))
  begins_main : takes_texts s.top.what ≡ true → Moves s (text_begun s opener.Main (codes "main"))
  states : (x : Stmt) → IsStated s x → holds_statements s.top.what ≡ true → nat_le 10000 s.counts.statements ≡ false
      → (is_break x ≡ true → s.top.level.breaks ≡ true) → Moves s (stated s x)
  adds_leaf : (f : EventForm) (parts : List Part) → ArePartsOf s (form.Event f) parts → holds_events s.top.what ≡ true
      → nat_le 32 s.counts.leaves ≡ false → Moves s (leaf_added s (event_form_made f parts))
  opens : (o : Opener) → IsBlock s o → holds_statements s.top.what ≡ true → nat_le 10000 s.counts.statements ≡ false
      → is_deep s.top.level o ≡ false → Moves s (block_opened s o)
  opens_select : (o : Opener) → IsSelect s o → holds_statements s.top.what ≡ true → nat_le 10000 s.counts.statements ≡ false
      → is_deep s.top.level o ≡ false → Moves s (select_opened s o)
  opens_group : (o : Opener) → IsGroup s o → holds_events s.top.what ≡ true → is_deep s.top.level o ≡ false → Moves s (group_opened s o)
  begins_else : (l : Operand) (t : Test) (r : Operand) → s.top.what ≡ opener.Then l t r
      → Moves s (part_begun s (opener.Otherwise l t r s.top.place))
  begins_catch : (parts : List Part) → ArePartsOf s form.Catch parts → s.top.what ≡ opener.Try
      → Moves s (part_begun s (opener.Catch s.top.place (number_in (part_at parts 0))))
  ends_text : (f : Frame) (behind : Opener) → s.outer ≡ f ∷ [] → takes_texts f.what ≡ true → Ends s.top.what behind
      → Moves s (record s { blocks = slice_set s.blocks s.top.place s.top.stmts; top = record f { what = behind }; outer = [] })
  ends_block : (f : Frame) (fs : List Frame) (x : Stmt) → s.outer ≡ f ∷ fs → holds_statements f.what ≡ true → Becomes s.top.place s.top.what x
      → Moves s (record s { blocks = slice_set s.blocks s.top.place s.top.stmts; top = with_stmt f x; outer = fs })
  ends_select : (f : Frame) (fs : List Frame) (number value : ℕ) → s.outer ≡ f ∷ fs → holds_statements f.what ≡ true
      → s.top.what ≡ opener.Select number value
      → Moves s (record s { top = with_stmt f (stmt.Select number value s.top.events); outer = fs })
  ends_group : (f : Frame) (fs : List Frame) (e : EventTree) → s.outer ≡ f ∷ fs → holds_events f.what ≡ true → Groups s.top.events s.top.what e
      → Moves s (record s { events = slice_set s.events s.top.place e; top = with_event f s.top.place; outer = fs })
