-- What holds of each statement when it comes, holds in all blocks.
use Rattle.std.proofs.Common.{◌≡◌, ℕ, zero, suc, List, [], ◌∷◌, ◌++◌, set, ap, subst}
use Rattle.std.specs.List.{AllByRecursion}
use Rattle.script_tree.specs.declared.form.BasicForm.{BasicForm}
use Rattle.script_tree.specs.declared.form.BasicForm.TheVariants as basic_form
use Rattle.script_tree.specs.declared.form.CompForm.{CompForm}
use Rattle.script_tree.specs.declared.form.CompForm.TheVariants as comp_form
use Rattle.script_tree.specs.declared.form.ObjectForm.{ObjectForm}
use Rattle.script_tree.specs.declared.form.ObjectForm.TheVariants as object_form
use Rattle.script_tree.specs.declared.form.FiberForm.{FiberForm}
use Rattle.script_tree.specs.declared.form.FiberForm.TheVariants as fiber_form
use Rattle.script_tree.specs.declared.opener.Opener.{Opener}
use Rattle.script_tree.specs.declared.opener.Opener.TheVariants as opener
use Rattle.script_tree.specs.declared.program.Stmt.{Stmt}
use Rattle.script_tree.specs.declared.program.Stmt.TheVariants as stmt
use Rattle.script_tree.specs.Leaves.{HaveFewLeaves, SelectKeepsLimit}
use Rattle.script_tree.specs.Lines.{basic_form_made, comp_form_made, object_form_made, fiber_form_made}
use Rattle.script_tree.specs.Parts.{Part}
use Rattle.script_tree.specs.Reading.{State, Frame, is_group, holds_events}
use Rattle.script_tree.specs.Tree.{Tree}
use Rattle.script_tree.proofs.Lasting.{all_push}
use Rattle.script_tree.proofs.Moves.{Moves, declares, states, adds_leaf, opens_select, opens_group, begins_else, begins_catch, ends_text, ends_block, ends_select, ends_group, IsStated, basic, on_comps, on_objects, on_fibers, Becomes, a_then}
use Rattle.script_tree.proofs.Selecting.{LeavesCounted, CountsIn, LeavesIn}

-- it holds of all statements so far
pub record Each (P : Stmt → Type 0) (s : State) : Type 0 where
  pub blocks : AllByRecursion (λ (block : List Stmt). AllByRecursion P block) s.blocks
  pub frames : AllByRecursion (λ (f : Frame). AllByRecursion P f.stmts) (s.top ∷ s.outer)

-- it holds of the statements that a move makes
pub record OfNew (P : Stmt → Type 0) (s : State) : Type 0 where
  pub stated : (x : Stmt) → IsStated s x → P x
  pub becomes : (x : Stmt) → Becomes s.top.place s.top.what x → P x
  pub select : (number value : ℕ) → s.top.what ≡ opener.Select number value → P (stmt.Select number value s.top.events)

all_set : {A : Type 0} (P : A → Type 0) (xs : List A) (at : ℕ) (x : A) → AllByRecursion P xs → P x → AllByRecursion P (set xs at x)
all_set P [] at x h p = tt
all_set P (y ∷ ys) zero x h p = (p, h.1)
all_set P (y ∷ ys) (suc at) x h p = (h.0, all_set P ys at x h.1 p)

module _ (P : Stmt → Type 0) (s : State) (h : Each P s) where
  filled : AllByRecursion (λ (block : List Stmt). AllByRecursion P block) (set s.blocks s.top.place s.top.stmts)
  filled = all_set (λ (block : List Stmt). AllByRecursion P block) s.blocks s.top.place s.top.stmts h.blocks h.frames.0

  with_empty : (blocks : List (List Stmt)) → AllByRecursion (λ (block : List Stmt). AllByRecursion P block) blocks
      → AllByRecursion (λ (block : List Stmt). AllByRecursion P block) (blocks ++ [] ∷ [])
  with_empty blocks all = all_push (λ (block : List Stmt). AllByRecursion P block) blocks [] all tt

  around : (f : Frame) (fs : List Frame) → s.outer ≡ f ∷ fs → AllByRecursion (λ (g : Frame). AllByRecursion P g.stmts) (f ∷ fs)
  around f fs e = subst (λ gs. AllByRecursion (λ (g : Frame). AllByRecursion P g.stmts) gs) e h.frames.1

  pub moves_each : {t : State} → Moves s t → OfNew P s → Each P t
  moves_each (declares f parts p holds full) n = record { blocks = h.blocks; frames = h.frames }
  moves_each (states x p holds full breaks) n =
      record { blocks = h.blocks; frames = (all_push P s.top.stmts x h.frames.0 (n.stated x p), h.frames.1) }
  moves_each (adds_leaf f parts p holds few) n = record { blocks = h.blocks; frames = h.frames }
  moves_each (opens_select o p holds full deep) n = record { blocks = h.blocks; frames = (tt, h.frames) }
  moves_each (opens_group o p holds deep) n = record { blocks = h.blocks; frames = (tt, h.frames) }
  moves_each (begins_else a q b is) n =
      record { blocks = with_empty (set s.blocks s.top.place s.top.stmts) filled; frames = (tt, h.frames.1) }
  moves_each (begins_catch parts p is) n =
      record { blocks = with_empty (set s.blocks s.top.place s.top.stmts) filled; frames = (tt, h.frames.1) }
  moves_each (ends_text f behind e holds ends) n = record { blocks = filled; frames = around f [] e }
  moves_each (ends_block f fs x e holds becomes) n =
      let a = around f fs e in record { blocks = filled; frames = (all_push P f.stmts x a.0 (n.becomes x becomes), a.1) }
  moves_each (ends_select f fs number value e holds is) n =
      let a = around f fs e in
      record { blocks = h.blocks; frames = (all_push P f.stmts (stmt.Select number value s.top.events) a.0 (n.select number value is), a.1) }
  moves_each (ends_group f fs x e holds groups) n = record { blocks = h.blocks; frames = around f fs e }
  moves_each _ n = record { blocks = with_empty s.blocks h.blocks; frames = (tt, h.frames) }

-- ---- the limit of selects

basic_keeps : (tree : Tree) (f : BasicForm) (parts : List Part) → SelectKeepsLimit tree (basic_form_made f parts)
basic_keeps tree basic_form.Set parts = tt
basic_keeps tree _ parts = tt

comp_keeps : (tree : Tree) (f : CompForm) (parts : List Part) → SelectKeepsLimit tree (comp_form_made f parts)
comp_keeps tree comp_form.Signal parts = tt
comp_keeps tree _ parts = tt

object_keeps : (tree : Tree) (f : ObjectForm) (parts : List Part) → SelectKeepsLimit tree (object_form_made f parts)
object_keeps tree object_form.Lock parts = tt
object_keeps tree _ parts = tt

fiber_keeps : (tree : Tree) (f : FiberForm) (parts : List Part) → SelectKeepsLimit tree (fiber_form_made f parts)
fiber_keeps tree fiber_form.Spawn parts = tt
fiber_keeps tree _ parts = tt

stated_keeps : (s : State) (tree : Tree) (x : Stmt) → IsStated s x → SelectKeepsLimit tree x
stated_keeps s tree x (basic f parts p) = basic_keeps tree f parts
stated_keeps s tree x (on_comps f parts p) = comp_keeps tree f parts
stated_keeps s tree x (on_objects f parts p) = object_keeps tree f parts
stated_keeps s tree x (on_fibers f parts p) = fiber_keeps tree f parts

becomes_keeps : (tree : Tree) (place : ℕ) (o : Opener) (x : Stmt) → Becomes place o x → SelectKeepsLimit tree x
becomes_keeps tree place o x a_then = tt
becomes_keeps tree place o x _ = tt

select_keeps : (s : State) (tree : Tree) (number value : ℕ) → LeavesCounted s tree → s.top.what ≡ opener.Select number value → HaveFewLeaves tree s.top.events
select_keeps s tree number value c is = record {
  count = s.counts.leaves;
  leaves = subst (λ b. CountsIn tree b s.top.events (LeavesIn tree s.outer) s.counts.leaves) (ap is_group is) (c.all (ap holds_events is));
  few = c.few;
}

pub new_keeps : (s : State) (tree : Tree) → LeavesCounted s tree → OfNew (SelectKeepsLimit tree) s
new_keeps s tree c = record {
  stated = λ x p. stated_keeps s tree x p;
  becomes = λ x b. becomes_keeps tree s.top.place s.top.what x b;
  select = λ number value is. select_keeps s tree number value c is;
}
