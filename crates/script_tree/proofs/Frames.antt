-- What is open holds what fits, and becomes a statement or an event that fits.
use Rattle.std.proofs.Common.{◌≡◌, ℕ, ◌<◌, true, List, [], ◌∷◌, refl, sym, subst}
use Rattle.std.specs.List.{AllByRecursion}
use Rattle.script_tree.specs.declared.form.BlockForm.{BlockForm}
use Rattle.script_tree.specs.declared.form.BlockForm.TheVariants as block_form
use Rattle.script_tree.specs.declared.form.GroupForm.TheVariants as group_form
use Rattle.script_tree.specs.declared.opener.Opener.{Opener}
use Rattle.script_tree.specs.declared.opener.Opener.TheVariants as opener
use Rattle.script_tree.specs.declared.program.EventTree.{EventTree}
use Rattle.script_tree.specs.declared.program.Stmt.{Stmt}
use Rattle.script_tree.specs.Lines.{block_form_made}
use Rattle.script_tree.specs.Parts.{Part}
use Rattle.script_tree.specs.Reading.{State, Frame, is_group}
use Rattle.script_tree.specs.Tree.{Tree}
use Rattle.script_tree.specs.WellFormed.{IsInner, IsEvent, StmtFits, EventFits, OpenerFits, MembersFit}
use Rattle.script_tree.proofs.Moves.{IsBlock, a_block, IsSelect, a_select, IsGroup, a_group, Becomes, a_then, an_else, a_handler, an_under, a_link, a_protect, Groups, a_choose, a_wrap, a_guard, Ends, a_text, the_main}

-- what is open inside the block at the place `holder` has parts that fit, and first parts that stand behind that block
abbrev pub OpenFits : Tree → ℕ → Opener → Type 0
OpenFits tree holder opener.Head = Unit {0}
OpenFits tree holder opener.Between = Unit {0}
OpenFits tree holder opener.Over = Unit {0}
OpenFits tree holder opener.Text = Unit {0}
OpenFits tree holder opener.Main = Unit {0}
OpenFits tree holder (opener.Otherwise l t r place) = OpenerFits tree (opener.Then l t r) × IsInner tree holder place
OpenFits tree holder (opener.Catch body register) = (register < 16) × IsInner tree holder body
OpenFits tree holder o = OpenerFits tree o

-- and what it holds so far fits
pub record FrameFits (tree : Tree) (holder : ℕ) (f : Frame) : Type 0 where
  pub what : OpenFits tree holder f.what
  pub stmts : AllByRecursion (StmtFits tree f.place) f.stmts
  pub events : AllByRecursion (IsEvent tree) f.events
  pub members : is_group f.what ≡ true → MembersFit tree f.place f.events

-- the place of what is around, where something is
abbrev pub place_around : List Frame → ℕ
place_around [] = 0
place_around (f ∷ fs) = f.place

abbrev pub FramesFit : Tree → List Frame → Type 0
FramesFit tree [] = Unit {0}
FramesFit tree (f ∷ fs) = FrameFits tree (place_around fs) f × FramesFit tree fs

-- ---- openings

block_form_fits : (tree : Tree) (holder : ℕ) (f : BlockForm) (parts : List Part) → OpenerFits tree (block_form_made f parts)
    → OpenFits tree holder (block_form_made f parts)
block_form_fits tree holder block_form.If parts h = h
block_form_fits tree holder _ parts h = h

pub block_opens_fit : (s : State) (tree : Tree) (holder : ℕ) (o : Opener) → IsBlock s o → OpenerFits tree o → OpenFits tree holder o
block_opens_fit s tree holder o (a_block form parts p is) f = block_form_fits tree holder form parts f

pub select_opens_fit : (s : State) (tree : Tree) (holder : ℕ) (o : Opener) → IsSelect s o → OpenerFits tree o → OpenFits tree holder o
select_opens_fit s tree holder o (a_select n v form parts p is) f = f

pub group_opens_fit : (s : State) (tree : Tree) (holder : ℕ) (o : Opener) → IsGroup s o → OpenerFits tree o → OpenFits tree holder o
group_opens_fit s tree holder o (a_group group_form.Choose parts p) f = f
group_opens_fit s tree holder o _ f = f

-- something open that holds nothing yet
pub empty_fits : (tree : Tree) (holder : ℕ) (f : Frame) → OpenFits tree holder f.what → f.stmts ≡ [] → f.events ≡ [] → FrameFits tree holder f
empty_fits tree holder f o s e = record {
  what = o;
  stmts = subst (λ xs. AllByRecursion (StmtFits tree f.place) xs) (sym s) tt;
  events = subst (λ xs. AllByRecursion (IsEvent tree) xs) (sym e) tt;
  members = λ h. subst (λ xs. MembersFit tree f.place xs) (sym e) tt;
}

-- ---- ends

-- the statement that a block becomes fits
pub becomes_fits : (tree : Tree) (holder place : ℕ) (o : Opener) (x : Stmt) → Becomes place o x → OpenFits tree holder o → IsInner tree holder place
    → StmtFits tree holder x
becomes_fits tree holder place o x a_then f i = (f, i, tt)
becomes_fits tree holder place o x an_else f i = (f.0, f.1, i)
becomes_fits tree holder place o x a_handler f i = (f.0, f.1, i)
becomes_fits tree holder place o x an_under f i = (f, i)
becomes_fits tree holder place o x a_link f i = (f, i)
becomes_fits tree holder place o x a_protect f i = (f, i)
becomes_fits tree holder place o x _ f i = i

-- the event that a group becomes fits
pub groups_fit : (tree : Tree) (holder place : ℕ) (members : List ℕ) (o : Opener) (e : EventTree) → Groups members o e → OpenFits tree holder o
    → (is_group o ≡ true → MembersFit tree place members) → EventFits tree place e
groups_fit tree holder place members o e a_choose f m = m refl
groups_fit tree holder place members o e a_wrap f m = (f, m refl)
groups_fit tree holder place members o e a_guard f m = (f, m refl)

pub behind_text_fits : (tree : Tree) (holder : ℕ) (o behind : Opener) → Ends o behind → OpenFits tree holder behind
behind_text_fits tree holder o behind a_text = tt
behind_text_fits tree holder o behind the_main = tt
