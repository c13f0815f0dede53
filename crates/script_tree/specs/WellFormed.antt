-- What the parts of every program keep to: numbers are in their ranges, each place is that of a thing of
-- the sort that is wanted there, blocks and events stand behind what holds them, names are apart,
-- there are no more things than a script may have, and none stands too deep.
use Rattle.std.specs.Prelude.{◌≡◌, ◌≢◌, ℕ, ◌+◌, ◌^◌, ◌<◌, ◌≤◌, Bool, ◌||◌, ◌==◌, nat_le, IsTrue, Option, Some, None, List, [], ◌∷◌, ◌++◌, length, map, filter, codes, slice_get}
use Rattle.std.specs.List.{AllByRecursion, flat_map}
use Rattle.script_tree.specs.declared.form.Form.{Form}
use Rattle.script_tree.specs.declared.opener.Opener.{Opener}
use Rattle.script_tree.specs.declared.opener.Opener.TheVariants as opener
use Rattle.script_tree.specs.declared.program.CompRef.{CompRef}
use Rattle.script_tree.specs.declared.program.CompRef.TheVariants as comp
use Rattle.script_tree.specs.declared.program.Decl.{Decl}
use Rattle.script_tree.specs.declared.program.EventTree.{EventTree}
use Rattle.script_tree.specs.declared.program.EventTree.TheVariants as event
use Rattle.script_tree.specs.declared.program.Operand.{Operand}
use Rattle.script_tree.specs.declared.program.Operand.TheVariants as operand
use Rattle.script_tree.specs.declared.program.Stmt.{Stmt}
use Rattle.script_tree.specs.declared.program.Stmt.TheVariants as stmt
use Rattle.script_tree.specs.declared.program.Text.{Text}
use Rattle.script_tree.specs.declared.thing.Sort.TheVariants as sort
use Rattle.script_tree.specs.Forms.{shapes}
use Rattle.script_tree.specs.Grammar.{IsScript}
use Rattle.script_tree.specs.Leaves.{SelectKeepsLimit}
use Rattle.script_tree.specs.Levels.{HasLevels}
use Rattle.script_tree.specs.Lines.{stmt_form, stmt_parts, opener_form, opener_parts, tree_form, event_parts}
use Rattle.script_tree.specs.Names.{sort_of, sort_number}
use Rattle.script_tree.specs.Parts.{Part, number_part, operand_part, comp_part, test_part, name_part, Shape, a_register, a_value, a_number, a_key, a_promise, a_comp, a_test, a_new_name, a_fillable, a_place}
use Rattle.script_tree.specs.Tree.{Tree}
use Rattle.script_tree.specs.Words.{class}
use Rattle.script_tree.specs.declared.class.Class.TheVariants as class_is

-- ---- parts

-- something is declared there, and the number of its sort passes the test
abbrev pub IsOfSort : (ℕ → Bool) → Option Decl → Type 0
IsOfSort fits None = ⊥
IsOfSort fits (Some d) = IsTrue (fits (sort_number (sort_of d.kind)))

-- the texts that statements name are those of fibers: all but the last one, which is main's
abbrev pub IsFiberText : Tree → ℕ → Type 0
IsFiberText tree place = place + 1 < length tree.texts

abbrev pub IsComp : Tree → CompRef → Type 0
IsComp tree comp.Root = Unit {0}
IsComp tree (comp.Named place) = IsOfSort (λ s. s == 1) (slice_get tree.decls place)
IsComp tree (comp.Promise p) = p < 8

abbrev pub IsValue : Operand → Type 0
IsValue (operand.Reg r) = r < 16
IsValue (operand.Num n) = n < 2 ^ 32

-- the part is what its shape wants
abbrev pub PartFits : Tree → Shape → Part → Type 0
PartFits tree a_register (number_part n) = n < 16
PartFits tree a_value (operand_part o) = IsValue o
PartFits tree a_number (number_part n) = n < 2 ^ 32
PartFits tree a_key (number_part n) = n < 16
PartFits tree a_promise (number_part n) = n < 8
PartFits tree a_comp (comp_part c) = IsComp tree c
PartFits tree a_test (test_part t) = Unit {0}
PartFits tree a_new_name (name_part w) = class w ≡ class_is.Name
PartFits tree a_fillable (number_part n) = IsOfSort (λ s. (s == 6) || (s == 7)) (slice_get tree.decls n)
PartFits tree (a_place sort.Text) (number_part n) = IsFiberText tree n
PartFits tree (a_place s) (number_part n) = IsOfSort (λ t. t == sort_number s) (slice_get tree.decls n)
PartFits tree _ _ = ⊥

-- one part for each shape
abbrev pub PartsFit : Tree → List Shape → List Part → Type 0
PartsFit tree [] [] = Unit {0}
PartsFit tree [] (p ∷ ps) = ⊥
PartsFit tree (s ∷ ss) [] = ⊥
PartsFit tree (s ∷ ss) (p ∷ ps) = PartFits tree s p × PartsFit tree ss ps

abbrev pub FormFits : Tree → Option Form → List Part → Type 0
FormFits tree None parts = ⊥
FormFits tree (Some f) parts = PartsFit tree (shapes f) parts

abbrev pub OpenerFits : Tree → Opener → Type 0
OpenerFits tree o = FormFits tree (opener_form o) (opener_parts o)

-- ---- statements and events

-- there is a block, and it stands behind the one that holds it
pub record IsInner (tree : Tree) (holder place : ℕ) : Type 0 where
  pub behind : holder < place
  pub is : place < length tree.blocks

abbrev pub IsElse : Tree → ℕ → Option ℕ → Type 0
IsElse tree holder None = Unit {0}
IsElse tree holder (Some place) = IsInner tree holder place

-- there is an event
abbrev pub IsEvent : Tree → ℕ → Type 0
IsEvent tree place = place < length tree.events

-- a statement of the block at the place `holder`
abbrev pub StmtFits : Tree → ℕ → Stmt → Type 0
StmtFits tree holder (stmt.If l t r then_place other) =
    OpenerFits tree (opener.Then l t r) × IsInner tree holder then_place × IsElse tree holder other
StmtFits tree holder (stmt.Try body register handler) = (register < 16) × IsInner tree holder body × IsInner tree holder handler
StmtFits tree holder (stmt.Loop place) = IsInner tree holder place
StmtFits tree holder (stmt.Forbid place) = IsInner tree holder place
StmtFits tree holder (stmt.Permit place) = IsInner tree holder place
StmtFits tree holder (stmt.Under c place) = OpenerFits tree (opener.Under c) × IsInner tree holder place
StmtFits tree holder (stmt.Link a b place) = OpenerFits tree (opener.Link a b) × IsInner tree holder place
StmtFits tree holder (stmt.Protect m place) = OpenerFits tree (opener.Protect m) × IsInner tree holder place
StmtFits tree holder (stmt.Bundle place) = IsInner tree holder place
StmtFits tree holder (stmt.Flock place) = IsInner tree holder place
StmtFits tree holder (stmt.Select number value events) =
    OpenerFits tree (opener.Select number value) × AllByRecursion (IsEvent tree) events
StmtFits tree holder x = FormFits tree (stmt_form x) (stmt_parts x)

-- a member of a group stands behind it
abbrev pub MembersFit : Tree → ℕ → List ℕ → Type 0
MembersFit tree group members = AllByRecursion (λ place. (group < place) × IsEvent tree place) members

-- the event at a place
abbrev pub EventFits : Tree → ℕ → EventTree → Type 0
EventFits tree place (event.Choose members) = MembersFit tree place members
EventFits tree place (event.Wrap o members) = OpenerFits tree (opener.Wrap o) × MembersFit tree place members
EventFits tree place (event.Guard l t r members) = OpenerFits tree (opener.Guard l t r) × MembersFit tree place members
EventFits tree place e = FormFits tree (tree_form e) (event_parts e)

abbrev pub DeclFits : Decl → Type 0
DeclFits d = class d.name ≡ class_is.Name

abbrev pub TextFits : Tree → Text → Type 0
TextFits tree t = (class t.name ≡ class_is.Name) × (t.block < length tree.blocks)

-- ---- names

-- the names of a program: the root's, those that it declares, those of its fibers' texts, and main's
abbrev pub names : Tree → List (List ℕ)
names tree = codes "root" ∷ (map (λ (d : Decl). d.name) tree.decls ++ map (λ (t : Text). t.name) tree.texts)

abbrev pub AreDistinct : List (List ℕ) → Type 0
AreDistinct [] = Unit {0}
AreDistinct (name ∷ others) = AllByRecursion (λ other. name ≢ other) others × AreDistinct others

-- ---- limits

abbrev pub how_many : (ℕ → Bool) → List Decl → ℕ
how_many of_sort decls = length (filter (λ (d : Decl). of_sort (sort_number (sort_of d.kind))) decls)

pub record KeepsLimits (tree : Tree) : Type 0 where
  pub triggers : how_many (λ s. s == 0) tree.decls ≤ 256
  pub comps : how_many (λ s. s == 1) tree.decls ≤ 256
  pub objects : how_many (λ s. nat_le 2 s) tree.decls ≤ 64
  pub texts : length tree.texts ≤ 65
  pub statements : length (flat_map (λ (block : List Stmt). block) tree.blocks) ≤ 10000
  pub events : AllByRecursion (λ (block : List Stmt). AllByRecursion (SelectKeepsLimit tree) block) tree.blocks

-- ---- programs

-- the last text is main's
pub record EndsInMain (tree : Tree) : Type 0 where
  pub fibers : List Text
  pub main : Text
  pub texts : tree.texts ≡ fibers ++ main ∷ []
  pub name : main.name ≡ codes "main"

pub record IsWellFormed (tree : Tree) : Type 0 where
  pub decls : AllByRecursion DeclFits tree.decls
  pub texts : AllByRecursion (TextFits tree) tree.texts
  pub main : EndsInMain tree
  pub blocks : (place : ℕ) (block : List Stmt) → slice_get tree.blocks place ≡ Some block
      → AllByRecursion (StmtFits tree place) block
  pub events : (place : ℕ) (e : EventTree) → slice_get tree.events place ≡ Some e → EventFits tree place e
  pub names : AreDistinct (names tree)
  pub limits : KeepsLimits tree
  pub levels : HasLevels tree

-- what each program is: what some text is, and well-formed
pub record IsProgram (tree : Tree) : Type 0 where
  pub script : IsScript tree
  pub formed : IsWellFormed tree
