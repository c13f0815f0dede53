-- Where the reading of a script stands, which lines may stand there, and what each line does.
use Rattle.std.specs.Prelude.{ℕ, ◌+◌, ◌-◌, Bool, true, false, not, ◌&&◌, ◌||◌, nat_le, Option, Some, None, List, [], ◌∷◌, ◌++◌, length, take, codes, slice_set, if◌then◌else◌}
use Rattle.script_tree.specs.declared.cause.Cause.{Cause}
use Rattle.script_tree.specs.declared.cause.Cause.TheVariants as cause
use Rattle.script_tree.specs.declared.counts.Counts.{Counts}
use Rattle.script_tree.specs.declared.form.BasicForm.TheVariants as basic_form
use Rattle.script_tree.specs.declared.form.Form.{Form}
use Rattle.script_tree.specs.declared.form.Form.TheVariants as form
use Rattle.script_tree.specs.declared.level.Level.{Level}
use Rattle.script_tree.specs.declared.line.Line.{Line}
use Rattle.script_tree.specs.declared.line.Line.TheVariants as line
use Rattle.script_tree.specs.declared.opener.Opener.{Opener}
use Rattle.script_tree.specs.declared.opener.Opener.TheVariants as opener
use Rattle.script_tree.specs.declared.program.Decl.{Decl}
use Rattle.script_tree.specs.declared.program.EventTree.{EventTree}
use Rattle.script_tree.specs.declared.program.EventTree.TheVariants as event
use Rattle.script_tree.specs.declared.program.Kind.{Kind}
use Rattle.script_tree.specs.declared.program.Kind.TheVariants as kind
use Rattle.script_tree.specs.declared.program.Operand.{Operand}
use Rattle.script_tree.specs.declared.program.Stmt.{Stmt}
use Rattle.script_tree.specs.declared.program.Stmt.TheVariants as stmt
use Rattle.script_tree.specs.declared.program.Test.{Test}
use Rattle.script_tree.specs.declared.program.Text.{Text}
use Rattle.script_tree.specs.declared.thing.Sort.TheVariants as sort
use Rattle.script_tree.specs.declared.thing.Thing.TheVariants as thing
use Rattle.script_tree.specs.Names.{Named, first_names, sort_of}

-- something open: the file, a text, a block or a group of events
pub record Frame : Type 0 where
  pub what : Opener
  -- the place of its block, or of its event
  pub place : ℕ
  -- how many blocks are open here, how many bundles and flocks among them, and whether a `break` may stand here
  pub level : Level
  -- what it holds so far: statements, or the places of events
  pub stmts : List Stmt
  pub events : List ℕ

-- what was read so far; an open block or event has an empty one in its place
pub record State : Type 0 where
  pub names : List Named
  pub decls : List Decl
  pub texts : List Text
  pub blocks : List (List Stmt)
  pub events : List EventTree
  pub counts : Counts
  -- the innermost of what is open, and the others from the inside out
  pub top : Frame
  pub outer : List Frame

-- outside of all blocks
abbrev pub outermost : Level
outermost = record { depth = 0; bundles = 0; breaks = false }

-- something open in which nothing was read
abbrev pub frame : Opener → ℕ → Level → Frame
frame what place level = record { what = what; place = place; level = level; stmts = []; events = [] }

abbrev pub start : State
start = record {
  names = first_names;
  decls = [];
  texts = [];
  blocks = [];
  events = [];
  counts = record { triggers = 0; comps = 0; objects = 0; statements = 0; leaves = 0 };
  top = frame opener.Head 0 outermost;
  outer = [];
}

-- Which forms may stand in what is open

abbrev pub is_head : Opener → Bool
is_head opener.Head = true
is_head _ = false

abbrev pub is_between : Opener → Bool
is_between opener.Between = true
is_between _ = false

abbrev pub is_over : Opener → Bool
is_over opener.Over = true
is_over _ = false

abbrev pub is_then : Opener → Bool
is_then (opener.Then l t r) = true
is_then _ = false

abbrev pub is_try : Opener → Bool
is_try opener.Try = true
is_try _ = false

-- a select and the groups of events in it hold events
abbrev pub holds_events : Opener → Bool
holds_events (opener.Select n v) = true
holds_events opener.Choose = true
holds_events (opener.Wrap o) = true
holds_events (opener.Guard l t r) = true
holds_events _ = false

-- texts and blocks hold statements
abbrev pub holds_statements : Opener → Bool
holds_statements opener.Head = false
holds_statements opener.Between = false
holds_statements opener.Over = false
holds_statements (opener.Select n v) = false
holds_statements opener.Choose = false
holds_statements (opener.Wrap o) = false
holds_statements (opener.Guard l t r) = false
holds_statements _ = true

-- declarations stand before the texts, texts before and behind texts; all that is open but the file
-- has an `end`, where `try` needs its handler first
abbrev pub fits : Opener → Bool → Form → Bool
fits o breaks (form.Declare f) = is_head o
fits o breaks form.Fiber = is_head o || is_between o
fits o breaks form.Main = is_head o || is_between o
fits o breaks form.End = holds_events o || (holds_statements o && not (is_try o))
fits o breaks form.Else = is_then o
fits o breaks form.Catch = is_try o
fits o breaks (form.Basic basic_form.Break) = holds_statements o && breaks
fits o breaks (form.Basic f) = holds_statements o
fits o breaks (form.Comp f) = holds_statements o
fits o breaks (form.Object f) = holds_statements o
fits o breaks (form.Fork f) = holds_statements o
fits o breaks (form.Block f) = holds_statements o
fits o breaks (form.Event f) = holds_events o
fits o breaks (form.Group f) = holds_events o

-- The limits

abbrev pub is_bundle : Opener → Bool
is_bundle opener.Bundle = true
is_bundle opener.Flock = true
is_bundle _ = false

-- a block inside 32 open ones, or a bundle or flock inside 8 open ones
abbrev pub is_deep : Level → Opener → Bool
is_deep level o = nat_le 32 level.depth || (is_bundle o && nat_le 8 level.bundles)

-- 256 triggers, 256 computations and 64 other things may be declared
abbrev pub is_kind_full : Counts → Kind → Bool
is_kind_full counts kind.Trigger = nat_le 256 counts.triggers
is_kind_full counts kind.Comp = nat_le 256 counts.comps
is_kind_full counts _ = nat_le 64 counts.objects

-- choose, wrap and guard, which are no statements
abbrev pub is_group : Opener → Bool
is_group opener.Choose = true
is_group (opener.Wrap o) = true
is_group (opener.Guard l t r) = true
is_group _ = false

-- a program has 64 texts besides main and 10,000 statements, a select 32 events
abbrev pub is_full : State → Line → Bool
is_full s (line.Declare k w) = is_kind_full s.counts k
is_full s (line.Fiber w) = nat_le 64 (length s.texts)
is_full s (line.Plain x) = nat_le 10000 s.counts.statements
is_full s (line.Open o) = not (is_group o) && nat_le 10000 s.counts.statements
is_full s (line.Leaf e) = nat_le 32 s.counts.leaves
is_full s _ = false

abbrev pub is_line_deep : Level → Line → Bool
is_line_deep level (line.Open o) = is_deep level o
is_line_deep level _ = false

-- the limit that a line breaks
abbrev pub limit_broken : State → Line → Option Cause
limit_broken s l = if is_line_deep s.top.level l then Some cause.TooDeep else (if is_full s l then Some cause.TooMany else None)

-- What each line does

abbrev pub counted : Counts → Kind → Counts
counted counts kind.Trigger = record counts { triggers = counts.triggers + 1 }
counted counts kind.Comp = record counts { comps = counts.comps + 1 }
counted counts _ = record counts { objects = counts.objects + 1 }

abbrev pub with_statement : Counts → Counts
with_statement counts = record counts { statements = counts.statements + 1 }

abbrev pub with_leaf : Counts → Counts
with_leaf counts = record counts { leaves = counts.leaves + 1 }

abbrev pub with_select : Counts → Counts
with_select counts = record counts { statements = counts.statements + 1; leaves = 0 }

abbrev pub with_stmt : Frame → Stmt → Frame
with_stmt f x = record f { stmts = f.stmts ++ x ∷ [] }

abbrev pub with_event : Frame → ℕ → Frame
with_event f place = record f { events = f.events ++ place ∷ [] }

-- a declaration makes its name known
abbrev pub declared : State → Kind → List ℕ → State
declared s k name = record s {
  names = s.names ++ record { bytes = name; thing = thing.Named (sort_of k) (length s.decls) } ∷ [];
  decls = s.decls ++ record { name = name; kind = k } ∷ [];
  counts = counted s.counts k;
}

-- a text begins, with a block of its own
abbrev pub text_begun : State → Opener → List ℕ → State
text_begun s o name = record s {
  texts = s.texts ++ record { name = name; block = length s.blocks } ∷ [];
  blocks = s.blocks ++ [] ∷ [];
  top = frame o (length s.blocks) outermost;
  outer = s.top ∷ s.outer;
}

-- a fiber's text makes its name known, from its first line on
abbrev pub fiber_begun : State → List ℕ → State
fiber_begun s name = text_begun (record s { names = s.names ++ record { bytes = name; thing = thing.Named sort.Text (length s.texts) } ∷ [] }) opener.Text name

abbrev pub bundle_count : Opener → ℕ
bundle_count opener.Bundle = 1
bundle_count opener.Flock = 1
bundle_count _ = 0

-- a `break` may stand in a loop, and where `if` and `try` alone stand between
abbrev pub breaks_in : Opener → Bool → Bool
breaks_in opener.Loop breaks = true
breaks_in (opener.Then l t r) breaks = breaks
breaks_in opener.Try breaks = breaks
breaks_in _ breaks = false

-- inside one block more
abbrev pub inside : Level → Opener → Level
inside level o = record { depth = level.depth + 1; bundles = level.bundles + bundle_count o; breaks = breaks_in o level.breaks }

abbrev pub block_opened : State → Opener → State
block_opened s o = record s {
  blocks = s.blocks ++ [] ∷ [];
  counts = with_statement s.counts;
  top = frame o (length s.blocks) (inside s.top.level o);
  outer = s.top ∷ s.outer;
}

abbrev pub select_opened : State → Opener → State
select_opened s o = record s { counts = with_select s.counts; top = frame o 0 (inside s.top.level o); outer = s.top ∷ s.outer }

abbrev pub group_opened : State → Opener → State
group_opened s o = record s {
  events = s.events ++ event.Choose [] ∷ [];
  top = frame o (length s.events) (inside s.top.level o);
  outer = s.top ∷ s.outer;
}

abbrev pub opened : State → Opener → State
opened s (opener.Select n v) = select_opened s (opener.Select n v)
opened s opener.Choose = group_opened s opener.Choose
opened s (opener.Wrap o) = group_opened s (opener.Wrap o)
opened s (opener.Guard l t r) = group_opened s (opener.Guard l t r)
opened s o = block_opened s o

abbrev pub stated : State → Stmt → State
stated s x = record s { counts = with_statement s.counts; top = with_stmt s.top x }

abbrev pub leaf_added : State → EventTree → State
leaf_added s e = record s { events = s.events ++ e ∷ []; counts = with_leaf s.counts; top = with_event s.top (length s.events) }

-- the second part of an `if` or a `try` begins, with a block of its own
abbrev pub part_begun : State → Opener → State
part_begun s o = record s {
  blocks = slice_set s.blocks s.top.place s.top.stmts ++ [] ∷ [];
  top = record s.top { what = o; place = length s.blocks; stmts = [] };
}

abbrev pub else_begun : State → Opener → State
else_begun s (opener.Then l t r) = part_begun s (opener.Otherwise l t r s.top.place)
else_begun s _ = s

-- what is open is left for what is around it, with these blocks and events
abbrev pub left : State → List (List Stmt) → List EventTree → (Frame → Frame) → List Frame → State
left s blocks events change [] = s
left s blocks events change (f ∷ fs) = record s { blocks = blocks; events = events; top = change f; outer = fs }

-- a block ends, and the statement that holds it stands in the block around it
abbrev pub block_closed : State → Stmt → State
block_closed s x = left s (slice_set s.blocks s.top.place s.top.stmts) s.events (λ f. with_stmt f x) s.outer

-- an empty `else` part is as none: its block, the last one, goes
abbrev pub else_closed : State → Operand → Test → Operand → ℕ → List Stmt → State
else_closed s l t r then_place [] =
    left s (take (length s.blocks - 1) s.blocks) s.events (λ f. with_stmt f (stmt.If l t r then_place None)) s.outer
else_closed s l t r then_place (x ∷ xs) = block_closed s (stmt.If l t r then_place (Some s.top.place))

abbrev pub select_closed : State → ℕ → ℕ → State
select_closed s number value = left s s.blocks s.events (λ f. with_stmt f (stmt.Select number value s.top.events)) s.outer

abbrev pub group_closed : State → EventTree → State
group_closed s e = left s s.blocks (slice_set s.events s.top.place e) (λ f. with_event f s.top.place) s.outer

-- a text ends, and the file goes on behind it
abbrev pub text_closed : State → Opener → State
text_closed s behind = left s (slice_set s.blocks s.top.place s.top.stmts) s.events (λ f. record f { what = behind }) s.outer

abbrev pub closed : State → Opener → State
closed s opener.Text = text_closed s opener.Between
closed s opener.Main = text_closed s opener.Over
closed s (opener.Then l t r) = block_closed s (stmt.If l t r s.top.place None)
closed s (opener.Otherwise l t r then_place) = else_closed s l t r then_place s.top.stmts
closed s opener.Loop = block_closed s (stmt.Loop s.top.place)
closed s (opener.Catch body register) = block_closed s (stmt.Try body register s.top.place)
closed s opener.Forbid = block_closed s (stmt.Forbid s.top.place)
closed s opener.Permit = block_closed s (stmt.Permit s.top.place)
closed s (opener.Under c) = block_closed s (stmt.Under c s.top.place)
closed s (opener.Link a b) = block_closed s (stmt.Link a b s.top.place)
closed s (opener.Protect m) = block_closed s (stmt.Protect m s.top.place)
closed s opener.Bundle = block_closed s (stmt.Bundle s.top.place)
closed s opener.Flock = block_closed s (stmt.Flock s.top.place)
closed s (opener.Select number value) = select_closed s number value
closed s opener.Choose = group_closed s (event.Choose s.top.events)
closed s (opener.Wrap o) = group_closed s (event.Wrap o s.top.events)
closed s (opener.Guard l t r) = group_closed s (event.Guard l t r s.top.events)
closed s _ = s

-- the state behind a line
abbrev pub after : State → Line → State
after s (line.Declare k name) = declared s k name
after s (line.Fiber name) = fiber_begun s name
after s line.Main = text_begun s opener.Main (codes "main")
after s line.End = closed s s.top.what
after s line.Else = else_begun s s.top.what
after s (line.Catch register) = part_begun s (opener.Catch s.top.place register)
after s (line.Plain x) = stated s x
after s (line.Open o) = opened s o
after s (line.Leaf e) = leaf_added s e
