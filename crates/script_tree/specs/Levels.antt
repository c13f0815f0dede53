-- How deep the blocks and events of a program stand, and where a `break` may stand.
use Rattle.std.specs.Prelude.{◌≡◌, ℕ, ◌≤◌, IsTrue, Option, Some, None, List, length, slice_get}
use Rattle.std.specs.List.{AllByRecursion}
use Rattle.script_tree.specs.declared.level.Level.{Level}
use Rattle.script_tree.specs.declared.opener.Opener.TheVariants as opener
use Rattle.script_tree.specs.declared.program.EventTree.{EventTree}
use Rattle.script_tree.specs.declared.program.EventTree.TheVariants as event
use Rattle.script_tree.specs.declared.program.Stmt.{Stmt}
use Rattle.script_tree.specs.declared.program.Stmt.TheVariants as stmt
use Rattle.script_tree.specs.declared.program.Text.{Text}
use Rattle.script_tree.specs.Reading.{outermost, inside}
use Rattle.script_tree.specs.Tree.{Tree}

-- a level for each block, which is that of its statements, and for each event, which is that of what holds it
pub record Levels : Type 0 where
  pub blocks : List Level
  pub events : List Level

abbrev pub IsAt : List Level → Level → ℕ → Type 0
IsAt levels level place = slice_get levels place ≡ Some level

-- inside of at most 32 blocks, and of at most 8 bundles and flocks
pub record IsShallow (level : Level) : Type 0 where
  pub blocks : level.depth ≤ 32
  pub bundles : level.bundles ≤ 8

abbrev pub IsElseAt : List Level → Level → Option ℕ → Type 0
IsElseAt levels level None = Unit {0}
IsElseAt levels level (Some place) = IsAt levels level place

-- these events stand in something of this level, which is not too deep
abbrev pub AreEventsAt : Levels → Level → List ℕ → Type 0
AreEventsAt levels level events = IsShallow level × AllByRecursion (IsAt levels.events level) events

-- a statement of a block of this level: the blocks and events in it are one level deeper, and a `break` stands in a loop
abbrev pub StmtStands : Levels → Level → Stmt → Type 0
StmtStands levels level stmt.Break = IsTrue level.breaks
StmtStands levels level (stmt.If l t r then_place other) =
    IsAt levels.blocks (inside level (opener.Then l t r)) then_place × IsElseAt levels.blocks (inside level (opener.Then l t r)) other
StmtStands levels level (stmt.Try body register handler) =
    IsAt levels.blocks (inside level opener.Try) body × IsAt levels.blocks (inside level opener.Try) handler
StmtStands levels level (stmt.Loop place) = IsAt levels.blocks (inside level opener.Loop) place
StmtStands levels level (stmt.Forbid place) = IsAt levels.blocks (inside level opener.Forbid) place
StmtStands levels level (stmt.Permit place) = IsAt levels.blocks (inside level opener.Permit) place
StmtStands levels level (stmt.Under c place) = IsAt levels.blocks (inside level (opener.Under c)) place
StmtStands levels level (stmt.Link a b place) = IsAt levels.blocks (inside level (opener.Link a b)) place
StmtStands levels level (stmt.Protect m place) = IsAt levels.blocks (inside level (opener.Protect m)) place
StmtStands levels level (stmt.Bundle place) = IsAt levels.blocks (inside level opener.Bundle) place
StmtStands levels level (stmt.Flock place) = IsAt levels.blocks (inside level opener.Flock) place
StmtStands levels level (stmt.Select number value events) = AreEventsAt levels (inside level (opener.Select number value)) events
StmtStands levels level _ = Unit {0}

-- an event in something of this level
abbrev pub EventStands : Levels → Level → EventTree → Type 0
EventStands levels level (event.Choose members) = AreEventsAt levels (inside level opener.Choose) members
EventStands levels level (event.Wrap o members) = AreEventsAt levels (inside level (opener.Wrap o)) members
EventStands levels level (event.Guard l t r members) = AreEventsAt levels (inside level (opener.Guard l t r)) members
EventStands levels level _ = Unit {0}

-- these are the levels of a program: each block and event has one, texts are outside of all blocks, and no
-- block is too deep
pub record AreLevels (tree : Tree) (levels : Levels) : Type 0 where
  pub each_block : length levels.blocks ≡ length tree.blocks
  pub each_event : length levels.events ≡ length tree.events
  pub shallow : AllByRecursion IsShallow levels.blocks
  pub texts : AllByRecursion (λ (t : Text). IsAt levels.blocks outermost t.block) tree.texts
  pub blocks : (place : ℕ) (level : Level) (block : List Stmt) → IsAt levels.blocks level place → slice_get tree.blocks place ≡ Some block
      → AllByRecursion (StmtStands levels level) block
  pub events : (place : ℕ) (level : Level) (e : EventTree) → IsAt levels.events level place → slice_get tree.events place ≡ Some e
      → EventStands levels level e

-- a program has levels
pub record HasLevels (tree : Tree) : Type 0 where
  pub levels : Levels
  pub are : AreLevels tree levels
