-- How many events a select has: those that are no groups, in its groups too.
use Rattle.std.specs.Prelude.{◌≡◌, ℕ, ◌+◌, ◌≤◌, Option, Some, None, List, [], ◌∷◌, slice_get}
use Rattle.script_tree.specs.declared.program.EventTree.{EventTree}
use Rattle.script_tree.specs.declared.program.EventTree.TheVariants as event
use Rattle.script_tree.specs.declared.program.Stmt.{Stmt}
use Rattle.script_tree.specs.declared.program.Stmt.TheVariants as stmt
use Rattle.script_tree.specs.Tree.{Tree}

-- the members of a group of events
abbrev pub members_of : EventTree → Option (List ℕ)
members_of (event.Choose members) = Some members
members_of (event.Wrap o members) = Some members
members_of (event.Guard l t r members) = Some members
members_of _ = None

-- the events at these places are so many, without the groups among them and with what those hold
pub data HaveLeaves (tree : Tree) : List ℕ → ℕ → Type 0 where
  nothing : HaveLeaves tree [] 0
  a_leaf : {places : List ℕ} {count : ℕ} (place : ℕ) (e : EventTree) → slice_get tree.events place ≡ Some e → members_of e ≡ None
      → HaveLeaves tree places count → HaveLeaves tree (place ∷ places) (1 + count)
  a_group : {members places : List ℕ} {inner count : ℕ} (place : ℕ) (e : EventTree) → slice_get tree.events place ≡ Some e
      → members_of e ≡ Some members → HaveLeaves tree members inner → HaveLeaves tree places count → HaveLeaves tree (place ∷ places) (inner + count)

-- there are at most 32
pub record HaveFewLeaves (tree : Tree) (events : List ℕ) : Type 0 where
  pub count : ℕ
  pub leaves : HaveLeaves tree events count
  pub few : count ≤ 32

-- a select has at most 32 events
abbrev pub SelectKeepsLimit : Tree → Stmt → Type 0
SelectKeepsLimit tree (stmt.Select number value events) = HaveFewLeaves tree events
SelectKeepsLimit tree _ = Unit {0}
