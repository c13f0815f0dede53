-- What a fiber that stands within a statement may use: declared things, and a place that its own log made and didn't take.
use Rattle.std.specs.Prelude.{◌≡◌, ◌≢◌, ℕ, ◌+◌, ◌^◌, ◌<◌, ◌≤◌, ◌⊎◌, None, List, ⊤}
use Rattle.std.specs.List.{AllByRecursion}
use Rattle.std.specs.Option.{IfSome}
use Rattle.pic_machine.specs.declared.entry.Call.TheVariants.{NewPlace}
use Rattle.pic_machine.specs.declared.waits.Parts.{Parts}
use Rattle.pic_machine.specs.Following.{IsFollowing}
use Rattle.pic_machine.specs.Happened.{Happened}
use Rattle.pic_machine.specs.History.{HasMade, Takes}
use Rattle.script_tree.specs.declared.thing.Sort.TheVariants as sort
use Rattle.script_tree.specs.Tree.{Tree}
use Rattle.fiber_body.specs.declared.standing.Standing.{Standing}
use Rattle.fiber_body.specs.declared.standing.Standing.TheVariants.{Within}
use Rattle.fiber_body.specs.declared.under_way.UnderWay.{UnderWay}
use Rattle.fiber_body.specs.declared.under_way.UnderWay.TheVariants.{Places, Awaits, Awake, Attaches, Follows}
use Rattle.fiber_body.specs.Context.{count_of}
use Rattle.fiber_body.specs.Triggers.{trigger_in}

-- fiber f made the place, and nothing is attached there
abbrev pub OwnsPlace : ℕ → List Happened → ℕ → Type 0
OwnsPlace f mine place = HasMade mine f NewPlace place × AllByRecursion (λ h. Takes place h → ⊥) mine

-- the trigger is declared
abbrev pub IsDeclared : Tree → ℕ → Type 0
IsDeclared script trigger = trigger < count_of sort.Trigger script.decls

-- a wait for a declared trigger; where it is still to be attached, that is at a place of the fiber's own
pub record OwnsWait (script : Tree) (f : ℕ) (mine : List Happened) (parts : Parts) : Type 0 where
  pub known : parts.trigger ≢ None
  pub trigger : IsDeclared script (trigger_in parts)
  pub at : (parts.at ≡ 2) ⊎ (parts.at ≡ 3)
  pub place : parts.at ≡ 2 → IfSome parts.place (OwnsPlace f mine)

-- an attachment of a declared trigger to the root or a declared computation
pub record OwnsAttachment (script : Tree) (r k t : ℕ) : Type 0 where
  pub register : r < 16
  pub comp : k ≤ count_of sort.Comp script.decls
  pub trigger : IsDeclared script t

-- a wait for the root or a declared computation, with what its fiber has made for it so far
pub record OwnsFollowing (script : Tree) (f : ℕ) (mine : List Happened) (r k : ℕ) (parts : Parts) : Type 0 where
  pub register : r < 16
  pub comp : k ≤ count_of sort.Comp script.decls
  pub on : IsFollowing f mine parts

abbrev pub OwnsParts : Tree → ℕ → List Happened → UnderWay → Type 0
OwnsParts script f mine (Places trigger) = IsDeclared script trigger
OwnsParts script f mine (Awake trigger) = IsDeclared script trigger
OwnsParts script f mine (Awaits parts) = OwnsWait script f mine parts
OwnsParts script f mine (Attaches register comp trigger place) = OwnsAttachment script register comp trigger × IfSome place (OwnsPlace f mine)
OwnsParts script f mine (Follows register comp parts) = OwnsFollowing script f mine register comp parts

abbrev pub Owns : Tree → ℕ → List Happened → Standing → Type 0
Owns script f mine (Within block place way) = (place + 1 < 2 ^ 32) × OwnsParts script f mine way
Owns script f mine _ = ⊤
