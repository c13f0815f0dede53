-- Routines: what a fiber does, one call after another, as a table of what it asks next and where each reply
-- leads. Statements and the calls that run them speak of the same tables.
use Rattle.std.specs.Prelude.{◌≡◌, ℕ, Option, Some, List, [], ◌∷◌}
use Rattle.pic_machine.specs.declared.entry.Call.{Call}
use Rattle.pic_machine.specs.declared.entry.Reply.{Reply}
use Rattle.pic_machine.specs.Happened.{Happened}
use Rattle.pic_machine.specs.History.{event}

-- a routine: the call that it asks for at each of its phases, none where it has ended; and the phase to
-- which the reply leads, where it is one to that call
pub record Routine (Phase : Type 0) : Type 0 where
  pub asks : Phase → Option Call
  pub leads : Phase → Reply → Option Phase

-- fiber f goes by the routine from one phase to another one by these entries
pub data Goes {Phase : Type 0} (r : Routine Phase) (f : ℕ) : Phase → List Happened → Phase → Type 0 where
  stays : {p : Phase} → Goes r f p [] p
  goes : {p m q : Phase} {hs : List Happened} (call : Call) (reply : Reply) → r.asks p ≡ Some call → r.leads p reply ≡ Some m
      → Goes r f m hs q → Goes r f p (event f call reply ∷ hs) q

-- each row of the inner one is a row of the outer one
pub record Within {Inner : Type 0} {Outer : Type 0} (inner : Routine Inner) (outer : Routine Outer) (up : Inner → Outer) : Type 0 where
  pub asks : (p : Inner) (call : Call) → inner.asks p ≡ Some call → outer.asks (up p) ≡ Some call
  pub leads : (p q : Inner) (reply : Reply) → inner.leads p reply ≡ Some q → outer.leads (up p) reply ≡ Some (up q)
