-- What a turn of a fiber did, from a poll's beginning to its answer.
use Rattle.std.specs.Prelude.{◌≡◌, ℕ, true, Option, Some, None, MatchOption, List, [], ◌∷◌, ◌++◌, ⊤}
use Rattle.std.specs.List.{AllByRecursion}
use Rattle.pic_base.specs.declared.action.Action.TheVariants.{Resume}
use Rattle.pic_machine.specs.declared.entry.Call.{Call}
use Rattle.pic_machine.specs.declared.entry.Call.TheVariants as call
use Rattle.pic_machine.specs.Happened.{Happened}
use Rattle.pic_machine.specs.declared.poller.Turn.{Turn}
use Rattle.pic_machine.specs.declared.poller.Turn.TheVariants.{Ended, Yielded, Parked, Again, Memory}
use Rattle.pic_machine.specs.History.{IsLegal}
use Rattle.pic_machine.specs.Log.{log}
use Rattle.pic_machine.specs.Order.{IsOwn, GoesOn, Stops, readied}
use Rattle.pic_machine.specs.Sight.{Carry, Sight, Holds, fiber_of}
use Rattle.pic_machine.specs.Lending.{Calm, Later, Rose}

-- a ready line got these fibers at its end, in this order; a line that tells nothing now may have lost
-- any of them
abbrev pub Adds : Option (List ℕ) → Option (List ℕ) → List ℕ → Type 0
Adds old new fibers = MatchOption new ⊤ (λ now. (before : List ℕ) × (old ≡ Some before) × (now ≡ before ++ fibers))

-- the log of fiber f grew by these entries of its own, within its turn; the front of a port that is
-- alone grew by them only
pub record Grew {S : Type 0} (old new : Sight S) (f : ℕ) (es : List Happened) : Type 0 where
  pub more : List Happened
  pub later : Later old new more
  pub own : AllByRecursion (IsOwn f) es
  pub log : log new.front f ≡ log old.front f ++ es
  pub alone : old.alone ≡ true → more ≡ es

-- the turn of fiber f is over: the last of its entries, and no other, ends a turn, and is such a one;
-- no body is out, and the ready line got what the turn made ready
pub record Stopped {S : Type 0} (old new : Sight S) (f : ℕ) (before now : Option (List ℕ)) (How : Happened → Type 0) : Type 0 where
  pub going : List Happened
  pub final : Happened
  pub grew : Grew old new f (going ++ final ∷ [])
  pub on : AllByRecursion GoesOn going
  pub last : Stops final
  pub is : How final
  pub line : Adds before now (readied (going ++ final ∷ []))
  pub out : new.out ≡ None
  pub legal : IsLegal new.origin new.front

-- the turn of the body's fiber is under way: none of its entries ends it, the body is out still, and the
-- ready line got what they made ready
pub record Went {S : Type 0} (old new : Sight S) (body later : Carry S) (before now : Option (List ℕ)) : Type 0 where
  pub going : List Happened
  pub grew : Grew old new (fiber_of body) going
  pub on : AllByRecursion GoesOn going
  pub line : Adds before now (readied going)
  pub holds : Holds new later
  pub number : later.number ≡ body.number

-- the last entry of a turn ends the fiber, or lets it go on in a later turn
abbrev pub EndsSo : Call → Type 0
EndsSo (call.End outcome) = ⊤
EndsSo _ = ⊥

abbrev pub YieldsSo : Call → Type 0
YieldsSo call.Yield = ⊤
YieldsSo _ = ⊥

-- or suspends it
abbrev pub ParksSo : Call → Type 0
ParksSo (call.Arm trigger (Resume fiber)) = ⊤
ParksSo _ = ⊥

-- what a poll's answer says: the turn is over and the port has the body back, or it is handed back with
-- its turn under way, since another port was in the way, or since memory was wanted and nobody was in the way
abbrev pub Polled : {B S : Type 0} → Turn B → (B → Carry S) → (B → List Happened → Type 0) → Sight S → Sight S → Carry S → Option (List ℕ) → Option (List ℕ) → Type 0
Polled Ended seen fits old new body before now = Stopped old new (fiber_of body) before now (λ h. EndsSo h.entry.call)
Polled Yielded seen fits old new body before now = Stopped old new (fiber_of body) before now (λ h. YieldsSo h.entry.call)
Polled Parked seen fits old new body before now = Stopped old new (fiber_of body) before now (λ h. ParksSo h.entry.call)
Polled (Again back) seen fits old new body before now =
    Went old new body (seen back) before now × fits back (log new.front (fiber_of body)) × Rose old.contention new.contention
Polled (Memory back) seen fits old new body before now =
    Went old new body (seen back) before now × fits back (log new.front (fiber_of body)) × Calm old new
