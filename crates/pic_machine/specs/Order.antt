-- The order of turns on one worker.
use Rattle.std.specs.Prelude.{◌≡◌, ℕ, Bool, true, false, List, [], ◌∷◌, ◌++◌, length, filter}
use Rattle.std.specs.List.{AllByRecursion, flat_map}
use Rattle.pic_base.specs.declared.action.Action.TheVariants.{Resume}
use Rattle.pic_machine.specs.declared.entry.Call.{Call}
use Rattle.pic_machine.specs.declared.entry.Call.TheVariants.{Turn, Yield, Arm, Signal, Fork, End}
use Rattle.pic_machine.specs.declared.entry.Reply.{Reply}
use Rattle.pic_machine.specs.declared.entry.Reply.TheVariants.{Plain, Made, Armed, Signalled}
use Rattle.pic_machine.specs.declared.entry.ArmReply.TheVariants.{Set}
use Rattle.pic_machine.specs.declared.entry.SignalReply.TheVariants.{Acted}
use Rattle.pic_machine.specs.Happened.{Happened}
use Rattle.pic_machine.specs.History.{event}
use Rattle.pic_machine.specs.Log.{is_turn}

-- an entry of fiber f within its turn
pub record IsOwn (f : ℕ) (h : Happened) : Type 0 where
  pub by : h.entry.fiber ≡ f
  pub within : is_turn h.entry.call ≡ false

-- the entries that end a turn
abbrev pub stops : Call → Reply → Bool
stops Yield reply = true
stops (End o) reply = true
stops (Arm t (Resume g)) (Armed Set) = true
stops _ _ = false

-- the turn goes on behind the entry, or ends with it
abbrev pub GoesOn : Happened → Type 0
GoesOn h = stops h.entry.call h.entry.reply ≡ false

abbrev pub Stops : Happened → Type 0
Stops h = stops h.entry.call h.entry.reply ≡ true

-- how many of these entries end a turn
abbrev pub turns_over : List Happened → ℕ
turns_over hs = length (filter (λ h. stops h.entry.call h.entry.reply) hs)

abbrev pub is_yield : Call → Bool
is_yield Yield = true
is_yield _ = false

-- how many of these entries are yields
abbrev pub yields : List Happened → ℕ
yields hs = length (filter (λ h. is_yield h.entry.call) hs)

-- the entries of one turn of fiber f: its own alone, of which the last and only the last ends it
pub record IsTurn (f : ℕ) (hs : List Happened) : Type 0 where
  pub going : List Happened
  pub final : Happened
  pub is : hs ≡ going ++ final ∷ []
  pub own : AllByRecursion (IsOwn f) hs
  pub on : AllByRecursion GoesOn going
  pub last : Stops final

-- the fibers that an entry makes ready: one that yields is ready again, and so is one that was made, and
-- one that waited for the trigger that was signalled
abbrev pub readied_by : ℕ → Call → Reply → List ℕ
readied_by f Yield reply = f ∷ []
readied_by f (Fork text value) (Made g) = g ∷ []
readied_by f (Signal t) (Signalled (Acted (Resume g))) = g ∷ []
readied_by f _ _ = []

-- the fibers that entries make ready, in the order of happening
abbrev pub readied : List Happened → List ℕ
readied hs = flat_map (λ h. readied_by h.entry.fiber h.entry.call h.entry.reply) hs

-- the history is a list of turns, each of a fiber of the ready list, which leaves the list, and what a turn
-- makes ready goes to the list's end; which fiber has a turn is told by those that stand before it in the
-- list; beside the history stands the list as it leaves it
pub data InOrder (Picks : List ℕ → Type 0) : List Happened → List ℕ → Type 0 where
  begin : InOrder Picks [] (1 ∷ [])
  turn : {hs : List Happened} {f : ℕ} (before behind : List ℕ) (own : List Happened) → InOrder Picks hs (before ++ f ∷ behind) → Picks before → IsTurn f own
      → InOrder Picks (hs ++ event f Turn Plain ∷ own) ((before ++ behind) ++ readied own)

-- first ready, first run: nobody stands before the fiber that has a turn
abbrev pub InFifo : List Happened → List ℕ → Type 0
InFifo hs ready = InOrder (λ before. before ≡ []) hs ready

pub record IsInFifoOrder (hs : List Happened) : Type 0 where
  pub ready : List ℕ
  pub turns : InFifo hs ready
