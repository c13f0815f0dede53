-- What contracts see of the port, and the sight that it gives of the machine.
use Rattle.std.specs.Prelude.{◌≡◌, ℕ, ◌<◌, ⊤, true, Option, Some, None, List, [], ◌∷◌, ◌++◌, filter_map}
use Rattle.pic_machine.specs.declared.birth.Birth.{Birth}
use Rattle.pic_machine.specs.declared.entry.Call.{Call}
use Rattle.pic_machine.specs.declared.entry.Call.TheVariants as call
use Rattle.pic_machine.specs.Happened.{Happened}
use Rattle.pic_machine.specs.declared.world.Start.{Start}
use Rattle.pic_machine.specs.declared.entry.Reply.{Reply}
use Rattle.pic_machine.specs.declared.entry.Reply.TheVariants as reply
use Rattle.pic_machine.specs.declared.port.PortFault.{PortFault}
use Rattle.pic_machine.specs.declared.port.PortFault.TheVariants.{Full, Again, Memory}
use Rattle.pic_machine.specs.History.{Follows, Origin, event, happening, origin_of, world}
use Rattle.pic_machine.specs.Duty.{is_owing}
use Rattle.pic_machine.specs.Home.{IsHome}
use Rattle.pic_machine.specs.Sight.{Carry, Sight}
use Rattle.pic_machine.specs.State.{owed_of}

-- the start, main's body as it was given, the history so far, and the fiber whose body is out
pub record Shown (B : Type 0) : Type 0 where
  pub start : Start
  pub main : B
  pub front : List Happened
  pub out : Option ℕ

-- where its history begins
abbrev pub origin_in : {B S : Type 0} → (B → Carry S) → Shown B → Origin
origin_in seen port = origin_of port.start (seen port.main).birth

-- the births of the fibers that a history made, in order
abbrev pub births_in : List Happened → List Birth
births_in hs = filter_map (λ h. h.birth) hs

-- ---- the sight

-- the port is alone, and nobody is ever in its way
abbrev pub sight_of : {B S : Type 0} → (B → Carry S) → Shown B → Sight S
sight_of seen port = record {
  board = [];
  origin = origin_in seen port;
  share = (seen port.main).share;
  alone = true;
  front = port.front;
  out = port.out;
  contention = 0;
}

-- the body of fiber f is at home in the port, and as the history says
abbrev pub IsAtHome : {B S : Type 0} → (B → Carry S) → (B → List Happened → Type 0) → Shown B → ℕ → B → Type 0
IsAtHome seen fits port f body = IsHome seen fits (origin_in seen port) (seen port.main).share port.front f body

-- the entry of a call that makes no fiber, of a fiber that may owe something there
abbrev pub marked : {B S : Type 0} → (B → Carry S) → Shown B → ℕ → Call → Reply → Happened
marked seen port f call reply = happening (is_owing (owed_of (world (origin_in seen port) port.front) f) call) f call reply

-- the same port, with one entry more
abbrev pub with_entry : {B : Type 0} → Shown B → Happened → Shown B
with_entry port h = record port { front = port.front ++ h ∷ [] }

-- ---- which calls are which

-- the calls that leave what their fiber owes, and that a report shows
abbrev pub IsLent : Call → Type 0
IsLent (call.Look trigger) = ⊤
IsLent (call.Attach place comp trigger) = ⊤
IsLent (call.Say value) = ⊤
IsLent _ = ⊥

-- the calls that a duty asks for
abbrev pub Settles : Call → Type 0
Settles (call.Signal trigger) = ⊤
Settles (call.Complete comp outcome) = ⊤
Settles (call.Peek comp) = ⊤
Settles _ = ⊥

-- the calls that make a thing, and no fiber
abbrev pub MakesThing : Call → Type 0
MakesThing call.NewTrigger = ⊤
MakesThing call.NewPlace = ⊤
MakesThing _ = ⊥

-- the calls with which a turn is over
abbrev pub IsLast : Call → Type 0
IsLast call.Yield = ⊤
IsLast (call.End outcome) = ⊤
IsLast _ = ⊥

-- the number that a reply tells of
abbrev pub made_of : Reply → Option ℕ
made_of (reply.Made number) = Some number
made_of _ = None

-- a fork made no fiber: the entry says that there was no room for one, or memory was wanted
abbrev pub NoFiber : {B S : Type 0} → (B → Carry S) → PortFault → Shown B → Shown B → ℕ → Call → Type 0
NoFiber seen Full old new f call = (new ≡ with_entry old (event f call reply.Full)) × Follows (origin_in seen old) old.front (event f call reply.Full)
NoFiber seen Again old new f call = ⊥
NoFiber seen Memory old new f call = new ≡ old

-- ---- what an opening needs

-- a body that may become main's: it runs the start's text, its current computation is one of the start's,
-- and nothing has happened to it
pub record IsMain {B S : Type 0} (seen : B → Carry S) (fits : B → List Happened → Type 0) (start : Start) (body : B) : Type 0 where
  pub unnumbered : (seen body).number ≡ None
  pub text : (seen body).birth.text ≡ start.text
  pub current : (seen body).birth.current < start.comps
  pub owes : (seen body).owes ≡ []
  pub fitting : fits body []

-- a body that may become the clock's: its number is 0, and nothing has happened to it
pub record IsClock {B S : Type 0} (seen : B → Carry S) (fits : B → List Happened → Type 0) (body : B) : Type 0 where
  pub number : (seen body).number ≡ Some 0
  pub owes : (seen body).owes ≡ []
  pub fitting : fits body []
