-- Histories of the machine: lists of what happened, and which of them are legal.
use Rattle.std.specs.Prelude.{◌≡◌, ℕ, ◌<◌, ◌==◌, Bool, false, if◌then◌else◌, ◌⊎◌, ⊤, Option, Some, None, List, [], ◌∷◌, ◌++◌, length}
use Rattle.std.specs.List.{AllByRecursion}
use Rattle.pic_machine.specs.declared.birth.Birth.{Birth}
use Rattle.pic_machine.specs.declared.entry.Call.{Call}
use Rattle.pic_machine.specs.declared.entry.Call.TheVariants.{NewTrigger, NewPlace, Arm, Attach, Fork}
use Rattle.pic_machine.specs.declared.entry.Reply.{Reply}
use Rattle.pic_machine.specs.declared.entry.AttachReply.TheVariants as attach
use Rattle.pic_machine.specs.declared.entry.Reply.TheVariants as reply
use Rattle.pic_machine.specs.declared.entry.Reply.TheVariants.{Made}
use Rattle.pic_machine.specs.Duty.{is_owing}
use Rattle.pic_machine.specs.Happened.{Happened}
use Rattle.pic_machine.specs.declared.world.Start.{Start}
use Rattle.pic_machine.specs.State.{State, owed_of, world_at}
use Rattle.pic_machine.specs.Step.{Allowed, after, reply_of}

-- where a history begins: the world before its first entry, and the birth of main
pub record Origin : Type 0 where
  pub world : State
  pub main : Birth

-- the start's world, and main as it was born
abbrev pub origin_of : Start → Birth → Origin
origin_of start main = record { world = world_at start; main = main }

-- an entry that made no fiber, of a fiber that owes nothing
abbrev pub event : ℕ → Call → Reply → Happened
event f call reply = record { entry = record { fiber = f; call = call; reply = reply }; birth = None; owing = false }

-- the same of a fiber that may owe something
abbrev pub happening : Bool → ℕ → Call → Reply → Happened
happening owing f call reply = record { entry = record { fiber = f; call = call; reply = reply }; birth = None; owing = owing }

-- the entry by which fiber f, which owes nothing, made fiber g, with the birth of g beside it
abbrev pub forked : ℕ → ℕ → Birth → Happened
forked f g birth = record {
  entry = record { fiber = f; call = Fork birth.text birth.value; reply = Made g };
  birth = Some birth;
  owing = false;
}

-- the world that some entries lead to
abbrev pub world_from : State → List Happened → State
world_from w [] = w
world_from w (h ∷ hs) = world_from (after w h.entry.fiber h.entry.call) hs

-- the world after a history
abbrev pub world : Origin → List Happened → State
world origin hs = world_from origin.world hs

-- fiber f made the trigger, or the place, by an entry of the history
pub record HasMade (hs : List Happened) (f : ℕ) (call : Call) (n : ℕ) : Type 0 where
  pub front : List Happened
  pub back : List Happened
  pub is : hs ≡ front ++ event f call (Made n) ∷ back

-- the entry took the place
abbrev pub Takes : ℕ → Happened → Type 0
Takes p h = (c : ℕ) × (t : ℕ) × ((h.entry.call ≡ Attach p c t) × (h.entry.reply ≡ reply.Attached attach.Attached))

-- an attachment takes a place that its own fiber made and that no attachment took before; a fiber arms a
-- trigger that stands from the start, or one that it made itself
abbrev pub NumbersFit : Origin → List Happened → ℕ → Call → Type 0
NumbersFit origin hs f (Arm t action) = (t < length origin.world.triggers) ⊎ HasMade hs f NewTrigger t
NumbersFit origin hs f (Attach p c t) = HasMade hs f NewPlace p × AllByRecursion (λ h. Takes p h → ⊥) hs
NumbersFit origin hs f _ = ⊤

-- fiber f may make the call after a history: the world there allows it, and its numbers are ones that it
-- may use
pub record MayMake (origin : Origin) (hs : List Happened) (f : ℕ) (call : Call) : Type 0 where
  pub allowed : Allowed (world origin hs) f call
  pub numbers : NumbersFit origin hs f call

-- the birth has what the fork says, and its computation stands
pub record IsBirthOf (w : State) (text value : ℕ) (birth : Option Birth) : Type 0 where
  pub of_child : Birth
  pub is : birth ≡ Some of_child
  pub same_text : of_child.text ≡ text
  pub same_value : of_child.value ≡ value
  pub stands : of_child.current < length w.comps

-- beside a fork that made a fiber stands the child's birth, and beside another entry none
abbrev pub BirthFits : State → Call → Reply → Option Birth → Type 0
BirthFits w (Fork text value) (Made g) birth = IsBirthOf w text value birth
BirthFits w _ _ birth = birth ≡ None

-- what may follow a history: an entry that its fiber may make there, with the machine's reply, with the
-- birth that belongs beside it, and with the mark of what its fiber owes there
pub record Follows (origin : Origin) (hs : List Happened) (h : Happened) : Type 0 where
  pub may : MayMake origin hs h.entry.fiber h.entry.call
  pub reply : h.entry.reply ≡ reply_of (world origin hs) h.entry.fiber h.entry.call
  pub birth : BirthFits (world origin hs) h.entry.call h.entry.reply h.birth
  pub owing : h.owing ≡ is_owing (owed_of (world origin hs) h.entry.fiber) h.entry.call

-- each entry may follow those before it
pub record IsLegal (origin : Origin) (hs : List Happened) : Type 0 where
  pub each : (front back : List Happened) (h : Happened) → hs ≡ front ++ h ∷ back → Follows origin front h

-- the first of two that is there
abbrev pub or_later : Option Birth → Option Birth → Option Birth
or_later None later = later
or_later (Some birth) later = Some birth

-- the birth of fiber f, of a reply and the birth that stands beside it
abbrev pub made_birth : Reply → Option Birth → ℕ → Option Birth
made_birth (Made g) (Some birth) f = if g == f then Some birth else None
made_birth _ _ f = None

-- the birth of fiber f, where this entry made it
abbrev pub birth_at : Happened → ℕ → Option Birth
birth_at h f = made_birth h.entry.reply h.birth f

-- the birth of fiber f, where one of these entries made it
abbrev pub birth_among : List Happened → ℕ → Option Birth
birth_among [] f = None
birth_among (h ∷ hs) f = or_later (birth_at h f) (birth_among hs f)

-- the birth of fiber f, where it was made: main's is the origin's
abbrev pub birth_in : Origin → List Happened → ℕ → Option Birth
birth_in origin hs f = if f == 1 then Some origin.main else birth_among hs f
