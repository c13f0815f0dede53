-- What a call of a port did: to the front, and to the body that it was lent or handed.
use Rattle.std.specs.Prelude.{◌≡◌, ℕ, ◌-◌, ◌^◌, ◌<◌, ◌≤◌, ◌⊎◌, true, List, [], ◌∷◌, ◌++◌}
use Rattle.pic_machine.specs.declared.entry.Call.{Call}
use Rattle.pic_machine.specs.declared.entry.Reply.{Reply}
use Rattle.pic_machine.specs.declared.entry.Reply.TheVariants as reply
use Rattle.pic_machine.specs.Happened.{Happened}
use Rattle.pic_machine.specs.declared.port.PortFault.{PortFault}
use Rattle.pic_machine.specs.declared.port.PortFault.TheVariants.{Full, Again, Memory}
use Rattle.pic_machine.specs.declared.port.ClaimRefusal.{ClaimRefusal}
use Rattle.pic_machine.specs.declared.port.ClaimRefusal.TheVariants as claim
use Rattle.pic_machine.specs.declared.port.ParkRefusal.{ParkRefusal}
use Rattle.pic_machine.specs.declared.port.ParkRefusal.TheVariants as park
use Rattle.pic_machine.specs.declared.entry.ArmReply.TheVariants as arm
use Rattle.pic_machine.specs.Duty.{is_owing}
use Rattle.pic_machine.specs.History.{IsLegal, event, happening}
use Rattle.pic_machine.specs.Log.{Others}
use Rattle.pic_machine.specs.Sight.{Carry, Sight, Notes, IsSame, Holds, fiber_of}

-- ---- the front

-- the port has seen these entries more, and is the same port
pub record Later {S : Type 0} (old new : Sight S) (more : List Happened) : Type 0 where
  pub board : new.board ≡ old.board
  pub origin : new.origin ≡ old.origin
  pub share : new.share ≡ old.share
  pub alone : new.alone ≡ old.alone
  pub front : new.front ≡ old.front ++ more
  pub steady : old.contention ≤ new.contention

-- the front grew by entries that were made on other ports: by none where the port is alone
pub record Grown {S : Type 0} (old new : Sight S) : Type 0 where
  pub others : List Happened
  pub none : old.alone ≡ true → others ≡ []
  pub later : Later old new others
  pub legal : IsLegal new.origin new.front

-- the front grew by entries that were made on other ports, whosesoever, and then by the entry with
-- which a body was taken out
pub record Began {S : Type 0} (old new : Sight S) (h : Happened) : Type 0 where
  pub others : List Happened
  pub none : old.alone ≡ true → others ≡ []
  pub later : Later old new (others ++ h ∷ [])
  pub legal : IsLegal new.origin new.front
  pub calm : new.contention ≡ old.contention

-- the front grew by entries of other fibers that were made on other ports, and then by the one that
-- was asked for
pub record Made {S : Type 0} (old new : Sight S) (h : Happened) : Type 0 where
  pub others : List Happened
  pub none : old.alone ≡ true → others ≡ []
  pub not_mine : Others h.entry.fiber others
  pub later : Later old new (others ++ h ∷ [])
  pub legal : IsLegal new.origin new.front
  pub calm : new.contention ≡ old.contention

-- no entry was made here, and what is out is out still
pub record Kept {S : Type 0} (old new : Sight S) : Type 0 where
  pub grown : Grown old new
  pub out : new.out ≡ old.out

-- the body of fiber f was laid back without an entry
pub record Laid {S : Type 0} (old new : Sight S) (f : ℕ) : Type 0 where
  pub grown : Grown old new
  pub not_mine : Others f grown.others
  pub calm : new.contention ≡ old.contention

-- ---- contention

-- the count rose, or stands at the end of its type, where it can't rise
abbrev pub Rose : ℕ → ℕ → Type 0
Rose before now = (before < now) ⊎ (now ≡ 2 ^ 64 - 1)

-- nobody was in the way
abbrev pub Calm : {S : Type 0} → Sight S → Sight S → Type 0
Calm old new = new.contention ≡ old.contention

-- a fault that left no entry: another port was in the way, or memory was wanted
abbrev pub Faulted : {S : Type 0} → PortFault → Sight S → Sight S → Type 0
Faulted Full old new = ⊥
Faulted Again old new = Rose old.contention new.contention
Faulted Memory old new = Calm old new

-- ---- a body that is lent or handed over

-- the body is out still, the entry was made for it, and it is as the new front says
pub record Lent {S : Type 0} (old new : Sight S) (before now : Carry S) (h : Happened) : Type 0 where
  pub made : Made old new h
  pub holds : Holds new now
  pub number : now.number ≡ before.number
  pub birth : now.birth ≡ before.birth
  pub share : now.share ≡ before.share

-- the same of a call of the body's fiber that made no fiber, with the reply
abbrev pub Called : {S : Type 0} → Sight S → Sight S → Carry S → Carry S → Call → Reply → Type 0
Called old new before now call reply = Lent old new before now (event (fiber_of before) call reply)

-- the same of a call that a duty may ask for: the entry has the mark where the body owes something
abbrev pub Answered : {S : Type 0} → Sight S → Sight S → Carry S → Carry S → Call → Reply → Type 0
Answered old new before now call reply =
    Lent old new before now (happening (is_owing before.owes call) (fiber_of before) call reply)

-- the body is out still, and no entry was made for it
pub record Spared {S : Type 0} (old new : Sight S) (before now : Carry S) : Type 0 where
  pub kept : Kept old new
  pub not_mine : Others (fiber_of before) kept.grown.others
  pub holds : Holds new now
  pub same : IsSame before now

-- a call was refused, and made no entry
abbrev pub Refuses : {S : Type 0} → PortFault → Sight S → Sight S → Carry S → Carry S → Type 0
Refuses fault old new before now = Spared old new before now × Faulted fault old new

-- a call that makes something was refused: where there is no room for the thing, the entry says so
abbrev pub RefusesMaking : {S : Type 0} → PortFault → Sight S → Sight S → Carry S → Carry S → Call → Type 0
RefusesMaking Full old new before now call = Called old new before now call reply.Full
RefusesMaking Again old new before now call = Refuses Again old new before now
RefusesMaking Memory old new before now call = Refuses Memory old new before now

-- a claim was refused: the fiber wasn't ready, as this port found, or another port was in the way
abbrev pub NotClaimed : {S : Type 0} → ClaimRefusal → Sight S → Sight S → Type 0 → Type 0
NotClaimed claim.NotReady old new found = Calm old new × found
NotClaimed claim.Again old new found = Rose old.contention new.contention
NotClaimed claim.Memory old new found = Calm old new

-- a fiber wasn't suspended: the entry says that the trigger is signalled or awaited already, or the call was
-- refused
abbrev pub NotParked : {S : Type 0} → ParkRefusal → Sight S → Sight S → Carry S → Carry S → Call → Type 0
NotParked park.Signalled old new before now call = Called old new before now call (reply.Armed arm.Signalled)
NotParked park.Taken old new before now call = Called old new before now call (reply.Armed arm.Taken)
NotParked park.Again old new before now call = Refuses Again old new before now
NotParked park.Memory old new before now call = Refuses Memory old new before now

-- a body with the same rest, in which the entry was noted beside what it has, fits the log with it
abbrev pub FitsWith : {B S : Type 0} → (B → Carry S) → (B → B → Type 0) → (B → List Happened → Type 0) → B → List Happened → Happened → Type 0
FitsWith {B} seen same_rest fits body log h =
    (noted : B) → Notes (seen body) (seen noted) (h.entry ∷ []) → same_rest body noted → fits noted (log ++ h ∷ [])
