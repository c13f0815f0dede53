-- Calls of a fiber that owes nothing which didn't get what they asked for.
use Rattle.std.specs.Prelude.{◌≡◌, ℕ, ◌<◌, [], ◌∷◌}
use Rattle.pic_machine.specs.declared.entry.Call.{Call}
use Rattle.pic_machine.specs.declared.entry.Reply.TheVariants as reply
use Rattle.pic_machine.specs.declared.port.PortFault.{PortFault}
use Rattle.pic_machine.specs.declared.port.PortFault.TheVariants.{Full}
use Rattle.pic_machine.specs.History.{event}
use Rattle.pic_machine.specs.Lending.{Calm, Faulted}
use Rattle.pic_machine.specs.Sight.{Carry, Sight, fiber_of}
use Rattle.fiber_await.specs.Doing.{Did}

-- a call was refused, and made no entry
abbrev pub Refused : {S : Type 0} → PortFault → Sight S → Sight S → Carry S → Carry S → Type 0
Refused fault old new before now = Did old new before now [] × Faulted fault old new

-- the same of one that makes something: where a limit was met the entry says so
abbrev pub RefusedMaking : {S : Type 0} → PortFault → Sight S → Sight S → Carry S → Carry S → Call → Type 0
RefusedMaking Full old new before now call = Did old new before now (event (fiber_of before) call reply.Full ∷ []) × Calm old new
RefusedMaking fault old new before now call = Refused fault old new before now

-- why making ready gave up, which has come so far then: a limit was met, as its parts say, or a call was refused, and it
-- may go on
abbrev pub GaveUp : {S : Type 0} → PortFault → ℕ → Sight S → Sight S → Type 0
GaveUp Full at old new = (at ≡ 3) × Calm old new
GaveUp fault at old new = Faulted fault old new × (at < 3)
