-- What the answers of the two halves of a wait, and the parts that they leave, tell of its phase.
use Rattle.std.specs.Prelude.{◌≡◌, ◌≢◌, ℕ, ◌<◌, ◌⊎◌, ⊤, length, unwrap_or, Result, Ok, Err, Option, Some, None}
use Rattle.pic_base.specs.declared.outcome.Outcome.{Outcome}
use Rattle.pic_base.specs.declared.outcome.Outcome.TheVariants as outcome
use Rattle.pic_machine.specs.declared.entry.AttachReply.{AttachReply}
use Rattle.pic_machine.specs.declared.entry.AttachReply.TheVariants as attach
use Rattle.pic_machine.specs.declared.port.PortFault.{PortFault}
use Rattle.pic_machine.specs.declared.port.PortFault.TheVariants.{Full}
use Rattle.pic_machine.specs.declared.waits.Parts.{Parts}
use Rattle.pic_machine.specs.declared.waits.Standing.{Standing}
use Rattle.pic_machine.specs.Following.{Following, HasParts, finished, following_at, refused}
use Rattle.pic_machine.specs.History.{world}
use Rattle.pic_machine.specs.Lending.{Calm, Faulted}
use Rattle.pic_machine.specs.Log.{log, own}
use Rattle.pic_machine.specs.Sight.{Carry, Sight, fiber_of}
use Rattle.pic_machine.specs.Waits.{HasMaking, Waiting, awake, over, told, waiting_at, woken}
use Rattle.fiber_await.specs.declared.ahead.Ahead.{Ahead}
use Rattle.fiber_await.specs.declared.ahead.CompAhead.{CompAhead}
use Rattle.fiber_await.specs.declared.ahead.CompAhead.TheVariants as comp
use Rattle.fiber_await.specs.declared.ahead.Ahead.TheVariants.{Go, Cancelled}

-- the trigger of a wait
abbrev pub trigger_of : Parts → ℕ
trigger_of parts = unwrap_or parts.trigger 0

-- while a wait is made ready its parts have the trigger, once that was made
abbrev pub HasTrigger : Parts → Type 0
HasTrigger parts = (parts.at ≡ 1) ⊎ (parts.at ≡ 2) → parts.trigger ≢ None

-- what it has of its own behind a call, where it had it before
abbrev pub MakesOwn : {S : Type 0} → Sight S → Sight S → Carry S → Carry S → Parts → Parts → Type 0
MakesOwn old new before now parts later = HasMaking parts.at (fiber_of before) (own (log old.front (fiber_of before))) parts
    → HasMaking later.at (fiber_of now) (own (log new.front (fiber_of now))) later

-- where a wait is behind its first half: told of the cancellation, or where its parts say
abbrev pub suspended_at : Standing → Result Ahead PortFault → Parts → Waiting
suspended_at s (Ok (Cancelled code)) parts = over (told code)
suspended_at s _ parts = waiting_at s parts.at parts

-- where it is behind its second half, which is made again where it was refused
abbrev pub unsuspended_at : Standing → Result Ahead PortFault → Waiting
unsuspended_at s (Ok Go) = over woken
unsuspended_at s (Ok (Cancelled code)) = over (told code)
unsuspended_at s (Err fault) = awake s

-- what the reply to an attachment tells of the computation
abbrev pub attach_tells : AttachReply → Ahead
attach_tells (attach.Completed (outcome.Cancelled code)) = Cancelled code
attach_tells _ = Go

-- and what a look at it tells
abbrev pub peek_tells : Option Outcome → Ahead
peek_tells (Some (outcome.Cancelled code)) = Cancelled code
peek_tells _ = Go

-- ---- waiting for a computation

-- what of the parts is the fiber's own
abbrev pub Owns : {S : Type 0} → Sight S → Carry S → Parts → Type 0
Owns port body parts = HasParts parts.at (fiber_of body) (own (log port.front (fiber_of body))) parts

-- the computation stands
abbrev pub Stands : {S : Type 0} → Sight S → ℕ → Type 0
Stands port c = c < length (world port.origin port.front).comps

-- where the wait is behind a look at the computation, or an attachment to it
abbrev pub done_or_at : Standing → Result (Option Outcome) PortFault → Parts → Following
done_or_at s (Ok (Some outcome)) parts = finished outcome
done_or_at s _ parts = following_at s parts.at parts

-- unless the computation was found completed
abbrev pub Unless : Result (Option Outcome) PortFault → Type 0 → Type 0
Unless (Ok (Some outcome)) Then = ⊤
Unless _ Then = Then

-- where it is behind a call that goes as far as it can
abbrev pub followed_at : Standing → Result CompAhead PortFault → Parts → Following
followed_at s (Ok (comp.Done outcome)) parts = finished outcome
followed_at s (Ok (comp.Cancelled code)) parts = refused code
followed_at s _ parts = following_at s parts.at parts

-- why it gave up: a limit was met, as its parts say, or a call was refused, and it may go on
abbrev pub FollowGaveUp : {S : Type 0} → PortFault → Sight S → Sight S → Parts → Type 0 → Type 0
FollowGaveUp Full old new parts On = (parts.at ≡ 4) × Calm old new
FollowGaveUp fault old new parts On = Faulted fault old new × On
