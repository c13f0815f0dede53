-- The routine by which a fiber waits for a computation: it looks at the computation, and while that runs makes a
-- trigger and a place for it, attaches the trigger there, waits for the trigger, and looks again. Making ready and
-- waiting stand in it as they are.
use Rattle.std.specs.Prelude.{◌≡◌, ◌≢◌, ℕ, zero, suc, ◌<◌, unwrap_or, ⊤, Option, Some, None, List}
use Rattle.std.specs.Option.{option_map}
use Rattle.pic_base.specs.declared.outcome.Outcome.{Outcome}
use Rattle.pic_machine.specs.declared.entry.AttachReply.TheVariants as attach
use Rattle.pic_machine.specs.declared.entry.Call.{Call}
use Rattle.pic_machine.specs.declared.entry.Call.TheVariants.{NewPlace, Attach, Peek, Signal}
use Rattle.pic_machine.specs.declared.entry.Reply.{Reply}
use Rattle.pic_machine.specs.declared.entry.Reply.TheVariants as reply
use Rattle.pic_machine.specs.declared.waits.Parts.{Parts}
use Rattle.pic_machine.specs.declared.waits.Standing.{Standing}
use Rattle.pic_machine.specs.Happened.{Happened}
use Rattle.pic_machine.specs.Routine.{Routine}
use Rattle.pic_machine.specs.Waits.{HasMaking, HasOwnPlace, HasOwnTrigger, Making, Waiting, full, made, making_asks, making_at, making_leads, over, told, trigger, waiting_asks, waiting_at, waiting_leads, waits, woken}

-- the computation is to be looked at; the trigger and its place are made, and then a second place; the trigger is to be
-- attached to the computation at that; the fiber waits for the trigger; the computation was completed so; or the fiber
-- was told of the cancellation of its own one
pub data Following : Type 0 where
  peeking : Following
  readying : Making → Following
  placing : ℕ → Option ℕ → ℕ → Following
  suspending : ℕ → Waiting → Following
  finished : Outcome → Following
  refused : ℕ → Following

-- fiber f waits for the computation c: who is woken looks at it again, and who is told signals the trigger, so that
-- what is attached wakes nobody later
abbrev pub following_asks : Standing → ℕ → ℕ → Following → Option Call
following_asks s f c peeking = Some (Peek c)
following_asks s f c (readying (made t a)) = Some NewPlace
following_asks s f c (readying p) = making_asks p
following_asks s f c (placing t a b) = Some (Attach b c t)
following_asks s f c (suspending t (over woken)) = Some (Peek c)
following_asks s f c (suspending t (over (told k))) = Some (Signal t)
following_asks s f c (suspending t p) = waiting_asks s f t p
following_asks s f c _ = None

-- where a look at the computation leads
abbrev pub looked : Reply → Option Following
looked (reply.Peeked None) = Some (readying trigger)
looked (reply.Peeked (Some o)) = Some (finished o)
looked _ = None

abbrev pub following_leads : Standing → Following → Reply → Option Following
following_leads s peeking r = looked r
following_leads s (readying (made t a)) (reply.Made b) = Some (placing t a b)
following_leads s (readying (made t a)) reply.Full = Some (readying full)
following_leads s (readying p) r = option_map readying (making_leads s p r)
following_leads s (placing t a b) (reply.Attached attach.Attached) = Some (suspending t (waits a))
following_leads s (placing t a b) (reply.Attached (attach.Completed o)) = Some (finished o)
following_leads s (suspending t (over woken)) r = looked r
following_leads s (suspending t (over (told k))) (reply.Signalled how) = Some (refused k)
following_leads s (suspending t p) r = option_map (suspending t) (waiting_leads s p r)
following_leads s p _ = None

abbrev pub following : Standing → ℕ → ℕ → Routine Following
following s f c = record { asks = following_asks s f c; leads = following_leads s }

-- ---- how far it is

-- once both places are made: the trigger is to be attached to the computation; the fiber waits, and is to be attached, or
-- to arm; it was told of a cancellation, whose code stands for the second place, which is taken by then; it armed; it was
-- woken
abbrev pub attaching_at : Standing → ℕ → Parts → Following
attaching_at s zero parts = placing (unwrap_or parts.trigger 0) parts.place (unwrap_or parts.second 0)
attaching_at s (suc zero) parts = suspending (unwrap_or parts.trigger 0) (waiting_at s 2 parts)
attaching_at s (suc (suc zero)) parts = suspending (unwrap_or parts.trigger 0) (waiting_at s 3 parts)
attaching_at s (suc (suc (suc zero))) parts = suspending (unwrap_or parts.trigger 0) (over (told (unwrap_or parts.second 0)))
attaching_at s (suc (suc (suc (suc zero)))) parts = suspending (unwrap_or parts.trigger 0) (waiting_at s 4 parts)
attaching_at s _ parts = suspending (unwrap_or parts.trigger 0) (over woken)

-- it is to look; it makes ready, counted on from there; or it is further on
abbrev pub following_at : Standing → ℕ → Parts → Following
following_at s zero parts = peeking
following_at s (suc zero) parts = readying (making_at 0 parts)
following_at s (suc (suc zero)) parts = readying (making_at 1 parts)
following_at s (suc (suc (suc zero))) parts = readying (making_at 2 parts)
following_at s (suc (suc (suc (suc zero)))) parts = readying (making_at 3 parts)
following_at s (suc (suc (suc (suc (suc n))))) parts = attaching_at s n parts

-- ---- what the fiber has made for it

-- the second place, which isn't the first one
pub record HasSecondPlace (f : ℕ) (mine : List Happened) (parts : Parts) : Type 0 where
  pub place : ℕ
  pub known : parts.second ≡ Some place
  pub free : HasOwnPlace f mine place
  pub other : parts.place ≢ Some place

abbrev pub HasAttaching : ℕ → ℕ → List Happened → Parts → Type 0
HasAttaching zero f mine parts = HasMaking 2 f mine parts × HasSecondPlace f mine parts
HasAttaching (suc zero) f mine parts = HasMaking 2 f mine parts
HasAttaching (suc (suc (suc zero))) f mine parts = HasOwnTrigger f mine parts × (parts.second ≢ None)
HasAttaching _ f mine parts = HasOwnTrigger f mine parts

-- what of the parts is its own, as far as it is
abbrev pub HasParts : ℕ → ℕ → List Happened → Parts → Type 0
HasParts zero f mine parts = ⊤
HasParts (suc zero) f mine parts = HasMaking 0 f mine parts
HasParts (suc (suc zero)) f mine parts = HasMaking 1 f mine parts
HasParts (suc (suc (suc zero))) f mine parts = HasMaking 2 f mine parts
HasParts (suc (suc (suc (suc zero)))) f mine parts = HasMaking 3 f mine parts
HasParts (suc (suc (suc (suc (suc n))))) f mine parts = HasAttaching n f mine parts

-- fiber f, of this log, is within such a wait, in which no limit was met, and may go on with it
pub record IsFollowing (f : ℕ) (mine : List Happened) (parts : Parts) : Type 0 where
  pub at : parts.at < 11
  pub going : parts.at ≢ 4
  pub has : HasParts parts.at f mine parts
