-- The tables of the statements that look at a trigger first: which call is asked for at each of their phases, and
-- where its reply leads.
use Rattle.std.specs.Prelude.{ℕ, cond, unwrap_or, Option, Some, None}
use Rattle.std.specs.Option.{option_map}
use Rattle.pic_machine.specs.declared.entry.AttachReply.{AttachReply}
use Rattle.pic_machine.specs.declared.entry.AttachReply.TheVariants.{Attached, Completed}
use Rattle.pic_machine.specs.declared.entry.Call.{Call}
use Rattle.pic_machine.specs.declared.entry.Call.TheVariants as call
use Rattle.pic_machine.specs.declared.entry.Reply.{Reply}
use Rattle.pic_machine.specs.declared.entry.Reply.TheVariants as reply
use Rattle.pic_machine.specs.declared.state.TrigState.TheVariants.{Initial, Awaiting as AwaitedBy, Signalled}
use Rattle.pic_machine.specs.declared.waits.Parts.{Parts}
use Rattle.pic_machine.specs.declared.waits.Standing.{Standing}
use Rattle.pic_machine.specs.Following.{following_at}
use Rattle.pic_machine.specs.Waits.{awake, over, taken, waiting_asks, waiting_at, waiting_leads, waits, woken}
use Rattle.fiber_body.specs.declared.under_way.UnderWay.{UnderWay}
use Rattle.fiber_body.specs.declared.under_way.UnderWay.TheVariants.{Places, Awaits, Awake, Attaches, Follows}
use Rattle.fiber_body.specs.Context.{Context, under}
use Rattle.fiber_body.specs.Phases.{Attaching, Awaiting, Phase, answers, attaches, attaches_to, awaits_comp, awaits_trigger, finds_no_place, looking, looks, places, placing, suspending, unplaced}

-- ---- await T: fiber f, for the trigger t

abbrev pub awaiting_asks : Standing → ℕ → ℕ → Awaiting → Option Call
awaiting_asks u f t looking = Some (call.Look t)
awaiting_asks u f t placing = Some call.NewPlace
awaiting_asks u f t (suspending p) = waiting_asks u f t p
awaiting_asks u f t unplaced = None

abbrev pub awaiting_leads : Standing → Awaiting → Reply → Option Awaiting
awaiting_leads u looking (reply.Seen Initial) = Some (cond u.permitted placing (suspending (waits None)))
awaiting_leads u looking (reply.Seen Signalled) = Some (suspending (over woken))
awaiting_leads u looking (reply.Seen (AwaitedBy action)) = Some (suspending (over taken))
awaiting_leads u placing (reply.Made a) = Some (suspending (waits (Some a)))
awaiting_leads u placing reply.Full = Some unplaced
awaiting_leads u (suspending p) r = option_map suspending (waiting_leads u p r)
awaiting_leads u p _ = None

-- ---- attach R C T: the computation k, the trigger t

abbrev pub attaching_asks : ℕ → ℕ → Attaching → Option Call
attaching_asks k t looks = Some (call.Look t)
attaching_asks k t places = Some call.NewPlace
attaching_asks k t (attaches a) = Some (call.Attach a k t)
attaching_asks k t p = None

-- 1 where the trigger was attached
abbrev pub attached_number : AttachReply → ℕ
attached_number Attached = 1
attached_number (Completed outcome) = 0

abbrev pub attaching_leads : Attaching → Reply → Option Attaching
attaching_leads looks (reply.Seen Signalled) = Some (answers 0)
attaching_leads looks (reply.Seen state) = Some places
attaching_leads places (reply.Made a) = Some (attaches a)
attaching_leads places reply.Full = Some finds_no_place
attaching_leads (attaches a) (reply.Attached how) = Some (answers (attached_number how))
attaching_leads p _ = None

-- ---- a body that stands within one

-- the trigger of a wait
abbrev pub trigger_in : Parts → ℕ
trigger_in parts = unwrap_or parts.trigger 0

abbrev pub phase_of : Context → UnderWay → Phase
phase_of c (Places trigger) = awaits_trigger trigger placing
phase_of c (Awaits parts) = awaits_trigger (trigger_in parts) (suspending (waiting_at (under c) parts.at parts))
phase_of c (Awake trigger) = awaits_trigger trigger (suspending (awake (under c)))
phase_of c (Attaches register comp trigger None) = attaches_to register comp trigger places
phase_of c (Attaches register comp trigger (Some place)) = attaches_to register comp trigger (attaches place)
phase_of c (Follows register comp parts) = awaits_comp register comp (following_at (under c) parts.at parts)
