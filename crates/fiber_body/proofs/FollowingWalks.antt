-- Walks through each line of the table of a wait for a computation, by given replies.
use Rattle.std.proofs.Common.{◌≡◌, ℕ, Option, Some, None, List, [], ◌∷◌, refl}
use Rattle.pic_base.specs.declared.outcome.Outcome.{Outcome}
use Rattle.pic_base.specs.declared.outcome.Outcome.TheVariants.{Returned, Cancelled}
use Rattle.pic_machine.specs.declared.entry.ArmReply.TheVariants as arm
use Rattle.pic_machine.specs.declared.entry.AttachReply.TheVariants as attach
use Rattle.pic_machine.specs.declared.entry.Call.TheVariants as call
use Rattle.pic_machine.specs.declared.entry.Reply.{Reply}
use Rattle.pic_machine.specs.declared.entry.Reply.TheVariants as reply
use Rattle.pic_machine.specs.declared.entry.Reply.TheVariants.{Plain, Full, Made, Peeked}
use Rattle.pic_machine.specs.declared.entry.SignalReply.TheVariants as signal
use Rattle.pic_machine.specs.declared.waits.Parts.{Parts}
use Rattle.pic_machine.specs.Following.{peeking, placing, readying, suspending as asleep}
use Rattle.pic_machine.specs.Happened.{Happened}
use Rattle.pic_machine.specs.History.{event}
use Rattle.pic_machine.specs.Waits.{arming, attaching, checking, made, over, place as place_next, told, trigger, woken}
use Rattle.script_tree.specs.declared.program.CompRef.TheVariants.{Root, Named, Promise}
use Rattle.script_tree.specs.declared.program.Operand.TheVariants.{Reg}
use Rattle.script_tree.specs.declared.program.Stmt.{Stmt}
use Rattle.script_tree.specs.declared.program.Stmt.TheVariants as stmt
use Rattle.fiber_body.specs.declared.standing.Exit.TheVariants.{Next, Raised}
use Rattle.fiber_body.specs.declared.under_way.UnderWay.TheVariants.{Follows}
use Rattle.fiber_body.specs.Context.{Context}
use Rattle.fiber_body.specs.Phases.{awaits_comp, calls}
use Rattle.fiber_body.specs.Segments.{Runs, at, cut}
use Rattle.fiber_body.specs.Triggers.{phase_of}
use Rattle.fiber_body.proofs.Walking.{Walk, walker}
use Rattle.fiber_body.proofs.Walks.{Leaves, armed, forbidden, placed, said, tied, with, within}

-- ---- what the walks share

-- a wait for the first computation, whose value is said then; r0 holds 5 before it
abbrev waits_first : List Stmt
waits_first = stmt.Wait 0 (Named 1) ∷ stmt.Say (Reg 0) ∷ []

abbrev peeked : ℕ → Option Outcome → Happened
peeked k seen = event 3 (call.Peek k) (Peeked seen)

abbrev trigger_made : ℕ → Happened
trigger_made t = event 3 call.NewTrigger (Made t)

abbrev signalled : ℕ → Happened
signalled t = event 3 (call.Signal t) (reply.Signalled signal.Plain)

abbrev ran : (ss : List Stmt) (c : Context) → List Reply → Walk (Runs (within []) ss c)
ran ss c rs = (walker (within []) 16).run ss c rs

-- ---- a computation that is completed

returned_before : Leaves [] waits_first (with (5 ∷ []) 2) (peeked 1 (Some (Returned 8)) ∷ said 8 ∷ []) Next (with (8 ∷ []) 0)
returned_before = (ran _ _ (Peeked (Some (Returned 8)) ∷ Plain ∷ [])).is

cancelled_before : Leaves [] waits_first (with (5 ∷ []) 9) (peeked 1 (Some (Cancelled 6)) ∷ []) (Raised 6) (with (5 ∷ []) 8)
cancelled_before = (ran _ _ (Peeked (Some (Cancelled 6)) ∷ [])).is

-- the root is one, and so is the second that is declared, for another register
the_others : Leaves [] (stmt.Wait 1 Root ∷ stmt.Wait 0 (Named 3) ∷ []) (with (5 ∷ 5 ∷ []) 2) (peeked 0 (Some (Returned 8)) ∷ peeked 2 (Some (Returned 9)) ∷ []) Next (with (9 ∷ 8 ∷ []) 0)
the_others = (ran _ _ (Peeked (Some (Returned 8)) ∷ Peeked (Some (Returned 9)) ∷ [])).is

-- ---- one that runs

-- a trigger and two places are made; the trigger is attached to the computation at the second one, and to the current computation at the
-- first one, and armed; awake the fiber looks at its current computation, and then at the other one again
one_waits : Leaves [] waits_first (with (5 ∷ []) 2)
    (peeked 1 None ∷ trigger_made 6 ∷ placed 7 ∷ placed 8 ∷ tied 8 1 6 attach.Attached ∷ tied 7 2 6 attach.Attached ∷ armed 6 arm.Set ∷ peeked 2 None ∷ peeked 1 (Some (Returned 4)) ∷ said 4 ∷ []) Next (with (4 ∷ []) 0)
one_waits = (ran _ _ (Peeked None ∷ Made 6 ∷ Made 7 ∷ Made 8 ∷ reply.Attached attach.Attached ∷ reply.Attached attach.Attached ∷ reply.Armed arm.Set ∷ Peeked None ∷ Peeked (Some (Returned 4)) ∷ Plain ∷ [])).is

-- which raises the code where that was cancelled meanwhile
cancelled_meanwhile : Leaves [] waits_first (with (5 ∷ []) 9)
    (peeked 1 None ∷ trigger_made 6 ∷ placed 7 ∷ placed 8 ∷ tied 8 1 6 attach.Attached ∷ tied 7 2 6 attach.Attached ∷ armed 6 arm.Signalled ∷ peeked 2 (Some (Returned 3)) ∷ peeked 1 (Some (Cancelled 4)) ∷ []) (Raised 4) (with (5 ∷ []) 8)
cancelled_meanwhile = (ran _ _ (Peeked None ∷ Made 6 ∷ Made 7 ∷ Made 8 ∷ reply.Attached attach.Attached ∷ reply.Attached attach.Attached ∷ reply.Armed arm.Signalled ∷ Peeked (Some (Returned 3)) ∷ Peeked (Some (Cancelled 4)) ∷ [])).is

-- one that is completed before the trigger is attached
completed_first : Leaves [] waits_first (with (5 ∷ []) 2)
    (peeked 1 None ∷ trigger_made 6 ∷ placed 7 ∷ placed 8 ∷ tied 8 1 6 (attach.Completed (Returned 4)) ∷ said 4 ∷ []) Next (with (4 ∷ []) 0)
completed_first = (ran _ _ (Peeked None ∷ Made 6 ∷ Made 7 ∷ Made 8 ∷ reply.Attached (attach.Completed (Returned 4)) ∷ Plain ∷ [])).is

-- one that runs still when the fiber wakes is waited for anew, with a trigger more
waits_anew : Runs (within []) waits_first (with (5 ∷ []) 9)
    (peeked 1 None ∷ trigger_made 6 ∷ placed 7 ∷ placed 8 ∷ tied 8 1 6 attach.Attached ∷ tied 7 2 6 attach.Attached ∷ armed 6 arm.Set ∷ peeked 2 None ∷ peeked 1 None ∷ trigger_made 9 ∷ []) (cut (at (awaits_comp 0 1 (readying (place_next 9))))) (with (5 ∷ []) 8)
waits_anew = (ran _ _ (Peeked None ∷ Made 6 ∷ Made 7 ∷ Made 8 ∷ reply.Attached attach.Attached ∷ reply.Attached attach.Attached ∷ reply.Armed arm.Set ∷ Peeked None ∷ Peeked None ∷ Made 9 ∷ [])).is

-- ---- who is told of the cancellation of the current computation signals the trigger, whatever comes of that, and raises the code

told_before : Leaves [] waits_first (with (5 ∷ []) 9)
    (peeked 1 None ∷ trigger_made 6 ∷ placed 7 ∷ placed 8 ∷ tied 8 1 6 attach.Attached ∷ tied 7 2 6 (attach.Completed (Cancelled 3)) ∷ signalled 6 ∷ []) (Raised 3) (with (5 ∷ []) 8)
told_before = (ran _ _ (Peeked None ∷ Made 6 ∷ Made 7 ∷ Made 8 ∷ reply.Attached attach.Attached ∷ reply.Attached (attach.Completed (Cancelled 3)) ∷ reply.Signalled signal.Plain ∷ [])).is

told_awake : Leaves [] waits_first (with (5 ∷ []) 9)
    (peeked 1 None ∷ trigger_made 6 ∷ placed 7 ∷ placed 8 ∷ tied 8 1 6 attach.Attached ∷ tied 7 2 6 attach.Attached ∷ armed 6 arm.Set ∷ peeked 2 (Some (Cancelled 3)) ∷ signalled 6 ∷ []) (Raised 3) (with (5 ∷ []) 8)
told_awake = (ran _ _ (Peeked None ∷ Made 6 ∷ Made 7 ∷ Made 8 ∷ reply.Attached attach.Attached ∷ reply.Attached attach.Attached ∷ reply.Armed arm.Set ∷ Peeked (Some (Cancelled 3)) ∷ reply.Signalled signal.Plain ∷ [])).is

-- who isn't permitted to be told makes one place, and attaches the trigger to the other computation alone
untold : Leaves [] (stmt.Wait 0 (Named 1) ∷ []) (record (forbidden 1) { registers = 5 ∷ [] })
    (peeked 1 None ∷ trigger_made 6 ∷ placed 8 ∷ tied 8 1 6 attach.Attached ∷ armed 6 arm.Set ∷ peeked 1 (Some (Returned 4)) ∷ []) Next (record (forbidden 0) { registers = 4 ∷ [] })
untold = (ran _ _ (Peeked None ∷ Made 6 ∷ Made 8 ∷ reply.Attached attach.Attached ∷ reply.Armed arm.Set ∷ Peeked (Some (Returned 4)) ∷ [])).is

-- ---- where a limit is met, the code 3 is raised, and nothing is attached

no_trigger : Leaves [] waits_first (with (5 ∷ []) 9) (peeked 1 None ∷ event 3 call.NewTrigger Full ∷ []) (Raised 3) (with (5 ∷ []) 8)
no_trigger = (ran _ _ (Peeked None ∷ Full ∷ [])).is

no_first_place : Leaves [] waits_first (with (5 ∷ []) 9) (peeked 1 None ∷ trigger_made 6 ∷ event 3 call.NewPlace Full ∷ []) (Raised 3) (with (5 ∷ []) 8)
no_first_place = (ran _ _ (Peeked None ∷ Made 6 ∷ Full ∷ [])).is

no_second_place : Leaves [] waits_first (with (5 ∷ []) 9) (peeked 1 None ∷ trigger_made 6 ∷ placed 7 ∷ event 3 call.NewPlace Full ∷ []) (Raised 3) (with (5 ∷ []) 8)
no_second_place = (ran _ _ (Peeked None ∷ Made 6 ∷ Made 7 ∷ Full ∷ [])).is

-- ---- where a log may stop

stops_asleep : Runs (within []) waits_first (with (5 ∷ []) 9)
    (peeked 1 None ∷ trigger_made 6 ∷ placed 7 ∷ placed 8 ∷ tied 8 1 6 attach.Attached ∷ tied 7 2 6 attach.Attached ∷ armed 6 arm.Set ∷ []) (cut (at (awaits_comp 0 1 (asleep 6 checking)))) (with (5 ∷ []) 8)
stops_asleep = (ran _ _ (Peeked None ∷ Made 6 ∷ Made 7 ∷ Made 8 ∷ reply.Attached attach.Attached ∷ reply.Attached attach.Attached ∷ reply.Armed arm.Set ∷ [])).is

-- a computation that isn't there is not waited for
nobody_to_wait_for : Runs (within []) (stmt.Wait 0 (Promise 0) ∷ []) (with [] 9) [] (cut (at (calls (stmt.Wait 0 (Promise 0))))) (with [] 8)
nobody_to_wait_for = (ran _ _ (Plain ∷ [])).is

-- ---- a body that stands within such a wait

abbrev parts_at : ℕ → Parts
parts_at n = record { trigger = Some 6; place = Some 7; second = Some 8; at = n }

within_looking : phase_of (with [] 9) (Follows 0 1 (parts_at 0)) ≡ awaits_comp 0 1 peeking
within_looking = refl

within_making : phase_of (with [] 9) (Follows 0 1 (parts_at 1)) ≡ awaits_comp 0 1 (readying trigger)
within_making = refl

within_made : phase_of (with [] 9) (Follows 0 1 (parts_at 3)) ≡ awaits_comp 0 1 (readying (made 6 (Some 7)))
within_made = refl

within_placed : phase_of (with [] 9) (Follows 0 1 (parts_at 5)) ≡ awaits_comp 0 1 (placing 6 (Some 7) 8)
within_placed = refl

within_attaching : phase_of (with [] 9) (Follows 0 1 (parts_at 6)) ≡ awaits_comp 0 1 (asleep 6 (attaching 7))
within_attaching = refl

within_arming : phase_of (with [] 9) (Follows 0 1 (parts_at 7)) ≡ awaits_comp 0 1 (asleep 6 arming)
within_arming = refl

within_told : phase_of (with [] 9) (Follows 0 1 (parts_at 8)) ≡ awaits_comp 0 1 (asleep 6 (over (told 8)))
within_told = refl

within_awake : phase_of (with [] 9) (Follows 0 1 (parts_at 9)) ≡ awaits_comp 0 1 (asleep 6 checking)
within_awake = refl

within_woken : phase_of (with [] 9) (Follows 0 1 (parts_at 10)) ≡ awaits_comp 0 1 (asleep 6 (over woken))
within_woken = refl
