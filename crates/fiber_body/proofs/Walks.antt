-- Walks through each line of the tables, by given replies: a table with a wrong line has another walk.
use Rattle.std.proofs.Common.{◌≡◌, ℕ, Option, Some, None, List, [], ◌∷◌, replicate, refl, true, false}
use Rattle.pic_base.specs.declared.action.Action.TheVariants.{Resume}
use Rattle.pic_base.specs.declared.outcome.Outcome.TheVariants.{Returned, Cancelled}
use Rattle.pic_machine.specs.declared.birth.Birth.{Birth}
use Rattle.pic_machine.specs.declared.entry.ArmReply.{ArmReply}
use Rattle.pic_machine.specs.declared.entry.ArmReply.TheVariants as arm
use Rattle.pic_machine.specs.declared.entry.AttachReply.{AttachReply}
use Rattle.pic_machine.specs.declared.entry.AttachReply.TheVariants as attach
use Rattle.pic_machine.specs.declared.entry.Call.TheVariants as call
use Rattle.pic_machine.specs.declared.entry.CompleteReply.TheVariants.{Won, Lost}
use Rattle.pic_machine.specs.declared.entry.Reply.{Reply}
use Rattle.pic_machine.specs.declared.entry.Reply.TheVariants as reply
use Rattle.pic_machine.specs.declared.entry.SignalReply.TheVariants as signal
use Rattle.pic_machine.specs.declared.entry.Reply.TheVariants.{Plain, Full, Made, Completed, Peeked}
use Rattle.pic_machine.specs.declared.state.TrigState.{TrigState}
use Rattle.pic_machine.specs.declared.state.TrigState.TheVariants.{Initial, Awaiting as AwaitedBy, Signalled}
use Rattle.pic_machine.specs.declared.waits.Parts.{Parts}
use Rattle.pic_machine.specs.Happened.{Happened}
use Rattle.pic_machine.specs.History.{event, forked}
use Rattle.pic_machine.specs.Waits.{arming, attaching, checking, over, woken}
use Rattle.script_tree.specs.declared.program.CompRef.TheVariants.{Root, Named, Promise}
use Rattle.script_tree.specs.declared.program.Decl.{Decl}
use Rattle.script_tree.specs.declared.program.Kind.TheVariants as kind
use Rattle.script_tree.specs.declared.program.Operand.TheVariants.{Reg, Num}
use Rattle.script_tree.specs.declared.program.Stmt.{Stmt}
use Rattle.script_tree.specs.declared.program.Stmt.TheVariants as stmt
use Rattle.script_tree.specs.declared.program.Test.{Test}
use Rattle.script_tree.specs.declared.thing.Sort.TheVariants as sort
use Rattle.script_tree.specs.declared.program.Test.TheVariants as test
use Rattle.fiber_body.specs.declared.standing.Exit.{Exit}
use Rattle.fiber_body.specs.declared.standing.Exit.TheVariants.{Next, Raised, Broke, Spent}
use Rattle.fiber_body.specs.declared.under_way.UnderWay.TheVariants.{Places, Awaits, Awake, Attaches}
use Rattle.fiber_body.specs.Context.{Context, Setting, comp_in, count_of, numbering}
use Rattle.fiber_body.specs.Follows.{FollowsText, context_of}
use Rattle.fiber_body.specs.Phases.{Phase, attaches, attaches_to, awaits_trigger, calls, ending, ends, gone, lives, looking, looks, places, placing, repeating, suspending}
use Rattle.fiber_body.specs.Segments.{Acts, IsSpent, Runs, and_out, at, between, cut, rests, stops, whole}
use Rattle.fiber_body.specs.Tables.{asks, leads}
use Rattle.fiber_body.specs.Triggers.{phase_of}
use Rattle.fiber_body.proofs.Walking.{Walk, walker}

-- ---- what the walks share

abbrev pub decls : List Decl
decls = record { name = []; kind = kind.Trigger } ∷ record { name = []; kind = kind.Comp } ∷ record { name = []; kind = kind.Mutex } ∷ record { name = []; kind = kind.Comp } ∷ record { name = []; kind = kind.Trigger } ∷ []

-- fiber 3 of a script with these blocks
abbrev pub within : List (List Stmt) → Setting
within blocks = record { fiber = 3; script = record { decls = decls; texts = record { name = []; block = 0 } ∷ []; blocks = blocks; events = [] } }

-- so many registers and cells as the walk speaks of; the current computation is 2
abbrev pub holding : List ℕ → List ℕ → ℕ → Context
holding registers cells steps = record { registers = registers; cells = cells; steps = steps; current = 2; permitted = true }

abbrev pub with : List ℕ → ℕ → Context
with registers steps = holding registers [] steps

abbrev pub said : ℕ → Happened
said n = event 3 (call.Say n) Plain

abbrev pub plain : ℕ → List Reply
plain n = replicate n Plain

-- these statements, from one context on, leave this log and end so, with the other context; blocks are by their numbers
abbrev pub Leaves : List (List Stmt) → List Stmt → Context → List Happened → Exit → Context → Type 0
Leaves blocks ss c log x d = Runs (within blocks) ss c log (whole x) d

-- what statements of such a script, and what is left of one, come by with these replies
abbrev pub ran : (blocks : List (List Stmt)) (ss : List Stmt) (c : Context) → List Reply → Walk (Runs (within blocks) ss c)
ran blocks ss c rs = (walker (within blocks) 8).run ss c rs

abbrev pub acted : (blocks : List (List Stmt)) (p : Phase) (c : Context) → List Reply → Walk (Acts (within blocks) p c)
acted blocks p c rs = (walker (within blocks) 8).act p c rs

-- ---- statements that change registers and storage alone

-- each once, on r0, r1 and the cells: 9, 9 + 3 = 12, 12 - r1 = 10, 10 * 2 = 20, put under key 1, and got into r1; each costs a step
each_change : Leaves [] (stmt.Set 0 (Num 9) ∷ stmt.Add 0 (Num 3) ∷ stmt.Sub 0 (Reg 1) ∷ stmt.Mul 0 (Num 2) ∷ stmt.Put 1 (Reg 0) ∷ stmt.Get 1 1 ∷ [])
    (holding (5 ∷ 2 ∷ []) (7 ∷ 8 ∷ []) 6) [] Next (holding (20 ∷ 20 ∷ []) (7 ∷ 20 ∷ []) 0)
each_change = (ran _ _ _ []).is

-- the greatest number is one of a script, by a sum and by a product, and so is 0, by a difference
the_bounds : Leaves [] (stmt.Add 0 (Num 1) ∷ stmt.Mul 1 (Num 65537) ∷ stmt.Sub 2 (Num 3) ∷ [])
    (with (4294967294 ∷ 65535 ∷ 3 ∷ []) 3) [] Next (with (4294967295 ∷ 4294967295 ∷ 0 ∷ []) 0)
the_bounds = (ran _ _ _ []).is

-- beyond them the code 2 is raised, nothing is changed, and the statement behind isn't begun
a_sum_beyond : Leaves [] (stmt.Add 0 (Reg 1) ∷ stmt.Say (Num 1) ∷ []) (with (4294967295 ∷ 1 ∷ []) 9) [] (Raised 2) (with (4294967295 ∷ 1 ∷ []) 8)
a_sum_beyond = (ran _ _ _ []).is

a_product_beyond : Leaves [] (stmt.Mul 0 (Reg 0) ∷ stmt.Say (Num 1) ∷ []) (with (65536 ∷ []) 9) [] (Raised 2) (with (65536 ∷ []) 8)
a_product_beyond = (ran _ _ _ []).is

a_difference_beyond : Leaves [] (stmt.Sub 0 (Num 3) ∷ stmt.Say (Num 1) ∷ []) (with (2 ∷ []) 9) [] (Raised 2) (with (2 ∷ []) 8)
a_difference_beyond = (ran _ _ _ []).is

-- a raise and a break leave the statements behind them
a_raise : Leaves [] (stmt.Raise (Reg 0) ∷ stmt.Say (Num 1) ∷ []) (with (6 ∷ []) 9) [] (Raised 6) (with (6 ∷ []) 8)
a_raise = (ran _ _ _ []).is

a_break : Leaves [] (stmt.Break ∷ stmt.Say (Num 1) ∷ []) (with [] 9) [] Broke (with [] 8)
a_break = (ran _ _ _ []).is

-- where the steps end, the next statement isn't begun
no_step : Leaves [] (stmt.Set 0 (Num 9) ∷ stmt.Set 0 (Num 8) ∷ []) (with (5 ∷ []) 1) [] Spent (with (9 ∷ []) 0)
no_step = (ran _ _ _ []).is

-- ---- statements of one call, with each of their replies

-- a value is said, and a turn is yielded
one_says : Leaves [] (stmt.Say (Num 4) ∷ stmt.Say (Reg 0) ∷ stmt.Yield ∷ []) (with (5 ∷ []) 3) (said 4 ∷ said 5 ∷ event 3 call.Yield Plain ∷ []) Next (with (5 ∷ []) 0)
one_says = (ran _ _ _ (plain 3)).is

-- who completes a computation gets 1, who is late 0: by a return of the root and of the two that are declared, and by a cancel
one_returns : Leaves [] (stmt.Return 0 Root (Num 7) ∷ stmt.Return 1 (Named 1) (Reg 2) ∷ stmt.Return 2 (Named 3) (Num 9) ∷ []) (with (5 ∷ 5 ∷ 8 ∷ []) 3)
    (event 3 (call.Complete 0 (Returned 7)) (Completed Won) ∷ event 3 (call.Complete 1 (Returned 8)) (Completed (Lost (Cancelled 6))) ∷ event 3 (call.Complete 2 (Returned 9)) (Completed Won) ∷ [])
    Next (with (1 ∷ 0 ∷ 1 ∷ []) 0)
one_returns = (ran _ _ _ (Completed Won ∷ Completed (Lost (Cancelled 6)) ∷ Completed Won ∷ [])).is

one_cancels : Leaves [] (stmt.Cancel 0 Root (Num 7) ∷ stmt.Cancel 1 (Named 3) (Reg 2) ∷ []) (with (5 ∷ 5 ∷ 8 ∷ []) 2)
    (event 3 (call.Complete 0 (Cancelled 7)) (Completed Won) ∷ event 3 (call.Complete 2 (Cancelled 8)) (Completed (Lost (Returned 6))) ∷ []) Next (with (1 ∷ 0 ∷ 8 ∷ []) 0)
one_cancels = (ran _ _ _ (Completed Won ∷ Completed (Lost (Returned 6)) ∷ [])).is

-- who peeks gets 0 and 0 where the computation is running, 1 and the value where it was returned, 2 and the code where it was cancelled
one_peeks : Leaves [] (stmt.Peek 0 1 (Named 1) ∷ stmt.Peek 2 3 Root ∷ stmt.Peek 4 5 (Named 3) ∷ []) (with (9 ∷ 9 ∷ 9 ∷ 9 ∷ 9 ∷ 9 ∷ []) 3)
    (event 3 (call.Peek 1) (Peeked None) ∷ event 3 (call.Peek 0) (Peeked (Some (Returned 7))) ∷ event 3 (call.Peek 2) (Peeked (Some (Cancelled 8))) ∷ [])
    Next (with (0 ∷ 0 ∷ 1 ∷ 7 ∷ 2 ∷ 8 ∷ []) 0)
one_peeks = (ran _ _ _ (Peeked None ∷ Peeked (Some (Returned 7)) ∷ Peeked (Some (Cancelled 8)) ∷ [])).is

-- a spawned fiber begins at its spawner's current computation; where none can be made, the code 3 is raised, and no birth is noted
one_spawns : Leaves [] (stmt.Spawn 6 (Reg 0) ∷ stmt.Spawn 6 (Num 9) ∷ stmt.Say (Num 1) ∷ []) (with (5 ∷ []) 9)
    (forked 3 4 (record { text = 6; value = 5; current = 2 }) ∷ event 3 (call.Fork 6 9) Full ∷ []) (Raised 3) (with (5 ∷ []) 7)
one_spawns = (ran _ _ _ (Made 4 ∷ Full ∷ [])).is

-- a trigger is signalled, by itself or as one that may be attached, and what the signal met makes no difference
one_signals : Leaves [] (stmt.Signal 0 ∷ stmt.Signal 4 ∷ stmt.Detach (Named 1) 4 ∷ []) (with (5 ∷ []) 3)
    (event 3 (call.Signal 0) (reply.Signalled signal.Plain) ∷ event 3 (call.Signal 1) (reply.Signalled (signal.Acted (Resume 2))) ∷ event 3 (call.Signal 1) (reply.Signalled signal.Already) ∷ [])
    Next (with (5 ∷ []) 0)
one_signals = (ran _ _ _ (reply.Signalled signal.Plain ∷ reply.Signalled (signal.Acted (Resume 2)) ∷ reply.Signalled signal.Already ∷ [])).is

-- beside another call no birth is noted, whatever its reply
no_birth : Leaves [] (stmt.Say (Num 1) ∷ []) (with [] 1) (event 3 (call.Say 1) (Made 4) ∷ []) Next (with [] 0)
no_birth = (ran _ _ _ (Made 4 ∷ [])).is

-- after any other reply they go on, with nothing changed
other_replies : Leaves [] (stmt.Return 0 Root (Num 7) ∷ stmt.Cancel 0 Root (Num 7) ∷ stmt.Peek 0 0 Root ∷ stmt.Spawn 6 (Num 9) ∷ []) (with (5 ∷ []) 4)
    (event 3 (call.Complete 0 (Returned 7)) Plain ∷ event 3 (call.Complete 0 (Cancelled 7)) Plain ∷ event 3 (call.Peek 0) Plain ∷ event 3 (call.Fork 6 9) Plain ∷ []) Next (with (5 ∷ []) 0)
other_replies = (ran _ _ _ (plain 4)).is

-- a statement that no run serves begins and asks for nothing, and so does one whose computation isn't there
nothing_asked : Runs (within []) (stmt.Terminate ∷ stmt.Say (Num 1) ∷ []) (with [] 9) [] (cut (at (calls stmt.Terminate))) (with [] 8)
nothing_asked = (ran _ _ _ (plain 2)).is

nobody_peeked_at : Runs (within []) (stmt.Peek 0 1 (Promise 0) ∷ []) (with [] 9) [] (cut (at (calls (stmt.Peek 0 1 (Promise 0))))) (with [] 8)
nobody_peeked_at = (ran _ _ _ (plain 1)).is

no_trigger : Runs (within []) (stmt.Signal 7 ∷ stmt.Say (Num 1) ∷ []) (with [] 9) [] (cut (at (calls (stmt.Signal 7)))) (with [] 8)
no_trigger = (ran _ _ _ (plain 1)).is

nobody_completed : Runs (within []) (stmt.Return 0 (Named 9) (Num 1) ∷ []) (with [] 9) [] (cut (at (calls (stmt.Return 0 (Named 9) (Num 1))))) (with [] 8)
nobody_completed = (ran _ _ _ (plain 1)).is

-- ---- waiting for a trigger

abbrev looked : ℕ → TrigState → Happened
looked t state = event 3 (call.Look t) (reply.Seen state)

abbrev pub placed : ℕ → Happened
placed a = event 3 call.NewPlace (Made a)

abbrev pub tied : ℕ → ℕ → ℕ → AttachReply → Happened
tied a k t how = event 3 (call.Attach a k t) (reply.Attached how)

abbrev pub armed : ℕ → ArmReply → Happened
armed t how = event 3 (call.Arm t (Resume 3)) (reply.Armed how)

-- a wait for the first trigger and one for the second, each with a statement behind it
abbrev awaits_first : List Stmt
awaits_first = stmt.Await 0 ∷ stmt.Say (Num 1) ∷ []

abbrev awaits_second : List Stmt
awaits_second = stmt.Await 4 ∷ stmt.Say (Num 1) ∷ []

-- the trigger is attached to the current computation at the place that was made, then armed with the fiber's own resumption; then the computation is looked at, and it runs
one_waits : Leaves [] awaits_second (with [] 2)
    (looked 1 Initial ∷ placed 7 ∷ tied 7 2 1 attach.Attached ∷ armed 1 arm.Set ∷ event 3 (call.Peek 2) (Peeked None) ∷ said 1 ∷ []) Next (with [] 0)
one_waits = (ran _ _ _ (reply.Seen Initial ∷ Made 7 ∷ reply.Attached attach.Attached ∷ reply.Armed arm.Set ∷ Peeked None ∷ Plain ∷ [])).is

-- where the computation returned, it waits all the same, and goes on; and so it does where the trigger was signalled just then
one_waits_behind_a_return : Leaves [] awaits_first (with [] 2)
    (looked 0 Initial ∷ placed 7 ∷ tied 7 2 0 (attach.Completed (Returned 8)) ∷ armed 0 arm.Signalled ∷ event 3 (call.Peek 2) (Peeked (Some (Returned 8))) ∷ said 1 ∷ []) Next (with [] 0)
one_waits_behind_a_return = (ran _ _ _ (reply.Seen Initial ∷ Made 7 ∷ reply.Attached (attach.Completed (Returned 8)) ∷ reply.Armed arm.Signalled ∷ Peeked (Some (Returned 8)) ∷ Plain ∷ [])).is

-- where it was cancelled before, the code is raised and nothing is armed
told_at_once : Leaves [] awaits_second (with [] 9) (looked 1 Initial ∷ placed 7 ∷ tied 7 2 1 (attach.Completed (Cancelled 6)) ∷ []) (Raised 6) (with [] 8)
told_at_once = (ran _ _ _ (reply.Seen Initial ∷ Made 7 ∷ reply.Attached (attach.Completed (Cancelled 6)) ∷ [])).is

-- where it was cancelled meanwhile, the code is raised once the fiber goes on
told_awake : Leaves [] awaits_second (with [] 9)
    (looked 1 Initial ∷ placed 7 ∷ tied 7 2 1 attach.Attached ∷ armed 1 arm.Set ∷ event 3 (call.Peek 2) (Peeked (Some (Cancelled 6))) ∷ []) (Raised 6) (with [] 8)
told_awake = (ran _ _ _ (reply.Seen Initial ∷ Made 7 ∷ reply.Attached attach.Attached ∷ reply.Armed arm.Set ∷ Peeked (Some (Cancelled 6)) ∷ [])).is

-- a signalled trigger isn't waited for, and nobody looks at the computation
already_signalled : Leaves [] awaits_second (with [] 2) (looked 1 Signalled ∷ said 1 ∷ []) Next (with [] 0)
already_signalled = (ran _ _ _ (reply.Seen Signalled ∷ Plain ∷ [])).is

-- another's trigger raises 5: where that is seen at first, and where it is found as it is armed
anothers : Leaves [] awaits_first (with [] 9) (looked 0 (AwaitedBy (Resume 2)) ∷ []) (Raised 5) (with [] 8)
anothers = (ran _ _ _ (reply.Seen (AwaitedBy (Resume 2)) ∷ [])).is

anothers_meanwhile : Leaves [] awaits_first (with [] 9) (looked 0 Initial ∷ placed 7 ∷ tied 7 2 0 attach.Attached ∷ armed 0 arm.Taken ∷ []) (Raised 5) (with [] 8)
anothers_meanwhile = (ran _ _ _ (reply.Seen Initial ∷ Made 7 ∷ reply.Attached attach.Attached ∷ reply.Armed arm.Taken ∷ [])).is

-- where there is no room for an attachment, the code 3 is raised
no_place_to_wait : Leaves [] awaits_first (with [] 9) (looked 0 Initial ∷ event 3 call.NewPlace Full ∷ []) (Raised 3) (with [] 8)
no_place_to_wait = (ran _ _ _ (reply.Seen Initial ∷ Full ∷ [])).is

-- who isn't permitted to be told of a cancellation attaches nothing, and doesn't look at the computation
abbrev pub forbidden : ℕ → Context
forbidden steps = record (with [] steps) { permitted = false }

waits_untold : Leaves [] (stmt.Await 4 ∷ stmt.Await 0 ∷ stmt.Say (Num 1) ∷ []) (forbidden 3)
    (looked 1 Initial ∷ armed 1 arm.Set ∷ looked 0 Initial ∷ armed 0 arm.Signalled ∷ said 1 ∷ []) Next (forbidden 0)
waits_untold = (ran _ _ _ (reply.Seen Initial ∷ reply.Armed arm.Set ∷ reply.Seen Initial ∷ reply.Armed arm.Signalled ∷ Plain ∷ [])).is

-- a log may stop at each of the calls
stops_asleep : Runs (within []) awaits_second (with [] 9) (looked 1 Initial ∷ placed 7 ∷ tied 7 2 1 attach.Attached ∷ armed 1 arm.Set ∷ [])
    (cut (at (awaits_trigger 1 (suspending checking)))) (with [] 8)
stops_asleep = (ran _ _ _ (reply.Seen Initial ∷ Made 7 ∷ reply.Attached attach.Attached ∷ reply.Armed arm.Set ∷ [])).is

stops_at_the_arming : Runs (within []) awaits_second (with [] 9) (looked 1 Initial ∷ placed 7 ∷ tied 7 2 1 attach.Attached ∷ []) (cut (at (awaits_trigger 1 (suspending arming)))) (with [] 8)
stops_at_the_arming = (ran _ _ _ (reply.Seen Initial ∷ Made 7 ∷ reply.Attached attach.Attached ∷ [])).is

stops_at_the_place : Runs (within []) awaits_second (with [] 9) (looked 1 Initial ∷ []) (cut (at (awaits_trigger 1 placing))) (with [] 8)
stops_at_the_place = (ran _ _ _ (reply.Seen Initial ∷ [])).is

-- a trigger that isn't declared is not waited for, and other replies lead nowhere
no_trigger_to_wait_for : Runs (within []) (stmt.Await 7 ∷ []) (with [] 9) [] (cut (at (calls (stmt.Await 7)))) (with [] 8)
no_trigger_to_wait_for = (ran _ _ _ (plain 1)).is

no_look : leads (with [] 9) (awaits_trigger 1 looking) Plain ≡ None
no_look = refl

no_arming : leads (with [] 9) (awaits_trigger 1 (suspending arming)) Plain ≡ None
no_arming = refl

-- ---- attaching a trigger

abbrev attaches_second : List Stmt
attaches_second = stmt.Attach 0 (Named 3) 4 ∷ stmt.Say (Reg 0) ∷ []

-- the register gets 1 where the trigger was attached, whoever awaits it; to a declared computation, and to the root
one_attaches : Leaves [] (stmt.Attach 0 (Named 3) 4 ∷ stmt.Attach 1 Root 0 ∷ []) (with (5 ∷ 5 ∷ []) 2)
    (looked 1 Initial ∷ placed 7 ∷ tied 7 2 1 attach.Attached ∷ looked 0 (AwaitedBy (Resume 2)) ∷ placed 8 ∷ tied 8 0 0 attach.Attached ∷ []) Next (with (1 ∷ 1 ∷ []) 0)
one_attaches = (ran _ _ _ (reply.Seen Initial ∷ Made 7 ∷ reply.Attached attach.Attached ∷ reply.Seen (AwaitedBy (Resume 2)) ∷ Made 8 ∷ reply.Attached attach.Attached ∷ [])).is

-- 0 where the computation was completed, by a return or by a cancel
attached_late : Leaves [] (stmt.Attach 0 (Named 3) 4 ∷ stmt.Attach 1 (Named 1) 4 ∷ []) (with (5 ∷ 5 ∷ []) 2)
    (looked 1 Initial ∷ placed 7 ∷ tied 7 2 1 (attach.Completed (Returned 8)) ∷ looked 1 Initial ∷ placed 8 ∷ tied 8 1 1 (attach.Completed (Cancelled 6)) ∷ []) Next (with (0 ∷ 0 ∷ []) 0)
attached_late = (ran _ _ _ (reply.Seen Initial ∷ Made 7 ∷ reply.Attached (attach.Completed (Returned 8)) ∷ reply.Seen Initial ∷ Made 8 ∷ reply.Attached (attach.Completed (Cancelled 6)) ∷ [])).is

-- and 0 where the trigger is signalled, with no place made
attaches_nothing : Leaves [] attaches_second (with (5 ∷ []) 2) (looked 1 Signalled ∷ said 0 ∷ []) Next (with (0 ∷ []) 0)
attaches_nothing = (ran _ _ _ (reply.Seen Signalled ∷ Plain ∷ [])).is

-- where there is no room for an attachment, the code 3 is raised, and the register stays
no_place_to_attach : Leaves [] attaches_second (with (5 ∷ []) 9) (looked 1 Initial ∷ event 3 call.NewPlace Full ∷ []) (Raised 3) (with (5 ∷ []) 8)
no_place_to_attach = (ran _ _ _ (reply.Seen Initial ∷ Full ∷ [])).is

-- a log may stop at each of the calls
stops_before_the_place : Runs (within []) attaches_second (with (5 ∷ []) 9) (looked 1 Initial ∷ []) (cut (at (attaches_to 0 2 1 places))) (with (5 ∷ []) 8)
stops_before_the_place = (ran _ _ _ (reply.Seen Initial ∷ [])).is

stops_before_attaching : Runs (within []) attaches_second (with (5 ∷ []) 9) (looked 1 Initial ∷ placed 7 ∷ []) (cut (at (attaches_to 0 2 1 (attaches 7)))) (with (5 ∷ []) 8)
stops_before_attaching = (ran _ _ _ (reply.Seen Initial ∷ Made 7 ∷ [])).is

-- a computation or a trigger that isn't there is not attached, and other replies lead nowhere
nobody_to_attach_to : Runs (within []) (stmt.Attach 0 (Promise 0) 4 ∷ []) (with [] 9) [] (cut (at (calls (stmt.Attach 0 (Promise 0) 4)))) (with [] 8)
nobody_to_attach_to = (ran _ _ _ (plain 1)).is

no_trigger_to_attach : Runs (within []) (stmt.Attach 0 Root 7 ∷ []) (with [] 9) [] (cut (at (calls (stmt.Attach 0 Root 7)))) (with [] 8)
no_trigger_to_attach = (ran _ _ _ (plain 1)).is

no_look_to_attach : leads (with [] 9) (attaches_to 0 2 1 looks) Plain ≡ None
no_look_to_attach = refl

-- ---- bodies within a statement: how far a wait is by its parts, with a place and without one

abbrev parts_at : Option ℕ → ℕ → Parts
parts_at place stage = record { trigger = Some 1; place = place; second = None; at = stage }

within_placing : phase_of (with [] 9) (Places 1) ≡ awaits_trigger 1 placing
within_placing = refl

within_attaching : phase_of (with [] 9) (Awaits (parts_at (Some 7) 2)) ≡ awaits_trigger 1 (suspending (attaching 7))
within_attaching = refl

within_arming : phase_of (with [] 9) (Awaits (parts_at (Some 7) 3)) ≡ awaits_trigger 1 (suspending arming)
within_arming = refl

within_arming_alone : phase_of (forbidden 9) (Awaits (parts_at None 2)) ≡ awaits_trigger 1 (suspending arming)
within_arming_alone = refl

within_awake : phase_of (with [] 9) (Awake 1) ≡ awaits_trigger 1 (suspending checking)
within_awake = refl

within_awake_untold : phase_of (forbidden 9) (Awake 1) ≡ awaits_trigger 1 (suspending (over woken))
within_awake_untold = refl

within_placing_to_attach : phase_of (with [] 9) (Attaches 0 2 1 None) ≡ attaches_to 0 2 1 places
within_placing_to_attach = refl

within_attaching_to : phase_of (with [] 9) (Attaches 0 2 1 (Some 7)) ≡ attaches_to 0 2 1 (attaches 7)
within_attaching_to = refl

-- ---- numbers

-- each declaration has the number of what it declares, or of the next one: trigger, computation, mutex, computation, trigger
numbers : numbering decls ≡ record { triggers = 0 ∷ 1 ∷ 1 ∷ 1 ∷ 1 ∷ []; comps = 1 ∷ 1 ∷ 2 ∷ 2 ∷ 3 ∷ [] }
numbers = refl

two_triggers : count_of sort.Trigger decls ≡ 2
two_triggers = refl

two_comps : count_of sort.Comp decls ≡ 2
two_comps = refl

the_root : comp_in (1 ∷ 5 ∷ []) Root ≡ Some 0
the_root = refl

a_declared_one : comp_in (1 ∷ 5 ∷ []) (Named 1) ≡ Some 5
a_declared_one = refl

one_too_far : comp_in (1 ∷ 5 ∷ []) (Named 2) ≡ None
one_too_far = refl

none_promised : comp_in (1 ∷ 5 ∷ []) (Promise 1) ≡ None
none_promised = refl

-- ---- one of two blocks

abbrev telltales : List (List Stmt)
telltales = (stmt.Say (Num 1) ∷ []) ∷ (stmt.Say (Num 0) ∷ []) ∷ []

abbrev tested : Test → ℕ → ℕ → Stmt
tested t a b = stmt.If (Num a) t (Num b) 0 (Some 1)

abbrev tests : Test → List Stmt
tests t = tested t 1 2 ∷ tested t 2 2 ∷ tested t 2 1 ∷ []

-- a block says 1 where the test holds, and another one 0: of 1 and 2, of 2 and 2, and of 2 and 1
abbrev Tells : Test → ℕ → ℕ → ℕ → Type 0
Tells t less equal greater = Leaves telltales (tests t) (with [] 6) (said less ∷ said equal ∷ said greater ∷ []) Next (with [] 0)

eq : Tells test.Eq 0 1 0
eq = (ran _ _ _ (plain 3)).is

ne : Tells test.Ne 1 0 1
ne = (ran _ _ _ (plain 3)).is

lt : Tells test.Lt 1 0 0
lt = (ran _ _ _ (plain 3)).is

le : Tells test.Le 1 1 0
le = (ran _ _ _ (plain 3)).is

gt : Tells test.Gt 0 0 1
gt = (ran _ _ _ (plain 3)).is

ge : Tells test.Ge 0 1 1
ge = (ran _ _ _ (plain 3)).is

-- with no other block it goes on
no_other : Leaves [] (stmt.If (Reg 0) test.Eq (Reg 1) 0 None ∷ stmt.Say (Num 1) ∷ []) (with (4 ∷ 5 ∷ []) 2) (said 1 ∷ []) Next (with (4 ∷ 5 ∷ []) 0)
no_other = (ran _ _ _ (plain 1)).is

-- what is raised in the block leaves the statements behind it too
raised_in_if : Leaves ((stmt.Raise (Num 6) ∷ []) ∷ []) (stmt.If (Num 1) test.Eq (Num 1) 0 None ∷ stmt.Say (Num 1) ∷ []) (with [] 9) [] (Raised 6) (with [] 7)
raised_in_if = (ran _ _ _ []).is

-- ---- loops

abbrev rounds : List (List Stmt)
rounds = (stmt.Add 0 (Num 1) ∷ stmt.Say (Reg 0) ∷ stmt.If (Reg 0) test.Eq (Num 2) 1 None ∷ []) ∷ (stmt.Break ∷ []) ∷ []

-- two rounds, the second of which breaks the loop: a step for each round and for each statement, and none for the loop itself
two_rounds : Leaves rounds (stmt.Loop 0 ∷ stmt.Say (Num 7) ∷ []) (with (0 ∷ []) 10) (said 1 ∷ said 2 ∷ said 7 ∷ []) Next (with (2 ∷ []) 0)
two_rounds = (ran _ _ _ (plain 3)).is

-- each round costs a step, also of an empty block; the loop stands last, since a statement behind it would be spent in any case
rounds_spent : Leaves ([] ∷ []) (stmt.Loop 0 ∷ []) (with [] 2) [] Spent (with [] 0)
rounds_spent = (ran _ _ _ []).is

-- where no step is left within a round, none is left for the loop either
spent_in_round : Leaves ((stmt.Say (Num 1) ∷ stmt.Yield ∷ []) ∷ []) (stmt.Loop 0 ∷ []) (with [] 2) (said 1 ∷ []) Spent (with [] 0)
spent_in_round = (ran _ _ _ (plain 1)).is

-- what is raised in a round leaves the loop
raised_in_loop : Leaves ((stmt.Raise (Num 6) ∷ []) ∷ []) (stmt.Loop 0 ∷ stmt.Say (Num 7) ∷ []) (with [] 9) [] (Raised 6) (with [] 7)
raised_in_loop = (ran _ _ _ []).is

-- a loop begins with no step left, and is never spent as it begins
a_loop_begins : Runs (within []) (stmt.Loop 0 ∷ []) (with [] 0) [] (cut (at (repeating 0 Next))) (with [] 0)
a_loop_begins = and_out tt stops (λ q. cc)

never_spent : (c : Context) → IsSpent (stmt.Loop 0) c → ⊥
never_spent c spent = spent

-- ---- a block with a handler

abbrev handled : List (List Stmt)
handled = (stmt.Say (Num 1) ∷ stmt.Raise (Num 6) ∷ []) ∷ (stmt.Say (Reg 1) ∷ stmt.Raise (Num 8) ∷ []) ∷ [] ∷ (stmt.Break ∷ []) ∷ (stmt.Try 3 1 1 ∷ []) ∷ []

-- a raise in the block is caught, the register gets its code, and what the handler raises isn't caught again
caught : Leaves handled (stmt.Try 0 1 1 ∷ stmt.Say (Num 7) ∷ []) (with (5 ∷ 5 ∷ []) 5) (said 1 ∷ said 6 ∷ []) (Raised 8) (with (5 ∷ 6 ∷ []) 0)
caught = (ran _ _ _ (plain 2)).is

-- a block that goes on needs no handler
not_raised : Leaves handled (stmt.Try 2 1 1 ∷ stmt.Say (Num 7) ∷ []) (with (5 ∷ 5 ∷ []) 2) (said 7 ∷ []) Next (with (5 ∷ 5 ∷ []) 0)
not_raised = (ran _ _ _ (plain 1)).is

-- a break passes the handler and ends the loop around it, and want of steps passes it too
break_passes : Leaves handled (stmt.Loop 4 ∷ stmt.Say (Num 7) ∷ []) (with (5 ∷ 5 ∷ []) 4) (said 7 ∷ []) Next (with (5 ∷ 5 ∷ []) 0)
break_passes = (ran _ _ _ (plain 1)).is

spent_passes : Leaves handled (stmt.Try 0 1 1 ∷ []) (with (5 ∷ 5 ∷ []) 2) (said 1 ∷ []) Spent (with (5 ∷ 5 ∷ []) 0)
spent_passes = (ran _ _ _ (plain 1)).is

-- ---- whole texts

-- a fiber that goes through to its text's end returns r0
returns_r0 : Acts (within ((stmt.Say (Reg 1) ∷ []) ∷ [])) (lives 0) (with (5 ∷ 4 ∷ []) 9) (said 4 ∷ event 3 (call.End (Returned 5)) Plain ∷ []) (whole Next) (with (5 ∷ 4 ∷ []) 8)
returns_r0 = (acted _ _ _ (plain 2)).is

-- one that raises is cancelled with the code, and one without a step with the code 1
cancelled_raised : Acts (within ((stmt.Raise (Num 6) ∷ []) ∷ [])) (lives 0) (with (5 ∷ []) 9) (event 3 (call.End (Cancelled 6)) Plain ∷ []) (whole Next) (with (5 ∷ []) 8)
cancelled_raised = (acted _ _ _ (plain 1)).is

cancelled_spent : Acts (within ((stmt.Yield ∷ []) ∷ [])) (lives 0) (with (5 ∷ []) 0) (event 3 (call.End (Cancelled 1)) Plain ∷ []) (whole Next) (with (5 ∷ []) 0)
cancelled_spent = (acted _ _ _ (plain 1)).is

-- a new fiber has its value in r0, and the computation that it was made with; its whole log follows its text
abbrev born_with : Birth
born_with = record { text = 0; value = 5; current = 2 }

from_birth : FollowsText (within ((stmt.Say (Reg 0) ∷ stmt.Spawn 0 (Reg 15) ∷ []) ∷ [])).script 3 born_with
    (said 5 ∷ forked 3 4 (record { text = 0; value = 0; current = 2 }) ∷ event 3 (call.End (Returned 5)) Plain ∷ [])
from_birth = let w = acted ((stmt.Say (Reg 0) ∷ stmt.Spawn 0 (Reg 15) ∷ []) ∷ []) (lives 0) (context_of born_with) (Plain ∷ Made 4 ∷ Plain ∷ []) in
    record { extent = w.extent; context = w.context; acts = w.is }

-- ---- where logs stop

-- between two statements, or in a statement whose reply isn't there
stops_between : Runs (within []) (stmt.Say (Num 1) ∷ []) (with [] 9) [] (cut between) (with [] 9)
stops_between = rests

stops_at_a_call : Runs (within []) (stmt.Say (Num 1) ∷ stmt.Say (Num 2) ∷ []) (with [] 9) (said 1 ∷ []) (cut (at (calls (stmt.Say (Num 2))))) (with [] 7)
stops_at_a_call = (ran _ _ _ (plain 1)).is

-- in blocks within blocks, nothing is done at their exits
stops_inside_blocks : Acts (within handled) (lives 0) (with (5 ∷ []) 9) [] (cut (at (calls (stmt.Say (Num 1))))) (with (5 ∷ []) 8)
stops_inside_blocks = (acted _ _ _ []).is

-- where the end is to be told, and behind it: nothing is asked for then, and nothing leads on
stops_at_the_end : Acts (within ([] ∷ [])) (lives 0) (with (5 ∷ []) 9) [] (cut (at (ending (Returned 5) ends))) (with (5 ∷ []) 9)
stops_at_the_end = (acted _ _ _ []).is

nothing_asked_behind : asks (within []) (with [] 9) (ending (Returned 5) gone) ≡ None
nothing_asked_behind = refl

nothing_leads_on : leads (with [] 9) (ending (Returned 5) gone) Plain ≡ None
nothing_leads_on = refl
