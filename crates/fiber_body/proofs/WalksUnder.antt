-- Walks through the lines of the tables of `check`, and of blocks that are run under something else.
use Rattle.std.proofs.Common.{ℕ, Bool, true, false, Some, None, List, [], ◌∷◌}
use Rattle.pic_base.specs.declared.outcome.Outcome.{Outcome}
use Rattle.pic_base.specs.declared.outcome.Outcome.TheVariants.{Returned, Cancelled}
use Rattle.pic_base.specs.declared.action.Action.TheVariants.{Resume}
use Rattle.pic_machine.specs.declared.entry.ArmReply.TheVariants as arm
use Rattle.pic_machine.specs.declared.entry.AttachReply.TheVariants as attach
use Rattle.pic_machine.specs.declared.entry.Call.TheVariants as call
use Rattle.pic_machine.specs.declared.entry.Reply.TheVariants as reply
use Rattle.pic_machine.specs.declared.entry.Reply.TheVariants.{Made, Peeked, Plain}
use Rattle.pic_machine.specs.declared.state.TrigState.TheVariants.{Initial}
use Rattle.pic_machine.specs.Happened.{Happened}
use Rattle.pic_machine.specs.History.{event, forked}
use Rattle.std.specs.Prelude.{Option}
use Rattle.script_tree.specs.declared.program.CompRef.TheVariants.{Root, Named, Promise}
use Rattle.script_tree.specs.declared.program.Operand.TheVariants.{Num}
use Rattle.script_tree.specs.declared.program.Stmt.{Stmt}
use Rattle.script_tree.specs.declared.program.Stmt.TheVariants as stmt
use Rattle.fiber_body.specs.declared.standing.Exit.TheVariants.{Next, Raised, Broke, Spent}
use Rattle.fiber_body.specs.Context.{Context}
use Rattle.fiber_body.specs.Phases.{calls}
use Rattle.fiber_body.specs.Segments.{Runs, at, cut}
use Rattle.fiber_body.proofs.Walks.{Leaves, plain, ran, said, within}

-- the current computation, whether the fiber is told of its cancellation, and the steps that are left
abbrev stands : ℕ → Bool → ℕ → Context
stands current told steps = record { registers = []; cells = []; steps = steps; current = current; permitted = told }

abbrev peeked : ℕ → Option Outcome → Happened
peeked k seen = event 3 (call.Peek k) (Peeked seen)

-- ---- check

-- a fiber whose current computation is cancelled is told so, and the statement behind isn't begun
check_told : Leaves [] (stmt.Check ∷ stmt.Say (Num 1) ∷ []) (stands 2 true 9) (peeked 2 (Some (Cancelled 6)) ∷ []) (Raised 6) (stands 2 true 8)
check_told = (ran _ _ _ (Peeked (Some (Cancelled 6)) ∷ [])).is

-- where that runs or returned it goes on, and after any other reply
check_goes_on : Leaves [] (stmt.Check ∷ stmt.Check ∷ stmt.Check ∷ stmt.Say (Num 1) ∷ []) (stands 1 true 4)
    (peeked 1 None ∷ peeked 1 (Some (Returned 7)) ∷ event 3 (call.Peek 1) Plain ∷ said 1 ∷ []) Next (stands 1 true 0)
check_goes_on = (ran _ _ _ (Peeked None ∷ Peeked (Some (Returned 7)) ∷ Plain ∷ Plain ∷ [])).is

-- who isn't permitted to be told goes on at once, with no entry; that too costs a step
check_untold : Leaves [] (stmt.Check ∷ stmt.Say (Num 1) ∷ []) (stands 2 false 2) (said 1 ∷ []) Next (stands 2 false 0)
check_untold = (ran _ _ _ (plain 1)).is

check_spent : Leaves [] (stmt.Check ∷ stmt.Check ∷ []) (stands 2 false 1) [] Spent (stands 2 false 0)
check_spent = (ran _ _ _ []).is

-- a log may stop at its call
stops_at_a_check : Runs (within []) (stmt.Check ∷ []) (stands 2 true 9) [] (cut (at (calls stmt.Check))) (stands 2 true 8)
stops_at_a_check = (ran _ _ _ []).is

-- ---- what a block is run under

abbrev checking : List (List Stmt)
checking = (stmt.Check ∷ []) ∷ (stmt.Permit 0 ∷ stmt.Check ∷ []) ∷ (stmt.Forbid 0 ∷ stmt.Check ∷ []) ∷ []

-- nothing is told in the one block, and what is around it is told again; the statement costs a step, what is done at its end none
untold_within : Leaves checking (stmt.Forbid 0 ∷ stmt.Check ∷ []) (stands 2 true 3) (peeked 2 None ∷ []) Next (stands 2 true 0)
untold_within = (ran _ _ _ (Peeked None ∷ [])).is

told_within : Leaves checking (stmt.Permit 0 ∷ stmt.Check ∷ []) (stands 2 false 3) (peeked 2 None ∷ []) Next (stands 2 false 0)
told_within = (ran _ _ _ (Peeked None ∷ [])).is

-- one in the other
told_in_untold : Leaves checking (stmt.Forbid 1 ∷ stmt.Check ∷ []) (stands 2 true 5) (peeked 2 None ∷ peeked 2 (Some (Returned 7)) ∷ []) Next (stands 2 true 0)
told_in_untold = (ran _ _ _ (Peeked None ∷ Peeked (Some (Returned 7)) ∷ [])).is

untold_in_told : Leaves checking (stmt.Permit 2 ∷ stmt.Check ∷ []) (stands 2 true 5) (peeked 2 None ∷ peeked 2 (Some (Returned 7)) ∷ []) Next (stands 2 true 0)
untold_in_told = (ran _ _ _ (Peeked None ∷ Peeked (Some (Returned 7)) ∷ [])).is

-- where it is already so, it stays so
untold_still : Leaves checking (stmt.Forbid 0 ∷ stmt.Check ∷ []) (stands 2 false 3) [] Next (stands 2 false 0)
untold_still = (ran _ _ _ []).is

-- another computation is current in the block, the root or a declared one; whether the fiber is told stays as it is
others_within : Leaves checking (stmt.Under (Named 1) 0 ∷ stmt.Under Root 0 ∷ stmt.Check ∷ []) (stands 2 true 5)
    (peeked 1 None ∷ peeked 0 (Some (Returned 7)) ∷ peeked 2 None ∷ []) Next (stands 2 true 0)
others_within = (ran _ _ _ (Peeked None ∷ Peeked (Some (Returned 7)) ∷ Peeked None ∷ [])).is

another_untold : Leaves checking (stmt.Under (Named 1) 0 ∷ stmt.Say (Num 1) ∷ []) (stands 2 false 3) (said 1 ∷ []) Next (stands 2 false 0)
another_untold = (ran _ _ _ (plain 1)).is

-- what is cancelled in the block is raised there
another_told : Leaves checking (stmt.Under (Named 1) 0 ∷ stmt.Say (Num 1) ∷ []) (stands 2 true 9) (peeked 1 (Some (Cancelled 6)) ∷ []) (Raised 6) (stands 2 true 7)
another_told = (ran _ _ _ (Peeked (Some (Cancelled 6)) ∷ [])).is

-- a spawned fiber begins at what is current where it is spawned
abbrev spawning : List (List Stmt)
spawning = (stmt.Spawn 6 (Num 9) ∷ []) ∷ []

spawns_within : Leaves spawning (stmt.Under (Named 1) 0 ∷ stmt.Spawn 6 (Num 9) ∷ []) (stands 2 true 3)
    (forked 3 4 (record { text = 6; value = 9; current = 1 }) ∷ forked 3 5 (record { text = 6; value = 9; current = 2 }) ∷ []) Next (stands 2 true 0)
spawns_within = (ran _ _ _ (Made 4 ∷ Made 5 ∷ [])).is

-- a wait in the block attaches its trigger to what is current there, and in a block where nothing is told to nothing
abbrev waiting : List (List Stmt)
waiting = (stmt.Await 4 ∷ []) ∷ []

waits_within : Leaves waiting (stmt.Under (Named 1) 0 ∷ []) (stands 2 true 2)
    (event 3 (call.Look 1) (reply.Seen Initial) ∷ event 3 call.NewPlace (Made 7) ∷ event 3 (call.Attach 7 1 1) (reply.Attached attach.Attached) ∷ event 3 (call.Arm 1 (Resume 3)) (reply.Armed arm.Set)
    ∷ peeked 1 (Some (Cancelled 6)) ∷ []) (Raised 6) (stands 2 true 0)
waits_within = (ran _ _ _ (reply.Seen Initial ∷ Made 7 ∷ reply.Attached attach.Attached ∷ reply.Armed arm.Set ∷ Peeked (Some (Cancelled 6)) ∷ [])).is

waits_untold_within : Leaves waiting (stmt.Forbid 0 ∷ []) (stands 2 true 2)
    (event 3 (call.Look 1) (reply.Seen Initial) ∷ event 3 (call.Arm 1 (Resume 3)) (reply.Armed arm.Set) ∷ []) Next (stands 2 true 0)
waits_untold_within = (ran _ _ _ (reply.Seen Initial ∷ reply.Armed arm.Set ∷ [])).is

-- where such a computation isn't there, the statement begins and asks for nothing
under_nobody : Runs (within checking) (stmt.Under (Promise 0) 0 ∷ []) (stands 2 true 9) [] (cut (at (calls (stmt.Under (Promise 0) 0)))) (stands 2 true 8)
under_nobody = (ran _ _ _ (plain 1)).is

under_undeclared : Runs (within checking) (stmt.Under (Named 9) 0 ∷ []) (stands 2 true 9) [] (cut (at (calls (stmt.Under (Named 9) 0)))) (stands 2 true 8)
under_undeclared = (ran _ _ _ (plain 1)).is

-- a log may stop in the block, and nothing is restored there
stops_within : Runs (within checking) (stmt.Under (Named 1) 0 ∷ []) (stands 2 true 9) [] (cut (at (calls stmt.Check))) (stands 1 true 7)
stops_within = (ran _ _ _ []).is

-- ---- each exit of such a block

abbrev exits : List (List Stmt)
exits = (stmt.Say (Num 1) ∷ []) ∷ (stmt.Raise (Num 6) ∷ []) ∷ (stmt.Break ∷ []) ∷ (stmt.Say (Num 1) ∷ stmt.Yield ∷ []) ∷ []

-- behind each the fiber stands under what it stood before: where the block goes on, raises, breaks a loop, or has no step left
record IsRestored (one : ℕ → Stmt) (c : ℕ → Context) : Type 0 where
  goes_on : Leaves exits (one 0 ∷ stmt.Say (Num 2) ∷ []) (c 3) (said 1 ∷ said 2 ∷ []) Next (c 0)
  raises : Leaves exits (one 1 ∷ stmt.Say (Num 2) ∷ []) (c 9) [] (Raised 6) (c 7)
  breaks : Leaves exits (one 2 ∷ stmt.Say (Num 2) ∷ []) (c 9) [] Broke (c 7)
  is_spent : Leaves exits (one 3 ∷ []) (c 2) (said 1 ∷ []) Spent (c 0)

forbid_restores : IsRestored stmt.Forbid (stands 2 true)
forbid_restores = record { goes_on = (ran _ _ _ (plain 2)).is; raises = (ran _ _ _ []).is; breaks = (ran _ _ _ []).is; is_spent = (ran _ _ _ (plain 1)).is }

permit_restores : IsRestored stmt.Permit (stands 2 false)
permit_restores = record { goes_on = (ran _ _ _ (plain 2)).is; raises = (ran _ _ _ []).is; breaks = (ran _ _ _ []).is; is_spent = (ran _ _ _ (plain 1)).is }

under_restores : IsRestored (stmt.Under (Named 1)) (stands 2 true)
under_restores = record { goes_on = (ran _ _ _ (plain 2)).is; raises = (ran _ _ _ []).is; breaks = (ran _ _ _ []).is; is_spent = (ran _ _ _ (plain 1)).is }

under_untold_restores : IsRestored (stmt.Under Root) (stands 1 false)
under_untold_restores = record { goes_on = (ran _ _ _ (plain 2)).is; raises = (ran _ _ _ []).is; breaks = (ran _ _ _ []).is; is_spent = (ran _ _ _ (plain 1)).is }
