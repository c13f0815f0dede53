-- What stands while a turn of a script's fiber is under way. Only private contracts cite these words.
use Rattle.std.specs.Prelude.{◌≡◌, ◌≢◌, ℕ, ◌+◌, ◌-◌, ◌≤◌, ◌<◌, length, IsTrue, Result, Ok, Err, Option, Some, None, List, [], ◌∷◌, ⊤}
use Rattle.pic_machine.specs.declared.birth.Birth.{Birth}
use Rattle.pic_machine.specs.declared.entry.Call.{Call}
use Rattle.pic_machine.specs.declared.entry.Call.TheVariants as call
use Rattle.pic_machine.specs.declared.entry.Reply.{Reply}
use Rattle.pic_machine.specs.declared.poller.Turn.{Turn}
use Rattle.pic_machine.specs.declared.poller.Turn.TheVariants as turn
use Rattle.pic_machine.specs.declared.port.PortFault.{PortFault}
use Rattle.pic_machine.specs.declared.port.PortFault.TheVariants.{Full, Again, Memory}
use Rattle.pic_machine.specs.Lending.{Calm, Lent}
use Rattle.pic_machine.specs.History.{world}
use Rattle.pic_machine.specs.Log.{log, own}
use Rattle.pic_machine.specs.Order.{readied}
use Rattle.pic_machine.specs.Sight.{Holds, Sight, fiber_of}
use Rattle.pic_machine.specs.Turning.{Adds, Went}
use Rattle.pic_machine.specs.Waits.{arming, waiting_at}
use Rattle.script_tree.specs.declared.program.Stmt.{Stmt}
use Rattle.script_tree.specs.declared.program.Stmt.TheVariants as stmt
use Rattle.script_tree.specs.declared.thing.Sort.TheVariants as sort
use Rattle.script_tree.specs.Tree.{Tree}
use Rattle.script_tree.specs.WellFormed.{IsFiberText, StmtFits}
use Rattle.fiber_body.specs.declared.standing.Standing.TheVariants.{Within, Ending, Ended}
use Rattle.fiber_body.specs.declared.under_way.UnderWay.{UnderWay}
use Rattle.fiber_body.specs.declared.under_way.UnderWay.TheVariants.{Awaits, Follows}
use Rattle.fiber_await.specs.declared.ahead.CompAhead.{CompAhead}
use Rattle.fiber_await.specs.declared.ahead.CompAhead.TheVariants as ahead
use Rattle.pic_base.specs.declared.outcome.Outcome.TheVariants.{Returned, Cancelled}
use Rattle.fiber_body.specs.declared.standing.Exit.TheVariants.{Next, Raised}
use Rattle.fiber_body.specs.Context.{Context, count_of, limit_met, with_register, under}
use Rattle.fiber_body.specs.Fits.{LeadsTo}
use Rattle.fiber_body.specs.Owns.{Owns}
use Rattle.fiber_body.specs.Segments.{happens}
use Rattle.fiber_body.specs.Shown.{IsSameRest, Shown, carry_of, stood, MayBeCurrent}
use Rattle.fiber_body.specs.Statements.{born}
use Rattle.fiber_body.specs.Texts.{script_in}
use Rattle.fiber_poll.specs.declared.spot.Last.{Last}
use Rattle.fiber_poll.specs.declared.spot.Spot.{Spot}
use Rattle.fiber_poll.specs.declared.spot.Last.TheVariants.{Yield, Park, End}
use Rattle.fiber_poll.specs.Built.{is_built_stmt}
use Rattle.fiber_poll.specs.Moving.{IsBefore, behind_at, weight}

-- the port has the body of a fiber out, and the fiber's own log leads to where the body stands, which isn't behind
-- its end, and made what the body keeps there for itself
pub record IsUp (port : Sight (Option Tree)) (body : Shown) : Type 0 where
  pub holds : Holds port (carry_of body)
  pub fiber : fiber_of (carry_of body) ≢ 0
  pub leads : LeadsTo body (fiber_of (carry_of body)) (own (log port.front (fiber_of (carry_of body))))
  pub owns : Owns (script_in body.program) (fiber_of (carry_of body)) (own (log port.front (fiber_of (carry_of body)))) body.standing
  pub live : body.standing ≢ Ended

-- a part of the turn went, and the body is up still
pub record IsOn (old new : Sight (Option Tree)) (body later : Shown) (before now : Option (List ℕ)) : Type 0 where
  pub went : Went old new (carry_of body) (carry_of later) before now
  pub up : IsUp new later

-- the trigger of the wait is to be armed next
abbrev pub IsArming : Context → UnderWay → Type 0
IsArming c (Awaits parts) = waiting_at (under c) parts.at parts ≡ arming
IsArming c (Follows register comp parts) = parts.at ≡ 7
IsArming c _ = ⊥

-- what ends a turn: the body stands before a yield, or where its trigger is to be armed, or is to end
abbrev pub IsLast : Shown → Last → Type 0
IsLast body (Yield spot) = IsBefore body spot stmt.Yield
IsLast body (Park spot way) = (body.standing ≡ Within spot.block spot.place way) × IsArming body.context way
IsLast body (End outcome) = body.standing ≡ Ending outcome

-- how many triggers may still be made
abbrev pub triggers_left : Sight (Option Tree) → ℕ
triggers_left port = port.origin.world.limits.triggers - length (world port.origin port.front).triggers

-- how much a turn may still do: a wait for a computation makes a trigger each time that it looks
abbrev pub weight_in : Sight (Option Tree) → Shown → ℕ
weight_in port body = weight body + triggers_left port

-- the turn goes on, with less to do, or its last call is next, with no more to do
abbrev pub IsStep : Sight (Option Tree) → Sight (Option Tree) → Shown → Shown → Option Last → Type 0
IsStep port later old new None = weight new < weight old
IsStep port later old new (Some last) = IsLast new last × (weight_in later new ≤ weight_in port old)

-- where a wait for a computation has come to: its trigger is to be armed next, or it is over
abbrev pub IsArrived : Shown → Shown → Spot → ℕ → UnderWay → CompAhead → Option Last → Type 0
IsArrived old new spot register way ahead.Park last = (last ≡ Some (Park spot way)) × (new ≡ stood old (Within spot.block spot.place way) old.context.steps)
IsArrived old new spot register way (ahead.Done (Returned v)) last =
    (last ≡ None) × (new ≡ stood (record old { context = with_register old.context register v }) (behind_at spot Next) old.context.steps)
IsArrived old new spot register way (ahead.Done (Cancelled code)) last = (last ≡ None) × (new ≡ stood old (behind_at spot (Raised code)) old.context.steps)
IsArrived old new spot register way (ahead.Cancelled code) last = (last ≡ None) × (new ≡ stood old (behind_at spot (Raised code)) old.context.steps)

-- where it gave up: it is over where a limit was met, else it goes on from there
abbrev pub HasGivenUp : Shown → Shown → Spot → UnderWay → PortFault → Result (Option Last) PortFault → Type 0
HasGivenUp old new spot way Full answer = (answer ≡ Ok None) × (new ≡ stood old (behind_at spot (Raised limit_met)) old.context.steps)
HasGivenUp old new spot way fault answer = (answer ≡ Err fault) × (new ≡ stood old (Within spot.block spot.place way) old.context.steps)

-- the statement is one of a program that is run: it is built, and keeps to what each statement keeps to
pub record CanRun (script : Tree) (one : Stmt) : Type 0 where
  pub holder : ℕ
  pub fits : StmtFits script holder one
  pub built : IsTrue (is_built_stmt one)

-- a call that a statement of the script may ask for, of a fiber with this birth, and behind which its turn goes on
abbrev pub CanAsk : Tree → Birth → Call → Type 0
CanAsk script birth (call.Say v) = ⊤
CanAsk script birth (call.Peek comp) = MayBeCurrent (Some script) birth comp
CanAsk script birth (call.Complete comp outcome) = comp ≤ count_of sort.Comp script.decls
CanAsk script birth (call.Signal trigger) = trigger < count_of sort.Trigger script.decls
CanAsk script birth (call.Fork text v) = IsFiberText script text
CanAsk script birth _ = ⊥

-- the entry of the call was made, with the reply, and the ready line got what it made ready; the body stands where it
-- stood
pub record IsMade (old new : Sight (Option Tree)) (body later : Shown) (before now : Option (List ℕ)) (call : Call) (reply : Reply) : Type 0 where
  pub lent : Lent old new (carry_of body) (carry_of later) (happens (fiber_of (carry_of body)) call reply (born body.context call))
  pub rest : IsSameRest body later
  pub line : Adds before now (readied (happens (fiber_of (carry_of body)) call reply (born body.context call) ∷ []))
  pub calm : Calm old new

-- the body is handed back, and why
abbrev pub IsHandedBack : PortFault → Shown → Turn Shown → Type 0
IsHandedBack Full body answer = ⊥
IsHandedBack Again body answer = answer ≡ turn.Again body
IsHandedBack Memory body answer = answer ≡ turn.Memory body
