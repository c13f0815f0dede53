-- How a body moves between two entries of its fiber. Only private contracts cite these words.
use Rattle.std.specs.Prelude.{◌≡◌, ℕ, ◌+◌, ◌*◌, ◌-◌, ◌<◌, ◌^◌, ◌==◌, nat_lt, cond, Bool, true, false, Option, Some, None, List, [], ◌∷◌, ◌++◌, length, slice_get, ⊤}
use Rattle.pic_machine.specs.declared.entry.Reply.{Reply}
use Rattle.pic_machine.specs.declared.entry.Reply.TheVariants.{Made, Full}
use Rattle.pic_machine.specs.declared.state.TrigState.{TrigState}
use Rattle.pic_machine.specs.declared.waits.Parts.{Parts}
use Rattle.pic_machine.specs.declared.state.TrigState.TheVariants.{Initial, Awaiting, Signalled}
use Rattle.pic_machine.specs.declared.waits.Standing.{Standing as Under}
use Rattle.fiber_await.specs.declared.ahead.Ahead.{Ahead}
use Rattle.fiber_await.specs.declared.ahead.Ahead.TheVariants.{Go, Cancelled}
use Rattle.script_tree.specs.declared.program.Operand.{Operand}
use Rattle.script_tree.specs.declared.program.Stmt.{Stmt}
use Rattle.script_tree.specs.declared.program.Stmt.TheVariants as stmt
use Rattle.script_tree.specs.declared.program.Test.{Test}
use Rattle.script_tree.specs.Tree.{Tree}
use Rattle.fiber_body.specs.declared.standing.Exit.{Exit}
use Rattle.fiber_body.specs.declared.standing.Exit.TheVariants.{Next, Raised, Broke, Spent}
use Rattle.fiber_body.specs.declared.standing.Frame.{Frame}
use Rattle.fiber_body.specs.declared.standing.Frame.TheVariants.{Rest, Repeats, Catches, Restores}
use Rattle.fiber_body.specs.declared.standing.Standing.{Standing}
use Rattle.fiber_body.specs.declared.standing.Standing.TheVariants.{At, Within, Out, Ended}
use Rattle.fiber_body.specs.declared.under_way.UnderWay.{UnderWay}
use Rattle.fiber_body.specs.declared.under_way.UnderWay.TheVariants.{Places, Awaits, Awake, Attaches, Follows}
use Rattle.fiber_body.specs.Around.{Turns, around_of, place_of}
use Rattle.fiber_body.specs.Context.{Context, Numbering, block_at, holds, limit_met, standing_under, taken_already, under, value, with_register}
use Rattle.fiber_body.specs.Fits.{setting_of}
use Rattle.fiber_body.specs.Phases.{Phase, calls, ended}
use Rattle.fiber_body.specs.Shown.{Shown, carry_of, stood}
use Rattle.fiber_body.specs.Statements.{begins, first, result}
use Rattle.fiber_body.specs.Tables.{ends_by, goes_into, settles}
use Rattle.fiber_body.specs.Texts.{script_in}
use Rattle.fiber_poll.specs.declared.spot.AtOnce.{AtOnce}
use Rattle.fiber_poll.specs.declared.spot.AtOnce.TheVariants.{Ends, Chooses, Waits}
use Rattle.fiber_poll.specs.declared.spot.Spot.{Spot}

-- ---- how much a turn may still do

-- a statement that is under way comes nearer to its end with each of its calls; a wait for a computation does so as its
-- trigger is armed
abbrev pub weight_of : UnderWay → ℕ
weight_of (Places trigger) = 5
weight_of (Awaits parts) = 4
weight_of (Awake trigger) = 3
weight_of (Attaches register comp trigger None) = 4
weight_of (Attaches register comp trigger (Some place)) = 3
weight_of (Follows register comp parts) = cond (parts.at == 9) 3 4

-- each statement and each round costs a step, each block that is left is one frame fewer, and a step enters two
-- frames at most
abbrev pub weight_at : Standing → ℕ
weight_at (Within block place way) = weight_of way
weight_at (At block place) = 2
weight_at (Out exit) = 1
weight_at _ = 0

abbrev pub weight : Shown → ℕ
weight body = weight_at body.standing + (5 * body.context.steps + 2 * length body.frames)

-- ---- moves without an entry

-- the body stands between two statements, at the exit of a block, or where its fiber is to end
abbrev pub IsBetween : Standing → Type 0
IsBetween (Within block place way) = ⊥
IsBetween Ended = ⊥
IsBetween _ = ⊤

-- whatever may come of where the body stands now, which is between two calls, may come of where it stood
pub record Goes (old new : Shown) : Type 0 where
  pub same : carry_of new ≡ carry_of old
  pub turns : (f : ℕ) → Turns (setting_of old f) (place_of old.context old.standing) (around_of old.standing old.frames) old.context
      (place_of new.context new.standing) (around_of new.standing new.frames) new.context
  pub between : IsBetween new.standing

-- ---- at a statement

-- the body stands before this statement
pub record IsAt (body : Shown) (spot : Spot) (one : Stmt) : Type 0 where
  pub at : body.standing ≡ At spot.block spot.place
  pub is : slice_get (block_at (script_in body.program).blocks spot.block) spot.place ≡ Some one
  pub within : spot.place + 1 < 2 ^ 32

-- the same, with a step left
pub record IsBefore (body : Shown) (spot : Spot) (one : Stmt) : Type 0 where
  pub here : IsAt body spot one
  pub steps : 0 < body.context.steps

-- where a body stands once the statement at this place has ended so
abbrev pub behind_at : Spot → Exit → Standing
behind_at spot Next = At spot.block (spot.place + 1)
behind_at spot exit = Out exit

-- the statements that cost a step as they begin
abbrev pub CostsStep : Stmt → Type 0
CostsStep (stmt.Loop block) = ⊥
CostsStep _ = ⊤

-- the statement has come to its end at once, by this exit, however many steps are left: registers and cells are what
-- it made of them, and nothing else has changed
pub record EndsAtOnce (old new : Shown) (one : Stmt) (exit : Exit) : Type 0 where
  pub registers : List ℕ
  pub cells : List ℕ
  pub is : new ≡ record old { context = record old.context { registers = registers; cells = cells } }
  pub costs : CostsStep one
  pub row : (numbers : Numbering) (n : ℕ) → settles (record old.context { steps = n }) (begins numbers (record old.context { steps = n }) one)
      ≡ Some (ends_by exit (record old.context { registers = registers; cells = cells; steps = n }))

-- the block that a test chooses, if there is one
abbrev pub chosen : Context → Operand → Test → Operand → ℕ → Option ℕ → Option ℕ
chosen c left test right then other = cond (holds test (value c left) (value c right)) (Some then) other

-- the statement is a test that chooses this block, however many steps are left
pub record ChoosesBlock (c : Context) (one : Stmt) (block : ℕ) : Type 0 where
  pub costs : CostsStep one
  pub row : (numbers : Numbering) (n : ℕ) → settles (record c { steps = n }) (begins numbers (record c { steps = n }) one) ≡ Some (goes_into block (record c { steps = n }))

abbrev pub IsNoTest : Stmt → Type 0
IsNoTest (stmt.If left test right then other) = ⊥
IsNoTest _ = ⊤

-- a check that doesn't come to its end at once is one of a fiber that is permitted to be told
abbrev pub IsTold : Bool → Stmt → Type 0
IsTold permitted stmt.Check = permitted ≡ true
IsTold permitted _ = ⊤

-- the statement has a call, or a block that isn't a test's
pub record IsWaiting (c : Context) (one : Stmt) : Type 0 where
  pub not_done : result c.registers c.cells one ≡ None
  pub no_test : IsNoTest one
  pub told : IsTold c.permitted one

-- the statement has a call, or several
abbrev pub HasCall : Context → Stmt → Type 0
HasCall c (stmt.Await trigger) = ⊤
HasCall c (stmt.Attach register comp trigger) = ⊤
HasCall c (stmt.Wait register comp) = ⊤
HasCall c one = (numbers : Numbering) → first numbers c one ≡ calls one

-- what comes of the statement at once
abbrev pub IsAtOnce : Shown → Shown → Stmt → AtOnce → Type 0
IsAtOnce old new one (Ends exit) = EndsAtOnce old new one exit
IsAtOnce old new one (Chooses block) = (new ≡ old) × ChoosesBlock old.context one block
IsAtOnce old new one Waits = (new ≡ old) × IsWaiting old.context one

-- the body stands at this place, and nothing comes at once of the statement there, where there is a step; or the block
-- is over
pub record IsLeft (script : Tree) (body : Shown) (spot : Spot) : Type 0 where
  pub at : body.standing ≡ At spot.block spot.place
  pub waits : (one : Stmt) → slice_get (block_at script.blocks spot.block) spot.place ≡ Some one → 0 < body.context.steps → IsWaiting body.context one

-- the body went on without a statement, and has less to do
pub record WentOn (old new : Shown) : Type 0 where
  pub goes : Goes old new
  pub lighter : weight new < weight old

-- ---- blocks

-- the body in a block, for which a step is spent: around it is the rest of the block at hand, and these frames within
-- that
abbrev pub entered : Shown → Spot → List Frame → ℕ → Shown
entered body spot exits block =
    stood (record body { frames = exits ++ Rest spot.block (spot.place + 1) ∷ body.frames }) (At block 0) (body.context.steps - 1)

-- the same, where the block is run under this, and the exit restores what was
abbrev pub entered_under : Shown → Spot → Under → ℕ → Shown
entered_under body spot u block =
    let inner = entered body spot (Restores (under body.context) ∷ []) block in record inner { context = standing_under u inner.context }

-- the body in a block that a test chose: where no statement stands behind the test, no frame is needed
abbrev pub branched : Shown → Spot → ℕ → Bool → Shown
branched body spot block true = stood body (At block 0) (body.context.steps - 1)
branched body spot block false = entered body spot [] block

-- the block that runs again, where the innermost block has ended so: the body of a loop, which has a step for it
abbrev pub round_of : Option Frame → Exit → ℕ → Option ℕ
round_of (Some (Repeats block)) Next steps = cond (nat_lt 0 steps) (Some block) None
round_of _ _ steps = None

-- the body behind a frame, where what was in it has ended so: a loop doesn't go round any more
abbrev pub passed : Shown → Frame → Exit → Shown
passed body (Rest block place) Next = stood body (At block place) body.context.steps
passed body (Repeats block) Next = stood body (Out Spent) body.context.steps
passed body (Repeats block) Broke = stood body (Out Next) body.context.steps
passed body (Catches register handler) (Raised code) =
    stood (record body { context = with_register body.context register code }) (At handler 0) body.context.steps
passed body (Restores u) exit = stood (record body { context = standing_under u body.context }) (Out exit) body.context.steps
passed body frame exit = stood body (Out exit) body.context.steps

-- ---- statements that look at a trigger first

-- how a wait begins, where the fiber is permitted to be told of a cancellation, or isn't
abbrev pub first_of_wait : Bool → ℕ → UnderWay
first_of_wait true trigger = Places trigger
first_of_wait false trigger = Awaits (record { trigger = Some trigger; place = None; second = None; at = 2 })

-- where it goes on once the trigger was seen so
abbrev pub seen_by_wait : Spot → Bool → ℕ → TrigState → Standing
seen_by_wait spot permitted trigger Initial = Within spot.block spot.place (first_of_wait permitted trigger)
seen_by_wait spot permitted trigger Signalled = behind_at spot Next
seen_by_wait spot permitted trigger (Awaiting action) = behind_at spot (Raised taken_already)

-- where it goes on once its place was made, if it was
abbrev pub placed_for_wait : Spot → ℕ → Option ℕ → Standing
placed_for_wait spot trigger (Some place) =
    Within spot.block spot.place (Awaits (record { trigger = Some trigger; place = Some place; second = None; at = 2 }))
placed_for_wait spot trigger None = behind_at spot (Raised limit_met)

-- the same of an attachment
abbrev pub placed_for_attachment : Spot → ℕ → ℕ → ℕ → Option ℕ → Standing
placed_for_attachment spot register comp trigger (Some place) = Within spot.block spot.place (Attaches register comp trigger (Some place))
placed_for_attachment spot register comp trigger None = behind_at spot (Raised limit_met)

-- how a wait ends
abbrev pub exit_of : Ahead → Exit
exit_of Go = Next
exit_of (Cancelled code) = Raised code

-- a wait for a computation of which nothing is made yet
abbrev pub unmade : Parts
unmade = record { trigger = None; place = None; second = None; at = 0 }

-- the trigger that is to be armed there, and where the fiber goes on behind the arming
abbrev pub arms_at : UnderWay → Option ℕ
arms_at (Awaits parts) = parts.trigger
arms_at (Follows register comp parts) = parts.trigger
arms_at way = None

abbrev pub behind_arming : UnderWay → ℕ → UnderWay
behind_arming (Awaits parts) trigger = Awake trigger
behind_arming (Follows register comp parts) trigger = Follows register comp (record parts { at = 9 })
behind_arming way trigger = way

-- the reply that made a place, or that says that there is no room for one
abbrev pub placed : Option ℕ → Reply
placed (Some place) = Made place
placed None = Full

-- ---- replies

-- the body once the statement at this place has come to this phase, which is its end
abbrev pub taken : Shown → Spot → Phase → Shown
taken body spot (ended exit c) = record body { standing = behind_at spot exit; context = c }
taken body spot phase = body
