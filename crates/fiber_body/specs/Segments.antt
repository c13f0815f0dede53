-- Which segments of its own log a fiber leaves by what is left of a statement, and by a list of statements.
use Rattle.std.specs.Prelude.{◌≡◌, ◌≢◌, ℕ, ◌<◌, false, List, [], ◌∷◌, ◌++◌, Option, Some, None, ⊤}
use Rattle.pic_machine.specs.declared.birth.Birth.{Birth}
use Rattle.pic_machine.specs.declared.entry.Call.{Call}
use Rattle.pic_machine.specs.declared.entry.Reply.{Reply}
use Rattle.pic_machine.specs.declared.entry.Reply.TheVariants.{Made}
use Rattle.pic_machine.specs.Happened.{Happened}
use Rattle.script_tree.specs.declared.program.Stmt.{Stmt}
use Rattle.script_tree.specs.declared.program.Stmt.TheVariants as stmt
use Rattle.fiber_body.specs.declared.standing.Exit.{Exit}
use Rattle.fiber_body.specs.declared.standing.Exit.TheVariants.{Next, Spent}
use Rattle.fiber_body.specs.Context.{Context, Setting, block_at, numbering, stepped}
use Rattle.fiber_body.specs.Phases.{Phase}
use Rattle.fiber_body.specs.Statements.{begins, born}
use Rattle.fiber_body.specs.Tables.{Work, asks, closing, encloses, ends_by, goes_into, leads, settles}

-- ---- entries

-- beside a number that was made stands the birth that belongs to it
abbrev pub beside : Option Birth → Reply → Option Birth
beside (Some birth) (Made n) = Some birth
beside _ _ = None

-- an entry of a fiber that owes nothing, with this birth where it made a fiber
abbrev pub happens : ℕ → Call → Reply → Option Birth → Happened
happens f call reply birth = record {
  entry = record { fiber = f; call = call; reply = reply };
  birth = beside birth reply;
  owing = false;
}

-- ---- where segments stop

-- between two statements, or within one
pub data Stop : Type 0 where
  between : Stop
  at : Phase → Stop

-- a segment is whole, and ends so; or it is cut there, with the context that is there
pub data Extent : Type 0 where
  whole : Exit → Extent
  cut : Stop → Extent

-- ---- steps

-- each statement costs a step as it begins, but a loop, of which each beginning of the body does
abbrev pub CanBegin : Stmt → Context → Type 0
CanBegin (stmt.Loop block) c = ⊤
CanBegin one c = 0 < c.steps

abbrev pub begun : Stmt → Context → Context
begun (stmt.Loop block) c = c
begun one c = stepped c

abbrev pub IsSpent : Stmt → Context → Type 0
IsSpent (stmt.Loop block) c = ⊥
IsSpent one c = c.steps ≡ 0

-- where the statement begins, once its step is made
abbrev pub beginning : Setting → Context → Stmt → Phase
beginning s c one = begins (numbering s.script.decls) (begun one c) one

-- ---- segments

mutual
  -- what is left of a statement, from this phase and context on: the segment that it leaves, how far that
  -- goes, and the context there
  pub data Acts (s : Setting) : Phase → Context → List Happened → Extent → Context → Type 0 where
    stops : {p : Phase} {c : Context} → Acts s p c [] (cut (at p)) c
    makes : {p q : Phase} {c d : Context} {xs : List Happened} {y : Extent} (call : Call) (reply : Reply)
        → asks s c p ≡ Some call → leads c p reply ≡ Some q → Acts s q c xs y d
        → Acts s p c (happens s.fiber call reply (born c call) ∷ xs) y d
    ends_so : {p : Phase} {c d : Context} {x : Exit} → settles c p ≡ Some (ends_by x d) → Acts s p c [] (whole x) d
    goes : {p : Phase} {c d e : Context} {b : ℕ} {xs : List Happened} {y : Extent}
        → settles c p ≡ Some (goes_into b d) → Runs s (block_at s.script.blocks b) d xs y e → Acts s p c xs y e
    stops_inside : {p : Phase} {c d e : Context} {k : Work} {b : ℕ} {xs : List Happened} {there : Stop}
        → settles c p ≡ Some (encloses k b d) → Runs s (block_at s.script.blocks b) d xs (cut there) e
        → Acts s p c xs (cut there) e
    leaves_it : {p : Phase} {c d e g : Context} {k : Work} {b : ℕ} {xs ys : List Happened} {x : Exit} {y : Extent}
        → settles c p ≡ Some (encloses k b d) → Runs s (block_at s.script.blocks b) d xs (whole x) e
        → Acts s (closing k x e) e ys y g → Acts s p c (xs ++ ys) y g

  -- a list of statements: one after the other, up to the first that doesn't go on, or for which no step is
  -- left
  pub data Runs (s : Setting) : List Stmt → Context → List Happened → Extent → Context → Type 0 where
    finished : {c : Context} → Runs s [] c [] (whole Next) c
    rests : {ss : List Stmt} {c : Context} → Runs s ss c [] (cut between) c
    no_step_left : {one : Stmt} {ss : List Stmt} {c : Context} → IsSpent one c → Runs s (one ∷ ss) c [] (whole Spent) c
    and_more : {one : Stmt} {ss : List Stmt} {c d e : Context} {xs ys : List Happened} {y : Extent} → CanBegin one c
        → Acts s (beginning s c one) (begun one c) xs (whole Next) d → Runs s ss d ys y e
        → Runs s (one ∷ ss) c (xs ++ ys) y e
    and_out : {one : Stmt} {ss : List Stmt} {c d : Context} {xs : List Happened} {y : Extent} → CanBegin one c
        → Acts s (beginning s c one) (begun one c) xs y d → y ≢ whole Next → Runs s (one ∷ ss) c xs y d
