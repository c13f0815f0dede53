-- A walk: statements go on by given replies, and what comes of it is a segment of theirs.
use Rattle.std.proofs.Common.{◌≡◌, ◌≢◌, ℕ, zero, suc, ◌<◌, nat_lt, Bool, true, false, List, [], ◌∷◌, ◌++◌, Option, Some, None, refl, subst, arith}
use Rattle.std.proofs.lemmas.Bool.Decides.{nat_tests}
use Rattle.pic_machine.specs.declared.entry.Call.{Call}
use Rattle.pic_machine.specs.declared.entry.Reply.{Reply}
use Rattle.pic_machine.specs.Happened.{Happened}
use Rattle.script_tree.specs.declared.program.Stmt.{Stmt}
use Rattle.script_tree.specs.declared.program.Stmt.TheVariants as stmt
use Rattle.fiber_body.specs.declared.standing.Exit.TheVariants.{Next, Spent}
use Rattle.fiber_body.specs.Context.{Context, Setting, block_at}
use Rattle.fiber_body.specs.Phases.{Phase}
use Rattle.fiber_body.specs.Segments.{Acts, CanBegin, Extent, IsSpent, Runs, and_more, and_out, at, beginning, begun, between, cut, ends_so, finished, goes, happens, leaves_it, makes, no_step_left, rests, stops, stops_inside, whole}
use Rattle.fiber_body.specs.Statements.{born}
use Rattle.fiber_body.specs.Tables.{Settled, Work, asks, closing, encloses, ends_by, goes_into, leads, settles}

-- what a walk comes by, how far it gets and the context there, the replies that are left over, and that all this is a segment
pub record Walk (Segment : List Happened → Extent → Context → Type 0) : Type 0 where
  pub log : List Happened
  pub extent : Extent
  pub context : Context
  pub left : List Reply
  pub is : Segment log extent context

abbrev walk : {Segment : List Happened → Extent → Context → Type 0} (log : List Happened) (y : Extent) (d : Context) (rs : List Reply) → Segment log y d → Walk Segment
walk log y d rs is = record { log = log; extent = y; context = d; left = rs; is = is }

-- ---- whether there is a step

abbrev can_begin : Stmt → Context → Bool
can_begin (stmt.Loop block) c = true
can_begin one c = nat_lt 0 c.steps

some_step : (n : ℕ) → nat_lt 0 n ≡ true → 0 < n
some_step n is = grind (arith, nat_tests, is)

no_step : (n : ℕ) → nat_lt 0 n ≡ false → n ≡ 0
no_step n is = grind (arith, nat_tests, is)

pub begins_by : (one : Stmt) (c : Context) → can_begin one c ≡ true → CanBegin one c
begins_by (stmt.Loop block) c is = tt
begins_by one c is = some_step c.steps is

pub spent_by : (one : Stmt) (c : Context) → can_begin one c ≡ false → IsSpent one c
spent_by (stmt.Loop block) c is = absurd cc
spent_by one c is = no_step c.steps is

-- ---- whether what follows is begun

abbrev is_next : Extent → Bool
is_next (whole Next) = true
is_next y = false

pub apart : (y : Extent) → is_next y ≡ false → y ≢ whole Next
apart y other is = let both : true ≡ false = subst (λ (z : Extent). is_next z ≡ false) is other in absurd cc

module _ (s : Setting) where
  abbrev Act : Type 0
  Act = (p : Phase) (c : Context) → List Reply → Walk (Acts s p c)

  abbrev Run : Type 0
  Run = (ss : List Stmt) (c : Context) → List Reply → Walk (Runs s ss c)

  -- ---- what is left of a statement: it settles, or its call gets the next reply

  module _ (act : Act) (run : Run) where
    abbrev replied_to : (p : Phase) (c : Context) (r : Reply) (rs : List Reply) (call : Option Call) (next : Option Phase) → asks s c p ≡ call → leads c p r ≡ next → Walk (Acts s p c)
    replied_to p c r rs (Some call) (Some q) asked led = let w = act q c rs in walk (happens s.fiber call r (born c call) ∷ w.log) w.extent w.context w.left (makes call r asked led w.is)
    replied_to p c r rs (Some call) None asked led = walk [] (cut (at p)) c (r ∷ rs) stops
    replied_to p c r rs None next asked led = walk [] (cut (at p)) c (r ∷ rs) stops

    abbrev asking : (p : Phase) (c : Context) → List Reply → Walk (Acts s p c)
    asking p c [] = walk [] (cut (at p)) c [] stops
    asking p c (r ∷ rs) = replied_to p c r rs (asks s c p) (leads c p r) refl refl

    abbrev left_so : (p : Phase) (c : Context) (k : Work) (b : ℕ) (d : Context) → settles c p ≡ Some (encloses k b d)
        → (xs : List Happened) (y : Extent) (e : Context) → List Reply → Runs s (block_at s.script.blocks b) d xs y e → Walk (Acts s p c)
    left_so p c k b d row xs (cut there) e rs runs = walk xs (cut there) e rs (stops_inside row runs)
    left_so p c k b d row xs (whole x) e rs runs = let w = act (closing k x e) e rs in walk (xs ++ w.log) w.extent w.context w.left (leaves_it row runs w.is)

    abbrev settling : (p : Phase) (c : Context) → List Reply → (settled : Option Settled) → settles c p ≡ settled → Walk (Acts s p c)
    settling p c rs None row = asking p c rs
    settling p c rs (Some (ends_by x d)) row = walk [] (whole x) d rs (ends_so row)
    settling p c rs (Some (goes_into b d)) row = let w = run (block_at s.script.blocks b) d rs in walk w.log w.extent w.context w.left (goes row w.is)
    settling p c rs (Some (encloses k b d)) row = let w = run (block_at s.script.blocks b) d rs in left_so p c k b d row w.log w.extent w.context w.left w.is

    abbrev acting : Act
    acting p c rs = settling p c rs (settles c p) refl

  -- ---- a list of statements

  module _ (act : Act) where
    abbrev going_on : (one : Stmt) (ss : List Stmt) (c : Context) → ((d : Context) → List Reply → Walk (Runs s ss d)) → CanBegin one c
        → (xs : List Happened) (y : Extent) (d : Context) → List Reply → Acts s (beginning s c one) (begun one c) xs y d → Walk (Runs s (one ∷ ss) c)
    going_on one ss c more can xs (whole Next) d rs acts = let w = more d rs in walk (xs ++ w.log) w.extent w.context w.left (and_more can acts w.is)
    going_on one ss c more can xs y d rs acts = walk xs y d rs (and_out can acts (apart y refl))

    abbrev starting : (one : Stmt) (ss : List Stmt) (c : Context) → ((d : Context) → List Reply → Walk (Runs s ss d)) → List Reply → (can : Bool) → can_begin one c ≡ can → Walk (Runs s (one ∷ ss) c)
    starting one ss c more rs true can = let w = act (beginning s c one) (begun one c) rs in going_on one ss c more (begins_by one c can) w.log w.extent w.context w.left w.is
    starting one ss c more rs false can = walk [] (whole Spent) c rs (no_step_left (spent_by one c can))

    abbrev running : Run
    running [] c rs = walk [] (whole Next) c rs finished
    running (one ∷ ss) c rs = starting one ss c (running ss) rs (can_begin one c) refl

  -- ---- so deep at most, with rounds of loops and entries one behind the other counted as depth

  pub record Walker : Type 0 where
    pub act : Act
    pub run : Run

  abbrev pub walker : ℕ → Walker
  walker zero = record { act = λ p c rs. walk [] (cut (at p)) c rs stops; run = λ ss c rs. walk [] (cut between) c rs rests }
  walker (suc n) = let deeper = walker n in let act : Act = acting deeper.act deeper.run in record { act = act; run = running act }
