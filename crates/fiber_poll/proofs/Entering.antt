-- Entering blocks and leaving them: what each makes of where a body stands.
use Rattle.std.proofs.Common.{◌≡◌, ◌≢◌, ℕ, ◌+◌, ◌-◌, ◌<◌, ◌≤◌, nat_lt, cond, Bool, true, false, Option, Some, None, List, [], ◌∷◌, length, slice_get, refl, sym, ap, subst, ◌∙◌, arith}
use Rattle.std.specs.Bool.{OnTrue}
use Rattle.std.proofs.lemmas.Bool.Decides.{nat_tests}
use Rattle.pic_machine.specs.declared.waits.Standing.{Standing as Under}
use Rattle.script_tree.specs.declared.program.Stmt.{Stmt}
use Rattle.script_tree.specs.declared.program.Stmt.TheVariants as stmt
use Rattle.fiber_body.specs.declared.standing.Exit.{Exit}
use Rattle.fiber_body.specs.declared.standing.Exit.TheVariants.{Next, Raised, Broke, Spent}
use Rattle.fiber_body.specs.declared.standing.Frame.{Frame}
use Rattle.fiber_body.specs.declared.standing.Frame.TheVariants.{Rest, Repeats, Catches, Restores}
use Rattle.fiber_body.specs.declared.standing.Standing.TheVariants.{At, Out, Ending}
use Rattle.fiber_body.specs.Around.{Turns, around_of, at_stmt, out, place_of, rest}
use Rattle.fiber_body.specs.Context.{Context, block_at, numbering, stepped}
use Rattle.fiber_body.specs.Fits.{setting_of}
use Rattle.fiber_body.specs.Framing.{begins_ahead, closes_ahead, end_ahead, ends_ahead, enters_ahead, goes_ahead, nothing_ahead, passes_ahead, rest_ahead, spent_ahead}
use Rattle.fiber_body.specs.Phases.{repeating, runs_under}
use Rattle.fiber_body.specs.Places.{at_place, past_end}
use Rattle.fiber_body.specs.Shown.{Shown, carry_of, stood}
use Rattle.fiber_body.specs.Statements.{begins}
use Rattle.fiber_body.specs.Tables.{catches, ends_by, ends_text, outcome_of, repeats, restores, settles}
use Rattle.fiber_body.specs.Texts.{script_in}
use Rattle.fiber_poll.specs.declared.spot.Spot.{Spot}
use Rattle.fiber_poll.specs.Moving.{ChoosesBlock, CostsStep, Goes, IsAt, IsBefore, IsBetween, branched, entered, entered_under, passed, round_of, weight}
use Rattle.fiber_poll.proofs.Moves.{before_on, behind, begun_goes, framed, goes_by, goes_trans, headed, round_row, same_blocks, stands_at}

-- ---- entering

module _ (a : Shown) (spot : Spot) where
  -- a test chose this block
  branch_goes : (one : Stmt) (block : ℕ) → IsBefore a spot one → ChoosesBlock a.context one block → Goes a (entered a spot [] block)
  branch_goes one block before chooses =
      begun_goes before chooses.costs refl tt (λ f. goes_ahead (setting_of a f) (rest spot.block (spot.place + 1) ∷ framed a.frames) (chooses.row (numbering (script_in a.program).decls) (a.context.steps - 1)))

  -- where it is the last statement of its block, no frame is needed
  branched_goes : (one : Stmt) (block : ℕ) (last : Bool) → IsBefore a spot one → ChoosesBlock a.context one block → OnTrue last (slice_get (block_at (script_in a.program).blocks spot.block) (spot.place + 1) ≡ None)
      → Goes a (branched a spot block last)
  branched_goes one block true before chooses over =
      goes_trans a (entered a spot [] block) (stood a (At block 0) (a.context.steps - 1)) (branch_goes one block before chooses) (goes_by (At block 0) refl refl tt
      (λ f. let s = setting_of a f in nothing_ahead s (at_stmt block 0) spot.block (spot.place + 1) (framed a.frames) (stepped a.context) (past_end (block_at s.script.blocks spot.block) (spot.place + 1) over)))
  branched_goes one block false before chooses over = branch_goes one block before chooses

  pub loop_goes : (block : ℕ) → IsBefore a spot (stmt.Loop block) → Goes a (entered a spot (Repeats block ∷ []) block)
  loop_goes block before = goes_by (At spot.block spot.place) before.here.at refl tt (λ f tail y e ahead. let s = setting_of a f in
      begins_ahead s (stmt.Loop block) spot.block spot.place (framed a.frames) a.context (at_place (block_at s.script.blocks spot.block) spot.place (stmt.Loop block) before.here.is) tt tail y e
      (enters_ahead s (rest spot.block (spot.place + 1) ∷ framed a.frames) (round_row block a.context before.steps) tail y e ahead))

  pub try_goes : (block register handler : ℕ) → IsBefore a spot (stmt.Try block register handler) → Goes a (entered a spot (Catches register handler ∷ []) block)
  try_goes block register handler before = begun_goes before tt refl tt (λ f. enters_ahead (setting_of a f) (rest spot.block (spot.place + 1) ∷ framed a.frames) refl)

  -- a block is run under this
  pub under_goes : (one : Stmt) (u : Under) (block : ℕ) → IsBefore a spot one → CostsStep one → begins (numbering (script_in a.program).decls) (stepped a.context) one ≡ runs_under u block → Goes a (entered_under a spot u block)
  under_goes one u block before costs is =
      begun_goes before costs refl tt (λ f. enters_ahead (setting_of a f) (rest spot.block (spot.place + 1) ∷ framed a.frames) (ap (settles (stepped a.context)) is))

  -- no step is left
  pub spent_goes : (one : Stmt) → IsAt a spot one → a.context.steps ≡ 0 → Goes a (stood a (Out Spent) 0)
  spent_goes (stmt.Loop block) here none =
      let c : Context = record a.context { steps = 0 } in
      subst (λ (z : Shown). Goes z (stood a (Out Spent) 0)) (sym (stands_at a (At spot.block spot.place) here.at ∙ ap (stood a (At spot.block spot.place)) none)) (record {
        same = refl;
        turns = λ f tail y e ahead. let s = setting_of a f in
            begins_ahead s (stmt.Loop block) spot.block spot.place (framed a.frames) c (at_place (block_at s.script.blocks spot.block) spot.place (stmt.Loop block) here.is) tt tail y e
            (ends_ahead s (rest spot.block (spot.place + 1) ∷ framed a.frames) refl tail y e (behind s spot a.frames Spent c tail y e ahead));
        between = tt;
      })
  spent_goes one here none =
      let c : Context = record a.context { steps = 0 } in
      subst (λ (z : Shown). Goes z (stood a (Out Spent) 0)) (sym (stands_at a (At spot.block spot.place) here.at ∙ ap (stood a (At spot.block spot.place)) none)) (record {
        same = refl;
        turns = λ f. let s = setting_of a f in
            spent_ahead s one spot.block spot.place (framed a.frames) c (at_place (block_at s.script.blocks spot.block) spot.place one here.is) refl;
        between = tt;
      })

-- a test behind a run of statements chose a block
module _ (old a : Shown) (block place n : ℕ) (goes : Goes old (stood a (At block place) n)) where
  pub branch_on : (b : Shown) (stmts : List Stmt) (one : Stmt) (inner : ℕ) (last : Bool) → stmts ≡ block_at (script_in old.program).blocks block → length stmts ≤ 10000 → slice_get stmts place ≡ Some one → 0 < n
      → ChoosesBlock a.context one inner → OnTrue last (slice_get stmts (place + 1) ≡ None) → b ≡ branched (stood a (At block place) n) (record { block = block; place = place }) inner last
      → Goes old b
  branch_on b stmts one inner last are few there some chooses over is =
      let here = stood a (At block place) n in
      let spot : Spot = record { block = block; place = place } in
      let ends = subst (λ (ss : List Stmt). OnTrue last (slice_get ss (place + 1) ≡ None)) (same_blocks old a block place n goes stmts are) over in
      let before = before_on old a block place n goes stmts one are few there some in
      subst (Goes old) (sym is)
      (goes_trans old here (branched here spot inner last) goes (branched_goes here spot one inner last before (record { costs = chooses.costs; row = chooses.row }) ends))

-- the body stands at the beginning of the block then, with a step fewer and less to do
pub branched_stands : (a : Shown) (spot : Spot) (block : ℕ) (last : Bool) → branched a spot block last ≡ stood (branched a spot block last) (At block 0) (a.context.steps - 1)
branched_stands a spot block true = refl
branched_stands a spot block false = refl

pub branched_lighter : (a : Shown) (spot : Spot) (block : ℕ) (last : Bool) (from place n : ℕ) → 0 < n → weight (branched (stood a (At from place) n) spot block last) < weight (stood a (At from place) n)
branched_lighter a spot block true from place n some = omega (arith, some)
branched_lighter a spot block false from place n some = omega (arith, some)

-- a block has come to its end
pub end_goes : (a : Shown) (block place : ℕ) → a.standing ≡ At block place → slice_get (block_at (script_in a.program).blocks block) place ≡ None → Goes a (stood a (Out Next) a.context.steps)
end_goes a block place at past = goes_by (At block place) at refl tt (λ f. let s = setting_of a f in
    end_ahead s block place (framed a.frames) a.context (past_end (block_at s.script.blocks block) place past))

-- ---- leaving

-- the text is left
pub text_goes : (a : Shown) (x : Exit) → a.standing ≡ Out x → a.frames ≡ [] → Goes a (stood a (Ending (outcome_of x a.context)) a.context.steps)
text_goes a x at none = goes_by (Out x) at refl tt (λ f. let s = setting_of a f in
    subst (λ (frames : List Frame). Turns s (out x) (framed frames) a.context (place_of a.context (Ending (outcome_of x a.context))) [] a.context) (sym none) (closes_ahead s ends_text [] x a.context))

-- a loop goes round
pub again_goes : (a : Shown) (block : ℕ) → a.standing ≡ Out Next → slice_get a.frames 0 ≡ Some (Repeats block) → 0 < a.context.steps → Goes a (stood a (At block 0) (a.context.steps - 1))
again_goes a block at first some =
    let found = headed a.frames (Repeats block) first in
    goes_by (Out Next) at refl tt (λ f. let s = setting_of a f in
    subst (λ (frames : List Frame). Turns s (out Next) (framed frames) a.context (at_stmt block 0) (framed frames) (stepped a.context)) (sym found.1)
    (λ tail y e ahead. closes_ahead s (repeats block) (framed found.0) Next a.context tail y e (enters_ahead s (framed found.0) (round_row block a.context some) tail y e ahead)))

no_round : (block : ℕ) (n : ℕ) (c : Context) → n ≡ 0 → c.steps ≡ n → settles c (repeating block Next) ≡ Some (ends_by Spent c)
no_round block n c none is = let steps : nat_lt 0 c.steps ≡ false = grind (arith, nat_tests, none, is) in rw steps refl

-- a frame is passed
module _ (a : Shown) (outer : List Frame) where
  abbrev v : Exit → Frame → Shown
  v x frame = stood (record a { frames = frame ∷ outer }) (Out x) a.context.steps

  abbrev w : Frame → Exit → Shown
  w frame x = passed (record a { frames = outer }) frame x

  closed : (frame : Frame) (x : Exit) (b : Shown) → carry_of b ≡ carry_of a → ((f : ℕ) → Turns (setting_of a f) (out x) (framed (frame ∷ outer)) a.context (place_of b.context b.standing) (around_of b.standing b.frames) b.context) → IsBetween b.standing → Goes (v x frame) b
  closed frame x b same turns between = record { same = same; turns = turns; between = between }

  repeats_goes : (block : ℕ) (x : Exit) → (x ≡ Next → a.context.steps ≡ 0) → Goes (v x (Repeats block)) (w (Repeats block) x)
  repeats_goes block Next none = closed (Repeats block) Next (w (Repeats block) Next) refl (λ f tail y e ahead. let s = setting_of a f in
      closes_ahead s (repeats block) (framed outer) Next a.context tail y e (ends_ahead s (framed outer) (no_round block a.context.steps a.context (none refl) refl) tail y e ahead)) tt
  repeats_goes block Broke none = closed (Repeats block) Broke (w (Repeats block) Broke) refl (λ f tail y e ahead. let s = setting_of a f in
      closes_ahead s (repeats block) (framed outer) Broke a.context tail y e (ends_ahead s (framed outer) refl tail y e ahead)) tt
  repeats_goes block x none = closed (Repeats block) x (w (Repeats block) x) refl (λ f tail y e ahead. let s = setting_of a f in
      closes_ahead s (repeats block) (framed outer) x a.context tail y e (ends_ahead s (framed outer) refl tail y e ahead)) tt

  catches_goes : (register handler : ℕ) (x : Exit) → Goes (v x (Catches register handler)) (w (Catches register handler) x)
  catches_goes register handler (Raised code) = closed (Catches register handler) (Raised code) (w (Catches register handler) (Raised code)) refl (λ f tail y e ahead. let s = setting_of a f in
      closes_ahead s (catches register handler) (framed outer) (Raised code) a.context tail y e (goes_ahead s (framed outer) refl tail y e ahead)) tt
  catches_goes register handler x = closed (Catches register handler) x (w (Catches register handler) x) refl (λ f tail y e ahead. let s = setting_of a f in
      closes_ahead s (catches register handler) (framed outer) x a.context tail y e (ends_ahead s (framed outer) refl tail y e ahead)) tt

  restores_goes : (u : Under) (x : Exit) → Goes (v x (Restores u)) (w (Restores u) x)
  restores_goes u x = closed (Restores u) x (w (Restores u) x) refl (λ f tail y e ahead. let s = setting_of a f in
      closes_ahead s (restores u) (framed outer) x a.context tail y e (ends_ahead s (framed outer) refl tail y e ahead)) tt

  rest_goes : (block place : ℕ) (x : Exit) → Goes (v x (Rest block place)) (w (Rest block place) x)
  rest_goes block place Next = closed (Rest block place) Next (w (Rest block place) Next) refl (λ f. rest_ahead (setting_of a f) block place (framed outer) a.context) tt
  rest_goes block place x = closed (Rest block place) x (w (Rest block place) x) refl (λ f. passes_ahead (setting_of a f) block place (framed outer) x a.context (λ q. cc)) tt

  pub pass_goes : (frame : Frame) (x : Exit) → (x ≡ Next → (block : ℕ) → frame ≡ Repeats block → a.context.steps ≡ 0) → Goes (v x frame) (w frame x)
  pass_goes (Repeats block) x none = repeats_goes block x (λ is. none is block refl)
  pass_goes (Catches register handler) x none = catches_goes register handler x
  pass_goes (Restores u) x none = restores_goes u x
  pass_goes (Rest block place) x none = rest_goes block place x

-- ---- which loop goes round

pub not_some : (o : Option ℕ) → ((n : ℕ) → o ≢ Some n) → o ≡ None
not_some None none = refl
not_some (Some n) none = absurd (none n refl)

again_by : (t : Bool) (b n block : ℕ) → nat_lt 0 n ≡ t → cond t (Some b) None ≡ Some block → (b ≡ block) × (0 < n)
again_by true b n block is some = (cc, grind (arith, nat_tests, is))
again_by false b n block is some = absurd cc

pub goes_round : (o : Option Frame) (x : Exit) (n block : ℕ) → round_of o x n ≡ Some block → (x ≡ Next) × (o ≡ Some (Repeats block)) × (0 < n)
goes_round (Some (Repeats b)) Next n block some = let by = again_by (nat_lt 0 n) b n block refl some in (refl, ap (λ (k : ℕ). Some (Repeats k)) by.0, by.1)
goes_round o x n block some = absurd cc

stays_by : (t : Bool) (b n : ℕ) → nat_lt 0 n ≡ t → cond t (Some b) None ≡ None → n ≡ 0
stays_by true b n is none = absurd cc
stays_by false b n is none = grind (arith, nat_tests, is)

pub stays : (o : Option Frame) (x : Exit) (n : ℕ) → round_of o x n ≡ None → x ≡ Next → (block : ℕ) → o ≡ Some (Repeats block) → n ≡ 0
stays (Some (Repeats b)) Next n none next block is = stays_by (nat_lt 0 n) b n refl none
stays o x n none next block is = absurd cc

-- the frame that is passed was taken away
pub passed_goes : (a : Shown) (x : Exit) (frame : Frame) (outer : List Frame) → a.standing ≡ Out x → a.frames ≡ frame ∷ outer → round_of (slice_get a.frames 0) x a.context.steps ≡ None
    → Goes a (passed (record a { frames = outer }) frame x)
passed_goes a x frame outer at is none =
    let there : a ≡ stood (record a { frames = frame ∷ outer }) (Out x) a.context.steps = stands_at a (Out x) at ∙ ap (λ (fs : List Frame). stood (record a { frames = fs }) (Out x) a.context.steps) is in
    let first : slice_get a.frames 0 ≡ Some frame = ap (λ (fs : List Frame). slice_get fs 0) is in
    subst (λ (z : Shown). Goes z (passed (record a { frames = outer }) frame x)) (sym there)
    (pass_goes a outer frame x (λ next block same. stays (slice_get a.frames 0) x a.context.steps none next block (first ∙ ap Some same)))
