-- Statements that come to their end at once, and rounds of a loop: what each makes of where a body stands.
use Rattle.std.proofs.Common.{◌≡◌, ℕ, ◌+◌, ◌-◌, ◌^◌, ◌<◌, ◌≤◌, nat_lt, Bool, true, false, cond, Option, Some, None, List, [], ◌∷◌, ◌++◌, length, map, slice_get, refl, sym, ap, subst, ◌∙◌, arith}
use Rattle.std.specs.Prelude.{IfSome}
use Rattle.std.proofs.lemmas.Bool.Decides.{nat_tests}
use Rattle.std.proofs.lemmas.Option.{slice_get_within}
use Rattle.pic_machine.specs.Sight.{Carry}
use Rattle.script_tree.specs.declared.program.Operand.{Operand}
use Rattle.script_tree.specs.declared.program.Stmt.{Stmt}
use Rattle.script_tree.specs.declared.program.Stmt.TheVariants as stmt
use Rattle.script_tree.specs.declared.program.Test.{Test}
use Rattle.script_tree.specs.Tree.{Tree}
use Rattle.fiber_body.specs.declared.standing.Exit.{Exit}
use Rattle.fiber_body.specs.declared.standing.Exit.TheVariants.{Next}
use Rattle.fiber_body.specs.declared.standing.Frame.{Frame}
use Rattle.fiber_body.specs.declared.standing.Frame.TheVariants.{Repeats, Rest}
use Rattle.fiber_body.specs.declared.standing.Standing.{Standing}
use Rattle.fiber_body.specs.declared.standing.Standing.TheVariants.{At}
use Rattle.fiber_body.specs.Around.{Outer, Turns, around_of, at_stmt, out, outer_of, place_of, rest, within, work}
use Rattle.fiber_body.specs.Context.{Context, Setting, block_at, numbering, stepped}
use Rattle.fiber_body.specs.Fits.{setting_of}
use Rattle.fiber_body.specs.Framing.{begins_ahead, closes_ahead, end_ahead, ends_ahead, enters_ahead, passes_ahead, rest_ahead}
use Rattle.fiber_body.specs.Phases.{branches, calls, goes_on, repeating}
use Rattle.fiber_body.specs.Places.{at_place, past_end}
use Rattle.fiber_body.specs.Shown.{IsChanged, IsPopped, Shown, carry_of, stood}
use Rattle.fiber_body.specs.Statements.{Effect, begins, or_first, result}
use Rattle.fiber_body.specs.Tables.{encloses, ends_by, ends_text, repeats, settles}
use Rattle.fiber_body.specs.Texts.{script_in}
use Rattle.fiber_poll.specs.declared.spot.Spot.{Spot}
use Rattle.fiber_poll.specs.Moving.{CostsStep, EndsAtOnce, Goes, IsBefore, IsBetween, WentOn, behind_at, chosen}

-- what is around these frames, within a text
abbrev pub framed : List Frame → List Outer
framed frames = map outer_of frames ++ work ends_text ∷ []

-- the body, where its place is known
pub stands_at : (a : Shown) (there : Standing) → a.standing ≡ there → a ≡ stood a there a.context.steps
stands_at a there is = ap (λ (st : Standing). record a { standing = st }) is

-- ---- moves, one after the other

pub goes_none : (a : Shown) → IsBetween a.standing → Goes a a
goes_none a between = record { same = refl; turns = λ f tail y d ahead. ahead; between = between }

pub goes_trans : (a b c : Shown) → Goes a b → Goes b c → Goes a c
goes_trans a b c one two = record {
  same = two.same ∙ one.same;
  turns = λ f tail y d ahead. one.turns f tail y d
      (subst (λ (q : Option Tree). Turns (record { fiber = f; script = script_in q }) (place_of b.context b.standing) (around_of b.standing b.frames) b.context (place_of c.context c.standing) (around_of c.standing c.frames) c.context)
      (ap (λ (c : Carry (Option Tree)). c.share) one.same) (two.turns f) tail y d ahead);
  between = two.between;
}

-- ---- a statement at its place

module _ (s : Setting) (spot : Spot) (frames : List Frame) where
  abbrev IsThere : Stmt → Type 0
  IsThere one = slice_get (block_at s.script.blocks spot.block) spot.place ≡ Some one

  -- it begins with a step
  pub costly : (one : Stmt) (c : Context) → CostsStep one → IsThere one → 0 < c.steps
      → Turns s (at_stmt spot.block spot.place) (framed frames) c (within (begins (numbering s.script.decls) (stepped c) one)) (rest spot.block (spot.place + 1) ∷ framed frames) (stepped c)
  costly (stmt.Loop block) c costs there some = absurd costs
  costly one c costs there some = begins_ahead s one spot.block spot.place (framed frames) c (at_place (block_at s.script.blocks spot.block) spot.place one there) some

  -- it has ended
  pub behind : (x : Exit) (c : Context) → Turns s (out x) (rest spot.block (spot.place + 1) ∷ framed frames) c (place_of c (behind_at spot x)) (around_of (behind_at spot x) frames) c
  behind Next c = rest_ahead s spot.block (spot.place + 1) (framed frames) c
  behind x c = passes_ahead s spot.block (spot.place + 1) (framed frames) x c (λ q. cc)

pub behind_between : (spot : Spot) (x : Exit) → IsBetween (behind_at spot x)
behind_between spot Next = tt
behind_between spot x = tt

-- a body that stands there goes where each fiber turns to
pub goes_by : {a b : Shown} (there : Standing) → a.standing ≡ there → carry_of b ≡ carry_of a → IsBetween b.standing
    → ((f : ℕ) → Turns (setting_of a f) (place_of a.context there) (around_of there a.frames) a.context (place_of b.context b.standing) (around_of b.standing b.frames) b.context) → Goes a b
goes_by {a} {b} there is same between turns = subst (λ (x : Shown). Goes x b) (sym (stands_at a there is)) (record { same = same; turns = turns; between = between })

-- the same of one that stands before a statement, which begins with a step
pub begun_goes : {a b : Shown} {spot : Spot} {one : Stmt} → IsBefore a spot one → CostsStep one → carry_of b ≡ carry_of a → IsBetween b.standing
    → ((f : ℕ) → Turns (setting_of a f) (within (begins (numbering (script_in a.program).decls) (stepped a.context) one)) (rest spot.block (spot.place + 1) ∷ framed a.frames) (stepped a.context) (place_of b.context b.standing) (around_of b.standing b.frames) b.context)
    → Goes a b
begun_goes {a} {spot = spot} {one = one} before costs same between turns = goes_by (At spot.block spot.place) before.here.at same between
    (λ f tail y e ahead. costly (setting_of a f) spot a.frames one a.context costs before.here.is before.steps tail y e (turns f tail y e ahead))

-- and comes to its end at once
pub ends_goes : {a : Shown} {spot : Spot} {one : Stmt} (x : Exit) (b : Shown) → IsBefore a spot one → CostsStep one → carry_of b ≡ carry_of a → settles (stepped a.context) (begins (numbering (script_in a.program).decls) (stepped a.context) one) ≡ Some (ends_by x b.context)
    → Goes a (record b { standing = behind_at spot x; frames = a.frames })
ends_goes {a} {spot} {one} x b before costs same row = begun_goes before costs same (behind_between spot x) (λ f tail y e ahead. let s = setting_of a f in
    ends_ahead s (rest spot.block (spot.place + 1) ∷ framed a.frames) row tail y e (behind s spot a.frames x b.context tail y e ahead))

pub at_once_goes : (a b : Shown) (spot : Spot) (n : ℕ) (one : Stmt) (x : Exit) → IsBefore (stood a (At spot.block spot.place) n) spot one → EndsAtOnce a b one x
    → Goes (stood a (At spot.block spot.place) n) (stood b (behind_at spot x) (n - 1))
at_once_goes a b spot n one x before ends =
    subst (λ (z : Shown). Goes (stood a (At spot.block spot.place) n) (stood z (behind_at spot x) (n - 1))) (sym ends.is)
    (ends_goes x (record a { context = record a.context { registers = ends.registers; cells = ends.cells; steps = n - 1 } }) before ends.costs refl (ends.row (numbering (script_in a.program).decls) (n - 1)))

-- ---- which statements do

costs_step : (registers cells : List ℕ) (one : Stmt) (e : Effect) → result registers cells one ≡ Some e → CostsStep one
costs_step registers cells (stmt.Loop block) e is = absurd cc
costs_step registers cells _ e is = tt

module _ (a b : Shown) (one : Stmt) where
  -- one that changes registers and storage alone
  pub changed_at_once : (r : Option Effect) (answer : Option Exit) → result a.context.registers a.context.cells one ≡ r → IsChanged r a b answer → IfSome answer (EndsAtOnce a b one)
  changed_at_once None answer is none = subst (λ (o : Option Exit). IfSome o (EndsAtOnce a b one)) (sym none.0) tt
  changed_at_once (Some e) answer is some = subst (λ (o : Option Exit). IfSome o (EndsAtOnce a b one)) (sym some.0) (record {
    registers = e.registers;
    cells = e.cells;
    is = some.1;
    costs = costs_step a.context.registers a.context.cells one e is;
    row = λ numbers n. let c : Context = record a.context { steps = n } in ap (λ (r : Option Effect). settles c (or_first numbers c one r)) is;
  })

  pub unchanged : (r : Option Effect) (answer : Option Exit) → IsChanged r a b answer → answer ≡ None → (b ≡ a) × (r ≡ None)
  unchanged None answer none is = (none.1, refl)
  unchanged (Some e) answer some is = absurd (let both : Some e.exit ≡ None = sym some.0 ∙ is in cc)

-- a test that chooses no block
pub not_chosen : (a : Shown) (left right : Operand) (test : Test) (then : ℕ) (other : Option ℕ) → chosen a.context left test right then other ≡ None → EndsAtOnce a a (stmt.If left test right then other) Next
not_chosen a left right test then other none = record {
  registers = a.context.registers;
  cells = a.context.cells;
  is = refl;
  costs = tt;
  row = λ numbers n. ap (λ (block : Option ℕ). settles (record a.context { steps = n }) (branches block)) none;
}

-- a check of a fiber that isn't told
not_told : (a : Shown) → a.context.permitted ≡ false → EndsAtOnce a a stmt.Check Next
not_told a untold = record {
  registers = a.context.registers;
  cells = a.context.cells;
  is = refl;
  costs = tt;
  row = λ numbers n. let c : Context = record a.context { steps = n } in ap (λ (told : Bool). settles c (cond told (calls stmt.Check) (goes_on c))) untold;
}

pub untold_at_once : (a b : Shown) (one : Stmt) → b ≡ a → (one ≡ stmt.Check) × (b.context.permitted ≡ false) → EndsAtOnce a b one Next
untold_at_once a b one same untold =
    subst (λ (z : Shown). EndsAtOnce a z one Next) (sym same) (subst (λ (s : Stmt). EndsAtOnce a a s Next) (sym untold.0) (not_told a (subst (λ (z : Shown). z.context.permitted ≡ false) same untold.1)))

-- ---- rounds

pub some_step : (n : ℕ) → 0 < n → nat_lt 0 n ≡ true
some_step n some = grind (arith, nat_tests, some)

pub round_row : (block : ℕ) (c : Context) → 0 < c.steps → settles c (repeating block Next) ≡ Some (encloses (repeats block) block (stepped c))
round_row block c some = rw (some_step c.steps some) refl

pub headed : (frames : List Frame) (frame : Frame) → slice_get frames 0 ≡ Some frame → (outer : List Frame) × (frames ≡ frame ∷ outer)
headed [] frame is = absurd cc
headed (first ∷ frames) frame is = (frames, let same : first ≡ frame = cc in ap (λ (x : Frame). x ∷ frames) same)

-- the block has come to its end, and the loop around it goes round
pub round_goes : (a : Shown) (block place n again : ℕ) → slice_get (block_at (script_in a.program).blocks block) place ≡ None → slice_get a.frames 0 ≡ Some (Repeats again) → 0 < n
    → Goes (stood a (At block place) n) (stood a (At again 0) (n - 1))
round_goes a block place n again past first some =
    let found = headed a.frames (Repeats again) first in
    let c : Context = record a.context { steps = n } in
    record {
      same = refl;
      turns = λ f. let s = setting_of a f in
          subst (λ (frames : List Frame). Turns s (at_stmt block place) (framed frames) c (at_stmt again 0) (framed frames) (stepped c)) (sym found.1)
          (λ tail y e ahead. end_ahead s block place (framed (Repeats again ∷ found.0)) c (past_end (block_at s.script.blocks block) place past) tail y e
          (closes_ahead s (repeats again) (framed found.0) Next c tail y e (enters_ahead s (framed found.0) (round_row again c some) tail y e ahead)));
      between = tt;
    }

-- the block has come to its end, and the one around it goes on
pub rest_goes_on : (a : Shown) (block place n outer_block next : ℕ) (outer : List Frame) → slice_get (block_at (script_in a.program).blocks block) place ≡ None → a.frames ≡ Rest outer_block next ∷ outer
    → Goes (stood a (At block place) n) (stood (record a { frames = outer }) (At outer_block next) n)
rest_goes_on a block place n outer_block next outer past is =
    let c : Context = record a.context { steps = n } in
    record {
      same = refl;
      turns = λ f. let s = setting_of a f in
          subst (λ (frames : List Frame). Turns s (at_stmt block place) (framed frames) c (at_stmt outer_block next) (framed outer) c) (sym is)
          (λ tail y e ahead. end_ahead s block place (framed (Rest outer_block next ∷ outer)) c (past_end (block_at s.script.blocks block) place past) tail y e
          (rest_ahead s outer_block next (framed outer) c tail y e ahead));
      between = tt;
    }

-- the frame that is taken away is the innermost one
pub popped_first : (old new : Shown) (taken : Option Frame) (frame : Frame) → IsPopped old new taken → slice_get old.frames 0 ≡ Some frame
    → (outer : List Frame) × (old.frames ≡ frame ∷ outer) × (new ≡ record old { frames = outer })
popped_first old new None frame none first = absurd (let no_frame : slice_get old.frames 0 ≡ None = ap (λ (frames : List Frame). slice_get frames 0) none.0 in cc)
popped_first old new (Some top) frame some first =
    let there : slice_get old.frames 0 ≡ Some top = ap (λ (frames : List Frame). slice_get frames 0) some.1 in
    let same : top ≡ frame = cc in
    (some.0, some.1 ∙ ap (λ (x : Frame). x ∷ some.0) same, some.2)

-- so the body went on, with less to do
pub went_round : (a : Shown) (block place n again : ℕ) → slice_get (block_at (script_in a.program).blocks block) place ≡ None → slice_get a.frames 0 ≡ Some (Repeats again) → 0 < n
    → WentOn (stood a (At block place) n) (stood a (At again 0) (n - 1))
went_round a block place n again past first some = record { goes = round_goes a block place n again past first some; lighter = omega (arith, some) }

pub went_behind : (a b : Shown) (taken : Option Frame) (block place n outer_block next : ℕ) → slice_get (block_at (script_in a.program).blocks block) place ≡ None → slice_get a.frames 0 ≡ Some (Rest outer_block next) → IsPopped a b taken
    → WentOn (stood a (At block place) n) (stood b (At outer_block next) n)
went_behind a b taken block place n outer_block next past first popped =
    let found = popped_first a b taken (Rest outer_block next) popped first in
    let outer : List Frame = found.0 in
    let fewer : length a.frames ≡ length outer + 1 = ap (λ (frames : List Frame). length frames) found.1 ∙ omega arith in
    subst (λ (z : Shown). WentOn (stood a (At block place) n) (stood z (At outer_block next) n)) (sym found.2)
    (record { goes = rest_goes_on a block place n outer_block next outer past found.1; lighter = omega (arith, fewer) })

-- ---- a run of such statements

-- there is a place behind a statement
pub behind_within : (stmts : List Stmt) (place : ℕ) (one : Stmt) → slice_get stmts place ≡ Some one → length stmts ≤ 10000 → place + 1 < 2 ^ 32
behind_within stmts place one there few = let within = slice_get_within stmts place one there in omega (arith, within, few)

module _ (old a : Shown) (block place n : ℕ) (goes : Goes old (stood a (At block place) n)) where
  -- the body's program is that of the beginning
  pub same_blocks : (stmts : List Stmt) → stmts ≡ block_at (script_in old.program).blocks block → stmts ≡ block_at (script_in a.program).blocks block
  same_blocks stmts is = is ∙ ap (λ (c : Carry (Option Tree)). block_at (script_in c.share).blocks block) (sym goes.same)

  pub before_on : (stmts : List Stmt) (one : Stmt) → stmts ≡ block_at (script_in old.program).blocks block → length stmts ≤ 10000 → slice_get stmts place ≡ Some one → 0 < n
      → IsBefore (stood a (At block place) n) (record { block = block; place = place }) one
  before_on stmts one are few there some = record {
    here = record { at = refl; is = subst (λ (ss : List Stmt). slice_get ss place ≡ Some one) (same_blocks stmts are) there; within = behind_within stmts place one there few };
    steps = some;
  }

  pub statement_on : (b : Shown) (stmts : List Stmt) (one : Stmt) (x : Exit) → stmts ≡ block_at (script_in old.program).blocks block → length stmts ≤ 10000 → slice_get stmts place ≡ Some one → 0 < n → EndsAtOnce a b one x
      → Goes old (stood b (behind_at (record { block = block; place = place }) x) (n - 1))
  statement_on b stmts one x are few there some ends =
      let spot : Spot = record { block = block; place = place } in
      goes_trans old (stood a (At block place) n) (stood b (behind_at spot x) (n - 1)) goes
      (at_once_goes a b spot n one x (before_on stmts one are few there some) ends)

-- a statement that ends at once leaves the frames
pub same_frames : (a b : Shown) (one : Stmt) (x : Exit) → EndsAtOnce a b one x → length b.frames ≡ length a.frames
same_frames a b one x ends = ap (λ (z : Shown). length z.frames) ends.is
