-- Statements that ask for one call: which one, and where its entry leads.
use Rattle.std.specs.Prelude.{IsTrue}
use Rattle.std.proofs.Common.{◌≡◌, ◌≢◌, ℕ, zero, suc, ◌+◌, ◌<◌, ◌≤◌, ◌==◌, inr, Bool, true, false, cond, slice_get, Option, Some, None, List, [], ◌∷◌, ◌++◌, refl, sym, ap, subst, ◌∙◌, arith}
use Rattle.pic_base.specs.declared.outcome.Outcome.TheVariants.{Cancelled}
use Rattle.pic_machine.specs.declared.birth.Birth.{Birth}
use Rattle.pic_machine.specs.declared.entry.Call.{Call}
use Rattle.pic_machine.specs.declared.entry.Call.TheVariants as asked
use Rattle.pic_machine.specs.declared.entry.Reply.{Reply}
use Rattle.pic_machine.specs.declared.entry.Reply.TheVariants.{Completed, Full, Peeked}
use Rattle.pic_machine.specs.Following.{peeking}
use Rattle.pic_machine.specs.declared.waits.Standing.{Standing as Under}
use Rattle.pic_machine.specs.Happened.{Happened}
use Rattle.pic_machine.specs.Log.{is_turn, log, own}
use Rattle.pic_machine.specs.Order.{GoesOn}
use Rattle.pic_machine.specs.Sight.{Notes, Sight, fiber_of}
use Rattle.script_tree.specs.declared.program.CompRef.{CompRef}
use Rattle.script_tree.specs.declared.program.CompRef.TheVariants.{Root, Named, Promise as PromiseIn}
use Rattle.script_tree.specs.declared.program.Decl.{Decl}
use Rattle.script_tree.specs.declared.program.Stmt.{Stmt}
use Rattle.script_tree.specs.declared.program.Stmt.TheVariants as stmt
use Rattle.script_tree.specs.declared.thing.Sort.{Sort}
use Rattle.script_tree.specs.declared.thing.Sort.TheVariants as sort
use Rattle.script_tree.specs.Names.{sort_number}
use Rattle.script_tree.specs.Tree.{Tree}
use Rattle.script_tree.specs.WellFormed.{IsComp, IsOfSort, StmtFits}
use Rattle.fiber_body.specs.declared.standing.Exit.{Exit}
use Rattle.fiber_body.specs.declared.standing.Exit.TheVariants.{Next, Raised}
use Rattle.fiber_body.specs.declared.standing.Standing.TheVariants.{At}
use Rattle.fiber_body.specs.Around.{Leads, Outer, Place, at_stmt, rest, within}
use Rattle.fiber_body.specs.Context.{Context, Numbering, Setting, behind_decl, comp_in, count_of, limit_met, numbering, numbers_of, stepped, under, with_register}
use Rattle.fiber_body.specs.Fits.{LeadsTo, setting_of}
use Rattle.fiber_body.specs.Follows.{context_of}
use Rattle.fiber_body.specs.Framing.{ends_ahead, leads_entry}
use Rattle.fiber_body.specs.Numbering.{more_counted}
use Rattle.fiber_body.specs.Phases.{Phase, attaches_to, awaits_comp, awaits_trigger, calls, ended, lives, looking, looks, goes_on, runs_under}
use Rattle.fiber_body.specs.Segments.{happens}
use Rattle.fiber_body.specs.Shown.{IsSameRest, MayBeCurrent, Shown, carry_of}
use Rattle.fiber_body.specs.Statements.{begins, born, call_of, first, named as begins_named, on, or_first, outcome_number, replied, result, state_number, won}
use Rattle.fiber_body.specs.Texts.{block_in, script_in}
use Rattle.fiber_poll.specs.declared.spot.Spot.{Spot}
use Rattle.fiber_poll.specs.Built.{is_built_comp, is_built_stmt}
use Rattle.fiber_poll.specs.Polls.{IsPortOf}
use Rattle.fiber_poll.specs.UnderWay.{CanAsk, CanRun, IsMade, IsOn, IsUp}
use Rattle.fiber_poll.specs.Moving.{CostsStep, IsBefore, behind_at, taken, weight, weight_at}
use Rattle.fiber_poll.proofs.Going.{between_live, on_lent, on_reserved, on_trans, owns_between, program_up}
use Rattle.fiber_poll.proofs.Lighter.{behind_light}
use Rattle.fiber_poll.proofs.Moves.{behind, behind_between, costly, framed, stands_at}

-- ---- how such a statement begins

told_stepped : (permitted : Bool) (c d : Context) → cond permitted (calls stmt.Check) (goes_on c) ≡ calls stmt.Check → cond permitted (calls stmt.Check) (goes_on d) ≡ calls stmt.Check
told_stepped true c d is = refl
told_stepped false c d is = absurd cc

under_stepped : (comp : CompRef) (block : ℕ) (number : Option ℕ) (c d : Context) → begins_named number (stmt.Under comp block) (λ k. runs_under (record (under c) { current = k }) block) ≡ calls (stmt.Under comp block)
    → begins_named number (stmt.Under comp block) (λ k. runs_under (record (under d) { current = k }) block) ≡ calls (stmt.Under comp block)
under_stepped comp block None c d is = refl
under_stepped comp block (Some k) c d is = absurd cc

first_stepped : (numbers : Numbering) (c : Context) (one : Stmt) → first numbers c one ≡ calls one → first numbers (stepped c) one ≡ calls one
first_stepped numbers c (stmt.If a test b then other) is = is
first_stepped numbers c stmt.Check is = told_stepped c.permitted c (stepped c) is
first_stepped numbers c (stmt.Under comp block) is = under_stepped comp block (comp_in numbers.comps comp) c (stepped c) is
first_stepped numbers c (stmt.Forbid block) is = absurd cc
first_stepped numbers c (stmt.Permit block) is = absurd cc
first_stepped numbers c _ is = is

costs_call : (numbers : Numbering) (c : Context) (one : Stmt) → first numbers c one ≡ calls one → CostsStep one
costs_call numbers c (stmt.Loop block) is = absurd cc
costs_call numbers c _ is = tt

begins_call : (numbers : Numbering) (c : Context) (one : Stmt) → result c.registers c.cells one ≡ None → first numbers c one ≡ calls one → begins numbers (stepped c) one ≡ calls one
begins_call numbers c one none is = ap (or_first numbers (stepped c) one) none ∙ first_stepped numbers c one is

born_stepped : (c : Context) (call : Call) → born (stepped c) call ≡ born c call
born_stepped c (asked.Fork text v) = refl
born_stepped c _ = refl

-- ---- how a reply ends it

pub record EndsBy (c : Context) (p : Phase) : Type 0 where
  pub exit : Exit
  pub context : Context
  pub is : p ≡ ended exit context
  pub steps : context.steps ≡ c.steps

pub ends_by_reply : (c : Context) (one : Stmt) (reply : Reply) → EndsBy c (replied c one reply)
ends_by_reply c (stmt.Return r comp v) (Completed how) = record { exit = Next; context = with_register c r (won how); is = refl; steps = refl }
ends_by_reply c (stmt.Cancel r comp v) (Completed how) = record { exit = Next; context = with_register c r (won how); is = refl; steps = refl }
ends_by_reply c (stmt.Peek r q comp) (Peeked seen) = record { exit = Next; context = with_register (with_register c r (state_number seen)) q (outcome_number seen); is = refl; steps = refl }
ends_by_reply c stmt.Check (Peeked (Some (Cancelled k))) = record { exit = Raised k; context = c; is = refl; steps = refl }
ends_by_reply c (stmt.Spawn text v) Full = record { exit = Raised limit_met; context = c; is = refl; steps = refl }
ends_by_reply c _ _ = record { exit = Next; context = c; is = refl; steps = refl }

-- the body behind it
abbrev left_by : Shown → Spot → Exit → Context → Shown
left_by body spot exit c = record body { standing = behind_at spot exit; context = c }

taken_is : (b : Shown) (spot : Spot) (c : Context) (p : Phase) (e : EndsBy c p) → taken b spot p ≡ left_by b spot e.exit e.context
taken_is b spot c p e = ap (taken b spot) e.is

pub taken_lighter : (b : Shown) (spot : Spot) (one : Stmt) (reply : Reply) → b.standing ≡ At spot.block spot.place → 0 < b.context.steps → weight (taken b spot (replied (stepped b.context) one reply)) < weight b
taken_lighter b spot one reply at some =
    let e = ends_by_reply (stepped b.context) one reply in
    let there : weight (taken b spot (replied (stepped b.context) one reply)) ≡ weight (left_by b spot e.exit e.context) = ap weight (taken_is b spot (stepped b.context) (replied (stepped b.context) one reply) e) in
    let before : weight_at b.standing ≡ 2 = ap weight_at at in
    let light = behind_light spot e.exit in
    omega (arith, there, before, light, e.steps, some)

-- what is owed doesn't change by it
pub taken_owes : (b : Shown) (spot : Spot) (p : Phase) → (taken b spot p).owes ≡ b.owes
taken_owes b spot (ended exit c) = refl
taken_owes b spot _ = refl

-- ---- where its entry leads

module _ (a : Shown) (f : ℕ) (spot : Spot) (one : Stmt) (call : Call) (reply : Reply) (mine : List Happened) where
  abbrev s : Setting
  s = setting_of a f

  abbrev c : Context
  c = stepped a.context

  abbrev outer : List Outer
  outer = rest spot.block (spot.place + 1) ∷ framed a.frames

  abbrev LeadsThere : List Happened → Place → List Outer → Context → Type 0
  LeadsThere = Leads s (lives (block_in a.program a.birth.text)) (context_of a.birth)

  -- the log leads to where the statement asks for its call
  led_within : IsBefore a spot one → result a.context.registers a.context.cells one ≡ None → first (numbering (script_in a.program).decls) a.context one ≡ calls one → LeadsTo a f mine → LeadsThere mine (within (calls one)) outer c
  led_within before none is leads =
      let there : LeadsThere mine (at_stmt spot.block spot.place) (framed a.frames) a.context = subst (λ (x : Shown). LeadsTo x f mine) (stands_at a (At spot.block spot.place) before.here.at) leads in
      subst (λ (p : Phase). LeadsThere mine (within p) outer c) (begins_call (numbering (script_in a.program).decls) a.context one none is)
      (λ tail y e ahead. there tail y e (costly s spot a.frames one a.context (costs_call (numbering (script_in a.program).decls) a.context one is) before.here.is before.steps tail y e ahead))

  -- and with the call's entry to where the reply leads
  pub leads_asked : IsBefore a spot one → result a.context.registers a.context.cells one ≡ None → first (numbering (script_in a.program).decls) a.context one ≡ calls one
      → call_of (numbering (script_in a.program).decls) c one ≡ Some call → LeadsTo a f mine
      → LeadsTo (left_by a spot (ends_by_reply c one reply).exit (ends_by_reply c one reply).context) f (mine ++ happens f call reply (born a.context call) ∷ [])
  leads_asked before none is asks leads =
      let p : Phase = replied c one reply in
      let e = ends_by_reply c one reply in
      let log : List Happened = mine ++ happens f call reply (born a.context call) ∷ [] in
      let made : LeadsThere log (within p) outer c =
      subst (λ (o : Option Birth). LeadsThere (mine ++ happens f call reply o ∷ []) (within p) outer c) (born_stepped a.context call)
      (leads_entry s (lives (block_in a.program a.birth.text)) (context_of a.birth) mine outer call reply asks refl (led_within before none is leads)) in
      let over : LeadsThere log (within (ended e.exit e.context)) outer c = subst (λ (q : Phase). LeadsThere log (within q) outer c) e.is made in
      λ tail y d ahead. over tail y d (ends_ahead s outer refl tail y d (behind s spot a.frames e.exit e.context tail y d ahead))

-- ---- calls that a statement asks for, and behind which its turn goes on

-- what is declared at the place of a thing of this sort has a number below those behind all of them
pub numbered : (sort : Sort) (n : ℕ) (ds : List Decl) (place : ℕ) → IsOfSort (λ s. s == sort_number sort) (slice_get ds place)
    → (k : ℕ) × (slice_get (numbers_of sort n ds) place ≡ Some k) × (k < n + count_of sort ds)
numbered sort n [] place is = absurd is
numbered sort n (d ∷ ds) zero is =
    let behind_is : behind_decl sort n d.kind ≡ n + 1 = ap (λ (b : Bool). cond b (n + 1) n) is in
    let more = more_counted sort n d ds in
    (n, refl, omega (arith, more, behind_is))
numbered sort n (d ∷ ds) (suc place) is =
    let later = numbered sort (behind_decl sort n d.kind) ds place is in
    let more = more_counted sort n d ds in
    (later.0, later.1, omega (arith, later.2, more))

pub comp_there : (tree : Tree) (comp : CompRef) → IsComp tree comp → IsTrue (is_built_comp comp) → (k : ℕ) × (comp_in (numbers_of sort.Comp 1 tree.decls) comp ≡ Some k) × (k ≤ count_of sort.Comp tree.decls)
comp_there tree Root is built = (0, refl, omega arith)
comp_there tree (Named place) is built = let found = numbered sort.Comp 1 tree.decls place is in (found.0, found.1, omega (arith, found.2))
comp_there tree (PromiseIn register) is built = absurd cc

-- the call, if there is one, may be made
abbrev IsAsked : Tree → Birth → Option Call → Type 0
IsAsked tree birth None = ⊥
IsAsked tree birth (Some call) = CanAsk tree birth call

-- what a check peeks at may be current
abbrev pub ChecksThere : Tree → Birth → Context → Stmt → Type 0
ChecksThere tree birth c one = one ≡ stmt.Check → MayBeCurrent (Some tree) birth c.current

module _ (tree : Tree) (birth : Birth) (c : Context) where
  named : (comp : CompRef) (call : ℕ → Call) → ((k : ℕ) → k ≤ count_of sort.Comp tree.decls → CanAsk tree birth (call k)) → IsComp tree comp → IsTrue (is_built_comp comp) → IsAsked tree birth (on (comp_in (numbers_of sort.Comp 1 tree.decls) comp) call)
  named comp call can is built = let found = comp_there tree comp is built in subst (λ (o : Option ℕ). IsAsked tree birth (on o call)) (sym found.1) (can found.0 found.2)

  signalled : (place : ℕ) → IsOfSort (λ s. s == 0) (slice_get tree.decls place) → IsAsked tree birth (on (slice_get (numbers_of sort.Trigger 0 tree.decls) place) (λ n. asked.Signal n))
  signalled place is =
      let found = numbered sort.Trigger 0 tree.decls place is in
      subst (λ (o : Option ℕ). IsAsked tree birth (on o (λ n. asked.Signal n))) (sym found.1) (omega (arith, found.2))

  asks_by : (holder : ℕ) (one : Stmt) → StmtFits tree holder one → IsTrue (is_built_stmt one) → result c.registers c.cells one ≡ None → first (numbering tree.decls) c one ≡ calls one → one ≢ stmt.Yield → ChecksThere tree birth c one
      → IsAsked tree birth (call_of (numbering tree.decls) (stepped c) one)
  asks_by holder stmt.Yield fits built none is apart checks = absurd (apart refl)
  asks_by holder stmt.Check fits built none is apart checks = checks refl
  asks_by holder (stmt.Peek r q comp) fits built none is apart checks = named comp (λ k. asked.Peek k) (λ k few. inr few) fits.1.1.0 built
  asks_by holder (stmt.Under comp block) fits built none is apart checks =
      let one : Stmt = stmt.Under comp block in
      let found = comp_there tree comp fits.0.0 built in
      let u : ℕ → Under = λ k. record (under c) { current = k } in
      absurd (let there : runs_under (u found.0) block ≡ calls one = subst (λ (o : Option ℕ). begins_named o one (λ k. runs_under (u k) block) ≡ calls one) found.1 is in cc)
  asks_by holder (stmt.Await place) fits built none is apart checks =
      let found = numbered sort.Trigger 0 tree.decls place fits.0 in
      absurd (let there : awaits_trigger found.0 looking ≡ calls (stmt.Await place) = subst (λ (o : Option ℕ). begins_named o (stmt.Await place) (λ n. awaits_trigger n looking) ≡ calls (stmt.Await place)) found.1 is in cc)
  asks_by holder (stmt.Attach r comp place) fits built none is apart checks =
      let one : Stmt = stmt.Attach r comp place in
      let trigger = numbered sort.Trigger 0 tree.decls place fits.1.1.0 in
      let found = comp_there tree comp fits.1.0 built in
      let triggers = numbers_of sort.Trigger 0 tree.decls in
      absurd (let there : attaches_to r found.0 trigger.0 looks ≡ calls one =
      subst (λ (o : Option ℕ). begins_named o one (λ n. attaches_to r found.0 n looks) ≡ calls one) trigger.1
      (subst (λ (o : Option ℕ). begins_named o one (λ k. begins_named (slice_get triggers place) one (λ n. attaches_to r k n looks)) ≡ calls one) found.1 is) in cc)
  asks_by holder (stmt.Wait r comp) fits built none is apart checks =
      let found = comp_there tree comp fits.1.0 built in
      absurd (let there : awaits_comp r found.0 peeking ≡ calls (stmt.Wait r comp) = subst (λ (o : Option ℕ). begins_named o (stmt.Wait r comp) (λ k. awaits_comp r k peeking) ≡ calls (stmt.Wait r comp)) found.1 is in cc)
  asks_by holder _ fits built none is apart checks = first_of (search (named, signalled, fits, built), cc)

  module _ (numbers : Numbering) (counted : numbers ≡ numbering tree.decls) (one : Stmt) (can : CanRun tree one) (none : result c.registers c.cells one ≡ None) (is : first (numbering tree.decls) c one ≡ calls one) (apart : one ≢ stmt.Yield) (checks : ChecksThere tree birth c one) where
    asked_one : (found : Option Call) → call_of numbers (stepped c) one ≡ found → IsAsked tree birth found
    asked_one found same = subst (IsAsked tree birth) (ap (λ (ns : Numbering). call_of ns (stepped c) one) (sym counted) ∙ same) (asks_by can.holder one can.fits can.built none is apart checks)

    -- the statement asks for a call
    pub asks_some : call_of numbers (stepped c) one ≢ None
    asks_some same = asked_one None same

    -- which may be made
    pub can_ask : (call : Call) → call_of numbers (stepped c) one ≡ Some call → CanAsk tree birth call
    can_ask call same = asked_one (Some call) same

-- such a call ends no turn, and begins none
goes_on_by : (tree : Tree) (mine : Birth) (f : ℕ) (call : Call) (reply : Reply) (birth : Option Birth) → CanAsk tree mine call → GoesOn (happens f call reply birth) × (is_turn call ≡ false)
goes_on_by tree mine f (asked.Say v) reply birth can = (refl, refl)
goes_on_by tree mine f (asked.Peek comp) reply birth can = (refl, refl)
goes_on_by tree mine f (asked.Complete comp outcome) reply birth can = (refl, refl)
goes_on_by tree mine f (asked.Signal trigger) reply birth can = (refl, refl)
goes_on_by tree mine f (asked.Fork text v) reply birth can = (refl, refl)
goes_on_by tree mine f _ reply birth can = absurd can

-- room was made for the entry, and it was made, and the reply has ended the statement
module _ (p q : Sight (Option Tree)) (before now : Option (List ℕ)) (tree : Tree) (spot : Spot) (one : Stmt) (call : Call) (reply : Reply) (mine : Birth) (can : CanAsk tree mine call) where
  on_made : (a b : Shown) → IsUp p a → IsBefore a spot one → result a.context.registers a.context.cells one ≡ None → first (numbering (script_in a.program).decls) a.context one ≡ calls one
      → call_of (numbering (script_in a.program).decls) (stepped a.context) one ≡ Some call → IsMade p q a b before now call reply
      → IsOn p q a (taken b spot (replied (stepped b.context) one reply)) before now
  on_made a b up here none is asks made =
      let f = fiber_of (carry_of a) in
      let h = happens f call reply (born a.context call) in
      let e = ends_by_reply (stepped a.context) one reply in
      let goes = goes_on_by tree mine f call reply (born a.context call) can in
      let there : taken b spot (replied (stepped b.context) one reply) ≡ left_by b spot e.exit e.context =
      ap (λ (c : Context). taken b spot (replied (stepped c) one reply)) made.rest.context ∙ taken_is b spot (stepped a.context) (replied (stepped a.context) one reply) e in
      let same : left_by b spot e.exit e.context ≡ record (left_by a spot e.exit e.context) { number = b.number; noted = b.noted; room = b.room; owes = b.owes } = rw (made.rest.frames, made.lent.birth, made.lent.share) refl in
      subst (λ (d : Shown). IsOn p q a d before now) (sym there)
      (on_lent p q a (left_by b spot e.exit e.context) before now h up made.lent refl goes.1 refl goes.0 made.line
      (subst (λ (d : Shown). LeadsTo d f (own (log p.front f) ++ h ∷ [])) (sym same) (leads_asked a f spot one call reply (own (log p.front f)) here none is asks up.leads))
      (owns_between (script_in (left_by b spot e.exit e.context).program) f (own (log p.front f) ++ h ∷ []) (behind_at spot e.exit) (behind_between spot e.exit))
      (between_live (behind_at spot e.exit) (behind_between spot e.exit)))

  pub on_called : (a b d : Shown) (numbers : Numbering) → numbers ≡ numbering tree.decls → IsPortOf tree p → IsUp p a → IsBefore a spot one → result a.context.registers a.context.cells one ≡ None → first (numbering tree.decls) a.context one ≡ calls one
      → call_of numbers (stepped a.context) one ≡ Some call → Notes (carry_of a) (carry_of b) [] → IsSameRest a b → IsMade p q b d before now call reply
      → IsOn p q a (taken d spot (replied (stepped d.context) one reply)) before now
  on_called a b d numbers counted of up here none is asks notes same_rest made =
      let on : IsOn p p a b before before = on_reserved up notes same_rest in
      let program : tree ≡ script_in b.program = sym (ap script_in (program_up tree p b of on.up)) in
      let there : b ≡ record a { number = b.number; noted = b.noted; room = b.room; owes = b.owes } = rw (same_rest.context, same_rest.standing, same_rest.frames, notes.birth, notes.share) refl in
      let same = sym same_rest.context in
      on_trans on
      (on_made b d on.up (subst (λ (z : Shown). IsBefore z spot one) (sym there) (record { here = record { at = here.here.at; is = here.here.is; within = here.here.within }; steps = here.steps }))
      (subst (λ (c : Context). result c.registers c.cells one ≡ None) same none) (subst (λ (t : Tree). first (numbering t.decls) b.context one ≡ calls one) program (subst (λ (c : Context). first (numbering tree.decls) c one ≡ calls one) same is))
      (subst (λ (t : Tree). call_of (numbering t.decls) (stepped b.context) one ≡ Some call) program
      (subst (λ (c : Context). call_of (numbering tree.decls) (stepped c) one ≡ Some call) same (ap (λ (ns : Numbering). call_of ns (stepped a.context) one) (sym counted) ∙ asks))) made)
