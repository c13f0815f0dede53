-- How often a fiber of a script may yield: each time by a statement, for which it has a step.
use Rattle.std.proofs.Common.{◌≡◌, ◌≢◌, ℕ, ◌+◌, ◌-◌, ◌≤◌, nat_lt, Bool, true, false, cond, slice_get, Option, Some, None, List, ◌∷◌, refl, sym, ap, subst, arith}
use Rattle.pic_base.specs.Steps.{most_steps}
use Rattle.pic_base.specs.declared.outcome.Outcome.TheVariants.{Cancelled}
use Rattle.pic_machine.specs.declared.entry.Call.{Call}
use Rattle.pic_machine.specs.declared.entry.Call.TheVariants.{End, Yield}
use Rattle.pic_machine.specs.declared.entry.Reply.{Reply}
use Rattle.pic_machine.specs.declared.entry.Reply.TheVariants.{Completed, Full, Peeked}
use Rattle.pic_machine.specs.Happened.{Happened}
use Rattle.pic_machine.specs.Log.{own}
use Rattle.pic_machine.specs.Order.{yields}
use Rattle.pic_base.specs.declared.outcome.Outcome.TheVariants.{Returned, Cancelled}
use Rattle.pic_machine.specs.declared.waits.Standing.{Standing as Under}
use Rattle.pic_machine.specs.Following.{Following, finished as done, following_asks, following_leads, peeking, placing as placed, readying, refused, suspending as suspended}
use Rattle.pic_machine.specs.Waits.{Waiting, arming, attaching, checking, full, made, over, place as making_place, taken, told, trigger as making_trigger, waiting_asks, woken}
use Rattle.std.specs.Option.{option_map}
use Rattle.std.specs.Prelude.{⊤}
use Rattle.pic_machine.proofs.Turnings.{yields-append}
use Rattle.script_tree.specs.declared.program.Stmt.{Stmt}
use Rattle.script_tree.specs.declared.program.Stmt.TheVariants as stmt
use Rattle.fiber_body.specs.declared.standing.Exit.{Exit}
use Rattle.fiber_body.specs.declared.standing.Exit.TheVariants.{Next, Raised, Spent}
use Rattle.fiber_body.specs.Around.{around_of, place_of}
use Rattle.fiber_body.specs.Context.{Context, Numbering, Setting, comp_in, numbering, under}
use Rattle.fiber_body.specs.Fits.{Fits, MayBeOf, setting_of}
use Rattle.fiber_body.specs.Follows.{context_of}
use Rattle.fiber_body.specs.Framing.{leads_segment}
use Rattle.fiber_body.specs.Phases.{Attaching, Awaiting, Phase, answers, attaches, attaches_to, awaits_comp, awaits_trigger, branches, calls, catching, ended, ending, ends, finds_no_place, gone, lives, looking, looks, places, placing, repeating, suspending, tries, unplaced, runs_under, goes_on}
use Rattle.fiber_body.specs.Segments.{Acts, CanBegin, Extent, Runs, and_more, and_out, begun, ends_so, goes, happens, leaves_it, makes, stops_inside}
use Rattle.fiber_body.specs.Shown.{Shown}
use Rattle.fiber_body.specs.Statements.{begins, born, named, replied}
use Rattle.fiber_body.specs.Tables.{Settled, Work, asks, catches, closing, encloses, ends_by, ends_text, goes_into, leads, repeats, restores, settles}
use Rattle.fiber_body.specs.Texts.{block_in}
use Rattle.fiber_body.specs.Triggers.{attaching_asks, attaching_leads, awaiting_asks, awaiting_leads}

-- ---- the steps that are left

-- with which a phase ends, where it ends here
abbrev steps_in : Phase → Context → ℕ
steps_in (ended x d) c = d.steps
steps_in p c = c.steps

abbrev steps_of : Settled → ℕ
steps_of (ends_by x d) = d.steps
steps_of (goes_into b d) = d.steps
steps_of (encloses k b d) = d.steps

-- how often a phase may yield itself
abbrev allowance : Phase → ℕ
allowance (calls one) = 1
allowance p = 0

-- a phase yields itself once at most, and doesn't end with more steps
abbrev IsSmall : Context → Phase → Type 0
IsSmall c p = (allowance p ≤ 1) × (steps_in p c ≤ c.steps)

named_small : (c : Context) (number : Option ℕ) (one : Stmt) (phase : ℕ → Phase) → ((n : ℕ) → IsSmall c (phase n)) → IsSmall c (named number one phase)
named_small c None one phase small = (omega arith, omega arith)
named_small c (Some n) one phase small = small n

check_small : (permitted : Bool) (c : Context) → IsSmall c (cond permitted (calls stmt.Check) (goes_on c))
check_small true c = (omega arith, omega arith)
check_small false c = (omega arith, omega arith)

begins_small : (numbers : Numbering) (c : Context) (one : Stmt) → IsSmall c (begins numbers c one)
begins_small numbers c (stmt.Await t) = named_small c (slice_get numbers.triggers t) (stmt.Await t) (λ n. awaits_trigger n looking) (λ n. (omega arith, omega arith))
begins_small numbers c (stmt.Attach r comp t) =
    named_small c (comp_in numbers.comps comp) (stmt.Attach r comp t) (λ k. named (slice_get numbers.triggers t) (stmt.Attach r comp t) (λ n. attaches_to r k n looks))
    (λ k. named_small c (slice_get numbers.triggers t) (stmt.Attach r comp t) (λ n. attaches_to r k n looks) (λ n. (omega arith, omega arith)))
begins_small numbers c (stmt.Wait r comp) = named_small c (comp_in numbers.comps comp) (stmt.Wait r comp) (λ k. awaits_comp r k peeking) (λ k. (omega arith, omega arith))
begins_small numbers c (stmt.Under comp block) = named_small c (comp_in numbers.comps comp) (stmt.Under comp block) (λ k. runs_under (record (under c) { current = k }) block) (λ k. (omega arith, omega arith))
begins_small numbers c stmt.Check = check_small c.permitted c
begins_small numbers c _ = (omega arith, omega arith)

begins_once : (numbers : Numbering) (c : Context) (one : Stmt) → CanBegin one c → allowance (begins numbers (begun one c) one) + (begun one c).steps ≤ c.steps
begins_once numbers c (stmt.Loop block) can = omega arith
begins_once numbers c one can = let small = begins_small numbers (begun one c) one in omega (arith, small.0, can)

replied_within : (c : Context) (one : Stmt) (reply : Reply) → (allowance (replied c one reply) ≡ 0) × (steps_in (replied c one reply) c ≤ c.steps)
replied_within c (stmt.Return r comp v) (Completed how) = omega arith
replied_within c (stmt.Cancel r comp v) (Completed how) = omega arith
replied_within c (stmt.Peek r q comp) (Peeked seen) = omega arith
replied_within c stmt.Check (Peeked (Some (Cancelled code))) = omega arith
replied_within c (stmt.Spawn text v) Full = omega arith
replied_within c _ _ = omega arith

-- each row leaves no more steps than there were
abbrev IsWithin : ℕ → Option Settled → Type 0
IsWithin n None = Unit {0}
IsWithin n (Some z) = steps_of z ≤ n

next_within : (b : Bool) (block : ℕ) (c : Context) → IsWithin c.steps (Some (cond b (encloses (repeats block) block (record c { steps = c.steps - 1 })) (ends_by Spent c)))
next_within true block c = omega arith
next_within false block c = omega arith

awaiting_within : (c : Context) (t : ℕ) (p : Awaiting) → IsWithin c.steps (settles c (awaits_trigger t p))
awaiting_within c t (suspending (over woken)) = omega arith
awaiting_within c t (suspending (over (told code))) = omega arith
awaiting_within c t (suspending (over taken)) = omega arith
awaiting_within c t (suspending (attaching place)) = tt
awaiting_within c t (suspending arming) = tt
awaiting_within c t (suspending checking) = tt
awaiting_within c t looking = tt
awaiting_within c t placing = tt
awaiting_within c t unplaced = omega arith

attaching_within : (c : Context) (r k t : ℕ) (p : Attaching) → IsWithin c.steps (settles c (attaches_to r k t p))
attaching_within c r k t (answers n) = omega arith
attaching_within c r k t finds_no_place = omega arith
attaching_within c r k t looks = tt
attaching_within c r k t places = tt
attaching_within c r k t (attaches place) = tt

following_within : (c : Context) (r k : ℕ) (p : Following) → IsWithin c.steps (settles c (awaits_comp r k p))
following_within c r k peeking = tt
following_within c r k (readying making_trigger) = tt
following_within c r k (readying (making_place t)) = tt
following_within c r k (readying (made t a)) = tt
following_within c r k (readying full) = omega arith
following_within c r k (placed t a b) = tt
following_within c r k (suspended t (attaching a)) = tt
following_within c r k (suspended t arming) = tt
following_within c r k (suspended t checking) = tt
following_within c r k (suspended t (over woken)) = tt
following_within c r k (suspended t (over (told code))) = tt
following_within c r k (suspended t (over taken)) = omega arith
following_within c r k (done (Returned v)) = omega arith
following_within c r k (done (Cancelled code)) = omega arith
following_within c r k (refused code) = omega arith

rows_within : (c : Context) (p : Phase) → IsWithin (steps_in p c) (settles c p)
rows_within c (awaits_trigger t p) = awaiting_within c t p
rows_within c (attaches_to r k t p) = attaching_within c r k t p
rows_within c (awaits_comp r k p) = following_within c r k p
rows_within c (branches None) = omega arith
rows_within c (branches (Some block)) = omega arith
rows_within c (repeating block Next) = next_within (nat_lt 0 c.steps) block c
rows_within c (repeating block exit) = omega arith
rows_within c (tries block register handler) = omega arith
rows_within c (catching register handler (Raised code)) = omega arith
rows_within c (catching register handler exit) = omega arith
rows_within c (runs_under u block) = omega arith
rows_within c (lives block) = omega arith
rows_within c (ending outcome gone) = omega arith
rows_within c (ended exit d) = omega arith
rows_within c _ = tt

row_within : (c : Context) (p : Phase) (z : Settled) → settles c p ≡ Some z → steps_of z ≤ steps_in p c
row_within c p z row = subst (IsWithin (steps_in p c)) row (rows_within c p)

closing_within : (k : Work) (x : Exit) (c : Context) → (allowance (closing k x c) ≡ 0) × (steps_in (closing k x c) c ≡ c.steps)
closing_within (repeats block) x c = (refl, refl)
closing_within (catches register handler) x c = (refl, refl)
closing_within (restores u) x c = (refl, refl)
closing_within ends_text x c = (refl, refl)

-- ---- segments

-- an entry is a yield at most where its phase may yield, and leaves the steps
yields_call : (f : ℕ) (call : Call) (reply : Reply) (c : Context) (xs : List Happened) → yields (happens f call reply (born c call) ∷ xs) ≤ 1 + yields xs
yields_call f Yield reply c xs = omega arith
yields_call f _ reply c xs = omega arith

-- a call that is no yield
abbrev IsNoYield : Option Call → Type 0
IsNoYield (Some Yield) = ⊥
IsNoYield _ = ⊤

yields_no_call : (f : ℕ) (call : Call) (reply : Reply) (c : Context) (xs : List Happened) → IsNoYield (Some call) → yields (happens f call reply (born c call) ∷ xs) ≤ yields xs
yields_no_call f Yield reply c xs none = absurd none
yields_no_call f _ reply c xs none = omega arith

waiting_no_yield : (u : Under) (f t : ℕ) (p : Waiting) → IsNoYield (waiting_asks u f t p)
waiting_no_yield u f t (attaching place) = tt
waiting_no_yield u f t arming = tt
waiting_no_yield u f t checking = tt
waiting_no_yield u f t (over how) = tt

awaiting_no_yield : (u : Under) (f t : ℕ) (p : Awaiting) → IsNoYield (awaiting_asks u f t p)
awaiting_no_yield u f t looking = tt
awaiting_no_yield u f t placing = tt
awaiting_no_yield u f t (suspending p) = waiting_no_yield u f t p
awaiting_no_yield u f t unplaced = tt

attaching_no_yield : (k t : ℕ) (p : Attaching) → IsNoYield (attaching_asks k t p)
attaching_no_yield k t looks = tt
attaching_no_yield k t places = tt
attaching_no_yield k t (attaches place) = tt
attaching_no_yield k t (answers n) = tt
attaching_no_yield k t finds_no_place = tt

following_no_yield : (u : Under) (f k : ℕ) (p : Following) → IsNoYield (following_asks u f k p)
following_no_yield u f k peeking = tt
following_no_yield u f k (readying making_trigger) = tt
following_no_yield u f k (readying (making_place t)) = tt
following_no_yield u f k (readying (made t a)) = tt
following_no_yield u f k (readying full) = tt
following_no_yield u f k (placed t a b) = tt
following_no_yield u f k (suspended t (attaching a)) = tt
following_no_yield u f k (suspended t arming) = tt
following_no_yield u f k (suspended t checking) = tt
following_no_yield u f k (suspended t (over woken)) = tt
following_no_yield u f k (suspended t (over (told code))) = tt
following_no_yield u f k (suspended t (over taken)) = tt
following_no_yield u f k (done o) = tt
following_no_yield u f k (refused code) = tt

-- a phase of a statement under way, to which a reply leads
mapped_within : {Inner : Type 0} (c : Context) (up : Inner → Phase) → ((x : Inner) → (allowance (up x) ≡ 0) × (steps_in (up x) c ≤ c.steps)) → (o : Option Inner) (q : Phase) → option_map up o ≡ Some q → (allowance q ≡ 0) × (steps_in q c ≤ c.steps)
mapped_within c up each None q is = absurd cc
mapped_within c up each (Some x) q is = let same : up x ≡ q = cc in subst (λ (r : Phase). (allowance r ≡ 0) × (steps_in r c ≤ c.steps)) same (each x)

entry_within : (s : Setting) (c : Context) (p q : Phase) (call : Call) (reply : Reply) (xs : List Happened) → asks s c p ≡ Some call → leads c p reply ≡ Some q
    → (allowance q + yields (happens s.fiber call reply (born c call) ∷ xs) ≤ allowance p + yields xs) × (steps_in q c ≤ c.steps)
entry_within s c (calls one) q call reply xs asked led =
    let same : replied c one reply ≡ q = cc in
    let few = subst (λ (r : Phase). (allowance r ≡ 0) × (steps_in r c ≤ c.steps)) same (replied_within c one reply) in
    let one_more = yields_call s.fiber call reply c xs in
    (omega (arith, few.0, one_more), few.1)
entry_within s c (awaits_trigger t p) q call reply xs asked led =
    let none = yields_no_call s.fiber call reply c xs (subst IsNoYield asked (awaiting_no_yield (under c) s.fiber t p)) in
    let there = mapped_within c (awaits_trigger t) (λ x. (refl, omega arith)) (awaiting_leads (under c) p reply) q led in
    (omega (arith, none, there.0), there.1)
entry_within s c (attaches_to r k t p) q call reply xs asked led =
    let none = yields_no_call s.fiber call reply c xs (subst IsNoYield asked (attaching_no_yield k t p)) in
    let there = mapped_within c (attaches_to r k t) (λ x. (refl, omega arith)) (attaching_leads p reply) q led in
    (omega (arith, none, there.0), there.1)
entry_within s c (awaits_comp r k p) q call reply xs asked led =
    let none = yields_no_call s.fiber call reply c xs (subst IsNoYield asked (following_no_yield (under c) s.fiber k p)) in
    let there = mapped_within c (awaits_comp r k) (λ x. (refl, omega arith)) (following_leads (under c) p reply) q led in
    (omega (arith, none, there.0), there.1)
entry_within s c (ending o ends) q call reply xs asked led =
    let same : ending o gone ≡ q = cc in
    let is : End o ≡ call = cc in
    subst (λ (k : Call). (allowance q + yields (happens s.fiber k reply (born c k) ∷ xs) ≤ 0 + yields xs) × (steps_in q c ≤ c.steps)) is
    (subst (λ (r : Phase). (allowance r + yields xs ≤ 0 + yields xs) × (steps_in r c ≤ c.steps)) same (omega arith, omega arith))
entry_within s c p q call reply xs asked led = absurd cc

mutual
  acts_few : {s : Setting} {p : Phase} {c d : Context} {xs : List Happened} {y : Extent} → Acts s p c xs y d → steps_in p c ≤ c.steps → yields xs + d.steps ≤ allowance p + c.steps
  acts_few {s} (makes {p} {q} {c} {xs = xs} call reply asked led acts) within =
      let entry = entry_within s c p q call reply xs asked led in
      let rest = acts_few acts entry.1 in
      omega (arith, entry.0, rest)
  acts_few (ends_so {p} {c} {d} {x} row) within = let few = row_within c p (ends_by x d) row in omega (arith, few, within)
  acts_few (goes {p} {c} {d} {b = b} row runs) within =
      let few = row_within c p (goes_into b d) row in
      let rest = runs_few runs in
      omega (arith, few, rest, within)
  acts_few (stops_inside {p} {c} {d} {k = k} {b = b} row runs) within =
      let few = row_within c p (encloses k b d) row in
      let rest = runs_few runs in
      omega (arith, few, rest, within)
  acts_few (leaves_it {p} {c} {d} {e} {k = k} {b = b} {xs = xs} {ys = ys} {x = x} row runs acts) within =
      let few = row_within c p (encloses k b d) row in
      let rest = runs_few runs in
      let exit = closing_within k x e in
      let last = acts_few acts (omega (arith, exit.1)) in
      omega (arith, few, rest, last, exit.0, within, yields-append xs ys)
  acts_few _ within = omega (arith, within)

  runs_few : {s : Setting} {ss : List Stmt} {c d : Context} {xs : List Happened} {y : Extent} → Runs s ss c xs y d → yields xs + d.steps ≤ c.steps
  runs_few {s} (and_more {one} {c = c} {xs = xs} {ys = ys} can acts runs) =
      let first = acts_few acts (begins_small (numbering s.script.decls) (begun one c) one).1 in
      let rest = runs_few runs in
      let once = begins_once (numbering s.script.decls) c one can in
      omega (arith, first, rest, once, yields-append xs ys)
  runs_few {s} (and_out {one} {c = c} can acts apart) =
      let first = acts_few acts (begins_small (numbering s.script.decls) (begun one c) one).1 in
      let once = begins_once (numbering s.script.decls) c one can in
      omega (arith, first, once)
  runs_few _ = omega arith

-- ---- bodies

few_of : (body : Shown) (f : ℕ) (log : List Happened) → MayBeOf body.number f → Fits body log → yields (own log) ≤ most_steps
few_of body f log mine fits =
    let there = leads_segment (setting_of body f) (lives (block_in body.program body.birth.text)) (context_of body.birth) (own log) (place_of body.context body.standing) (around_of body.standing body.frames) body.context (fits.stands f mine) in
    let few = acts_few there.acts (omega arith) in
    omega (arith, few)

some_fiber : (body : Shown) (log : List Happened) (number : Option ℕ) → body.number ≡ number → number ≢ Some 0 → Fits body log → yields (own log) ≤ most_steps
some_fiber body log None is apart fits = few_of body 1 log (subst (λ (n : Option ℕ). MayBeOf n 1) (sym is) tt) fits
some_fiber body log (Some f) is apart fits = few_of body f log (subst (λ (n : Option ℕ). MayBeOf n f) (sym is) (refl, λ zero_is. apart (ap Some zero_is))) fits

pub few_yields : (body : Shown) (log : List Happened) → body.number ≢ Some 0 → Fits body log → yields (own log) ≤ most_steps
few_yields body log apart fits = some_fiber body log body.number refl apart fits
