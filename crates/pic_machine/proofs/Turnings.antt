-- How many turns are over: as many as the fibers' own logs say, and each fiber has a number within the limit.
-- A fiber's turns end by yields, by waits, and once by its end. No two waits are at one trigger; so where no
-- fiber yields more than so many times, a history has few turns.
use Rattle.std.proofs.Common.{◌≡◌, ◌≢◌, ◌⊎◌, ℕ, zero, suc, ◌+◌, ◌*◌, ◌-◌, ◌<◌, ◌≤◌, inl, inr, eqb, Bool, true, false, List, [], ◌∷◌, ◌++◌, length, filter, refl, sym, ap, subst, ◌∙◌, append_assoc, arith}
use Rattle.std.specs.List.{AllByRecursion}
use Rattle.std.proofs.lemmas.Bool.Decides.{eqb_tells, nat_tests}
use Rattle.std.proofs.lemmas.List.{length-append}
use Rattle.std.proofs.lemmas.List.Elements.{filter-append}
use Rattle.std.proofs.lemmas.Option.{slice_get_within}
use Rattle.pic_base.specs.declared.limits.Limits.{Limits}
use Rattle.pic_base.specs.declared.outcome.Outcome.{Outcome}
use Rattle.pic_machine.specs.declared.state.FiberState.TheVariants.{Live}
use Rattle.pic_machine.specs.declared.entry.Call.{Call}
use Rattle.pic_machine.specs.declared.entry.Call.TheVariants.{Turn, Yield, End}
use Rattle.pic_machine.specs.declared.entry.Reply.{Reply}
use Rattle.pic_machine.specs.Happened.{Happened}
use Rattle.pic_machine.specs.State.{State}
use Rattle.pic_machine.specs.Duty.{LeavesDuties}
use Rattle.pic_machine.specs.Step.{IsLive, after, fibers_after}
use Rattle.pic_machine.specs.History.{Origin, Follows, IsLegal, world}
use Rattle.pic_machine.specs.Log.{is_logged, is_turn, log}
use Rattle.pic_machine.specs.Order.{GoesOn, Stops, is_yield, stops, turns_over, yields}
use Rattle.pic_machine.specs.Suspending.{IsTied}
use Rattle.pic_machine.proofs.Callers.{caller_is_live}
use Rattle.pic_machine.proofs.Ends.{HasEnded, ended_after, ended_there}
use Rattle.pic_machine.proofs.Fates.{AreSteps, acts_not, steps}
use Rattle.pic_machine.proofs.Onward.{logged}
use Rattle.pic_machine.proofs.Parks.{few_parks, halted, halts, turns_split, world_limits, world_within}
use Rattle.pic_machine.proofs.Staying.{not_logged}
use Rattle.pic_machine.proofs.Steps.{IsWithin}
use Rattle.pic_machine.proofs.Suspensions.{tied_after}

-- ---- lists

pub turns_over-append : (xs ys : List Happened) → turns_over (xs ++ ys) ≡ turns_over xs + turns_over ys
turns_over-append xs ys =
    let test : Happened → Bool = λ h. stops h.entry.call h.entry.reply in
    ap (λ (zs : List Happened). length zs) (filter-append test xs ys) ∙ length-append (filter test xs) (filter test ys)

pub yields-append : (xs ys : List Happened) → yields (xs ++ ys) ≡ yields xs + yields ys
yields-append xs ys =
    let test : Happened → Bool = λ h. is_yield h.entry.call in
    ap (λ (zs : List Happened). length zs) (filter-append test xs ys) ∙ length-append (filter test xs) (filter test ys)

-- no entry within a turn is a yield
goes_on_by : (call : Call) (reply : Reply) → stops call reply ≡ false → is_yield call ≡ false
goes_on_by Yield reply on = absurd cc
goes_on_by _ reply on = refl

none_yield : (going : List Happened) → AllByRecursion GoesOn going → yields going ≡ 0
none_yield [] on = refl
none_yield (h ∷ going) on = rw (goes_on_by h.entry.call h.entry.reply on.0) (none_yield going on.1)

one_yields : (h : Happened) (b : Bool) → is_yield h.entry.call ≡ b → yields (h ∷ []) ≤ 1
one_yields h true yield = rw yield (omega arith)
one_yields h false other = rw other (omega arith)

-- a turn has one yield at most
pub turn_yields : (going : List Happened) (last : Happened) → AllByRecursion GoesOn going → yields (going ++ last ∷ []) ≤ 1
turn_yields going last on = omega (arith, yields-append going (last ∷ []), none_yield going on, one_yields last (is_yield last.entry.call) refl)

pub yields-goes : (hs : List Happened) (h : Happened) → GoesOn h → yields (hs ++ h ∷ []) ≡ yields hs
yields-goes hs h on = omega (arith, yields-append hs (h ∷ []), none_yield (h ∷ []) (on, tt))

none_over : (going : List Happened) → AllByRecursion GoesOn going → turns_over going ≡ 0
none_over [] on = refl
none_over (h ∷ going) on = rw on.0 (none_over going on.1)

one_over : (h : Happened) → Stops h → turns_over (h ∷ []) ≡ 1
one_over h stop = rw stop refl

-- a log with one entry more
pub turns_over-stops : (hs : List Happened) (h : Happened) → Stops h → turns_over (hs ++ h ∷ []) ≡ turns_over hs + 1
turns_over-stops hs h stop = omega (arith, turns_over-append hs (h ∷ []), one_over h stop)

pub turns_over-goes : (hs : List Happened) (h : Happened) → GoesOn h → turns_over (hs ++ h ∷ []) ≡ turns_over hs
turns_over-goes hs h on = omega (arith, turns_over-append hs (h ∷ []), none_over (h ∷ []) (on, tt))

-- a turn that is over is one
pub turn_over : (going : List Happened) (last : Happened) → AllByRecursion GoesOn going → Stops last → turns_over (going ++ last ∷ []) ≡ 1
turn_over going last on stop = omega (arith, turns_over-append going (last ∷ []), none_over going on, one_over last stop)

-- ---- fibers and their numbers

-- a live fiber has a number within the limit
pub live_within : (origin : Origin) (hs : List Happened) (f : ℕ) → IsWithin origin.world → IsLive (world origin hs) f → f ≤ origin.world.limits.fibers
live_within origin hs f within live =
    let place = slice_get_within (world origin hs).fibers (f - 1) Live live.live in
    let limit : (world origin hs).limits.fibers ≡ origin.world.limits.fibers = ap (λ (limits : Limits). limits.fibers) (world_limits origin.world hs) in
    omega (arith, place, live.made, limit, (world_within origin.world hs within).fibers)

-- ---- an entry that yields or ends

abbrev Halts : Happened → Type 0
Halts h = halts h.entry.call ≡ true

halts_within : (call : Call) → halts call ≡ true → is_turn call ≡ false
halts_within Turn halt = absurd cc
halts_within _ halt = refl

halting : (call : Call) → halts call ≡ true → LeavesDuties call
halting Yield halt = tt
halting (End o) halt = tt
halting _ halt = absurd cc

one_halted : (h : Happened) → Halts h → halted (h ∷ []) ≡ 1
one_halted h halt = rw halt refl

-- the fiber of such an entry
record IsIn (limit f : ℕ) : Type 0 where
  above : 0 < f
  below : f ≤ limit

halter : (origin : Origin) (front : List Happened) (h : Happened) → IsWithin origin.world → Follows origin front h → Halts h → IsIn origin.world.limits.fibers h.entry.fiber
halter origin front h within follows halt =
    let live : IsLive (world origin front) h.entry.fiber = caller_is_live (world origin front) h.entry.fiber h.entry.call follows.may.allowed (halting h.entry.call halt) in
    record { above = live.made; below = live_within origin front h.entry.fiber within live }

-- ---- one fiber

halts_how : (call : Call) → halts call ≡ true → (is_yield call ≡ true) ⊎ ((o : Outcome) × (call ≡ End o))
halts_how Yield halt = inl refl
halts_how (End o) halt = inr (o, refl)
halts_how _ halt = absurd cc

yields_first : (h : Happened) (hs : List Happened) (b : Bool) → is_yield h.entry.call ≡ b → yields hs ≤ yields (h ∷ hs)
yields_first h hs true yield = rw yield (omega arith)
yields_first h hs false other = rw other (omega arith)

-- a fiber that has ended makes no entry
idle_since : (w : State) (hs : List Happened) (place : ℕ) → AreSteps w hs → IsTied w → HasEnded w.fibers place → log hs (place + 1) ≡ []
idle_since w [] place are tied ended = refl
idle_since w (h ∷ hs) place are tied ended =
    let other : h.entry.fiber ≢ place + 1 = acts_not w h.entry.fiber place ended.outcome are.0.allowed.caller ended.state in
    let tied_then : IsTied (after w h.entry.fiber h.entry.call) = tied_after w h.entry.fiber h.entry.call are.0.allowed tied in
    rw (not_logged h (place + 1) other)
    (idle_since (after w h.entry.fiber h.entry.call) hs place are.1 tied_then (ended_after w h.entry.fiber h.entry.call place are.0.allowed tied ended))

-- so it yields, and ends once
halted_once : (w : State) (hs : List Happened) (place : ℕ) → AreSteps w hs → IsTied w → halted (log hs (place + 1)) ≤ yields (log hs (place + 1)) + 1
halted_once w [] place are tied = omega arith
halted_once w (h ∷ hs) place are tied = one_on (halted_once (after w h.entry.fiber h.entry.call) hs place are.1 tied_then) (is_logged (place + 1) h) refl where
  tied_then : IsTied (after w h.entry.fiber h.entry.call)
  tied_then = tied_after w h.entry.fiber h.entry.call are.0.allowed tied

  ended : (o : Outcome) → h.entry.fiber ≡ place + 1 → h.entry.call ≡ End o → log hs (place + 1) ≡ []
  ended o mine is =
      let fiber : h.entry.fiber ≢ 0 = λ zero_is. absurd (omega (arith, mine, zero_is)) in
      let there : HasEnded (fibers_after w h.entry.fiber (End o)) (h.entry.fiber - 1) = ended_there w h.entry.fiber o fiber are.0.allowed.caller in
      let here : HasEnded (fibers_after w h.entry.fiber h.entry.call) (h.entry.fiber - 1) = subst (λ (c : Call). HasEnded (fibers_after w h.entry.fiber c) (h.entry.fiber - 1)) (sym is) there in
      let at : h.entry.fiber - 1 ≡ place = omega (arith, mine) in
      idle_since (after w h.entry.fiber h.entry.call) hs place are.1 tied_then (subst (HasEnded (fibers_after w h.entry.fiber h.entry.call)) at here)

  by_end : halted (log hs (place + 1)) ≤ yields (log hs (place + 1)) + 1 → h.entry.fiber ≡ place + 1 → Halts h → (is_yield h.entry.call ≡ true) ⊎ ((o : Outcome) × (h.entry.call ≡ End o))
      → halted (h ∷ log hs (place + 1)) ≤ yields (h ∷ log hs (place + 1)) + 1
  by_end rest mine halt (inl yield) = rw (halt, yield) (omega (arith, rest))
  by_end rest mine halt (inr (o, is)) = rw (ended o mine is) (omega (arith, one_halted h halt))

  by_halt : halted (log hs (place + 1)) ≤ yields (log hs (place + 1)) + 1 → (b : Bool) → halts h.entry.call ≡ b → h.entry.fiber ≡ place + 1 → halted (h ∷ log hs (place + 1)) ≤ yields (h ∷ log hs (place + 1)) + 1
  by_halt rest true halt mine = by_end rest mine halt (halts_how h.entry.call halt)
  by_halt rest false on mine = let more = yields_first h (log hs (place + 1)) (is_yield h.entry.call) refl in rw on (omega (arith, rest, more))

  one_on : halted (log hs (place + 1)) ≤ yields (log hs (place + 1)) + 1 → (b : Bool) → is_logged (place + 1) h ≡ b → halted (log (h ∷ hs) (place + 1)) ≤ yields (log (h ∷ hs) (place + 1)) + 1
  one_on rest true logged_is =
      let mine : h.entry.fiber ≡ place + 1 = grind (arith, nat_tests, logged_is) in
      rw logged_is (by_halt rest (halts h.entry.call) refl mine)
  one_on rest false other = rw other rest

-- ---- the sum over the fibers

-- how often fibers 1 to n yielded or ended
abbrev halted_up_to : ℕ → List Happened → ℕ
halted_up_to zero hs = 0
halted_up_to (suc n) hs = halted (log hs (suc n)) + halted_up_to n hs

halted_logged : (h : Happened) (hs : List Happened) (f : ℕ) (mine halt : Bool) → is_logged f h ≡ mine → halts h.entry.call ≡ halt → halted (log hs f) ≤ halted (log (h ∷ hs) f)
halted_logged h hs f true true mine halt = rw (mine, halt) (omega arith)
halted_logged h hs f true false mine halt = rw (mine, halt) (omega arith)
halted_logged h hs f false halting mine halt = rw mine (omega arith)

halted_grows : (h : Happened) (hs : List Happened) (n : ℕ) → halted_up_to n hs ≤ halted_up_to n (h ∷ hs)
halted_grows h hs zero = omega arith
halted_grows h hs (suc n) = omega (arith, halted_grows h hs n, halted_logged h hs (suc n) (is_logged (suc n) h) (halts h.entry.call) refl refl)

halted_mine : (h : Happened) (hs : List Happened) (f : ℕ) → h.entry.fiber ≡ f → Halts h → halted (log (h ∷ hs) f) ≡ 1 + halted (log hs f)
halted_mine h hs f mine halt =
    let here : is_logged f h ≡ true = logged h f mine (halts_within h.entry.call halt) in
    rw (here, halt) (omega arith)

at_most : (f n : ℕ) → f ≤ suc n → f ≢ suc n → f ≤ n
at_most f n below other = grind (arith, below, other)

halted_more : (h : Happened) (hs : List Happened) (n : ℕ) → IsIn n h.entry.fiber → Halts h → 1 + halted_up_to n hs ≤ halted_up_to n (h ∷ hs)
halted_more h hs zero is halt = absurd (omega (arith, is.above, is.below))
halted_more h hs (suc n) is halt = one_on (λ below. halted_more h hs n below halt) (eqb_tells h.entry.fiber (suc n)) where
  one_on : (IsIn n h.entry.fiber → 1 + halted_up_to n hs ≤ halted_up_to n (h ∷ hs)) → ((eqb h.entry.fiber (suc n) ≡ true) × (h.entry.fiber ≡ suc n)) ⊎ ((eqb h.entry.fiber (suc n) ≡ false) × (h.entry.fiber ≢ suc n))
      → 1 + halted_up_to (suc n) hs ≤ halted_up_to (suc n) (h ∷ hs)
  one_on rest (inl newest) = omega (arith, halted_mine h hs (suc n) newest.1 halt, halted_grows h hs n)
  one_on rest (inr other) =
      let below : h.entry.fiber ≤ n = at_most h.entry.fiber n is.below other.1 in
      omega (arith, rest (record { above = is.above; below = below }), halted_logged h hs (suc n) (is_logged (suc n) h) (halts h.entry.call) refl refl)

counted : (origin : Origin) (front back : List Happened) → IsWithin origin.world → IsLegal origin (front ++ back) → halted back ≤ halted_up_to origin.world.limits.fibers back
counted origin front [] within legal = omega arith
counted origin front (h ∷ back) within legal =
    let assoc : (front ++ h ∷ []) ++ back ≡ front ++ h ∷ back = append_assoc front (h ∷ []) back in
    let rest = counted origin (front ++ h ∷ []) back within (subst (IsLegal origin) (sym assoc) legal) in
    one_on (halts h.entry.call) refl rest where
      one_on : (halt : Bool) → halts h.entry.call ≡ halt → halted back ≤ halted_up_to origin.world.limits.fibers back → halted (h ∷ back) ≤ halted_up_to origin.world.limits.fibers (h ∷ back)
      one_on true halt rest =
          let more = halted_more h back origin.world.limits.fibers (halter origin front h within (legal.each front back h refl) halt) halt in
          rw halt (omega (arith, rest, more))
      one_on false on rest = rw on (omega (arith, rest, halted_grows h back origin.world.limits.fibers))

few_up_to : (origin : Origin) (hs : List Happened) (most n : ℕ) → AreSteps origin.world hs → IsTied origin.world → ((f : ℕ) → yields (log hs f) ≤ most) → halted_up_to n hs ≤ n * (most + 1)
few_up_to origin hs most zero are tied few = omega arith
few_up_to origin hs most (suc n) are tied few =
    let next : n + 1 ≡ suc n = omega arith in
    let once : halted (log hs (suc n)) ≤ yields (log hs (suc n)) + 1 = subst (λ (k : ℕ). halted (log hs k) ≤ yields (log hs k) + 1) next (halted_once origin.world hs n are tied) in
    omega (arith, few (suc n), once, few_up_to origin hs most n are tied few)

-- where no fiber yields more than so many times
pub few_turns : (origin : Origin) (hs : List Happened) (most : ℕ) → IsWithin origin.world → IsTied origin.world → IsLegal origin hs → ((f : ℕ) → yields (log hs f) ≤ most)
    → turns_over hs ≤ origin.world.limits.fibers * (most + 1) + origin.world.limits.triggers
few_turns origin hs most within tied legal few =
    omega (arith, turns_split hs, counted origin [] hs within legal, few_up_to origin hs most origin.world.limits.fibers (steps origin hs legal) tied few, few_parks origin hs within legal)
