-- Calls of the port with a body that is up, and what the port, or the caller, gets back.
use Rattle.std.proofs.Common.{◌≡◌, ℕ, ◌-◌, ◌<◌, ◌≤◌, inl, inr, true, false, Option, Some, None, List, [], ◌∷◌, ◌++◌, length, slice_get, refl, sym, ap, subst, ◌∙◌, arith}
use Rattle.pic_base.specs.declared.outcome.Outcome.{Outcome}
use Rattle.pic_machine.specs.declared.birth.Birth.{Birth}
use Rattle.pic_machine.specs.declared.entry.Call.{Call}
use Rattle.pic_machine.specs.declared.entry.Call.TheVariants as asked
use Rattle.pic_machine.specs.declared.entry.Entry.{Entry}
use Rattle.pic_machine.specs.declared.entry.Reply.{Reply}
use Rattle.pic_machine.specs.declared.entry.Reply.TheVariants.{Plain}
use Rattle.pic_machine.specs.declared.poller.Turn.{Turn}
use Rattle.pic_machine.specs.declared.port.PortFault.{PortFault}
use Rattle.pic_machine.specs.declared.port.PortFault.TheVariants.{Full, Again, Memory}
use Rattle.pic_machine.specs.Happened.{Happened}
use Rattle.pic_machine.specs.History.{event, world}
use Rattle.pic_machine.specs.Lending.{Faulted, FitsWith, Made, Refuses}
use Rattle.pic_machine.specs.Log.{is_hidden, is_turn, log, own, visible}
use Rattle.pic_machine.specs.Order.{readied_by, stops}
use Rattle.pic_machine.specs.Sight.{IsChild, Sight, fiber_of}
use Rattle.pic_machine.specs.Step.{NamesStand}
use Rattle.pic_machine.specs.Turning.{Adds, Polled, Stopped}
use Rattle.pic_machine.proofs.Comps.{comps_stay}
use Rattle.pic_machine.proofs.Histories.{visible-push}
use Rattle.pic_machine.proofs.Numbers.{triggers_from}
use Rattle.pic_machine.proofs.Owns.{own-event}
use Rattle.pic_machine.proofs.Turns.{went_stopped}
use Rattle.script_tree.specs.declared.program.Stmt.{Stmt}
use Rattle.script_tree.specs.declared.program.Stmt.TheVariants.{Yield}
use Rattle.script_tree.specs.declared.thing.Sort.TheVariants as sort
use Rattle.script_tree.specs.Tree.{Tree}
use Rattle.fiber_body.specs.declared.standing.Exit.TheVariants.{Next}
use Rattle.fiber_body.specs.declared.standing.Standing.{Standing}
use Rattle.fiber_body.specs.declared.standing.Standing.TheVariants.{Ended, Ending}
use Rattle.fiber_body.specs.Context.{Context, block_at, count_of, stepped}
use Rattle.fiber_body.specs.Fits.{Fits, IsOver, LeadsTo, MayBeOf, setting_of}
use Rattle.fiber_body.specs.Follows.{context_of}
use Rattle.fiber_body.specs.Framing.{ends_ahead, leads_entry}
use Rattle.fiber_body.specs.Laws.{fits_led}
use Rattle.fiber_body.specs.New.{IsNew}
use Rattle.fiber_body.specs.Owns.{Owns}
use Rattle.fiber_body.specs.Phases.{Phase, ending, ends, gone, lives}
use Rattle.fiber_body.specs.Shown.{IsSameRest, MayBeCurrent, Shown, carry_of, stood}
use Rattle.fiber_body.specs.Texts.{block_in, script_in}
use Rattle.fiber_poll.specs.declared.spot.Spot.{Spot}
use Rattle.fiber_poll.specs.Moving.{IsBefore, behind_at, taken}
use Rattle.fiber_poll.specs.Polls.{IsPortOf}
use Rattle.fiber_poll.specs.UnderWay.{CanAsk, IsHandedBack, IsOn, IsUp}
use Rattle.fiber_poll.proofs.Asking.{ends_by_reply, leads_asked}
use Rattle.fiber_poll.proofs.Births.{current_stands}
use Rattle.fiber_poll.proofs.Going.{leads_same, on_spared, on_trans, owns_same, program_up, same_number}
use Rattle.fiber_poll.proofs.Moves.{stands_at}

-- ---- calls behind which the turn goes on

module _ {script : Tree} {port : Sight (Option Tree)} (of : IsPortOf script port) where
  -- a computation that is declared stands
  pub comp_stands : (comp : ℕ) → comp ≤ count_of sort.Comp script.decls → comp < length (world port.origin port.front).comps
  comp_stands comp there = let stay = comps_stay port.origin port.front in let few = of.comps in omega (arith, there, stay, few)

  pub trigger_stands : (trigger : ℕ) → trigger < count_of sort.Trigger script.decls → trigger < length (world port.origin port.front).triggers
  trigger_stands trigger there = let stay = triggers_from port.origin.world port.front in let few = of.triggers in omega (arith, there, stay, few)

  -- a computation that may be current for a body that is up stands
  pub may_stand : {body : Shown} (comp : ℕ) → IsUp port body → MayBeCurrent (Some script) body.birth comp → comp < length (world port.origin port.front).comps
  may_stand {body} comp up (inl first) =
      subst (λ (k : ℕ). k < length (world port.origin port.front).comps) (sym first)
      (current_stands port.origin port.front (fiber_of (carry_of body)) body.birth up.holds.legal of.main (up.holds.birth up.fiber))
  may_stand comp up (inr declared) = comp_stands comp declared

  pub current_up : {body : Shown} (comp : ℕ) → IsUp port body → MayBeCurrent body.program body.birth comp → comp < length (world port.origin port.front).comps
  current_up {body} comp up may = may_stand comp up (subst (λ (p : Option Tree). MayBeCurrent p body.birth comp) (program_up script port body of up) may)

  pub names_stand : {body : Shown} → IsUp port body → (call : Call) → CanAsk script body.birth call → NamesStand (world port.origin port.front) call
  names_stand up (asked.Peek comp) can = may_stand comp up can
  names_stand up (asked.Complete comp outcome) can = comp_stands comp can
  names_stand up (asked.Look trigger) can = absurd can
  names_stand up (asked.Arm trigger action) can = absurd can
  names_stand up (asked.Signal trigger) can = trigger_stands trigger can
  names_stand up (asked.Attach place comp trigger) can = absurd can
  names_stand up _ can = tt

  -- a new body of the program, with the current computation of one that is up, may become a child
  pub is_child : {body child : Shown} (birth : Birth) → IsUp port body → MayBeCurrent body.program body.birth birth.current → IsNew child (Some script) birth None → IsChild port (carry_of child) birth.text birth.value
  is_child {body} {child} birth up may new =
      let n = length (world port.origin port.front).comps in
      record {
        unnumbered = new.number_is;
        owes = new.owes;
        same_text = ap (λ (b : Birth). b.text) new.birth_is;
        same_value = ap (λ (b : Birth). b.value) new.birth_is;
        stands = subst (λ (b : Birth). b.current < n) (sym new.birth_is) (current_up birth.current up may);
        share = new.program_is ∙ sym of.share;
      }

-- ---- bodies that are handed back

same_fiber : (number : Option ℕ) (f g : ℕ) → number ≡ Some f → MayBeOf number g → f ≡ g
same_fiber number f g is mine = (subst (λ (n : Option ℕ). MayBeOf n g) is mine).0

-- a body of fiber f fits where the fiber's own log leads to it
fits_as : (body : Shown) (f : ℕ) (hs : List Happened) → body.number ≡ Some f → body.noted ≡ visible hs → LeadsTo body f (own hs) → Owns (script_in body.program) f (own hs) body.standing → (body.standing ≡ Ended → IsOver f hs) → Fits body hs
fits_as body f hs number noted leads owns over =
    fits_led body hs noted
    (λ g mine. subst (λ (n : ℕ). LeadsTo body n (own hs)) (same_fiber body.number f g number mine) leads)
    (λ g mine. subst (λ (n : ℕ). Owns (script_in body.program) n (own hs) body.standing) (same_fiber body.number f g number mine) owns)
    (λ g mine ended. subst (λ (n : ℕ). IsOver n hs) (same_fiber body.number f g number mine) (over ended))

module _ {p q : Sight (Option Tree)} {a b : Shown} {before now : Option (List ℕ)} where
  on_fits : IsOn p q a b before now → Fits b (log q.front (fiber_of (carry_of a)))
  on_fits on = subst (λ (n : ℕ). Fits b (log q.front n)) (same_number a b on.went.number)
      (let f = fiber_of (carry_of b) in fits_as b f (log q.front f) on.up.holds.number on.up.holds.noted on.up.leads on.up.owns (λ ended. absurd (on.up.live ended)))

  pub handed : (fault : PortFault) (answer : Turn Shown) → IsOn p q a b before now → Faulted fault p q → IsHandedBack fault b answer → Polled answer carry_of Fits p q (carry_of a) before now
  handed Full answer on why back = absurd why
  handed Again answer on why back = subst (λ (t : Turn Shown). Polled t carry_of Fits p q (carry_of a) before now) (sym back) (on.went, on_fits on, why)
  handed Memory answer on why back = subst (λ (t : Turn Shown). Polled t carry_of Fits p q (carry_of a) before now) (sym back) (on.went, on_fits on, why)

-- the body was to stand elsewhere; it was refused, and is handed back where it stood
pub handed_set_back : {p q : Sight (Option Tree)} {a ready moved back final : Shown} {told : Option (List ℕ)} (there standing : Standing) (n steps : ℕ) (fault : PortFault) (answer : Turn Shown) → IsOn p p a ready told told → moved ≡ stood ready there n
    → Refuses fault p q (carry_of moved) (carry_of back) × IsSameRest moved back → ready.standing ≡ standing → steps ≡ ready.context.steps → final ≡ stood back standing steps → IsHandedBack fault final answer → Polled answer carry_of Fits p q (carry_of a) told told
handed_set_back {p} {q} {a} {ready} {back = back} {final = final} {told = told} there standing n steps fault answer on moved_is refused at left again how =
    let kept = subst (λ (d : Shown). Refuses fault p q (carry_of d) (carry_of back) × IsSameRest d back) moved_is refused in
    let rest : IsSameRest ready (stood back standing steps) = record {
      context = ap (λ (c : Context). record c { steps = steps }) kept.1.context ∙ ap (λ (k : ℕ). record ready.context { steps = k }) left;
      standing = sym at;
      frames = kept.1.frames;
    } in
    let set : IsOn p q ready final told told = subst (λ (d : Shown). IsOn p q ready d told told) (sym again) (on_spared on.up kept.0.0 rest) in
    handed fault answer (on_trans on set) kept.0.1 how

-- ---- bodies that the port takes back

-- the turn is over
pub stopped : {p q : Sight (Option Tree)} {a ready moved : Shown} {before now : Option (List ℕ)} (there : Standing) (n : ℕ) (call : Call) (re : Reply) (How : Happened → Type 0) → IsOn p p a ready before before → moved ≡ stood ready there n
    → Made p q (event (fiber_of (carry_of moved)) call re) → is_turn call ≡ false → stops call re ≡ true → How (event (fiber_of (carry_of ready)) call re) → Adds before now (readied_by (fiber_of (carry_of ready)) call re ++ []) → q.out ≡ None
    → Stopped p q (fiber_of (carry_of a)) before now How
stopped {p} {q} {a} {ready} {before = before} {now = now} there n call re How on is made within last how line out =
    let h = event (fiber_of (carry_of ready)) call re in
    went_stopped p p q (carry_of a) (carry_of ready) before before now How h on.went (subst (λ (d : Shown). Made p q (event (fiber_of (carry_of d)) call re)) is made) refl within last how line out

-- the statement is next for a body with the same rest too
pub before_same : {a b : Shown} {spot : Spot} {one : Stmt} → IsSameRest a b → b.program ≡ a.program → IsBefore a spot one → IsBefore b spot one
before_same {spot = spot} {one = one} rest program before = record {
  here = record {
    at = rest.standing ∙ before.here.at;
    is = subst (λ (p : Option Tree). slice_get (block_at (script_in p).blocks spot.block) spot.place ≡ Some one) (sym program) before.here.is;
    within = before.here.within;
  };
  steps = subst (λ (c : Context). 0 < c.steps) (sym rest.context) before.steps;
}

module _ {port : Sight (Option Tree)} {a : Shown} (up : IsUp port a) where
  abbrev f : ℕ
  f = fiber_of (carry_of a)

  abbrev hs : List Happened
  hs = log port.front f

  -- what the port asks for, where the body stands where the entry leads
  abbrev pub TakesBack : Shown → Call → Reply → Type 0
  TakesBack d call re = FitsWith carry_of IsSameRest Fits d (log port.front (fiber_of (carry_of d))) (event (fiber_of (carry_of d)) call re)

  pub taken_back : (there : Standing) (n : ℕ) (call : Call) (re : Reply) → is_hidden call re ≡ false → LeadsTo (stood a there n) f (own hs ++ event f call re ∷ [])
      → Owns (script_in a.program) f (own hs ++ event f call re ∷ []) there → (there ≡ Ended → IsOver f (hs ++ event f call re ∷ [])) → TakesBack (stood a there n) call re
  taken_back there n call re shown leads owns over noted notes rest =
      let h = event f call re in
      let logs : own (hs ++ h ∷ []) ≡ own hs ++ h ∷ [] = own-event hs f call re in
      fits_as noted f (hs ++ h ∷ []) (notes.number ∙ up.holds.number)
      (notes.noted ∙ (ap (λ (es : List Entry). es ++ h.entry ∷ []) up.holds.noted ∙ sym (visible-push hs h shown)))
      (leads_same (stood a there n) noted f (own (hs ++ h ∷ [])) rest notes.birth notes.share (subst (LeadsTo (stood a there n) f) (sym logs) leads))
      (owns_same (stood a there n) noted f (own (hs ++ h ∷ [])) rest notes.share (subst (λ (xs : List Happened). Owns (script_in a.program) f xs there) (sym logs) owns))
      (λ ended. over (sym rest.standing ∙ ended))

  -- behind its yield
  pub fits_yielded : (spot : Spot) {d : Shown} (there : Standing) (n : ℕ) → IsBefore a spot Yield → there ≡ behind_at spot Next → n ≡ a.context.steps → d ≡ stood a there (n - 1) → TakesBack d asked.Yield Plain
  fits_yielded spot there n before behind_is left is =
      let e = ends_by_reply (stepped a.context) Yield Plain in
      subst (λ (x : Shown). TakesBack x asked.Yield Plain) (sym (is ∙ (ap (λ (st : Standing). stood a st (n - 1)) behind_is ∙ ap (λ (k : ℕ). stood a (behind_at spot Next) (k - 1)) left)))
      (taken_back (behind_at spot Next) (a.context.steps - 1) asked.Yield Plain refl
      (subst (λ (p : Phase). LeadsTo (taken a spot p) f (own hs ++ event f asked.Yield Plain ∷ [])) (sym e.is) (leads_asked a f spot Yield asked.Yield Plain (own hs) before refl refl refl up.leads))
      tt (λ ended. absurd cc))

  -- behind its end
  ending_leads : (outcome : Outcome) → a.standing ≡ Ending outcome → LeadsTo (stood a Ended a.context.steps) f (own hs ++ event f (asked.End outcome) Plain ∷ [])
  ending_leads outcome ending_is tail y d ahead =
      let s = setting_of a f in
      let there : LeadsTo (stood a (Ending outcome) a.context.steps) f (own hs) = subst (λ (x : Shown). LeadsTo x f (own hs)) (stands_at a (Ending outcome) ending_is) up.leads in
      leads_entry s (lives (block_in a.program a.birth.text)) (context_of a.birth) (own hs) [] {p = ending outcome ends} {q = ending outcome gone} {c = a.context} (asked.End outcome) Plain refl refl there tail y d
      (ends_ahead s {p = ending outcome gone} [] refl tail y d ahead)

  pub fits_ended : (outcome : Outcome) {d : Shown} (n : ℕ) → a.standing ≡ Ending outcome → n ≡ a.context.steps → d ≡ stood a Ended n → TakesBack d (asked.End outcome) Plain
  fits_ended outcome n ending_is left is =
      subst (λ (x : Shown). TakesBack x (asked.End outcome) Plain) (sym (is ∙ ap (stood a Ended) left))
      (taken_back Ended a.context.steps (asked.End outcome) Plain refl (ending_leads outcome ending_is) tt (λ ended. record { before = hs; outcome = outcome; is = refl }))
