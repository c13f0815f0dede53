-- Own logs, and the mark that tells what is left out of them: which entries never have it, and that one has
-- it where a fiber owes.
use Rattle.std.proofs.Common.{◌≡◌, ℕ, ◌≤◌, inr, cond, not, Bool, true, false, List, [], ◌∷◌, ◌++◌, filter, length, refl, sym, ap, subst, ◌∙◌, append_assoc, append-nil, arith}
use Rattle.std.specs.List.{AllByRecursion}
use Rattle.std.proofs.lemmas.List.Elements.{filter-append}
use Rattle.pic_base.specs.declared.duty.Duty.{Duty}
use Rattle.pic_base.specs.declared.duty.Duty.TheVariants.{Cancel, Follow, Return, Signal}
use Rattle.pic_base.specs.declared.outcome.Outcome.TheVariants.{Returned}
use Rattle.pic_machine.specs.declared.birth.Birth.{Birth}
use Rattle.pic_machine.specs.declared.entry.Call.{Call}
use Rattle.pic_machine.specs.declared.entry.Call.TheVariants as call
use Rattle.pic_machine.specs.declared.entry.Call.TheVariants.{Complete, Look, Peek, Turn, Yield}
use Rattle.pic_machine.specs.declared.entry.CompleteReply.TheVariants.{Won}
use Rattle.pic_machine.specs.declared.entry.Reply.{Reply}
use Rattle.pic_machine.specs.declared.entry.Reply.TheVariants.{Completed}
use Rattle.pic_machine.specs.declared.state.CompState.TheVariants.{Running}
use Rattle.pic_machine.specs.declared.state.FiberState.TheVariants.{Live}
use Rattle.pic_machine.specs.Duty.{DutiesAllow, Fulfils, is_owing}
use Rattle.pic_machine.specs.Happened.{Happened}
use Rattle.pic_machine.specs.History.{Follows, IsLegal, Origin, event, forked, happening, world}
use Rattle.pic_machine.specs.Lending.{Answered, Called, Lent}
use Rattle.pic_machine.specs.Log.{is_due, is_logged, is_look, log, own}
use Rattle.pic_machine.specs.Order.{is_yield, yields}
use Rattle.pic_machine.specs.Sight.{CanMake, Carry, Sight, fiber_of}
use Rattle.pic_machine.specs.State.{owed_of}
use Rattle.pic_machine.proofs.Histories.{IsLegal-nil, IsLegal-push}

pub own-append : (xs ys : List Happened) → own (xs ++ ys) ≡ own xs ++ own ys
own-append xs ys = filter-append (λ (h : Happened). not (is_due h)) xs ys

-- an entry without the mark is no due one
pub unmarked : (h : Happened) → h.owing ≡ false → is_due h ≡ false
unmarked h free = rw free refl

-- so it is its fiber's own
pub own-push : (xs : List Happened) (h : Happened) → h.owing ≡ false → own (xs ++ h ∷ []) ≡ own xs ++ h ∷ []
own-push xs h free = own-append xs (h ∷ []) ∙ rw free refl

-- one with it is left out, unless it is a look at a trigger
pub own-push_due : (xs : List Happened) (h : Happened) → is_due h ≡ true → own (xs ++ h ∷ []) ≡ own xs
own-push_due xs h due = own-append xs (h ∷ []) ∙ rw due (append-nil (own xs))

pub own-event : (xs : List Happened) (f : ℕ) (call : Call) (reply : Reply) → own (xs ++ event f call reply ∷ []) ≡ own xs ++ event f call reply ∷ []
own-event xs f call reply = own-push xs (event f call reply) refl

pub own-forked : (xs : List Happened) (f g : ℕ) (birth : Birth) → own (xs ++ forked f g birth ∷ []) ≡ own xs ++ forked f g birth ∷ []
own-forked xs f g birth = own-push xs (forked f g birth) refl

-- the same of the first entry
own_first : (h : Happened) (hs : List Happened) → is_due h ≡ false → own (h ∷ hs) ≡ h ∷ own hs
own_first h hs free = ap (λ (due : Bool). cond (not due) (h ∷ own hs) (own hs)) free

own_first_due : (h : Happened) (hs : List Happened) → is_due h ≡ true → own (h ∷ hs) ≡ own hs
own_first_due h hs due = ap (λ (due : Bool). cond (not due) (h ∷ own hs) (own hs)) due

-- where no entry has the mark nothing is left out
pub own_all : (hs : List Happened) → AllByRecursion (λ h. h.owing ≡ false) hs → own hs ≡ hs
own_all [] free = refl
own_all (h ∷ hs) free = own_first h hs (unmarked h free.0) ∙ ap (λ (zs : List Happened). h ∷ zs) (own_all hs free.1)

log_first : (h : Happened) (hs : List Happened) (f : ℕ) → is_logged f h ≡ true → log (h ∷ hs) f ≡ h ∷ log hs f
log_first h hs f mine = rw mine refl

log_first_other : (h : Happened) (hs : List Happened) (f : ℕ) → is_logged f h ≡ false → log (h ∷ hs) f ≡ log hs f
log_first_other h hs f other = rw other refl

-- the own entries of a log are the log of the own entries
pub own-log : (hs : List Happened) (f : ℕ) → own (log hs f) ≡ log (own hs) f
own-log [] f = refl
own-log (h ∷ hs) f = one_on (is_logged f h) refl (is_due h) refl (own-log hs f) where
  -- the first entry is left out of both, or stands in both
  left : (b : Bool) → is_logged f h ≡ b → is_due h ≡ true → own (log (h ∷ hs) f) ≡ own (log hs f)
  left true mine due = ap own (log_first h hs f mine) ∙ own_first_due h (log hs f) due
  left false other due = ap own (log_first_other h hs f other)

  one_on : (mine : Bool) → is_logged f h ≡ mine → (due : Bool) → is_due h ≡ due → own (log hs f) ≡ log (own hs) f → own (log (h ∷ hs) f) ≡ log (own (h ∷ hs)) f
  one_on mine is true due rest = left mine is due ∙ (rest ∙ ap (λ (zs : List Happened). log zs f) (sym (own_first_due h hs due)))
  one_on true mine false free rest =
      ap own (log_first h hs f mine) ∙ (own_first h (log hs f) free ∙ (ap (λ (zs : List Happened). h ∷ zs) rest
      ∙ (sym (log_first h (own hs) f mine) ∙ ap (λ (zs : List Happened). log zs f) (sym (own_first h hs free)))))
  one_on false other false free rest =
      ap own (log_first_other h hs f other) ∙ (rest ∙ (sym (log_first_other h (own hs) f other) ∙ ap (λ (zs : List Happened). log zs f) (sym (own_first h hs free))))

-- ---- what the mark says

-- the call fulfils the first duty
pub record FulfilsFirst (duties : List Duty) (call : Call) : Type 0 where
  pub first : Duty
  pub others : List Duty
  pub is : duties ≡ first ∷ others
  pub fulfils : Fulfils first call

pub due_fulfils : (duties : List Duty) (call : Call) → is_owing duties call ≡ true → is_look call ≡ false → DutiesAllow duties call → FulfilsFirst duties call
due_fulfils [] call due other allowed = absurd cc
due_fulfils (duty ∷ duties) Turn due other allowed = absurd cc
due_fulfils (duty ∷ duties) (Look t) due other allowed = absurd cc
due_fulfils (duty ∷ duties) _ due other allowed = record { first = duty; others = duties; is = refl; fulfils = allowed }

-- ---- which entries have no mark

-- the calls that whoever owes doesn't make, and that a turn began, which never has the mark
abbrev pub IsUnasked : Call → Type 0
IsUnasked (Look t) = ⊥
IsUnasked (call.Signal t) = ⊥
IsUnasked (Complete comp outcome) = ⊥
IsUnasked (Peek comp) = ⊥
IsUnasked _ = Unit {0}

unfulfilling : (duty : Duty) (call : Call) → IsUnasked call → Fulfils duty call → ⊥
unfulfilling (Signal trigger) (call.Signal t) unasked fulfils = unasked
unfulfilling (Signal trigger) _ unasked fulfils = fulfils
unfulfilling (Follow from into) (Peek comp) unasked fulfils = unasked
unfulfilling (Follow from into) _ unasked fulfils = fulfils
unfulfilling (Cancel into code) (Complete comp outcome) unasked fulfils = unasked
unfulfilling (Cancel into code) _ unasked fulfils = fulfils
unfulfilling (Return into branch) (Complete comp outcome) unasked fulfils = unasked
unfulfilling (Return into branch) _ unasked fulfils = fulfils

-- that a turn began
pub turn_free : (duties : List Duty) → is_owing duties Turn ≡ false
turn_free [] = refl
turn_free (duty ∷ duties) = refl

-- a call that no duty asks for, where it is allowed
pub unasked_free : (duties : List Duty) (call : Call) → IsUnasked call → DutiesAllow duties call → is_owing duties call ≡ false
unasked_free [] call unasked allowed = refl
unasked_free (duty ∷ duties) Turn unasked allowed = refl
unasked_free (duty ∷ duties) (Look t) unasked allowed = absurd unasked
unasked_free (duty ∷ duties) call unasked allowed = absurd (unfulfilling duty call unasked allowed)

-- the same of a body that is lent for it
pub can_free : {S : Type 0} (port : Sight S) (body : Carry S) (call : Call) → CanMake port body call → IsUnasked call → is_owing (body.owes) call ≡ false
can_free port body call can unasked =
    ap (λ (duties : List Duty). is_owing duties call) can.holds.owes ∙ unasked_free (owed_of (world port.origin port.front) (fiber_of body)) call unasked can.may.allowed.duties

module _ {S : Type 0} (old new : Sight S) (before now : Carry S) (call : Call) (reply : Reply) where
  pub answered_free : is_owing (before.owes) call ≡ false → Answered old new before now call reply → Called old new before now call reply
  answered_free free answered = subst (λ (owing : Bool). Lent old new before now (happening owing (fiber_of before) call reply)) free answered

  -- any call of a body that owes nothing
  pub answered_called : before.owes ≡ [] → Answered old new before now call reply → Called old new before now call reply
  answered_called none answered = answered_free (ap (λ (duties : List Duty). is_owing duties call) none) answered

-- ---- yields

-- so no entry of a legal history whose call no duty asks for has the mark
unasked_from : (origin : Origin) (front back : List Happened) → IsLegal origin (front ++ back) → AllByRecursion (λ h. IsUnasked h.entry.call → h.owing ≡ false) back
unasked_from origin front [] legal = tt
unasked_from origin front (h ∷ back) legal =
    let assoc : (front ++ h ∷ []) ++ back ≡ front ++ h ∷ back = append_assoc front (h ∷ []) back in
    let follows : Follows origin front h = legal.each front back h refl in (
      λ unasked. follows.owing ∙ unasked_free (owed_of (world origin front) h.entry.fiber) h.entry.call unasked follows.may.allowed.duties,
      unasked_from origin (front ++ h ∷ []) back (subst (IsLegal origin) (sym assoc) legal),
    )

pub unasked_unmarked : (origin : Origin) (hs : List Happened) → IsLegal origin hs → AllByRecursion (λ h. IsUnasked h.entry.call → h.owing ≡ false) hs
unasked_unmarked origin hs legal = unasked_from origin [] hs legal

yield_unasked : (call : Call) → is_yield call ≡ true → IsUnasked call
yield_unasked Yield is = tt
yield_unasked _ is = absurd cc

abbrev yielding : Happened → Bool
yielding h = is_yield h.entry.call

one_yielding : (h : Happened) (hs : List Happened) (f : ℕ) (mine due yield : Bool) → is_logged f h ≡ mine → is_due h ≡ due → is_yield h.entry.call ≡ yield → (IsUnasked h.entry.call → h.owing ≡ false)
    → filter yielding (own (log hs f)) ≡ filter yielding (log hs f) → filter yielding (own (log (h ∷ hs) f)) ≡ filter yielding (log (h ∷ hs) f)
one_yielding h hs f false due yield other is which free rest = rw (log_first_other h hs f other) rest
one_yielding h hs f true false yield mine is which free rest =
    rw (log_first h hs f mine, own_first h (log hs f) is) (ap (λ (zs : List Happened). cond (is_yield h.entry.call) (h ∷ zs) zs) rest)
one_yielding h hs f true true false mine is which free rest = rw (log_first h hs f mine, own_first_due h (log hs f) is, which) rest
one_yielding h hs f true true true mine is which free rest = absurd (let both : true ≡ false = sym is ∙ unmarked h (free (yield_unasked h.entry.call which)) in cc)

all_yielding : (hs : List Happened) (f : ℕ) → AllByRecursion (λ h. IsUnasked h.entry.call → h.owing ≡ false) hs → filter yielding (own (log hs f)) ≡ filter yielding (log hs f)
all_yielding [] f free = refl
all_yielding (h ∷ hs) f free = one_yielding h hs f (is_logged f h) (is_due h) (is_yield h.entry.call) refl refl refl free.0 (all_yielding hs f free.1)

-- the yields of a log are all its fiber's own
pub yields_own : (origin : Origin) (hs : List Happened) (f : ℕ) → IsLegal origin hs → yields (own (log hs f)) ≡ yields (log hs f)
yields_own origin hs f legal = ap (λ (zs : List Happened). length zs) (all_yielding hs f (unasked_unmarked origin hs legal))

-- and no more than those of the whole log, whatever the log
pub yields_own_below : (hs : List Happened) → yields (own hs) ≤ yields hs
yields_own_below [] = omega arith
yields_own_below (h ∷ hs) = one_on (is_due h) (is_yield h.entry.call) refl refl (yields_own_below hs) where
  one_on : (due yield : Bool) → is_due h ≡ due → is_yield h.entry.call ≡ yield → yields (own hs) ≤ yields hs → yields (own (h ∷ hs)) ≤ yields (h ∷ hs)
  one_on true true is which rest = rw (own_first_due h hs is, which) (omega (arith, rest))
  one_on true false is which rest = rw (own_first_due h hs is, which) rest
  one_on false true is which rest = rw (own_first h hs is, which) (omega (arith, rest))
  one_on false false is which rest = rw (own_first h hs is, which) rest

-- ---- that the mark is set

-- a legal history of one entry, by which its fiber fulfilled a duty: it stands in the fiber's log, and not
-- in its own log
pub record FulfilsADuty : Type 0 where
  pub origin : Origin
  pub done : Happened
  pub legal : IsLegal origin (done ∷ [])
  pub marked : done.owing ≡ true
  pub logged : log (done ∷ []) done.entry.fiber ≡ done ∷ []
  pub left_out : own (log (done ∷ []) done.entry.fiber) ≡ []

-- main has to return 7 into the root
abbrev owner : Origin
owner = record {
  world = record {
    triggers = [];
    comps = Running [] ∷ [];
    fibers = Live ∷ [];
    owed = [] ∷ ((Return 0 7 ∷ []) ∷ []);
    places = 0;
    limits = record { fibers = 1; triggers = 0; places = 0; comps = 1 };
  };
  main = record { text = 0; value = 0; current = 0 };
}

abbrev returning : Happened
returning = happening true 1 (Complete 0 (Returned 7)) (Completed Won)

follows_owner : Follows owner [] returning
follows_owner = record {
  may = record {
    allowed = record {
      caller = inr (record { made = omega arith; live = refl });
      clock = λ clock. absurd (omega (arith, clock));
      duties = (refl, refl);
      names = omega arith;
      own = tt;
    };
    numbers = tt;
  };
  reply = refl;
  birth = refl;
  owing = refl;
}

pub mark_is_set : FulfilsADuty
mark_is_set = record {
  origin = owner;
  done = returning;
  legal = IsLegal-push owner [] returning (IsLegal-nil owner) follows_owner;
  marked = refl;
  logged = refl;
  left_out = refl;
}
