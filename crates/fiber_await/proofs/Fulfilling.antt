-- Duties, fulfilled one after another.
use Rattle.std.proofs.Common.{◌≡◌, ℕ, ◌+◌, cond, not, true, Bool, Option, Some, None, List, [], ◌∷◌, ◌++◌, length, slice_get, refl, sym, ap, subst, ◌∙◌, append-nil, arith}
use Rattle.std.specs.List.{AllByRecursion}
use Rattle.pic_base.specs.declared.action.Action.TheVariants.{Resume}
use Rattle.pic_base.specs.declared.duty.Duty.{Duty}
use Rattle.pic_base.specs.declared.duty.Duty.TheVariants as duty
use Rattle.pic_machine.specs.declared.entry.Call.TheVariants.{Signal}
use Rattle.pic_machine.specs.declared.entry.Reply.TheVariants.{Signalled}
use Rattle.pic_machine.specs.declared.entry.SignalReply.{SignalReply}
use Rattle.pic_machine.specs.declared.entry.SignalReply.TheVariants.{Plain, Acted, Already}
use Rattle.pic_machine.specs.Duty.{ClockMakes, DutiesAllow, fulfilled, is_owing}
use Rattle.pic_machine.specs.Happened.{Happened}
use Rattle.pic_machine.specs.History.{IsLegal, MayMake, Origin, happening, world}
use Rattle.pic_machine.specs.Lending.{Answered, Lent, Spared}
use Rattle.pic_machine.specs.Log.{is_due, log, own}
use Rattle.pic_machine.specs.Order.{GoesOn, readied}
use Rattle.pic_machine.specs.Sight.{Carry, Holds, Sight, fiber_of}
use Rattle.pic_machine.specs.State.{IsStart, State, owed_of, world_at}
use Rattle.pic_machine.specs.Turning.{Adds, Grew}
use Rattle.pic_machine.proofs.Dues.{AreSignalsOf, IsSignalOf, starts_dues}
use Rattle.pic_machine.proofs.Lendings.{lent_leaves, signal_leaves}
use Rattle.pic_machine.proofs.Lists.{each-append}
use Rattle.pic_machine.proofs.Owns.{own-append}
use Rattle.pic_machine.proofs.Turns.{Adds-nil, Adds-trans, Grew-trans, grew_made, grew_others, grew_same, readied-append, same_fiber}
use Rattle.fiber_await.specs.Discharging.{Discharged, resumed_by}

-- ---- what duties there can be

-- all that anybody owes is signals of triggers that stand
dues : (origin : Origin) (hs : List Happened) (f : ℕ) → IsStart origin.world → IsLegal origin hs → AreSignalsOf (length (world origin hs).triggers) (owed_of (world origin hs) f)
dues origin hs f start legal =
    let at : State → Origin = λ w. record { world = w; main = origin.main } in
    let same : at (world_at start.start) ≡ origin = ap at (sym start.is) in
    subst (λ (o : Origin). AreSignalsOf (length (world o hs).triggers) (owed_of (world o hs) f)) same
    (starts_dues start.start origin.main hs f (subst (λ (o : Origin). IsLegal o hs) (sym same) legal))

pub first_of : (ds : List Duty) (d : Duty) → Some d ≡ slice_get ds 0 → ds ≡ d ∷ fulfilled ds
first_of [] d is = absurd cc
first_of (e ∷ ds) d is = let same : d ≡ e = cc in ap (λ (x : Duty). x ∷ ds) (sym same)

pub none_first : (ds : List Duty) → None ≡ slice_get ds 0 → ds ≡ []
none_first [] is = refl
none_first (d ∷ ds) is = absurd cc

module _ {S : Type 0} (p : Sight S) (a : Carry S) where
  -- the first one is the signal of a trigger that stands
  pub first_stands : (d : Duty) → IsStart p.origin.world → Holds p a → Some d ≡ slice_get a.owes 0 → IsSignalOf (length (world p.origin p.front).triggers) d
  first_stands d start holds is =
      (subst (AreSignalsOf (length (world p.origin p.front).triggers)) (sym holds.owes ∙ first_of a.owes d is) (dues p.origin p.front (fiber_of a) start holds.legal)).0

  -- so it is no other duty
  pub no_other : (d : Duty) → IsStart p.origin.world → Holds p a → Some d ≡ slice_get a.owes 0 → ((t : ℕ) → d ≡ duty.Signal t → ⊥) → ⊥
  no_other d start holds is not_signal = one_on d (first_stands d start holds is) not_signal where
    one_on : (e : Duty) → IsSignalOf (length (world p.origin p.front).triggers) e → ((t : ℕ) → e ≡ duty.Signal t → ⊥) → ⊥
    one_on (duty.Signal t) stands not_signal = not_signal t refl
    one_on _ stands not_signal = stands

  -- so it may be made
  pub may_signal : (t : ℕ) → IsStart p.origin.world → Holds p a → Some (duty.Signal t) ≡ slice_get a.owes 0 → MayMake p.origin p.front (fiber_of a) (Signal t)
  may_signal t start holds is =
      let owed : duty.Signal t ∷ fulfilled a.owes ≡ owed_of (world p.origin p.front) (fiber_of a) = sym (first_of a.owes (duty.Signal t) is) ∙ holds.owes in
      record {
        allowed = record {
          caller = holds.acts;
          clock = λ clock. subst (λ (ds : List Duty). ClockMakes ds (Signal t)) owed refl;
          duties = subst (λ (ds : List Duty). DutiesAllow ds (Signal t)) owed refl;
          names = first_stands (duty.Signal t) start holds is;
          own = tt;
        };
        numbers = tt;
      }

-- ---- parts of a turn that fulfil duties

pub discharged_none : {S : Type 0} (p : Sight S) (a : Carry S) (line : Option (List ℕ)) → Holds p a → Discharged p p a a line line
discharged_none p a line holds = record {
  went = record { going = []; grew = grew_same p (fiber_of a); on = tt; line = Adds-nil line; holds = holds; number = refl };
  due = tt;
  birth = refl;
  share = refl;
}

pub discharged_spared : {S : Type 0} (p q : Sight S) (a b : Carry S) (line : Option (List ℕ)) → Spared p q a b → Discharged p q a b line line
discharged_spared p q a b line spared = record {
  went = record { going = []; grew = grew_others p q (fiber_of a) spared.kept.grown spared.not_mine; on = tt; line = Adds-nil line; holds = spared.holds; number = spared.same.number };
  due = tt;
  birth = spared.same.birth;
  share = spared.same.share;
}

module _ {S : Type 0} (p q r : Sight S) (a b c : Carry S) (start now later : Option (List ℕ)) where
  pub Discharged-trans : Discharged p q a b start now → Discharged q r b c now later → Discharged p r a c start later
  Discharged-trans one other =
      let xs = one.went.going in
      let ys = other.went.going in
      record {
        went = record {
          going = xs ++ ys;
          grew = Grew-trans p q r (fiber_of a) xs ys one.went.grew (subst (λ (f : ℕ). Grew q r f ys) (same_fiber a b one.went.number) other.went.grew);
          on = each-append GoesOn xs ys one.went.on other.went.on;
          line = subst (Adds start later) (sym (readied-append xs ys)) (Adds-trans start now later (readied xs) (readied ys) one.went.line other.went.line);
          holds = other.went.holds;
          number = other.went.number ∙ one.went.number;
        };
        due = each-append (λ h. is_due h ≡ true) xs ys one.due other.due;
        birth = other.birth ∙ one.birth;
        share = other.share ∙ one.share;
      }

module _ {S : Type 0} (p q r t : Sight S) (a b c d : Carry S) (start now later : Option (List ℕ)) where
  -- one more part, behind a call that made no entry
  pub discharged_more : Discharged p q a b start now → Spared q r b c → Discharged r t c d now later → Discharged p t a d start later
  discharged_more one spared other =
      Discharged-trans p q t a b d start now later one (Discharged-trans q r t b c d now now later (discharged_spared q r b c now spared) other)

-- entries that fulfil duties are no own ones
own_none : (hs : List Happened) → AllByRecursion (λ h. is_due h ≡ true) hs → own hs ≡ []
own_none [] due = refl
own_none (h ∷ hs) due = ap (λ (is : Bool). cond (not is) (h ∷ own hs) (own hs)) due.0 ∙ own_none hs due.1

pub own_discharged : {S : Type 0} (p q : Sight S) (a b : Carry S) (now later : Option (List ℕ)) → Discharged p q a b now later → own (log q.front (fiber_of a)) ≡ own (log p.front (fiber_of a))
own_discharged p q a b now later did =
    let before = log p.front (fiber_of a) in
    ap own did.went.grew.log ∙ (own-append before did.went.going ∙ (ap (λ (hs : List Happened). own before ++ hs) (own_none did.went.going did.due) ∙ append-nil (own before)))

-- ---- one signal

readied_signal : (f t : ℕ) (how : SignalReply) → readied (happening true f (Signal t) (Signalled how) ∷ []) ≡ resumed_by how
readied_signal f t Plain = refl
readied_signal f t (Acted (Resume g)) = refl
readied_signal f t Already = refl

module _ {S : Type 0} (p q : Sight S) (a b : Carry S) (t : ℕ) (how : SignalReply) (first : Some (duty.Signal t) ≡ slice_get a.owes 0) (answered : Answered p q a b (Signal t) (Signalled how)) where
  abbrev h : Happened
  h = happening true (fiber_of a) (Signal t) (Signalled how)

  -- its entry has the mark
  lent : Lent p q a b h
  lent = subst (λ (owing : Bool). Lent p q a b (happening owing (fiber_of a) (Signal t) (Signalled how)))
      (ap (λ (ds : List Duty). is_owing ds (Signal t)) (first_of a.owes (duty.Signal t) first)) answered

  pub discharged_signal : (now later : Option (List ℕ)) → Adds now later (resumed_by how) → Discharged p q a b now later
  discharged_signal now later line = record {
    went = record {
      going = h ∷ [];
      grew = grew_made p q (fiber_of a) h lent.made refl refl;
      on = (refl, tt);
      line = subst (Adds now later) (sym (readied_signal (fiber_of a) t how)) line;
      holds = lent.holds;
      number = lent.number;
    };
    due = (refl, tt);
    birth = lent.birth;
    share = lent.share;
  }

  -- one duty less is owed
  pub fewer_owed : IsStart p.origin.world → Holds p a → length a.owes ≡ length b.owes + 1
  fewer_owed start holds =
      let left : b.owes ≡ fulfilled a.owes = signal_leaves a b (fiber_of a) t (Signalled how) (lent_leaves p q a b h start holds lent refl) in
      omega (arith, ap length (first_of a.owes (duty.Signal t) first), ap length left)
