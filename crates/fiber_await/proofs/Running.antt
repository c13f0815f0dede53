-- How parts of a routine are put together.
use Rattle.std.proofs.Common.{◌≡◌, ℕ, Option, Some, List, [], ◌∷◌, ◌++◌, refl, ap, subst, ◌∙◌}
use Rattle.pic_machine.specs.declared.entry.Call.{Call}
use Rattle.pic_machine.specs.declared.entry.Reply.{Reply}
use Rattle.pic_machine.specs.Happened.{Happened}
use Rattle.pic_machine.specs.History.{event}
use Rattle.pic_machine.specs.Log.{log, own}
use Rattle.pic_machine.specs.Order.{GoesOn, readied}
use Rattle.pic_machine.specs.Routine.{Goes, Routine, goes, stays}
use Rattle.pic_machine.specs.Sight.{Carry, Sight, fiber_of}
use Rattle.pic_machine.specs.Turning.{Grew, Went}
use Rattle.pic_machine.proofs.Lists.{each-append}
use Rattle.pic_machine.proofs.Owns.{own-append}
use Rattle.pic_machine.proofs.Turns.{Adds-nil, Grew-trans, grew_same, readied-append, same_fiber}
use Rattle.fiber_await.specs.Doing.{Did, IsFree, Ran, RanTelling}

module _ {Phase : Type 0} (r : Routine Phase) (f : ℕ) where
  pub Goes-trans : {p m q : Phase} {xs ys : List Happened} → Goes r f p xs m → Goes r f m ys q → Goes r f p (xs ++ ys) q
  Goes-trans stays later = later
  Goes-trans (goes call reply asks leads first) later = goes call reply asks leads (Goes-trans first later)

pub did_none : {S : Type 0} (p : Sight S) (a : Carry S) → IsFree p a → Did p p a a []
did_none p a free = record { grew = grew_same p (fiber_of a); on = tt; none = refl; free = free; number = refl; birth = refl; share = refl }

module _ {S : Type 0} (p q r : Sight S) (a b c : Carry S) (xs ys : List Happened) where
  pub Did-trans : Did p q a b xs → Did q r b c ys → Did p r a c (xs ++ ys)
  Did-trans one other = record {
    grew = Grew-trans p q r (fiber_of a) xs ys one.grew (subst (λ (f : ℕ). Grew q r f ys) (same_fiber a b one.number) other.grew);
    on = each-append GoesOn xs ys one.on other.on;
    none = readied-append xs ys ∙ (ap (λ (ns : List ℕ). ns ++ readied ys) one.none ∙ other.none);
    free = other.free;
    number = other.number ∙ one.number;
    birth = other.birth ∙ one.birth;
    share = other.share ∙ one.share;
  }

-- it was a part of the fiber's turn, which leaves the ready line as it is
pub did_went : {S : Type 0} (p q : Sight S) (a b : Carry S) (es : List Happened) (line : Option (List ℕ)) → Did p q a b es → Went p q a b line line
did_went p q a b es line did = record {
  going = es;
  grew = did.grew;
  on = did.on;
  line = rw did.none (Adds-nil line);
  holds = did.free.holds;
  number = did.number;
}

module _ {S Phase : Type 0} (routine : Routine Phase) (p q : Sight S) (a b : Carry S) where
  -- no call was made
  pub ran_none : (x : Phase) → Did p q a b [] → Ran routine p q a b x x
  ran_none x did = record { es = []; did = did; goes = stays }

  -- one was
  pub ran_one : (x y : Phase) (call : Call) (reply : Reply) → routine.asks x ≡ Some call → routine.leads x reply ≡ Some y → Did p q a b (event (fiber_of a) call reply ∷ []) → Ran routine p q a b x y
  ran_one x y call reply asks leads did = record { es = event (fiber_of a) call reply ∷ []; did = did; goes = goes call reply asks leads stays }

module _ {S Phase : Type 0} (routine : Routine Phase) (p q r : Sight S) (a b c : Carry S) (x y z : Phase) where
  pub Ran-trans : Ran routine p q a b x y → Ran routine q r b c y z → Ran routine p r a c x z
  Ran-trans one other = record {
    es = one.es ++ other.es;
    did = Did-trans p q r a b c one.es other.es one.did other.did;
    goes = Goes-trans routine (fiber_of a) one.goes (subst (λ (f : ℕ). Goes routine f y other.es z) (same_fiber a b one.did.number) other.goes);
  }

-- what a routine asks for is all the fiber's own
pub goes_own : {Phase : Type 0} (r : Routine Phase) (f : ℕ) {p q : Phase} {hs : List Happened} → Goes r f p hs q → own hs ≡ hs
goes_own r f stays = refl
goes_own r f (goes {hs = hs} call reply asks leads rest) = ap (λ (zs : List Happened). event f call reply ∷ zs) (goes_own r f rest)

-- so its own log grew by just that
pub telling_own : {S Phase : Type 0} (r : Routine Phase) (p q : Sight S) (a b : Carry S) (line later : Option (List ℕ)) (x y : Phase) (ran : RanTelling r p q a b line later x y)
    → own (log q.front (fiber_of a)) ≡ own (log p.front (fiber_of a)) ++ ran.went.going
telling_own r p q a b line later x y ran =
    let before = log p.front (fiber_of a) in
    ap own ran.went.grew.log ∙ (own-append before ran.went.going ∙ ap (λ (zs : List Happened). own before ++ zs) (goes_own r (fiber_of a) ran.goes))
