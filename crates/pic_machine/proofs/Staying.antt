-- What stands of a fiber while others act: what it may make, what it owes, its log and its birth.
use Rattle.std.proofs.Common.{◌≡◌, ◌≢◌, ℕ, ◌==◌, cond, Bool, true, false, Option, Some, None, List, [], ◌∷◌, ◌++◌, refl, sym, ap, subst, ◌∙◌, append_assoc, append-nil, arith}
use Rattle.std.proofs.lemmas.Bool.Decides.{nat_tests}
use Rattle.pic_machine.specs.declared.birth.Birth.{Birth}
use Rattle.pic_machine.specs.declared.entry.Call.{Call}
use Rattle.pic_machine.specs.Happened.{Happened}
use Rattle.pic_machine.specs.State.{State, owed_of}
use Rattle.pic_machine.specs.Step.{Allowed, MayAct}
use Rattle.pic_machine.specs.History.{Origin, Follows, IsLegal, MayMake, birth_among, birth_at, birth_in, or_later, world}
use Rattle.pic_machine.specs.Log.{Others, is_logged, log}
use Rattle.pic_machine.proofs.Histories.{IsLegal-front, log-append, world-push}
use Rattle.pic_machine.proofs.Numbers.{numbers_still}
use Rattle.pic_machine.proofs.Steps.{acts_after, allowed_after, owed_other}

-- what each entry of another fiber leaves standing, all of them do
others_leave : (P : List Happened → Type 0) (origin : Origin) (f : ℕ)
    → ((hs : List Happened) (h : Happened) → IsLegal origin hs → Follows origin hs h → h.entry.fiber ≢ f → P hs → P (hs ++ h ∷ []))
    → (hs others : List Happened) → IsLegal origin (hs ++ others) → Others f others → P hs → P (hs ++ others)
others_leave P origin f leaves hs [] legal apart stands = subst P (sym (append-nil hs)) stands
others_leave P origin f leaves hs (h ∷ others) legal apart stands =
    let assoc : (hs ++ h ∷ []) ++ others ≡ hs ++ h ∷ others = append_assoc hs (h ∷ []) others in
    subst P assoc
    (others_leave P origin f leaves (hs ++ h ∷ []) others (subst (IsLegal origin) (sym assoc) legal) apart.1 (leaves hs h (IsLegal-front origin hs (h ∷ others) legal) (legal.each hs others h refl) apart.0 stands))

pub may_stays : (origin : Origin) (hs others : List Happened) (f : ℕ) (call : Call) → IsLegal origin (hs ++ others) → Others f others → MayMake origin hs f call → MayMake origin (hs ++ others) f call
may_stays origin hs others f call legal apart may =
    others_leave (λ hs. MayMake origin hs f call) origin f
    (λ hs h before follows other may. record {
      allowed = subst (λ (w : State). Allowed w f call) (sym (world-push origin hs h))
          (allowed_after (world origin hs) h.entry.fiber h.entry.call f call follows.may.allowed other may.allowed);
      numbers = numbers_still origin hs h f call before follows other may.numbers;
    })
    hs others legal apart may

pub acts_stays : (origin : Origin) (hs others : List Happened) (f : ℕ) → IsLegal origin (hs ++ others) → Others f others → MayAct (world origin hs) f → MayAct (world origin (hs ++ others)) f
acts_stays origin hs others f legal apart acts =
    others_leave (λ hs. MayAct (world origin hs) f) origin f
    (λ hs h before follows other acts. subst (λ (w : State). MayAct w f) (sym (world-push origin hs h)) (acts_after (world origin hs) h.entry.fiber h.entry.call f follows.may.allowed other acts))
    hs others legal apart acts

pub owed_stays : (origin : Origin) (hs others : List Happened) (f : ℕ) → IsLegal origin (hs ++ others) → Others f others → owed_of (world origin (hs ++ others)) f ≡ owed_of (world origin hs) f
owed_stays origin hs others f legal apart =
    others_leave (λ zs. owed_of (world origin zs) f ≡ owed_of (world origin hs) f) origin f
    (λ zs h before follows other same. ap (λ (w : State). owed_of w f) (world-push origin zs h) ∙ (owed_other (world origin zs) h.entry.fiber h.entry.call f other ∙ same))
    hs others legal apart refl

-- ---- logs

-- two numbers that differ, as a test
pub not_same : (g f : ℕ) (b : Bool) → (g == f) ≡ b → g ≢ f → (g == f) ≡ false
not_same g f true is other = absurd (other (grind (arith, nat_tests)))
not_same g f false is other = is

pub same_number : (f : ℕ) → (f == f) ≡ true
same_number f = grind (arith, nat_tests)

pub not_logged : (h : Happened) (f : ℕ) → h.entry.fiber ≢ f → is_logged f h ≡ false
not_logged h f other = rw (not_same h.entry.fiber f (h.entry.fiber == f) refl other) refl

pub log-others : (hs : List Happened) (f : ℕ) → Others f hs → log hs f ≡ []
log-others [] f apart = refl
log-others (h ∷ hs) f apart = rw (not_logged h f apart.0) (log-others hs f apart.1)

pub log_stays : (hs others : List Happened) (f : ℕ) → Others f others → log (hs ++ others) f ≡ log hs f
log_stays hs others f apart = log-append hs others f ∙ (ap (λ (zs : List Happened). log hs f ++ zs) (log-others others f apart) ∙ append-nil (log hs f))

-- ---- births

or_later-assoc : (a b c : Option Birth) → or_later (or_later a b) c ≡ or_later a (or_later b c)
or_later-assoc None b c = refl
or_later-assoc (Some x) b c = refl

pub birth_among-append : (hs more : List Happened) (f : ℕ) → birth_among (hs ++ more) f ≡ or_later (birth_among hs f) (birth_among more f)
birth_among-append [] more f = refl
birth_among-append (h ∷ hs) more f = ap (or_later (birth_at h f)) (birth_among-append hs more f) ∙ sym (or_later-assoc (birth_at h f) (birth_among hs f) (birth_among more f))

found_first : (b : Bool) (main birth : Birth) (hs more : List Happened) (f : ℕ) → cond b (Some main) (birth_among hs f) ≡ Some birth → cond b (Some main) (birth_among (hs ++ more) f) ≡ Some birth
found_first true main birth hs more f is = is
found_first false main birth hs more f is = birth_among-append hs more f ∙ ap (λ (o : Option Birth). or_later o (birth_among more f)) is

-- a fiber keeps its birth
pub birth_stays : (origin : Origin) (hs more : List Happened) (f : ℕ) (birth : Birth) → birth_in origin hs f ≡ Some birth → birth_in origin (hs ++ more) f ≡ Some birth
birth_stays origin hs more f birth is = found_first (f == 1) origin.main birth hs more f is
