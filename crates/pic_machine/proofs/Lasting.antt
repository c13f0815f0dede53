-- What lasts: a fact that no call ends holds wherever a history leads.
use Rattle.std.proofs.Common.{◌≡◌, ℕ, List, [], ◌∷◌, ◌++◌, sym, subst, ◌∙◌, append_assoc, append-nil, refl}
use Rattle.pic_machine.specs.declared.entry.Call.{Call}
use Rattle.pic_machine.specs.Happened.{Happened}
use Rattle.pic_machine.specs.State.{State}
use Rattle.pic_machine.specs.Step.{Allowed, after}
use Rattle.pic_machine.specs.History.{Origin, Follows, IsLegal, world, world_from}
use Rattle.pic_machine.specs.Once.{Precedes}
use Rattle.pic_machine.proofs.Fates.{AreSteps, steps_from}
use Rattle.pic_machine.proofs.Histories.{IsLegal-front, world_from-append}

module _ (P : State → Type 0) (lasts : (w : State) (f : ℕ) (call : Call) → Allowed w f call → P w → P (after w f call)) where
  pub lasts_from : (w : State) (hs : List Happened) → AreSteps w hs → P w → P (world_from w hs)
  lasts_from w [] are now = now
  lasts_from w (h ∷ hs) are now = lasts_from (after w h.entry.fiber h.entry.call) hs are.1 (lasts w h.entry.fiber h.entry.call are.0.allowed now)

-- what each entry of a legal history keeps, all of them do
module _ (P : List Happened → Type 0) (origin : Origin) (keeps : (hs : List Happened) (h : Happened) → Follows origin hs h → P hs → P (hs ++ h ∷ [])) where
  pub along : (front back : List Happened) → IsLegal origin (front ++ back) → P front → P (front ++ back)
  along front [] legal now = subst P (sym (append-nil front)) now
  along front (h ∷ back) legal now =
      let assoc : (front ++ h ∷ []) ++ back ≡ front ++ h ∷ back = append_assoc front (h ∷ []) back in
      subst P assoc (along (front ++ h ∷ []) back (subst (IsLegal origin) (sym assoc) legal) (keeps front h (legal.each front back h refl) now))

-- the first of two may follow what stood before it
pub first_follows : (origin : Origin) (hs : List Happened) (first later : Happened) (order : Precedes hs first later) → IsLegal origin hs → Follows origin order.front first
first_follows origin hs first later order legal = legal.each order.front (order.between ++ later ∷ order.back) first order.is

-- so may the later one
pub later_follows : (origin : Origin) (hs : List Happened) (first later : Happened) (order : Precedes hs first later) → IsLegal origin hs → Follows origin (order.front ++ first ∷ order.between) later
later_follows origin hs first later order legal =
    legal.each (order.front ++ first ∷ order.between) order.back later (order.is ∙ sym (append_assoc order.front (first ∷ order.between) (later ∷ order.back)))

module _ (P : State → Type 0) (lasts : (w : State) (f : ℕ) (call : Call) → Allowed w f call → P w → P (after w f call)) where
  -- what holds behind the first entry holds before the later one
  pub holds_later : (origin : Origin) (hs : List Happened) (first later : Happened) (order : Precedes hs first later) → IsLegal origin hs
      → P (after (world origin order.front) first.entry.fiber first.entry.call) → P (world origin (order.front ++ first ∷ order.between))
  holds_later origin hs first later order legal now =
      let whole : hs ≡ (order.front ++ first ∷ order.between) ++ later ∷ order.back = order.is ∙ sym (append_assoc order.front (first ∷ order.between) (later ∷ order.back)) in
      let before : IsLegal origin (order.front ++ first ∷ order.between) = IsLegal-front origin (order.front ++ first ∷ order.between) (later ∷ order.back) (subst (IsLegal origin) whole legal) in
      let are : AreSteps (world origin order.front) (first ∷ order.between) = steps_from origin order.front (first ∷ order.between) before in
      subst P (sym (world_from-append origin.world order.front (first ∷ order.between)))
      (lasts_from P lasts (after (world origin order.front) first.entry.fiber first.entry.call) order.between are.1 now)
