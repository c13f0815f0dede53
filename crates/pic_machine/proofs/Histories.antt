-- How histories grow: by one entry at the end. Every port and runner of the machine stands on these laws.
use Rattle.std.proofs.Common.{◌≡◌, ℕ, true, false, None, List, [], ◌∷◌, ◌++◌, refl, ap, subst, ◌∙◌, append_assoc, append-nil, filter, map}
use Rattle.std.proofs.lemmas.List.{map-append}
use Rattle.std.proofs.lemmas.List.Elements.{filter-append}
use Rattle.pic_machine.specs.declared.entry.Call.{Call}
use Rattle.pic_machine.specs.declared.entry.Call.TheVariants as call
use Rattle.pic_machine.specs.declared.entry.Reply.{Reply}
use Rattle.pic_machine.specs.Happened.{Happened}
use Rattle.pic_machine.specs.State.{State}
use Rattle.pic_machine.specs.Step.{MakesNoFiber, after}
use Rattle.pic_machine.specs.History.{BirthFits, Origin, world_from, world, Follows, IsLegal}
use Rattle.pic_machine.specs.Log.{is_hidden, is_logged, is_visible, log, visible}

-- the world after one more entry is the step from the world before it
pub world_from-push : (w : State) (hs : List Happened) (h : Happened) → world_from w (hs ++ h ∷ []) ≡ after (world_from w hs) h.entry.fiber h.entry.call
world_from-push w [] h = refl
world_from-push w (x ∷ hs) h = world_from-push (after w x.entry.fiber x.entry.call) hs h

-- the world after two lists is that of the second from the world after the first
pub world_from-append : (w : State) (hs more : List Happened) → world_from w (hs ++ more) ≡ world_from (world_from w hs) more
world_from-append w [] more = refl
world_from-append w (x ∷ hs) more = world_from-append (after w x.entry.fiber x.entry.call) hs more

pub world-push : (origin : Origin) (hs : List Happened) (h : Happened) → world origin (hs ++ h ∷ []) ≡ after (world origin hs) h.entry.fiber h.entry.call
world-push origin hs h = world_from-push origin.world hs h

nothing : (front back : List Happened) (h : Happened) → [] ≡ front ++ h ∷ back → ⊥
nothing [] back h is = cc
nothing (x ∷ front) back h is = cc

-- nothing has happened yet
pub IsLegal-nil : (origin : Origin) → IsLegal origin []
IsLegal-nil origin = record { each = λ front back h is. absurd (nothing front back h is) }

-- an entry in a longer list is one of the first ones, or the last
at_push : (P : List Happened → Happened → Type 0) (hs : List Happened) (last : Happened)
    → ((front back : List Happened) (h : Happened) → hs ≡ front ++ h ∷ back → P front h) → P hs last
    → (front back : List Happened) (h : Happened) → hs ++ last ∷ [] ≡ front ++ h ∷ back → P front h
at_push P [] last each here [] back h is = let e : last ≡ h = cc in subst (λ (x : Happened). P [] x) e here
at_push P [] last each here (x ∷ []) back h is = absurd cc
at_push P [] last each here (x ∷ (y ∷ front)) back h is = absurd cc
at_push P (x ∷ hs) last each here [] back h is = each [] hs h (let e : x ≡ h = cc in ap (λ (z : Happened). z ∷ hs) e)
at_push P (x ∷ hs) last each here (y ∷ front) back h is =
    let e : x ≡ y = cc in
    let rest : hs ++ last ∷ [] ≡ front ++ h ∷ back = cc in
    let Q : List Happened → Happened → Type 0 = λ zs z. P (x ∷ zs) z in
    let below : (f b : List Happened) (z : Happened) → hs ≡ f ++ z ∷ b → Q f z = λ f b z at. each (x ∷ f) b z (ap (λ (zs : List Happened). x ∷ zs) at) in
    subst (λ (z : Happened). P (z ∷ front) h) e (at_push Q hs last below here front back h rest)

-- a legal history, and an entry that may follow it
pub IsLegal-push : (origin : Origin) (hs : List Happened) (h : Happened) → IsLegal origin hs → Follows origin hs h → IsLegal origin (hs ++ h ∷ [])
IsLegal-push origin hs h legal follows = record { each = at_push (Follows origin) hs h legal.each follows }

-- beside a call that makes no fiber stands no birth
pub BirthFits-none : (w : State) (c : Call) (reply : Reply) → MakesNoFiber c → BirthFits w c reply None
BirthFits-none w (call.Fork text value) reply none = absurd none
BirthFits-none w _ reply none = refl

-- the front of a legal history is legal
pub IsLegal-front : (origin : Origin) (hs more : List Happened) → IsLegal origin (hs ++ more) → IsLegal origin hs
IsLegal-front origin hs more legal = record {
  each = λ front back h is.
      legal.each front (back ++ more) h (ap (λ (zs : List Happened). zs ++ more) is ∙ append_assoc front (h ∷ back) more);
}

-- ---- the log of one fiber

pub log-append : (hs more : List Happened) (f : ℕ) → log (hs ++ more) f ≡ log hs f ++ log more f
log-append hs more f = filter-append (is_logged f) hs more

pub visible-append : (hs more : List Happened) → visible (hs ++ more) ≡ visible hs ++ visible more
visible-append hs more = ap (map (λ (h : Happened). h.entry)) (filter-append is_visible hs more) ∙ map-append (λ (h : Happened). h.entry) (filter is_visible hs) (filter is_visible more)

pub visible-push : (hs : List Happened) (h : Happened) → is_hidden h.entry.call h.entry.reply ≡ false → visible (hs ++ h ∷ []) ≡ visible hs ++ h.entry ∷ []
visible-push hs h shown = visible-append hs (h ∷ []) ∙ rw shown refl

pub log-push : (hs : List Happened) (h : Happened) (f : ℕ) → log (hs ++ h ∷ []) f ≡ log hs f ++ log (h ∷ []) f
log-push hs h f = filter-append (is_logged f) hs (h ∷ [])

pub log-push_mine : (hs : List Happened) (h : Happened) (f : ℕ) → is_logged f h ≡ true → log (hs ++ h ∷ []) f ≡ log hs f ++ h ∷ []
log-push_mine hs h f is = log-push hs h f ∙ rw is refl

pub log-push_hidden : (hs : List Happened) (h : Happened) (f : ℕ) → is_logged f h ≡ false → log (hs ++ h ∷ []) f ≡ log hs f
log-push_hidden hs h f is = log-push hs h f ∙ rw is (append-nil (log hs f))
