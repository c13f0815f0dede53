-- The current computation of every fiber stands.
use Rattle.std.proofs.Common.{◌≡◌, ℕ, ◌<◌, ◌==◌, cond, Bool, true, false, Option, Some, None, List, [], ◌∷◌, ◌++◌, length, refl, sym, subst, append_assoc}
use Rattle.pic_machine.specs.declared.birth.Birth.{Birth}
use Rattle.pic_machine.specs.declared.entry.Call.{Call}
use Rattle.pic_machine.specs.declared.entry.Call.TheVariants.{Fork}
use Rattle.pic_machine.specs.declared.entry.Reply.{Reply}
use Rattle.pic_machine.specs.declared.entry.Reply.TheVariants.{Made}
use Rattle.pic_machine.specs.Happened.{Happened}
use Rattle.pic_machine.specs.State.{State}
use Rattle.pic_machine.specs.History.{BirthFits, IsLegal, Origin, birth_among, birth_at, birth_in, made_birth, or_later, world}
use Rattle.pic_machine.proofs.Comps.{comps_stay}

-- the current computation of such a birth, where there is one, is one of so many
abbrev Stands : ℕ → Option Birth → Type 0
Stands n None = Unit {0}
Stands n (Some birth) = birth.current < n

chosen_stands : (n : ℕ) (b : Bool) (one other : Option Birth) → Stands n one → Stands n other → Stands n (cond b one other)
chosen_stands n true one other here there = here
chosen_stands n false one other here there = there

later_stands : (n : ℕ) (first later : Option Birth) → Stands n first → Stands n later → Stands n (or_later first later)
later_stands n None later here there = there
later_stands n (Some birth) later here there = here

made_stands : (w : State) (call : Call) (g : ℕ) (birth : Birth) → BirthFits w call (Made g) (Some birth) → birth.current < length w.comps
made_stands w (Fork text value) g birth fits = subst (Stands (length w.comps)) (sym fits.is) fits.stands
made_stands w _ g birth fits = absurd cc

beside_stands : (w : State) (call : Call) (reply : Reply) (birth : Option Birth) (f : ℕ) → BirthFits w call reply birth → Stands (length w.comps) (made_birth reply birth f)
beside_stands w call (Made g) (Some birth) f fits = chosen_stands (length w.comps) (g == f) (Some birth) None (made_stands w call g birth fits) tt
beside_stands w call _ _ f fits = tt

among_stands : (origin : Origin) (f : ℕ) (front back : List Happened) → IsLegal origin (front ++ back) → Stands (length origin.world.comps) (birth_among back f)
among_stands origin f front [] legal = tt
among_stands origin f front (h ∷ back) legal =
    later_stands (length origin.world.comps) (birth_at h f) (birth_among back f)
    (subst (λ (n : ℕ). Stands n (birth_at h f)) (comps_stay origin front) (beside_stands (world origin front) h.entry.call h.entry.reply h.birth f (legal.each front back h refl).birth))
    (among_stands origin f (front ++ h ∷ []) back (subst (IsLegal origin) (sym (append_assoc front (h ∷ []) back)) legal))

pub current_stands : (origin : Origin) (hs : List Happened) (f : ℕ) (birth : Birth) → IsLegal origin hs → origin.main.current < length origin.world.comps → birth_in origin hs f ≡ Some birth → birth.current < length (world origin hs).comps
current_stands origin hs f birth legal main is =
    let n = length origin.world.comps in
    subst (λ (k : ℕ). birth.current < k) (sym (comps_stay origin hs))
    (subst (Stands n) is (chosen_stands n (f == 1) (Some origin.main) (birth_among hs f) main (among_stands origin f [] hs legal)))
