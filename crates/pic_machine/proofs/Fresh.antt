-- Of a fiber that isn't made yet there is nothing: no entry, no duty and no birth. So the body of a child
-- fits its fiber's log as soon as a fork has made it.
use Rattle.std.proofs.Common.{◌≡◌, ◌≢◌, ℕ, zero, suc, ◌+◌, ◌-◌, ◌<◌, ◌≤◌, ◌==◌, cond, ◌⊎◌, inl, inr, Bool, true, false, Option, Some, None, List, [], ◌∷◌, ◌++◌, length, refl, sym, ap, subst, ◌∙◌, append_assoc, arith}
use Rattle.std.proofs.lemmas.Bool.{cases_lt}
use Rattle.std.proofs.lemmas.Bool.Decides.{nat_tests}
use Rattle.std.proofs.lemmas.List.{length-append}
use Rattle.std.proofs.lemmas.Option.{slice_get_within}
use Rattle.pic_machine.specs.declared.birth.Birth.{Birth}
use Rattle.pic_machine.specs.declared.state.FiberState.TheVariants.{Live}
use Rattle.pic_machine.specs.declared.entry.Call.{Call}
use Rattle.pic_machine.specs.declared.entry.Call.TheVariants.{Fork}
use Rattle.pic_machine.specs.declared.entry.Reply.{Reply}
use Rattle.pic_machine.specs.declared.entry.Reply.TheVariants.{Full, Made}
use Rattle.pic_machine.specs.Happened.{Happened}
use Rattle.pic_machine.specs.State.{State, owed_of}
use Rattle.pic_machine.specs.Step.{MayAct, after, fibers_after, fork_reply, has_room, reply_of}
use Rattle.pic_machine.specs.History.{BirthFits, Origin, Follows, IsLegal, birth_among, birth_in, forked, made_birth, or_later, world, world_from}
use Rattle.pic_machine.specs.Log.{Others, log}
use Rattle.pic_machine.proofs.Histories.{world-push, world_from-append}
use Rattle.pic_machine.proofs.Steps.{fibers_stay}
use Rattle.pic_machine.proofs.Staying.{birth_among-append, log-others, not_same, owed_stays, same_number}

-- fiber g isn't made in the world
abbrev pub IsFresh : State → ℕ → Type 0
IsFresh w g = length w.fibers < g

-- no history takes a fiber away
pub fibers_grow : (w : State) (hs : List Happened) → length w.fibers ≤ length (world_from w hs).fibers
fibers_grow w [] = omega arith
fibers_grow w (h ∷ hs) = omega (arith, fibers_stay w h.entry.fiber h.entry.call, fibers_grow (after w h.entry.fiber h.entry.call) hs)

-- a fiber that isn't made now wasn't before
pub was_fresh : (origin : Origin) (hs more : List Happened) (g : ℕ) → IsFresh (world origin (hs ++ more)) g → IsFresh (world origin hs) g
was_fresh origin hs more g fresh =
    let same : length (world origin (hs ++ more)).fibers ≡ length (world_from (world origin hs) more).fibers = ap (λ (w : State). length w.fibers) (world_from-append origin.world hs more) in
    omega (arith, same, fresh, fibers_grow (world origin hs) more)

-- whoever acts has been made
pub acts_made : (w : State) (f g : ℕ) → MayAct w f → IsFresh w g → f ≢ g
acts_made w f g (inl clock) fresh = λ same. absurd (omega (arith, clock, same, fresh))
acts_made w f g (inr live) fresh = let within = slice_get_within w.fibers (f - 1) Live live.live in λ same. absurd (omega (arith, within, same, fresh, live.made))

others_from : (origin : Origin) (front back : List Happened) (g : ℕ) → IsLegal origin (front ++ back) → IsFresh (world origin (front ++ back)) g → Others g back
others_from origin front [] g legal fresh = tt
others_from origin front (h ∷ back) g legal fresh =
    let assoc : (front ++ h ∷ []) ++ back ≡ front ++ h ∷ back = append_assoc front (h ∷ []) back in (
      acts_made (world origin front) h.entry.fiber g (legal.each front back h refl).may.allowed.caller (was_fresh origin front (h ∷ back) g fresh),
      others_from origin (front ++ h ∷ []) back g (subst (IsLegal origin) (sym assoc) legal) (subst (λ (zs : List Happened). IsFresh (world origin zs) g) (sym assoc) fresh),
    )

pub no_entry : (origin : Origin) (hs : List Happened) (g : ℕ) → IsLegal origin hs → IsFresh (world origin hs) g → Others g hs
no_entry origin hs g legal fresh = others_from origin [] hs g legal fresh

pub no_log : (origin : Origin) (hs : List Happened) (g : ℕ) → IsLegal origin hs → IsFresh (world origin hs) g → log hs g ≡ []
no_log origin hs g legal fresh = log-others hs g (no_entry origin hs g legal fresh)

pub no_duty : (origin : Origin) (hs : List Happened) (g : ℕ) → IsLegal origin hs → IsFresh (world origin hs) g → owed_of origin.world g ≡ [] → owed_of (world origin hs) g ≡ []
no_duty origin hs g legal fresh none = owed_stays origin [] hs g legal (no_entry origin hs g legal fresh) ∙ none

-- ---- births

-- where a birth stands beside an entry, the entry is a fork, and names the newest fiber
record IsNewest (w : State) (call : Call) (n : ℕ) : Type 0 where
  number : n ≡ length w.fibers + 1
  there : (f : ℕ) → length (fibers_after w f call) ≡ n

forked_newest : (w : State) (text value n : ℕ) (b : Bool) → has_room w ≡ b → Made n ≡ fork_reply w → IsNewest w (Fork text value) n
forked_newest w text value n true room is =
    let made : Made n ≡ Made (length w.fibers + 1) = is ∙ (rw room refl) in
    let number : n ≡ length w.fibers + 1 = cc in
    record { number = number; there = λ f. rw room (length-append w.fibers (Live ∷ []) ∙ sym number) }
forked_newest w text value n false room is = let full : Made n ≡ Full = is ∙ (rw room refl) in absurd cc

newest : (w : State) (f n : ℕ) (call : Call) (birth : Birth) → Made n ≡ reply_of w f call → BirthFits w call (Made n) (Some birth) → IsNewest w call n
newest w f n (Fork text value) birth is fits = forked_newest w text value n (has_room w) refl is
newest w f n _ birth is fits = absurd cc

newest_of : (origin : Origin) (front : List Happened) (h : Happened) (n : ℕ) (birth : Birth) → Follows origin front h → h.entry.reply ≡ Made n → h.birth ≡ Some birth → IsNewest (world origin front) h.entry.call n
newest_of origin front h n birth follows made born =
    let w = world origin front in
    newest w h.entry.fiber n h.entry.call birth (sym made ∙ follows.reply)
    (subst (λ (b : Option Birth). BirthFits w h.entry.call (Made n) b) born (subst (λ (r : Reply). BirthFits w h.entry.call r h.birth) made follows.birth))

no_birth_of : (reply : Reply) (birth : Option Birth) (g : ℕ) → ((n : ℕ) (b : Birth) → reply ≡ Made n → birth ≡ Some b → n ≢ g) → made_birth reply birth g ≡ None
no_birth_of (Made n) (Some b) g other = rw (not_same n g (n == g) refl (other n b refl refl)) refl
no_birth_of _ _ g other = refl

births_from : (origin : Origin) (front back : List Happened) (g : ℕ) → IsLegal origin (front ++ back) → IsFresh (world origin (front ++ back)) g → birth_among back g ≡ None
births_from origin front [] g legal fresh = refl
births_from origin front (h ∷ back) g legal fresh =
    let assoc : (front ++ h ∷ []) ++ back ≡ front ++ h ∷ back = append_assoc front (h ∷ []) back in
    let follows : Follows origin front h = legal.each front back h refl in
    let there : IsFresh (world origin (front ++ h ∷ [])) g = was_fresh origin (front ++ h ∷ []) back g (subst (λ (zs : List Happened). IsFresh (world origin zs) g) (sym assoc) fresh) in
    let other : (n : ℕ) (b : Birth) → h.entry.reply ≡ Made n → h.birth ≡ Some b → n ≢ g = λ n b made born same.
    let count : length (world origin (front ++ h ∷ [])).fibers ≡ n = ap (λ (w : State). length w.fibers) (world-push origin front h) ∙ (newest_of origin front h n b follows made born).there h.entry.fiber in
    absurd (omega (arith, count, there, same)) in
    rw (no_birth_of h.entry.reply h.birth g other)
    (births_from origin (front ++ h ∷ []) back g (subst (IsLegal origin) (sym assoc) legal) (subst (λ (zs : List Happened). IsFresh (world origin zs) g) (sym assoc) fresh))

pub no_birth : (origin : Origin) (hs : List Happened) (g : ℕ) → IsLegal origin hs → IsFresh (world origin hs) g → birth_among hs g ≡ None
no_birth origin hs g legal fresh = births_from origin [] hs g legal fresh

-- the clock was never made
clock_unborn : (origin : Origin) (front back : List Happened) → IsLegal origin (front ++ back) → birth_among back 0 ≡ None
clock_unborn origin front [] legal = refl
clock_unborn origin front (h ∷ back) legal =
    let assoc : (front ++ h ∷ []) ++ back ≡ front ++ h ∷ back = append_assoc front (h ∷ []) back in
    let follows : Follows origin front h = legal.each front back h refl in
    let other : (n : ℕ) (b : Birth) → h.entry.reply ≡ Made n → h.birth ≡ Some b → n ≢ 0 = λ n b made born same.
    absurd (omega (arith, (newest_of origin front h n b follows made born).number, same)) in
    rw (no_birth_of h.entry.reply h.birth 0 other) (clock_unborn origin (front ++ h ∷ []) back (subst (IsLegal origin) (sym assoc) legal))

unborn_has_none : {A : Type 0} (found : Option Birth) (birth : Birth) → found ≡ None → found ≡ Some birth → A
unborn_has_none found birth none some = let both : None ≡ Some birth = sym none ∙ some in absurd cc

among_made : (origin : Origin) (hs : List Happened) (f : ℕ) (birth : Birth) → IsLegal origin hs → birth_among hs f ≡ Some birth
    → (length (world origin hs).fibers < f) ⊎ (f ≤ length (world origin hs).fibers) → (0 < f) × (f ≤ length (world origin hs).fibers)
among_made origin hs zero birth legal is how = unborn_has_none (birth_among hs 0) birth (clock_unborn origin [] hs legal) is
among_made origin hs (suc f) birth legal is (inl fresh) = unborn_has_none (birth_among hs (suc f)) birth (no_birth origin hs (suc f) legal fresh) is
among_made origin hs (suc f) birth legal is (inr within) = (omega arith, within)

born_made : (origin : Origin) (hs : List Happened) (f : ℕ) (birth : Birth) (b : Bool) → (f == 1) ≡ b → IsLegal origin hs → 0 < length origin.world.fibers
    → cond b (Some origin.main) (birth_among hs f) ≡ Some birth → (0 < f) × (f ≤ length (world origin hs).fibers)
born_made origin hs f birth true here legal main is =
    let one : f ≡ 1 = grind (arith, nat_tests) in
    let grown = fibers_grow origin.world hs in
    (omega (arith, one), omega (arith, one, main, grown))
born_made origin hs f birth false here legal main is = among_made origin hs f birth legal is (cases_lt (length (world origin hs).fibers) f)

-- a fiber that has a birth was made
pub birth_of_made : (origin : Origin) (hs : List Happened) (f : ℕ) (birth : Birth) → IsLegal origin hs → 0 < length origin.world.fibers
    → birth_in origin hs f ≡ Some birth → (0 < f) × (f ≤ length (world origin hs).fibers)
birth_of_made origin hs f birth legal main is = born_made origin hs f birth (f == 1) refl legal main is

-- ---- the child of a fork

-- the fiber that a fork has just made has the birth that stands beside the fork
pub birth_made : (origin : Origin) (hs : List Happened) (f g : ℕ) (birth : Birth) → IsLegal origin hs → IsFresh (world origin hs) g → g ≢ 1 → birth_in origin (hs ++ forked f g birth ∷ []) g ≡ Some birth
birth_made origin hs f g birth legal fresh not_main =
    rw (not_same g 1 (g == 1) refl not_main)
    (birth_among-append hs (forked f g birth ∷ []) g
    ∙ (ap (λ (o : Option Birth). or_later o (birth_among (forked f g birth ∷ []) g)) (no_birth origin hs g legal fresh) ∙ (rw (same_number g) refl)))
