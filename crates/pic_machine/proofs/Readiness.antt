-- On one worker the ready list has exactly the live fibers, each once. So a fiber that is first of the list
-- is live, and when the list is empty nobody is.
use Rattle.std.proofs.Common.{◌≡◌, ◌≢◌, ℕ, zero, suc, ◌+◌, ◌-◌, ◌<◌, cond, Bool, true, false, Option, Some, None, List, [], ◌∷◌, ◌++◌, length, slice_get, slice_set, refl, sym, ap, subst, ◌∙◌, append_assoc, append-nil, arith}
use Rattle.std.specs.List.{AllByRecursion}
use Rattle.std.specs.Prelude.{All}
use Rattle.std.proofs.lemmas.Option.{slice_get-get_or}
use Rattle.pic_base.specs.declared.action.Action.TheVariants.{Resume}
use Rattle.pic_machine.specs.declared.state.FiberState.{FiberState}
use Rattle.pic_machine.specs.declared.state.FiberState.TheVariants.{Live, Suspended, Ended}
use Rattle.pic_machine.specs.declared.state.TrigState.{TrigState}
use Rattle.pic_machine.specs.declared.state.TrigState.TheVariants.{Initial, Awaiting, Signalled}
use Rattle.pic_machine.specs.declared.entry.Call.{Call}
use Rattle.pic_machine.specs.declared.entry.Call.TheVariants as call
use Rattle.pic_machine.specs.declared.entry.Call.TheVariants.{Turn, Arm, Fork, End}
use Rattle.pic_machine.specs.declared.entry.Reply.{Reply}
use Rattle.pic_machine.specs.declared.entry.Reply.TheVariants.{Plain}
use Rattle.pic_machine.specs.Happened.{Happened}
use Rattle.pic_machine.specs.State.{State}
use Rattle.pic_machine.specs.Step.{Allowed, IsLive, after, armed, fibers_after, fork_reply, has_room, reply_of, signalled}
use Rattle.pic_machine.specs.History.{Origin, Follows, IsLegal, event, world}
use Rattle.pic_machine.specs.Order.{GoesOn, InOrder, IsOwn, IsTurn, Stops, begin, readied, readied_by, stops, turn}
use Rattle.pic_machine.specs.Suspending.{IsSuspended, IsTied}
use Rattle.pic_machine.proofs.Callers.{caller_is_live}
use Rattle.pic_machine.proofs.Histories.{IsLegal-front, world-push}
use Rattle.pic_machine.proofs.Lists.{nothing_there}
use Rattle.pic_machine.proofs.Suspensions.{always_tied}

-- ---- counts

-- 1 where the numbers are the same
abbrev pub same : ℕ → ℕ → ℕ
same zero zero = 1
same zero (suc g) = 0
same (suc f) zero = 0
same (suc f) (suc g) = same f g

pub same_self : (f : ℕ) → same f f ≡ 1
same_self zero = refl
same_self (suc f) = same_self f

-- how often fiber g stands in the list
abbrev pub occurs : ℕ → List ℕ → ℕ
occurs g [] = 0
occurs g (f ∷ fs) = same f g + occurs g fs

occurs-append : (g : ℕ) (xs ys : List ℕ) → occurs g (xs ++ ys) ≡ occurs g xs + occurs g ys
occurs-append g [] ys = omega arith
occurs-append g (x ∷ xs) ys = omega (arith, occurs-append g xs ys)

-- 1 where the place has a live fiber
abbrev pub lives : Option FiberState → ℕ
lives None = 0
lives (Some Live) = 1
lives (Some (Suspended t)) = 0
lives (Some (Ended o)) = 0

-- 1 where fiber g is live
abbrev pub alive : List FiberState → ℕ → ℕ
alive fs zero = 0
alive fs (suc place) = lives (slice_get fs place)

-- the list has each live fiber once, and no other
abbrev pub IsReady : State → List ℕ → Type 0
IsReady w ready = (g : ℕ) → occurs g ready ≡ alive w.fibers g

-- ---- what one entry changes

-- how often the entry takes fiber g away from those that may run on
abbrev leaves : ℕ → ℕ → Call → Reply → ℕ
leaves g f call reply = cond (stops call reply) (same f g) 0

lives_pushed : (fs : List FiberState) (place : ℕ) → same (length fs) place + lives (slice_get fs place) ≡ lives (slice_get (fs ++ Live ∷ []) place)
lives_pushed [] zero = refl
lives_pushed [] (suc place) = refl
lives_pushed (s ∷ fs) zero = omega arith
lives_pushed (s ∷ fs) (suc place) = lives_pushed fs place

alive_pushed : (fs : List FiberState) (g : ℕ) → same (length fs + 1) g + alive fs g ≡ alive (fs ++ Live ∷ []) g
alive_pushed fs g = let e : length fs + 1 ≡ suc (length fs) = omega arith in rw e (one_on g) where
  one_on : (g : ℕ) → same (suc (length fs)) g + alive fs g ≡ alive (fs ++ Live ∷ []) g
  one_on zero = refl
  one_on (suc place) = lives_pushed fs place

-- a fiber that is live comes to be otherwise
lives_left : (fs : List FiberState) (at place : ℕ) (x : FiberState) → lives (Some x) ≡ 0 → slice_get fs at ≡ Some Live → lives (slice_get fs place) ≡ lives (slice_get (slice_set fs at x) place) + same at place
lives_left [] at place x none is = absurd cc
lives_left (s ∷ fs) zero zero x none is = omega (arith, none, ap lives is)
lives_left (s ∷ fs) zero (suc place) x none is = omega arith
lives_left (s ∷ fs) (suc at) zero x none is = omega arith
lives_left (s ∷ fs) (suc at) (suc place) x none is = lives_left fs at place x none is

alive_left : (fs : List FiberState) (at g : ℕ) (x : FiberState) → lives (Some x) ≡ 0 → slice_get fs at ≡ Some Live → alive fs g ≡ alive (slice_set fs at x) g + same (suc at) g
alive_left fs at zero x none is = refl
alive_left fs at (suc place) x none is = lives_left fs at place x none is

left_alive : (w : State) (f g : ℕ) (x : FiberState) → lives (Some x) ≡ 0 → IsLive w f → alive w.fibers g ≡ alive (slice_set w.fibers (f - 1) x) g + same f g
left_alive w f g x none live =
    let e : suc (f - 1) ≡ f = omega (arith, live.made) in
    subst (λ (n : ℕ). alive w.fibers g ≡ alive (slice_set w.fibers (f - 1) x) g + same n g) e (alive_left w.fibers (f - 1) g x none live.live)

-- a fiber that isn't live comes to be so
lives_back : (fs : List FiberState) (at place : ℕ) (x : FiberState) → lives (Some x) ≡ 0 → slice_get fs at ≡ Some x → same at place + lives (slice_get fs place) ≡ lives (slice_get (slice_set fs at Live) place)
lives_back [] at place x none is = absurd cc
lives_back (s ∷ fs) zero zero x none is = omega (arith, none, ap lives is)
lives_back (s ∷ fs) zero (suc place) x none is = omega arith
lives_back (s ∷ fs) (suc at) zero x none is = omega arith
lives_back (s ∷ fs) (suc at) (suc place) x none is = lives_back fs at place x none is

alive_back : (fs : List FiberState) (at g : ℕ) (x : FiberState) → lives (Some x) ≡ 0 → slice_get fs at ≡ Some x → same (suc at) g + alive fs g ≡ alive (slice_set fs at Live) g
alive_back fs at zero x none is = refl
alive_back fs at (suc place) x none is = lives_back fs at place x none is

back_alive : (w : State) (f t g : ℕ) → IsSuspended w f t → same f g + alive w.fibers g ≡ alive (slice_set w.fibers (f - 1) Live) g
back_alive w f t g waits =
    let e : suc (f - 1) ≡ f = omega (arith, waits.made) in
    subst (λ (n : ℕ). same n g + alive w.fibers g ≡ alive (slice_set w.fibers (f - 1) Live) g) e (alive_back w.fibers (f - 1) g (Suspended t) refl waits.state)

-- what the entry makes ready it adds to the live fibers, or it had ended its turn; and an end or a wait takes
-- its own fiber away
abbrev Balances : State → ℕ → Call → Reply → ℕ → Type 0
Balances w f call reply g = occurs g (readied_by f call reply) + alive w.fibers g ≡ alive (fibers_after w f call) g + leaves g f call reply

forked_balances : (w : State) (f text value g : ℕ) (room : Bool) → has_room w ≡ room → Balances w f (Fork text value) (fork_reply w) g
forked_balances w f text value g true is = rw is (omega (arith, alive_pushed w.fibers g))
forked_balances w f text value g false is = rw is (omega arith)

armed_balances : (w : State) (f t h g : ℕ) (s : Option TrigState) → slice_get w.triggers t ≡ s → t < length w.triggers → IsLive w f → Balances w f (Arm t (Resume h)) (armed (slice_get w.triggers t)) g
armed_balances w f t h g None is within live = absurd (nothing_there w.triggers t within is)
armed_balances w f t h g (Some Initial) is within live = rw is (omega (arith, left_alive w f g (Suspended t) refl live))
armed_balances w f t h g (Some (Awaiting action)) is within live = rw is (omega arith)
armed_balances w f t h g (Some Signalled) is within live = rw is (omega arith)

signalled_balances : (w : State) (f t g : ℕ) (s : Option TrigState) → slice_get w.triggers t ≡ s → IsTied w → Balances w f (call.Signal t) (signalled (slice_get w.triggers t)) g
signalled_balances w f t g None is tied = rw is (omega arith)
signalled_balances w f t g (Some Initial) is tied = rw is (omega arith)
signalled_balances w f t g (Some (Awaiting (Resume h))) is tied = rw is (omega (arith, back_alive w h t g (tied.resumes t h is)))
signalled_balances w f t g (Some Signalled) is tied = rw is (omega arith)

balances : (w : State) (f : ℕ) (call : Call) (g : ℕ) → IsTied w → Allowed w f call → Balances w f call (reply_of w f call) g
balances w f (Arm t (Resume h)) g tied allowed = armed_balances w f t h g (slice_get w.triggers t) refl allowed.names (caller_is_live w f (Arm t (Resume h)) allowed tt)
balances w f (call.Signal t) g tied allowed = signalled_balances w f t g (slice_get w.triggers t) refl tied
balances w f (Fork text value) g tied allowed = forked_balances w f text value g (has_room w) refl
balances w f (End o) g tied allowed = omega (arith, left_alive w f g (Ended o) refl (caller_is_live w f (End o) allowed tt))
balances w f _ g tied allowed = omega arith

alive_after : (w : State) (f : ℕ) (call : Call) (reply : Reply) (g : ℕ) → IsTied w → Allowed w f call → reply ≡ reply_of w f call
    → occurs g (readied_by f call reply) + alive w.fibers g ≡ alive (fibers_after w f call) g + leaves g f call reply
alive_after w f call reply g tied allowed is = subst (λ (r : Reply). Balances w f call r g) (sym is) (balances w f call g tied allowed)

-- ---- what a turn changes

abbrev all_leave : ℕ → List Happened → ℕ
all_leave g [] = 0
all_leave g (h ∷ hs) = leaves g h.entry.fiber h.entry.call h.entry.reply + all_leave g hs

-- the same of each entry of a list
alive_through : (origin : Origin) (front es : List Happened) (g : ℕ) → IsTied origin.world → IsLegal origin (front ++ es)
    → occurs g (readied es) + alive (world origin front).fibers g ≡ alive (world origin (front ++ es)).fibers g + all_leave g es
alive_through origin front [] g tied legal = rw (append-nil front) (omega arith)
alive_through origin front (h ∷ es) g tied legal =
    let assoc : (front ++ h ∷ []) ++ es ≡ front ++ h ∷ es = append_assoc front (h ∷ []) es in
    let follows : Follows origin front h = legal.each front es h refl in
    let here = alive_after (world origin front) h.entry.fiber h.entry.call h.entry.reply g (always_tied origin front tied (IsLegal-front origin front (h ∷ es) legal)) follows.may.allowed follows.reply in
    let step : alive (world origin (front ++ h ∷ [])).fibers g ≡ alive (after (world origin front) h.entry.fiber h.entry.call).fibers g = ap (λ (w : State). alive w.fibers g) (world-push origin front h) in
    let rest = alive_through origin (front ++ h ∷ []) es g tied (subst (IsLegal origin) (sym assoc) legal) in
    let there : alive (world origin ((front ++ h ∷ []) ++ es)).fibers g ≡ alive (world origin (front ++ h ∷ es)).fibers g = ap (λ (zs : List Happened). alive (world origin zs).fibers g) assoc in
    omega (arith, here, step, rest, there, occurs-append g (readied_by h.entry.fiber h.entry.call h.entry.reply) (readied es))

-- of a turn's entries the last alone takes a fiber away: its own
leave_last : (g : ℕ) (going : List Happened) (last : Happened) → AllByRecursion GoesOn going → Stops last → all_leave g (going ++ last ∷ []) ≡ same last.entry.fiber g
leave_last g [] last on stop = rw stop (omega arith)
leave_last g (h ∷ going) last on stop = rw on.0 (omega (arith, leave_last g going last on.1 stop))

at_last : (P : Happened → Type 0) (going : List Happened) (last : Happened) → AllByRecursion P (going ++ last ∷ []) → P last
at_last P [] last each = each.0
at_last P (h ∷ going) last each = at_last P going last each.1

turn_leaves : (g f : ℕ) (own : List Happened) → IsTurn f own → all_leave g own ≡ same f g
turn_leaves g f own is =
    let split : AllByRecursion (IsOwn f) (is.going ++ is.final ∷ []) = subst (AllByRecursion (IsOwn f)) is.is is.own in
    let mine : IsOwn f is.final = at_last (IsOwn f) is.going is.final split in
    ap (all_leave g) is.is ∙ (leave_last g is.going is.final is.on is.last ∙ ap (λ (n : ℕ). same n g) mine.by)

-- that a turn began changes nothing
turn_begins : (origin : Origin) (hs : List Happened) (f : ℕ) → world origin (hs ++ event f Turn Plain ∷ []) ≡ world origin hs
turn_begins origin hs f = world-push origin hs (event f Turn Plain)

occurs_taken : (g f : ℕ) (before behind : List ℕ) → occurs g (before ++ f ∷ behind) ≡ same f g + occurs g (before ++ behind)
occurs_taken g f before behind = omega (arith, occurs-append g before (f ∷ behind), occurs-append g before behind)

ready_after : (origin : Origin) (hs own : List Happened) (f : ℕ) (before behind : List ℕ) → IsTied origin.world → IsLegal origin (hs ++ event f Turn Plain ∷ own) → IsTurn f own
    → IsReady (world origin hs) (before ++ f ∷ behind) → IsReady (world origin (hs ++ event f Turn Plain ∷ own)) ((before ++ behind) ++ readied own)
ready_after origin hs own f before behind tied legal is ready g =
    let front : List Happened = hs ++ event f Turn Plain ∷ [] in
    let assoc : front ++ own ≡ hs ++ event f Turn Plain ∷ own = append_assoc hs (event f Turn Plain ∷ []) own in
    let through = alive_through origin front own g tied (subst (IsLegal origin) (sym assoc) legal) in
    let there : alive (world origin (front ++ own)).fibers g ≡ alive (world origin (hs ++ event f Turn Plain ∷ own)).fibers g = ap (λ (zs : List Happened). alive (world origin zs).fibers g) assoc in
    let here : alive (world origin front).fibers g ≡ alive (world origin hs).fibers g = ap (λ (w : State). alive w.fibers g) (turn_begins origin hs f) in
    omega (arith, through, there, here, ready g, occurs_taken g f before behind, turn_leaves g f own is, occurs-append g (before ++ behind) (readied own))

-- ---- the ready list

main_ready : (fs : List FiberState) (g : ℕ) → fs ≡ Live ∷ [] → occurs g (1 ∷ []) ≡ alive fs g
main_ready fs g is = ones g ∙ ap (λ (zs : List FiberState). alive zs g) (sym is) where
  ones : (g : ℕ) → occurs g (1 ∷ []) ≡ alive (Live ∷ []) g
  ones zero = refl
  ones (suc zero) = refl
  ones (suc (suc place)) = refl

-- where main alone is live at the start
pub ready_is_live : (Picks : List ℕ → Type 0) (origin : Origin) (hs : List Happened) (ready : List ℕ) → origin.world.fibers ≡ Live ∷ [] → IsTied origin.world → IsLegal origin hs → InOrder Picks hs ready → IsReady (world origin hs) ready
ready_is_live Picks origin hs ready main tied legal begin = λ g. main_ready origin.world.fibers g main
ready_is_live Picks origin hs ready main tied legal (turn {hs = done} {f = f} before behind own order picks is) =
    ready_after origin done own f before behind tied legal is (ready_is_live Picks origin done (before ++ f ∷ behind) main tied (IsLegal-front origin done (event f Turn Plain ∷ own) legal) order)

-- ---- what it tells

live_place : (fs : List FiberState) (f : ℕ) → 0 < alive fs f → (0 < f) × (slice_get fs (f - 1) ≡ Some Live)
live_place fs zero live = absurd (omega (arith, live))
live_place fs (suc place) live =
    let before : place ≡ suc place - 1 = omega arith in
    (omega arith, ap (slice_get fs) (sym before) ∙ at (slice_get fs place) refl live) where
      at : (s : Option FiberState) → slice_get fs place ≡ s → 0 < lives s → slice_get fs place ≡ Some Live
      at None is live = absurd (omega (arith, live))
      at (Some Live) is live = is
      at (Some (Suspended t)) is live = absurd (omega (arith, live))
      at (Some (Ended o)) is live = absurd (omega (arith, live))

-- whoever is first of the ready list is live
pub first_is_live : (w : State) (f : ℕ) (ready : List ℕ) → IsReady w (f ∷ ready) → IsLive w f
first_is_live w f ready is =
    let some : 0 < alive w.fibers f = omega (arith, is f, same_self f) in
    let place = live_place w.fibers f some in
    record { made = place.0; live = place.1 }

-- where none is ready nobody is live
pub none_live : (w : State) → IsReady w [] → All (λ fiber. fiber ≢ Live) w.fibers
none_live w is = λ place other within live.
    let there : slice_get w.fibers place ≡ Some Live = slice_get-get_or w.fibers place other within ∙ ap (λ (s : FiberState). Some s) live in
    let here : alive w.fibers (suc place) ≡ 1 = ap lives there in
    omega (arith, here, is (suc place))
