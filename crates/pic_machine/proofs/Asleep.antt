-- The log of a fiber that is suspended ends with the arming that suspended it.
use Rattle.std.proofs.Common.{◌≡◌, ◌≢◌, ◌⊎◌, ℕ, ◌-◌, ◌<◌, inl, inr, Bool, false, None, List, [], ◌∷◌, ◌++◌, Option, Some, slice_get, refl, sym, ap, subst, ◌∙◌, arith}
use Rattle.pic_base.specs.declared.action.Action.TheVariants.{Resume}
use Rattle.pic_base.specs.declared.duty.Duty.{Duty}
use Rattle.pic_machine.specs.declared.birth.Birth.{Birth}
use Rattle.pic_machine.specs.declared.entry.ArmReply.TheVariants.{Set}
use Rattle.pic_machine.specs.declared.entry.Call.{Call}
use Rattle.pic_machine.specs.declared.entry.Call.TheVariants as call
use Rattle.pic_machine.specs.declared.entry.Call.TheVariants.{Arm, End, Fork}
use Rattle.pic_machine.specs.declared.entry.Reply.{Reply}
use Rattle.pic_machine.specs.declared.entry.Reply.TheVariants.{Armed}
use Rattle.pic_machine.specs.declared.state.FiberState.{FiberState}
use Rattle.pic_machine.specs.declared.state.FiberState.TheVariants.{Ended, Live, Suspended}
use Rattle.pic_machine.specs.declared.state.TrigState.{TrigState}
use Rattle.pic_machine.specs.declared.state.TrigState.TheVariants.{Awaiting, Initial}
use Rattle.pic_machine.specs.Duty.{DutiesAllow, is_owing}
use Rattle.pic_machine.specs.Happened.{Happened}
use Rattle.pic_machine.specs.State.{State, owed_of}
use Rattle.pic_machine.specs.Step.{Allowed, IsLive, MayAct, after, armed, fibers_after, has_room, reply_of, resumed, with_waiting}
use Rattle.pic_machine.specs.History.{BirthFits, Follows, IsLegal, Origin, event, world}
use Rattle.pic_machine.specs.Log.{is_logged, is_turn, log}
use Rattle.pic_machine.specs.Suspending.{EndsAsleep, IsSuspended}
use Rattle.pic_machine.proofs.Callers.{caller_is_live}
use Rattle.pic_machine.proofs.Histories.{log-push_hidden, log-push_mine, world-push}
use Rattle.pic_machine.proofs.Lasting.{along}
use Rattle.pic_machine.proofs.Lists.{grown_less, read_set}
use Rattle.pic_machine.proofs.Onward.{logged}
use Rattle.pic_machine.proofs.Rests.{arms_nothing}
use Rattle.pic_machine.proofs.Staying.{not_logged}

-- a fiber that is suspended behind a call was so before, or is by the call
data SuspendedBy (w : State) (g : ℕ) (asked : Call) (f t : ℕ) : Type 0 where
  before : IsSuspended w f t → SuspendedBy w g asked f t
  here : g ≡ f → asked ≡ Arm t (Resume f) → slice_get w.triggers t ≡ Some Initial → SuspendedBy w g asked f t

module _ (w : State) (g f t : ℕ) (made : 0 < f) where
  was : (asked : Call) → slice_get w.fibers (f - 1) ≡ Some (Suspended t) → SuspendedBy w g asked f t
  was asked is = before (record { made = made; state = is })

  -- what was written somewhere and is no wait suspended nobody
  written : (asked : Call) (place : ℕ) (x : FiberState) → x ≢ Suspended t → ((f - 1 ≡ place) × (x ≡ Suspended t)) ⊎ ((f - 1 ≢ place) × (slice_get w.fibers (f - 1) ≡ Some (Suspended t))) → SuspendedBy w g asked f t
  written asked place x other (inl mine) = absurd (other mine.1)
  written asked place x other (inr there) = was asked there.1

  arms : (u : ℕ) → 0 < g → slice_get w.triggers u ≡ Some Initial → ((f - 1 ≡ g - 1) × (Suspended u ≡ Suspended t)) ⊎ ((f - 1 ≢ g - 1) × (slice_get w.fibers (f - 1) ≡ Some (Suspended t)))
      → SuspendedBy w g (Arm u (Resume g)) f t
  arms u acts initial (inl mine) =
      let both : Suspended u ≡ Suspended t = mine.1 in
      let at : u ≡ t = cc in
      let same : g ≡ f = omega (arith, mine.0, made, acts) in
      here same (ap (λ (v : ℕ). Arm v (Resume g)) at ∙ ap (λ (k : ℕ). Arm t (Resume k)) same) (ap (slice_get w.triggers) (sym at) ∙ initial)
  arms u acts initial (inr there) = was (Arm u (Resume g)) there.1

  arms_at : (u : ℕ) (s : Option TrigState) → 0 < g → slice_get w.triggers u ≡ s → slice_get (with_waiting w.fibers g u (Resume g) s) (f - 1) ≡ Some (Suspended t) → SuspendedBy w g (Arm u (Resume g)) f t
  arms_at u (Some Initial) acts initial is = arms u acts initial (read_set w.fibers (g - 1) (f - 1) (Suspended u) (Suspended t) is)
  arms_at u s acts there is = was (Arm u (Resume g)) is

  signals_at : (asked : Call) (s : Option TrigState) → slice_get (resumed w.fibers s) (f - 1) ≡ Some (Suspended t) → SuspendedBy w g asked f t
  signals_at asked (Some (Awaiting (Resume h))) is = written asked (h - 1) Live (λ same. cc) (read_set w.fibers (h - 1) (f - 1) Live (Suspended t) is)
  signals_at asked s is = was asked is

  suspended_by : (asked : Call) → Allowed w g asked → slice_get (fibers_after w g asked) (f - 1) ≡ Some (Suspended t) → SuspendedBy w g asked f t
  suspended_by (Arm u (Resume h)) allowed is =
      let live : IsLive w g = caller_is_live w g (Arm u (Resume h)) allowed tt in
      subst (λ (k : ℕ). SuspendedBy w g (Arm u (Resume k)) f t) (sym allowed.own) (arms_at u (slice_get w.triggers u) live.made refl is)
  suspended_by (call.Signal u) allowed is = signals_at (call.Signal u) (slice_get w.triggers u) is
  suspended_by (Fork text value) allowed is = was (Fork text value) (grown_less (has_room w) w.fibers Live (f - 1) (Suspended t) (λ same. cc) is)
  suspended_by (End o) allowed is = written (End o) (g - 1) (Ended o) (λ same. cc) (read_set w.fibers (g - 1) (f - 1) (Ended o) (Suspended t) is)
  suspended_by asked allowed is = was asked is

-- who acts isn't suspended
acts_apart : (w : State) (g f t : ℕ) → MayAct w g → IsSuspended w f t → g ≢ f
acts_apart w g f t (inl clock) waits = λ same. absurd (omega (arith, clock, same, waits.made))
acts_apart w g f t (inr live) waits = λ same.
    let both : Some Live ≡ Some (Suspended t) = sym live.live ∙ (ap (λ (n : ℕ). slice_get w.fibers (n - 1)) same ∙ waits.state) in
    cc

-- ---- histories

-- the entry of a call that made no fiber, of a fiber that owes nothing
is_event : (h : Happened) (f : ℕ) (call : Call) (reply : Reply) → h.entry.fiber ≡ f → h.entry.call ≡ call → h.entry.reply ≡ reply → h.birth ≡ None → h.owing ≡ false → h ≡ event f call reply
is_event h f call reply fiber asked told birth owing =
    ap (λ (g : ℕ). record { entry = record { fiber = g; call = h.entry.call; reply = h.entry.reply }; birth = h.birth; owing = h.owing }) fiber
    ∙ (ap (λ (c : Call). record { entry = record { fiber = f; call = c; reply = h.entry.reply }; birth = h.birth; owing = h.owing }) asked
    ∙ (ap (λ (r : Reply). record { entry = record { fiber = f; call = call; reply = r }; birth = h.birth; owing = h.owing }) told
    ∙ (ap (λ (b : Option Birth). record { entry = record { fiber = f; call = call; reply = reply }; birth = b; owing = h.owing }) birth
    ∙ ap (λ (b : Bool). record { entry = record { fiber = f; call = call; reply = reply }; birth = None; owing = b }) owing)))

-- the arming that suspended a fiber
armed_event : (origin : Origin) (hs : List Happened) (h : Happened) (f t : ℕ) → Follows origin hs h → h.entry.fiber ≡ f → h.entry.call ≡ Arm t (Resume f)
    → slice_get (world origin hs).triggers t ≡ Some Initial → h ≡ event f (Arm t (Resume f)) (Armed Set)
armed_event origin hs h f t follows mine is initial =
    let w = world origin hs in
    let asked : Call = Arm t (Resume f) in
    let nothing : owed_of w h.entry.fiber ≡ [] = arms_nothing (owed_of w h.entry.fiber) t (Resume f) (subst (λ (c : Call). DutiesAllow (owed_of w h.entry.fiber) c) is follows.may.allowed.duties) in
    let reply : h.entry.reply ≡ Armed Set = follows.reply ∙ (ap (reply_of w h.entry.fiber) is ∙ ap armed initial) in
    let birth : h.birth ≡ None = subst (λ (c : Call). BirthFits w c h.entry.reply h.birth) is follows.birth in
    let owing : h.owing ≡ false = follows.owing ∙ ap (λ (ds : List Duty). is_owing ds h.entry.call) nothing in
    is_event h f asked (Armed Set) mine is reply birth owing

module _ (origin : Origin) (hs : List Happened) (h : Happened) (f t : ℕ) (follows : Follows origin hs h) where
  sleeps : SuspendedBy (world origin hs) h.entry.fiber h.entry.call f t → (IsSuspended (world origin hs) f t → EndsAsleep (log hs f) f t) → EndsAsleep (log (hs ++ h ∷ []) f) f t
  sleeps (before waits) still =
      let hidden : is_logged f h ≡ false = not_logged h f (acts_apart (world origin hs) h.entry.fiber f t follows.may.allowed.caller waits) in
      subst (λ (zs : List Happened). EndsAsleep zs f t) (sym (log-push_hidden hs h f hidden)) (still waits)
  sleeps (here mine is initial) still =
      let last = armed_event origin hs h f t follows mine is initial in
      record {
        front = log hs f;
        is = log-push_mine hs h f (logged h f mine (ap is_turn is)) ∙ ap (λ (x : Happened). log hs f ++ x ∷ []) last;
      }

-- wherever fiber f is suspended, its log ends so
abbrev Sleeps : Origin → ℕ → List Happened → Type 0
Sleeps origin f hs = (t : ℕ) → IsSuspended (world origin hs) f t → EndsAsleep (log hs f) f t

sleeps_on : (origin : Origin) (f : ℕ) (hs : List Happened) (h : Happened) → Follows origin hs h → Sleeps origin f hs → Sleeps origin f (hs ++ h ∷ [])
sleeps_on origin f hs h follows sleep t now =
    let there : IsSuspended (after (world origin hs) h.entry.fiber h.entry.call) f t = subst (λ (w : State). IsSuspended w f t) (world-push origin hs h) now in
    sleeps origin hs h f t follows (suspended_by (world origin hs) h.entry.fiber f t there.made h.entry.call follows.may.allowed there.state) (sleep t)

-- where nobody is suspended at first
pub ends_asleep : (origin : Origin) (hs : List Happened) (f t : ℕ) → ((u : ℕ) → IsSuspended origin.world f u → ⊥) → IsLegal origin hs → IsSuspended (world origin hs) f t → EndsAsleep (log hs f) f t
ends_asleep origin hs f t none legal waits = along (Sleeps origin f) origin (sleeps_on origin f) [] hs legal (λ u was. absurd (none u was)) t waits
