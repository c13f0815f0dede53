-- No attachment is lost: what was attached to a computation stands there as long as it runs, then its signal is
-- owed by whoever completed it, and at last it is signalled.
use Rattle.std.proofs.Common.{◌≡◌, ◌⊎◌, ℕ, ◌<◌, ◌==◌, inl, inr, Bool, true, false, Option, Some, None, List, [], ◌∷◌, ◌++◌, length, map, reverse, slice_get, slice_index_or, slice_set, cond, refl, sym, ap, subst, ◌∙◌, arith}
use Rattle.std.specs.List.{AllByRecursion, Contains}
use Rattle.std.proofs.lemmas.Bool.Decides.{nat_tests}
use Rattle.std.proofs.lemmas.List.{reverse-append}
use Rattle.std.proofs.lemmas.List.Elements.{Contains-append_cases, Contains-append_left, Contains-append_right}
use Rattle.std.proofs.lemmas.Option.{slice_get_within}
use Rattle.pic_base.specs.declared.duty.Duty.{Duty}
use Rattle.pic_base.specs.declared.duty.Duty.TheVariants.{Signal}
use Rattle.pic_base.specs.declared.outcome.Outcome.{Outcome}
use Rattle.pic_machine.specs.declared.entry.Call.{Call}
use Rattle.pic_machine.specs.declared.entry.Call.TheVariants.{Attach, Complete}
use Rattle.pic_machine.specs.declared.entry.CompleteReply.TheVariants.{Won}
use Rattle.pic_machine.specs.declared.entry.Reply.{Reply}
use Rattle.pic_machine.specs.declared.entry.Reply.TheVariants.{Completed}
use Rattle.pic_machine.specs.declared.state.CompState.{CompState}
use Rattle.pic_machine.specs.declared.state.CompState.TheVariants.{Running, Done}
use Rattle.pic_machine.specs.Happened.{Happened}
use Rattle.pic_machine.specs.Once.{Wins}
use Rattle.pic_machine.specs.Signalling.{IsKept, IsSignalled, attached_by, attachments, calls_of}
use Rattle.pic_machine.specs.Signalling.IsKept.{owed, signalled, waits}
use Rattle.pic_machine.specs.State.{State, owed_of}
use Rattle.pic_machine.specs.Duty.{fulfilled}
use Rattle.pic_machine.specs.Step.{Allowed, after, attached, comps_after, completed, reply_of, with_attached}
use Rattle.pic_machine.specs.History.{world_from}
use Rattle.pic_machine.proofs.Attachments.{Goes, goes_after}
use Rattle.pic_machine.proofs.Attachments.Goes.{done, runs}
use Rattle.pic_machine.proofs.Callers.{caller_owes}
use Rattle.pic_machine.proofs.Counts.{IsCounted, counts_after}
use Rattle.pic_machine.proofs.Fates.{AreSteps, IsStep}
use Rattle.pic_machine.proofs.Lists.{nothing_there, slice_get-set_same}
use Rattle.pic_machine.proofs.Signallings.{Walk, completer_owes, walk}
use Rattle.pic_machine.proofs.Signallings.Walk.{over, under_way}

-- ---- lists

nothing_in : {A : Type 0} (x : A) → Contains [] x → ⊥
nothing_in x has = omega (arith, has.1)

one_in : {A : Type 0} (y x : A) → Contains (y ∷ []) x → y ≡ x
one_in y x has = let first : has.0 ≡ 0 = omega (arith, has.1) in subst (λ (k : ℕ). slice_index_or (y ∷ []) k x ≡ x) first has.2

first_or_later : {A : Type 0} (y x : A) (ys : List A) → Contains (y ∷ ys) x → (y ≡ x) ⊎ Contains ys x
first_or_later {A} y x ys has = at (Contains-append_cases (y ∷ []) ys x has) where
  at : Contains (y ∷ []) x ⊎ Contains ys x → (y ≡ x) ⊎ Contains ys x
  at (inl first) = inl (one_in y x first)
  at (inr later) = inr later

in_reverse : (ts : List ℕ) (t : ℕ) → Contains ts t → Contains (reverse ts) t
in_reverse [] t has = absurd (nothing_in t has)
in_reverse (u ∷ ts) t has =
    subst (λ (us : List ℕ). Contains us t) (sym (reverse-append (u ∷ []) ts))
    (elim (first_or_later u t ts has) [
      | inl first ↦ Contains-append_right (reverse ts) (u ∷ []) t (0, omega arith, first)
      | inr later ↦ Contains-append_left (reverse ts) (u ∷ []) t (in_reverse ts t later)
    ])

in_signals : (ts : List ℕ) (t : ℕ) → Contains ts t → Contains (map Signal ts) (Signal t)
in_signals [] t has = absurd (nothing_in t has)
in_signals (u ∷ ts) t has = elim (first_or_later u t ts has) [
  | inl first ↦ Contains-append_left (Signal u ∷ []) (map Signal ts) (Signal t) (0, omega arith, ap Signal first)
  | inr later ↦ Contains-append_right (Signal u ∷ []) (map Signal ts) (Signal t) (in_signals ts t later)
]

each_in : (P : ℕ → Type 0) (xs : List ℕ) (x : ℕ) → AllByRecursion P xs → Contains xs x → P x
each_in P [] x each has = absurd (nothing_in x has)
each_in P (y ∷ xs) x each has = elim (first_or_later y x xs has) [ inl first ↦ subst P first each.0 | inr later ↦ each_in P xs x each.1 later ]

-- ---- attachments

-- one entry more in front
kept_behind : (h : Happened) (hs : List Happened) (w : State) (c t : ℕ) → IsKept hs w c t → IsKept (h ∷ hs) w c t
kept_behind h hs w c t (waits triggers is has) = waits triggers is has
kept_behind h hs w c t (owed won o in_it wins duty) = owed won o (Contains-append_right (h ∷ []) hs won in_it) wins duty
kept_behind h hs w c t (signalled is) = signalled is

-- whoever completed the computation is on the way, or has done it
kept_walking : (hs : List Happened) (w : State) (won : Happened) (c t : ℕ) (o : Outcome) (ts : List ℕ) (rest : List Duty) (calls : List Call) → Contains hs won → Wins c o won
    → Contains ts t → Walk w won.entry.fiber ts rest calls → IsKept hs w c t
kept_walking hs w won c t o ts rest calls in_it wins has (over others is all) = signalled (each_in (IsSignalled w) ts t all has)
kept_walking hs w won c t o ts rest calls in_it wins has (under_way made next left split is all owes) =
    at (Contains-append_cases made (next ∷ left) t (subst (λ (us : List ℕ). Contains us t) split has)) where
      at : Contains made t ⊎ Contains (next ∷ left) t → IsKept hs w c t
      at (inl before) = signalled (each_in (IsSignalled w) made t all before)
      at (inr later) =
          owed won o in_it wins
          (subst (λ (ds : List Duty). Contains ds (Signal t)) (sym owes) (Contains-append_left (map Signal (next ∷ left)) rest (Signal t) (in_signals (next ∷ left) t later)))

module _ (w : State) (h : Happened) (hs : List Happened) (c t : ℕ) (ts : List ℕ) (step : IsStep w h) (are : AreSteps (after w h.entry.fiber h.entry.call) hs) (counts : IsCounted w)
    (is : slice_get w.comps c ≡ Some (Running ts)) (has : Contains ts t) where
  -- the entry completes the computation
  won_kept : (o : Outcome) → h.entry.call ≡ Complete c o → IsKept (h ∷ hs) (world_from w (h ∷ hs)) c t
  won_kept o call =
      let f = h.entry.fiber in
      let reply : h.entry.reply ≡ Completed Won = step.reply ∙ (ap (reply_of w f) call ∙ ap completed is) in
      let owes : owed_of (after w f h.entry.call) f ≡ map Signal (reverse ts) ++ fulfilled (owed_of w f) =
      ap (λ (asked : Call). owed_of (after w f asked) f) call ∙ completer_owes w f c o ts (caller_owes w f counts step.allowed.caller) is in
      kept_walking (h ∷ hs) (world_from w (h ∷ hs)) h c t o (reverse ts) (fulfilled (owed_of w f)) (calls_of f hs) (0, omega arith, refl) (record { call = call; reply = reply }) (in_reverse ts t has)
      (walk (after w f h.entry.call) hs f (reverse ts) (fulfilled (owed_of w f)) are (counts_after w f h.entry.call counts) owes)

  one_on : Goes (after w h.entry.fiber h.entry.call).comps h.entry.call c (ts ++ attached_by c h.entry.call (reply_of w h.entry.fiber h.entry.call))
      → ((us : List ℕ) → slice_get (after w h.entry.fiber h.entry.call).comps c ≡ Some (Running us) → Contains us t → IsKept hs (world_from w (h ∷ hs)) c t) → IsKept (h ∷ hs) (world_from w (h ∷ hs)) c t
  one_on (runs there) later =
      let more : List ℕ = attached_by c h.entry.call (reply_of w h.entry.fiber h.entry.call) in
      kept_behind h hs (world_from w (h ∷ hs)) c t (later (ts ++ more) there (Contains-append_left ts more t has))
  one_on (done o there by) later = won_kept o by

-- what stands at a running computation
kept_running : (w : State) (hs : List Happened) (c t : ℕ) (ts : List ℕ) → AreSteps w hs → IsCounted w → slice_get w.comps c ≡ Some (Running ts) → Contains ts t → IsKept hs (world_from w hs) c t
kept_running w [] c t ts are counts is has = waits ts is has
kept_running w (h ∷ hs) c t ts are counts is has =
    one_on w h hs c t ts are.0 are.1 counts is has (goes_after w h.entry.fiber h.entry.call c ts is)
    (λ us there more. kept_running (after w h.entry.fiber h.entry.call) hs c t us are.1 (counts_after w h.entry.fiber h.entry.call counts) there more)

-- what an entry attached stands at a running computation behind it
record Stands (comps : List CompState) (c t : ℕ) : Type 0 where
  triggers : List ℕ
  state : slice_get comps c ≡ Some (Running triggers)
  has : Contains triggers t

attached_when : (cs : List CompState) (c d t u : ℕ) (triggers : List ℕ) (b : Bool) → (d == c) ≡ b → slice_get cs d ≡ Some (Running triggers)
    → Contains (cond b (u ∷ []) []) t → Stands (slice_set cs d (Running (triggers ++ u ∷ []))) c t
attached_when cs c d t u triggers true same is has =
    let at : d ≡ c = grind (arith, nat_tests, same) in
    record {
      triggers = triggers ++ u ∷ [];
      state = ap (slice_get (slice_set cs d (Running (triggers ++ u ∷ [])))) (sym at) ∙ slice_get-set_same cs d (Running (triggers ++ u ∷ [])) (slice_get_within cs d (Running triggers) is);
      has = Contains-append_right triggers (u ∷ []) t has;
    }
attached_when cs c d t u triggers false other is has = absurd (nothing_in t has)

attached_in : (cs : List CompState) (c p d t u : ℕ) (s : Option CompState) → slice_get cs d ≡ s → d < length cs → Contains (attached_by c (Attach p d u) (attached s)) t → Stands (with_attached cs d u s) c t
attached_in cs c p d t u None is within has = absurd (nothing_there cs d within is)
attached_in cs c p d t u (Some (Running triggers)) is within has = attached_when cs c d t u triggers (d == c) refl is has
attached_in cs c p d t u (Some (Done o)) is within has = absurd (nothing_in t has)

attached_then : (w : State) (f : ℕ) (call : Call) (c t : ℕ) → Allowed w f call → Contains (attached_by c call (reply_of w f call)) t → Stands (comps_after w call) c t
attached_then w f (Attach p d u) c t allowed has = attached_in w.comps c p d t u (slice_get w.comps d) refl allowed.names.1 has
attached_then w f call c t allowed has = absurd (nothing_in t has)

pub kept_all : (w : State) (hs : List Happened) (c t : ℕ) → AreSteps w hs → IsCounted w → Contains (attachments hs c) t → IsKept hs (world_from w hs) c t
kept_all w [] c t are counts has = absurd (nothing_in t has)
kept_all w (h ∷ hs) c t are counts has =
    at (λ later. kept_all (after w h.entry.fiber h.entry.call) hs c t are.1 then later) (Contains-append_cases (attached_by c h.entry.call h.entry.reply) (attachments hs c) t has) where
      then : IsCounted (after w h.entry.fiber h.entry.call)
      then = counts_after w h.entry.fiber h.entry.call counts

      at : (Contains (attachments hs c) t → IsKept hs (world_from w (h ∷ hs)) c t) → Contains (attached_by c h.entry.call h.entry.reply) t ⊎ Contains (attachments hs c) t → IsKept (h ∷ hs) (world_from w (h ∷ hs)) c t
      at rest (inl here) =
          let stands = attached_then w h.entry.fiber h.entry.call c t are.0.allowed (subst (λ (r : Reply). Contains (attached_by c h.entry.call r) t) are.0.reply here) in
          kept_behind h hs (world_from w (h ∷ hs)) c t (kept_running (after w h.entry.fiber h.entry.call) hs c t stands.triggers are.1 then stands.state stands.has)
      at rest (inr later) = kept_behind h hs (world_from w (h ∷ hs)) c t (rest later)
