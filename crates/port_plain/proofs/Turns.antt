-- How turns begin and end: a body goes out, and comes home with the last entry of its turn, or as it was.
use Rattle.std.proofs.Common.{◌≡◌, ◌≢◌, ℕ, inr, Bool, true, false, Option, Some, None, List, [], ◌∷◌, ◌++◌, slice_get, refl, sym, ap, subst, ◌∙◌, ◌&&◌, ◌==◌, append-nil, arith}
use Rattle.pic_base.specs.declared.action.Action.TheVariants.{Resume}
use Rattle.pic_machine.specs.declared.entry.ArmReply.{ArmReply}
use Rattle.pic_machine.specs.declared.entry.ArmReply.TheVariants.{Set}
use Rattle.pic_machine.specs.declared.entry.Call.{Call}
use Rattle.pic_machine.specs.declared.entry.Call.TheVariants.{Turn, Yield, Arm, End}
use Rattle.pic_machine.specs.declared.entry.Reply.{Reply}
use Rattle.pic_machine.specs.declared.entry.Reply.TheVariants.{Armed, Plain}
use Rattle.pic_machine.specs.declared.state.TrigState.TheVariants.{Initial}
use Rattle.pic_machine.specs.Duty.{LeavesDuties}
use Rattle.pic_machine.specs.Happened.{Happened}
use Rattle.pic_machine.specs.State.{State, owed_of}
use Rattle.pic_machine.specs.Step.{IsLive, MayAct, armed, reply_of}
use Rattle.pic_machine.specs.History.{Follows, IsLegal, Origin, event, happening, world}
use Rattle.pic_machine.specs.Log.{is_turn, log, visible}
use Rattle.pic_machine.specs.Sight.{Carry, Holds, Notes, fiber_of}
use Rattle.pic_machine.specs.Lending.{Began, Called, FitsWith, Laid, Made}
use Rattle.pic_machine.proofs.Histories.{log-push_hidden, world-push}
use Rattle.pic_machine.proofs.Homes.{home_held, made_home}
use Rattle.pic_machine.proofs.Owns.{IsUnasked, turn_free}
use Rattle.pic_machine.proofs.Staying.{birth_stays}
use Rattle.pic_machine.proofs.Steps.{acts_armed, acts_own, owed_left}
use Rattle.port_plain.specs.Shown.{IsAtHome, IsLast, Shown, marked, origin_in, sight_of, with_entry}
use Rattle.port_plain.proofs.Lent.{called_then, fiber_is, front_began, front_made, unmarked}

-- ---- the calls with which a turn is over

pub last_plain : (w : State) (f : ℕ) (call : Call) → IsLast call → reply_of w f call ≡ Plain
last_plain w f Yield is = refl
last_plain w f (End o) is = refl
last_plain w f _ is = absurd is

-- a call with which a turn may be over: no duty asks for it
abbrev pub IsOver : Call → Type 0
IsOver (Arm t action) = Unit {0}
IsOver Yield = Unit {0}
IsOver (End o) = Unit {0}
IsOver _ = ⊥

pub last_over : (call : Call) → IsLast call → IsOver call
last_over Yield is = tt
last_over (End o) is = tt
last_over _ is = absurd is

over_leaves : (call : Call) → IsOver call → LeavesDuties call
over_leaves (Arm t action) is = tt
over_leaves Yield is = tt
over_leaves (End o) is = tt
over_leaves _ is = absurd is

over_unasked : (call : Call) → IsOver call → IsUnasked call
over_unasked (Arm t action) is = tt
over_unasked Yield is = tt
over_unasked (End o) is = tt
over_unasked _ is = absurd is

over_within : (call : Call) → IsOver call → is_turn call ≡ false
over_within (Arm t action) is = refl
over_within Yield is = refl
over_within (End o) is = refl
over_within _ is = absurd is

-- a call that leaves the duties
owes_pushed : (origin : Origin) (front : List Happened) (h : Happened) (f : ℕ) → LeavesDuties h.entry.call → owed_of (world origin (front ++ h ∷ [])) f ≡ owed_of (world origin front) f
owes_pushed origin front h f leaves = ap (λ (w : State). owed_of w f) (world-push origin front h) ∙ owed_left (world origin front) h.entry.fiber h.entry.call f leaves

-- ---- a turn is over

module _ {B S : Type 0} (seen : B → Carry S) (fits : B → List Happened → Type 0) (same_rest : B → B → Type 0) (port new : Shown B) (body : B) (holds : Holds (sight_of seen port) (seen body)) (f : ℕ) (number : (seen body).number ≡ Some f)
    (call : Call) (reply last : Reply) (made : new ≡ with_entry port (marked seen port f call reply)) (follows : Follows (origin_in seen port) port.front (marked seen port f call reply)) (over : IsOver call) (told : reply ≡ last) where
  abbrev h : Happened
  h = event (fiber_of (seen body)) call last

  is_h : marked seen port f call reply ≡ h
  is_h = unmarked seen port new (seen body) holds f number call reply made follows (over_unasked call over) ∙ ap (event (fiber_of (seen body)) call) told

  h_made : new ≡ with_entry port h
  h_made = made ∙ ap (with_entry port) is_h

  h_follows : Follows (origin_in seen port) port.front h
  h_follows = subst (Follows (origin_in seen port) port.front) is_h follows

  pub finished : (later : Shown B) → later ≡ record new { out = None } → Made (sight_of seen port) (sight_of seen later) (event (fiber_of (seen body)) call last)
  finished later is =
      subst (λ (q : Shown B). Made (sight_of seen port) (sight_of seen q) h) (sym (is ∙ ap (λ (q : Shown B). record q { out = None }) h_made))
      (front_made seen port h holds.legal h_follows None)

  -- the body comes home with the entry
  pub finished_home : (noted : B) → Notes (seen body) (seen noted) ((event (fiber_of (seen body)) call reply).entry ∷ []) → same_rest body noted
      → FitsWith seen same_rest fits body (log port.front (fiber_of (seen body))) (event (fiber_of (seen body)) call last) → IsAtHome seen fits new (fiber_of (seen noted)) noted
  finished_home noted notes rest fitting =
      let g : ℕ = fiber_of (seen body) in
      let same : fiber_of (seen noted) ≡ g = ap (λ (m : Option ℕ). fiber_of (record (seen body) { number = m })) notes.number in
      let noted_h : Notes (seen body) (seen noted) (h.entry ∷ []) = subst (λ (r : Reply). Notes (seen body) (seen noted) ((event g call r).entry ∷ [])) told notes in
      let owes : (seen noted).owes ≡ owed_of (world (origin_in seen port) (port.front ++ h ∷ [])) g =
      notes.owes ∙ (holds.owes ∙ sym (owes_pushed (origin_in seen port) port.front h g (over_leaves call over))) in
      let home : IsAtHome seen fits (with_entry port h) g noted =
      made_home seen fits (sight_of seen port) (sight_of seen (with_entry port h)) (seen body) h g noted holds refl (front_made seen port h holds.legal h_follows port.out) refl (over_within call over) notes.number notes.birth notes.share
      (fitting noted noted_h rest) owes in
      subst (λ (q : Shown B). IsAtHome seen fits q (fiber_of (seen noted)) noted) (sym h_made) (subst (λ (n : ℕ). IsAtHome seen fits (with_entry port h) n noted) (sym same) home)

-- ---- a fiber arms a trigger with its own resumption

-- the same of a call that names the fiber as the body does
module _ {S : Type 0} (body : Carry S) (f t : ℕ) (number : body.number ≡ Some f) where
  pub own_call : Arm t (Resume (fiber_of body)) ≡ Arm t (Resume f)
  own_call = ap (λ (n : ℕ). Arm t (Resume n)) (fiber_is body f number)

-- so it is suspended, and its body comes home
module _ {B S : Type 0} (seen : B → Carry S) (fits : B → List Happened → Type 0) (same_rest : B → B → Type 0) (port new : Shown B) (body : B) (holds : Holds (sight_of seen port) (seen body)) (f t : ℕ) (number : (seen body).number ≡ Some f)
    (reply : Reply) (made : new ≡ with_entry port (marked seen port f (Arm t (Resume f)) reply)) (follows : Follows (origin_in seen port) port.front (marked seen port f (Arm t (Resume f)) reply)) (set : reply ≡ Armed Set) where
  pub parked : (later : Shown B) → later ≡ record new { out = None } → Made (sight_of seen port) (sight_of seen later) (event (fiber_of (seen body)) (Arm t (Resume (fiber_of (seen body)))) (Armed Set))
  parked later is =
      subst (λ (call : Call). Made (sight_of seen port) (sight_of seen later) (event (fiber_of (seen body)) call (Armed Set))) (sym (own_call (seen body) f t number))
      (finished seen fits same_rest port new body holds f number (Arm t (Resume f)) reply (Armed Set) made follows tt set later is)

  pub parked_home : (noted : B) → Notes (seen body) (seen noted) ((event (fiber_of (seen body)) (Arm t (Resume f)) reply).entry ∷ []) → same_rest body noted
      → FitsWith seen same_rest fits body (log port.front (fiber_of (seen body))) (event (fiber_of (seen body)) (Arm t (Resume (fiber_of (seen body)))) (Armed Set)) → IsAtHome seen fits new (fiber_of (seen noted)) noted
  parked_home noted notes rest fitting =
      finished_home seen fits same_rest port new body holds f number (Arm t (Resume f)) reply (Armed Set) made follows tt set noted notes rest
      (subst (λ (call : Call). FitsWith seen same_rest fits body (log port.front (fiber_of (seen body))) (event (fiber_of (seen body)) call (Armed Set))) (own_call (seen body) f t number) fitting)

-- the trigger wasn't initial any more
pub was_met : (w : State) (f t : ℕ) (reply : Reply) (how : ArmReply) → reply ≡ reply_of w f (Arm t (Resume f)) → reply ≡ Armed how → how ≢ Set → slice_get w.triggers t ≢ Some Initial
was_met w f t reply how is told other = λ initial. other (
    let set : armed (slice_get w.triggers t) ≡ Armed Set = ap armed initial in
    let e : Armed how ≡ Armed Set = sym told ∙ (is ∙ set) in
    cc
    )

module _ {B S : Type 0} (seen : B → Carry S) (port new : Shown B) (a b : Carry S) (holds : Holds (sight_of seen port) a) (f t : ℕ) (number : a.number ≡ Some f) (reply : Reply)
    (made : new ≡ with_entry port (marked seen port f (Arm t (Resume f)) reply)) (follows : Follows (origin_in seen port) port.front (marked seen port f (Arm t (Resume f)) reply)) where
  -- the fiber wasn't suspended, and goes on
  pub not_parked : (how : ArmReply) → reply ≡ Armed how → how ≢ Set → Notes a b ((event (fiber_of a) (Arm t (Resume f)) reply).entry ∷ []) → Called (sight_of seen port) (sight_of seen new) a b (Arm t (Resume (fiber_of a))) (Armed how)
  not_parked how told other notes =
      let w : State = world (origin_in seen port) port.front in
      let met : slice_get w.triggers t ≢ Some Initial = was_met w f t reply how follows.reply told other in
      subst (λ (call : Call). Called (sight_of seen port) (sight_of seen new) a b call (Armed how)) (sym (own_call a f t number))
      (called_then seen port new a holds f number (Arm t (Resume f)) reply made follows b (Armed how) told tt tt refl refl
      (acts_armed w (fiber_of a) t (Resume f) met holds.acts) notes)

-- ---- a body that goes out, or comes home as it was

never_both : (b : Bool) → (b && false) ≡ false
never_both true = refl
never_both false = refl

module _ {B S : Type 0} (seen : B → Carry S) (fits : B → List Happened → Type 0) (port : Shown B) (f : ℕ) where
  abbrev turn : Happened
  turn = event f Turn Plain

  module _ (taken new : Shown B) (reply : Reply) (out : taken ≡ record port { out = Some f }) (made : new ≡ with_entry taken (marked seen taken f Turn reply)) (legal : IsLegal (origin_in seen taken) taken.front) (follows : Follows (origin_in seen taken) taken.front (marked seen taken f Turn reply)) where
    is_turn_of : marked seen taken f Turn reply ≡ turn
    is_turn_of =
        let plain : reply ≡ Plain = follows.reply in
        ap (λ (owing : Bool). happening owing f Turn reply) (turn_free (owed_of (world (origin_in seen taken) taken.front) f)) ∙ ap (λ (r : Reply). event f Turn r) plain

    is_turned : new ≡ record (with_entry port turn) { out = Some f }
    is_turned = made ∙ (ap (with_entry taken) is_turn_of ∙ ap (λ (q : Shown B). with_entry q turn) out)

    turn_follows : Follows (origin_in seen port) port.front turn
    turn_follows = subst (λ (q : Shown B). Follows (origin_in seen q) q.front turn) out (subst (Follows (origin_in seen taken) taken.front) is_turn_of follows)

    legal_before : IsLegal (origin_in seen port) port.front
    legal_before = subst (λ (q : Shown B). IsLegal (origin_in seen q) q.front) out legal

    pub claim_began : Began (sight_of seen port) (sight_of seen new) (event f Turn Plain)
    claim_began = subst (λ (q : Shown B). Began (sight_of seen port) (sight_of seen q) turn) (sym is_turned) (front_began seen port turn legal_before turn_follows (Some f))

    -- a body at home stays as it is while a turn of its fiber begins
    turned_home : (body : B) → IsAtHome seen fits port f body → IsAtHome seen fits (record (with_entry port turn) { out = Some f }) f body
    turned_home body home = record {
      stands = record {
        number = home.stands.number;
        fitting = subst (fits body) (sym (log-push_hidden port.front turn f (never_both (f == f)))) home.stands.fitting;
        birth = λ fiber. birth_stays (origin_in seen port) port.front (turn ∷ []) f (seen body).birth (home.stands.birth fiber);
        share = home.stands.share;
      };
      owes = home.owes ∙ sym (owes_pushed (origin_in seen port) port.front turn f tt);
    }

    pub claim_held : ((body : B) (zs : List Happened) → fits body zs → (seen body).noted ≡ visible zs) → (body : B) → IsAtHome seen fits port f body → IsLive (world (origin_in seen port) port.front) f
        → Holds (sight_of seen new) (seen body) × (fiber_of (seen body) ≡ f) × fits body (log new.front f)
    claim_held shows body home live =
        let there = turned_home body home in
        let q : Shown B = record (with_entry port turn) { out = Some f } in
        let acts : MayAct (world (origin_in seen q) q.front) f = subst (λ (w : State). MayAct w f) (sym (world-push (origin_in seen port) port.front turn)) (acts_own (world (origin_in seen port) port.front) f Turn tt (inr live)) in
        let held = home_held seen fits (sight_of seen q) f body there (front_began seen port turn legal_before turn_follows (Some f)).legal refl acts (shows body (log q.front f) there.stands.fitting) in
        subst (λ (r : Shown B). Holds (sight_of seen r) (seen body) × (fiber_of (seen body) ≡ f) × fits body (log r.front f)) (sym is_turned) (held.0, held.1, there.stands.fitting)

  pub laid_back : (new : Shown B) → new ≡ record port { out = None } → IsLegal (origin_in seen port) port.front → Laid (sight_of seen port) (sight_of seen new) f
  laid_back new is legal =
      subst (λ (q : Shown B). Laid (sight_of seen port) (sight_of seen q) f) (sym is)
      (record { grown = record { others = []; none = λ alone. refl; later = record { board = refl; origin = refl; share = refl; alone = refl; front = sym (append-nil port.front); steady = omega arith }; legal = legal }; not_mine = tt; calm = refl })
