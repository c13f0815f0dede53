-- How each step of the port keeps its invariant.
use Rattle.std.proofs.Common.{◌≡◌, ◌≢◌, ℕ, ◌+◌, ◌-◌, ◌<◌, ◌⊎◌, eqb, true, false, inl, inr, Option, Some, None, List, [], ◌∷◌, ◌++◌, length, slice_get, slice_index_or, slice_set, refl, sym, ap, subst, ◌∙◌, arith}
use Rattle.std.proofs.lemmas.List.{length-set}
use Rattle.std.proofs.lemmas.Bool.Decides.{eqb_tells}
use Rattle.pic_machine.specs.declared.entry.Call.{Call}
use Rattle.pic_machine.specs.declared.entry.Reply.{Reply}
use Rattle.pic_machine.specs.Happened.{Happened}
use Rattle.pic_machine.specs.State.{State}
use Rattle.std.proofs.lemmas.Option.{slice_get_read, slice_get_within}
use Rattle.pic_machine.specs.declared.state.FiberState.TheVariants.{Live}
use Rattle.pic_machine.specs.Step.{Allowed, IsLive, MakesNoFiber, after, reply_of}
use Rattle.pic_machine.specs.History.{Follows, IsLegal, MayMake, world}
use Rattle.pic_machine.specs.Sight.{Carry, fiber_of}
use Rattle.pic_machine.proofs.Histories.{IsLegal-push, world-push}
use Rattle.pic_machine.proofs.Homes.{home_stays}
use Rattle.port_plain.specs.Shown.{IsAtHome, Shown, marked, origin_in, with_entry}
use Rattle.port_plain.specs.Stored.{IsAway, IsStored}
use Rattle.pic_machine.proofs.Lists.{slice_get-set_other, slice_get-set_same}
use Rattle.pic_machine.proofs.Steps.{length-fibers}
use Rattle.port_plain.proofs.Steps.{allowed_now, event_follows}

module _ {B S : Type 0} (seen : B → Carry S) (fits : B → List Happened → Type 0) where
  -- a body that is there isn't that of a fiber that is away
  pub elsewhere : (bodies : List (Option B)) (f place : ℕ) (body : B) → IsAway bodies f → slice_get bodies place ≡ Some (Some body) → f ≢ place + 1
  elsewhere bodies f place body away there = λ same.
      let at : f - 1 ≡ place = omega (arith, same) in
      let gone : slice_get bodies place ≡ Some None = subst (λ (n : ℕ). slice_get bodies n ≡ Some None) at away.place in
      let e : Some (Some body) ≡ Some None = sym there ∙ gone in absurd cc

  -- bodies at home stay there while another fiber makes an entry
  pub still_home : (port : Shown B) (h : Happened) (f : ℕ) (body : B) → IsLegal (origin_in seen port) (port.front ++ h ∷ []) → h.entry.fiber ≢ f → IsAtHome seen fits port f body → IsAtHome seen fits (with_entry port h) f body
  still_home port h f body legal apart home = home_stays seen fits (origin_in seen port) (seen port.main).share port.front (h ∷ []) f body legal (apart, tt) home

  -- the fiber whose body is out made an entry, by a call that makes no fiber
  pub entry_stored : (port : Shown B) (w v : State) (bodies : List (Option B)) (ticking : B) (h : Happened) → IsStored seen fits port w bodies ticking → port.out ≡ Some h.entry.fiber
      → Follows (origin_in seen port) port.front h → v ≡ after w h.entry.fiber h.entry.call → length (after w h.entry.fiber h.entry.call).fibers ≡ length w.fibers → IsStored seen fits (with_entry port h) v bodies ticking
  entry_stored port w v bodies ticking h stored out follows step many =
      let legal = IsLegal-push (origin_in seen port) port.front h stored.legal follows in
      let away = stored.away h.entry.fiber out in
      record {
        begun = stored.begun;
        legal = legal;
        now = step ∙ (ap (λ (u : State). after u h.entry.fiber h.entry.call) stored.now ∙ sym (world-push (origin_in seen port) port.front h));
        main = stored.main;
        count = stored.count ∙ (sym many ∙ ap (λ (u : State). length u.fibers) (sym step));
        home = λ place body there. still_home port h (place + 1) body legal (elsewhere bodies h.entry.fiber place body away there) (stored.home place body there);
        away = stored.away;
        gone = stored.gone;
        clock = still_home port h 0 ticking legal (λ zero_is. absurd (omega (arith, zero_is, away.made))) stored.clock;
        room = stored.room;
      }

  -- ---- a body that comes and goes

  same_or_other : (a b : ℕ) → (a ≡ b) ⊎ (a ≢ b)
  same_or_other a b = told (eqb_tells a b) where
    told : ((eqb a b ≡ true) × (a ≡ b)) ⊎ ((eqb a b ≡ false) × (a ≢ b)) → (a ≡ b) ⊎ (a ≢ b)
    told (inl same) = inl same.1
    told (inr other) = inr other.1

  module _ (port : Shown B) (w : State) (bodies : List (Option B)) (ticking : B) (f : ℕ) (body : B) (stored : IsStored seen fits port w bodies ticking) where
    module _ (out : port.out ≡ Some f) (home : IsAtHome seen fits port f body) where
      put_back : slice_get (slice_set bodies (f - 1) (Some body)) (f - 1) ≡ Some (Some body)
      put_back = slice_get-set_same bodies (f - 1) (Some body) (slice_get_within bodies (f - 1) None (stored.away f out).place)

      back_home : (place : ℕ) (other : B) → slice_get (slice_set bodies (f - 1) (Some body)) place ≡ Some (Some other) → (place ≡ f - 1) ⊎ (place ≢ f - 1) → IsAtHome seen fits port (place + 1) other
      back_home place other there (inl at) =
          let e : Some (Some body) ≡ Some (Some other) = sym put_back ∙ (ap (λ (n : ℕ). slice_get (slice_set bodies (f - 1) (Some body)) n) (sym at) ∙ there) in
          let same : body ≡ other = cc in
          let here : f ≡ place + 1 = omega (arith, at, (stored.away f out).made) in
          subst (λ (b : B). IsAtHome seen fits port (place + 1) b) same (subst (λ (n : ℕ). IsAtHome seen fits port n body) here home)
      back_home place other there (inr apart) = stored.home place other (sym (slice_get-set_other bodies (f - 1) place (Some body) apart) ∙ there)

      none_gone : (place : ℕ) → slice_get (slice_set bodies (f - 1) (Some body)) place ≡ Some None → (place ≡ f - 1) ⊎ (place ≢ f - 1) → ⊥
      none_gone place empty (inl at) =
          let e : Some (Some body) ≡ Some None = sym put_back ∙ (ap (λ (n : ℕ). slice_get (slice_set bodies (f - 1) (Some body)) n) (sym at) ∙ empty) in cc
      none_gone place empty (inr apart) =
          let there : port.out ≡ Some (place + 1) = stored.gone place (sym (slice_get-set_other bodies (f - 1) place (Some body) apart) ∙ empty) in
          let e : Some f ≡ Some (place + 1) = sym out ∙ there in
          let same : f ≡ place + 1 = cc in
          apart (omega (arith, same))

      pub kept_stored : IsStored seen fits (record port { out = None }) w (slice_set bodies (f - 1) (Some body)) ticking
      kept_stored = record {
        begun = stored.begun;
        legal = stored.legal;
        now = stored.now;
        main = rw (length-set bodies (f - 1) (Some body)) stored.main;
        count = length-set bodies (f - 1) (Some body) ∙ stored.count;
        home = λ place other there. back_home place other there (same_or_other place (f - 1));
        away = λ g is. absurd (let e : None ≡ Some g = is in cc);
        gone = λ place empty. absurd (none_gone place empty (same_or_other place (f - 1)));
        clock = stored.clock;
        room = stored.room;
      }

    module _ (out : port.out ≡ None) (made : 0 < f) (there : slice_get bodies (f - 1) ≡ Some (Some body)) where
      let_out : slice_get (slice_set bodies (f - 1) None) (f - 1) ≡ Some None
      let_out = slice_get-set_same bodies (f - 1) None (slice_get_within bodies (f - 1) (Some body) there)

      still_there : (place : ℕ) (other : B) → slice_get (slice_set bodies (f - 1) None) place ≡ Some (Some other) → (place ≡ f - 1) ⊎ (place ≢ f - 1) → IsAtHome seen fits port (place + 1) other
      still_there place other is (inl at) =
          let e : Some None ≡ Some (Some other) = sym let_out ∙ (ap (λ (n : ℕ). slice_get (slice_set bodies (f - 1) None) n) (sym at) ∙ is) in absurd cc
      still_there place other is (inr apart) = stored.home place other (sym (slice_get-set_other bodies (f - 1) place None apart) ∙ is)

      one_gone : (place : ℕ) → slice_get (slice_set bodies (f - 1) None) place ≡ Some None → (place ≡ f - 1) ⊎ (place ≢ f - 1) → Some f ≡ Some (place + 1)
      one_gone place empty (inl at) = ap (λ (n : ℕ). Some n) (omega (arith, at, made))
      one_gone place empty (inr apart) =
          let e : None ≡ Some (place + 1) = sym out ∙ stored.gone place (sym (slice_get-set_other bodies (f - 1) place None apart) ∙ empty) in absurd cc

      away_now : (g : ℕ) → Some f ≡ Some g → IsAway (slice_set bodies (f - 1) None) g
      away_now g is = let same : f ≡ g = cc in subst (λ (n : ℕ). IsAway (slice_set bodies (f - 1) None) n) same (record { made = made; place = let_out })

      pub taken_stored : IsStored seen fits (record port { out = Some f }) w (slice_set bodies (f - 1) None) ticking
      taken_stored = record {
        begun = stored.begun;
        legal = stored.legal;
        now = stored.now;
        main = rw (length-set bodies (f - 1) None) stored.main;
        count = length-set bodies (f - 1) None ∙ stored.count;
        home = λ place other is. still_there place other is (same_or_other place (f - 1));
        away = away_now;
        gone = λ place empty. one_gone place empty (same_or_other place (f - 1));
        clock = stored.clock;
        room = stored.room;
      }

      pub taken_home : IsAtHome seen fits port f body
      taken_home = let here : (f - 1) + 1 ≡ f = omega (arith, made) in subst (λ (n : ℕ). IsAtHome seen fits port n body) here (stored.home (f - 1) body there)

  -- ---- a call whose port is seen so, and stores that

  module _ (port now : Shown B) (w : State) (bodies : List (Option B)) (ticking : B) (same : port ≡ now) (stored : IsStored seen fits port w bodies ticking) where
    pub legal_seen : IsLegal (origin_in seen now) now.front
    legal_seen = subst (λ (q : Shown B). IsLegal (origin_in seen q) q.front) same stored.legal

    pub world_seen : w ≡ world (origin_in seen now) now.front
    world_seen = subst (λ (q : Shown B). w ≡ world (origin_in seen q) q.front) same stored.now

    module _ (f : ℕ) (call : Call) (may : MayMake (origin_in seen now) now.front f call) where
      pub made_allowed : Allowed w f call
      made_allowed = allowed_now (origin_in seen now) now.front w f call world_seen may

      module _ (none : MakesNoFiber call) (reply : Reply) (is : reply ≡ reply_of w f call) where
        pub made_follows : Follows (origin_in seen now) now.front (marked seen now f call reply)
        made_follows = event_follows (origin_in seen now) now.front w f call reply world_seen may none is

        pub made_stored : now.out ≡ Some f → (v : State) → v ≡ after w f call → IsStored seen fits (with_entry port (marked seen port f call reply)) v bodies ticking
        made_stored out v step =
            subst (λ (q : Shown B). IsStored seen fits (with_entry q (marked seen q f call reply)) v bodies ticking) (sym same)
            (entry_stored now w v bodies ticking (marked seen now f call reply) (subst (λ (q : Shown B). IsStored seen fits q w bodies ticking) same stored) out made_follows step (length-fibers w f call none))

    pub stored_seen : IsStored seen fits now w bodies ticking
    stored_seen = subst (λ (q : Shown B). IsStored seen fits q w bodies ticking) same stored

    -- a body that is out comes back to its place
    module _ (n : ℕ) (body : B) (number : (seen body).number ≡ Some n) (out : now.out ≡ Some (fiber_of (seen body))) where
      is_fiber : fiber_of (seen body) ≡ n
      is_fiber = ap (λ (m : Option ℕ). fiber_of (record (seen body) { number = m })) number

      pub back_away : IsAway bodies n
      back_away = stored_seen.away n (out ∙ ap (λ (m : ℕ). Some m) is_fiber)

      pub back_within : n - 1 < length bodies
      back_within = slice_get_within bodies (n - 1) None back_away.place

      pub back_stored : IsAtHome seen fits now (fiber_of (seen body)) body → IsStored seen fits (record port { out = None }) w (slice_set bodies (n - 1) (Some body)) ticking
      back_stored home =
          subst (λ (q : Shown B). IsStored seen fits (record q { out = None }) w (slice_set bodies (n - 1) (Some body)) ticking) (sym same)
          (kept_stored now w bodies ticking n body stored_seen (out ∙ ap (λ (m : ℕ). Some m) is_fiber) (subst (λ (m : ℕ). IsAtHome seen fits now m body) is_fiber home))

    -- the body of a live fiber goes out
    module _ (f : ℕ) (out : now.out ≡ None) (live : IsLive (world (origin_in seen now) now.front) f) where
      pub live_within : f - 1 < length bodies
      live_within = rw (stored.count, world_seen) (slice_get_within (world (origin_in seen now) now.front).fibers (f - 1) Live live.live)

      module _ (body : B) (there : Some body ≡ slice_index_or bodies (f - 1) (Some body)) where
        found : slice_get bodies (f - 1) ≡ Some (Some body)
        found = slice_get_read bodies (length bodies) (f - 1) (Some body) refl live_within there

        pub out_stored : IsStored seen fits (record port { out = Some f }) w (slice_set bodies (f - 1) None) ticking
        out_stored =
            subst (λ (q : Shown B). IsStored seen fits (record q { out = Some f }) w (slice_set bodies (f - 1) None) ticking) (sym same)
            (taken_stored now w bodies ticking f body stored_seen out live.made found)

        pub out_home : IsAtHome seen fits now f body
        out_home = taken_home now w bodies ticking f body stored_seen out live.made found
