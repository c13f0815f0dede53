-- How a fork keeps the port's invariant, whether it makes a fiber or finds no room for one.
use Rattle.std.proofs.Common.{◌≡◌, ◌≢◌, ℕ, zero, suc, ◌+◌, ◌-◌, ◌⊎◌, inl, inr, Bool, true, false, Option, Some, None, List, [], ◌∷◌, ◌++◌, length, slice_get, refl, sym, ap, subst, ◌∙◌, arith}
use Rattle.std.proofs.lemmas.List.{length-append}
use Rattle.std.proofs.lemmas.Option.{slice_get_within}
use Rattle.pic_machine.specs.declared.birth.Birth.{Birth}
use Rattle.pic_machine.specs.declared.state.FiberState.TheVariants.{Live}
use Rattle.pic_machine.specs.declared.entry.Call.TheVariants.{Fork}
use Rattle.pic_machine.specs.declared.entry.Reply.{Reply}
use Rattle.pic_machine.specs.declared.entry.Reply.TheVariants.{Full, Made}
use Rattle.pic_machine.specs.Duty.{is_owing}
use Rattle.pic_machine.specs.Happened.{Happened}
use Rattle.pic_machine.specs.declared.world.Start.{Start}
use Rattle.pic_machine.specs.State.{State, owed_of, world_at}
use Rattle.pic_machine.specs.Step.{after, fork_reply, grown, has_room}
use Rattle.pic_machine.specs.History.{Follows, IsLegal, MayMake, event, forked, world}
use Rattle.pic_machine.specs.Sight.{Carry, IsChild}
use Rattle.pic_machine.proofs.Fresh.{IsFresh}
use Rattle.pic_machine.proofs.Histories.{IsLegal-push, world-push}
use Rattle.pic_machine.proofs.Homes.{child_home}
use Rattle.pic_machine.proofs.Owns.{unasked_free}
use Rattle.pic_machine.proofs.Lists.{slice_get-append_left}
use Rattle.port_plain.specs.Shown.{IsAtHome, Shown, made_of, origin_in, sight_of, with_entry}
use Rattle.port_plain.specs.Stored.{IsStored}
use Rattle.port_plain.proofs.Places.{get-pushed}
use Rattle.port_plain.proofs.Keeping.{elsewhere, entry_stored, still_home, stored_seen, world_seen}

-- ---- what the reply tells

-- no number: there was no room
record IsFull (w : State) (reply : Reply) : Type 0 where
  pub full : reply ≡ Full
  pub none : has_room w ≡ false

full_at : (w : State) (reply : Reply) (b : Bool) → has_room w ≡ b → reply ≡ fork_reply w → None ≡ made_of reply → IsFull w reply
full_at w reply true room is none =
    let made : reply ≡ Made (length w.fibers + 1) = is ∙ (rw room refl) in
    let e : None ≡ Some (length w.fibers + 1) = none ∙ ap made_of made in absurd cc
full_at w reply false room is none = record { full = is ∙ (rw room refl); none = room }

-- a number: that of the newest fiber
record IsNext (w : State) (n : ℕ) : Type 0 where
  pub number : n ≡ length w.fibers + 1
  pub room : has_room w ≡ true

next_at : (w : State) (reply : Reply) (n : ℕ) (b : Bool) → has_room w ≡ b → reply ≡ fork_reply w → Some n ≡ made_of reply → IsNext w n
next_at w reply n true room is made =
    let newest : reply ≡ Made (length w.fibers + 1) = is ∙ (rw room refl) in
    let e : Some n ≡ Some (length w.fibers + 1) = made ∙ ap made_of newest in
    let number : n ≡ length w.fibers + 1 = cc in
    record { number = number; room = room }
next_at w reply n false room is made =
    let full : reply ≡ Full = is ∙ (rw room refl) in
    let e : Some n ≡ None = made ∙ ap made_of full in absurd cc

no_room_many : (w : State) → has_room w ≡ false → length (grown (has_room w) w.fibers Live) ≡ length w.fibers
no_room_many w room = rw room refl

room_many : (w : State) → has_room w ≡ true → length (grown (has_room w) w.fibers Live) ≡ length w.fibers + 1
room_many w room = rw room (length-append w.fibers (Live ∷ []))

-- nobody owes anything at the start
none_begins : (start : Start) (n : ℕ) → owed_of (world_at start) n ≡ []
none_begins start zero = refl
none_begins start (suc zero) = refl
none_begins start (suc (suc n)) = refl

-- whoever may fork owes nothing
pub fork_free : {B S : Type 0} (seen : B → Carry S) (port now : Shown B) → port ≡ now → (f text value : ℕ) → MayMake (origin_in seen now) now.front f (Fork text value)
    → is_owing (owed_of (world (origin_in seen port) port.front) f) (Fork text value) ≡ false
fork_free {B} seen port now same f text value may =
    subst (λ (q : Shown B). is_owing (owed_of (world (origin_in seen q) q.front) f) (Fork text value) ≡ false) (sym same)
    (unasked_free (owed_of (world (origin_in seen now) now.front) f) (Fork text value) tt may.allowed.duties)

module _ {B S : Type 0} (seen : B → Carry S) (fits : B → List Happened → Type 0) where
  module _ (port now : Shown B) (w : State) (bodies : List (Option B)) (ticking : B) (same : port ≡ now) (stored : IsStored seen fits port w bodies ticking) (f text value : ℕ) (may : MayMake (origin_in seen now) now.front f (Fork text value))
      (out : now.out ≡ Some f) (reply : Reply) (is : reply ≡ fork_reply w) (v : State) (step : v ≡ after w f (Fork text value)) where
    -- ---- no room

    module _ (none : None ≡ made_of reply) where
      no_room : IsFull w reply
      no_room = full_at w reply (has_room w) refl is none

      pub full_follows : Follows (origin_in seen now) now.front (event f (Fork text value) Full)
      full_follows = record {
        may = may;
        reply = sym no_room.full ∙ (is ∙ ap fork_reply (world_seen seen fits port now w bodies ticking same stored));
        birth = refl;
        owing = sym (fork_free seen now now refl f text value may);
      }

      pub full_reply : reply ≡ Full
      full_reply = no_room.full

      pub full_stored : IsStored seen fits (with_entry port (event f (Fork text value) reply)) v bodies ticking
      full_stored =
          subst (λ (q : Shown B). IsStored seen fits (with_entry q (event f (Fork text value) reply)) v bodies ticking) (sym same)
          (subst (λ (r : Reply). IsStored seen fits (with_entry now (event f (Fork text value) r)) v bodies ticking) (sym no_room.full)
          (entry_stored seen fits now w v bodies ticking (event f (Fork text value) Full) (stored_seen seen fits port now w bodies ticking same stored) out full_follows step (no_room_many w no_room.none)))

    -- ---- a fiber was made

    module _ (n : ℕ) (made : Some n ≡ made_of reply) (child numbered : B) (fresh_child : IsChild (sight_of seen now) (seen child) text value) where
      abbrev birth : Birth
      birth = (seen child).birth

      abbrev h : Happened
      h = forked f n birth

      here : world (origin_in seen now) now.front ≡ w
      here = sym (world_seen seen fits port now w bodies ticking same stored)

      before : IsStored seen fits now w bodies ticking
      before = stored_seen seen fits port now w bodies ticking same stored

      next : IsNext w n
      next = next_at w reply n (has_room w) refl is made

      pub made_follows : Follows (origin_in seen now) now.front (forked f n (seen child).birth)
      made_follows = record {
        may = rw (fresh_child.same_text, fresh_child.same_value) may;
        reply = rw (here, next.room, next.number) refl;
        birth = record { of_child = birth; is = refl; same_text = refl; same_value = refl; stands = fresh_child.stands };
        owing = rw (fresh_child.same_text, fresh_child.same_value) (sym (fork_free seen now now refl f text value may));
      }

      legal : IsLegal (origin_in seen now) (now.front ++ h ∷ [])
      legal = IsLegal-push (origin_in seen now) now.front h before.legal made_follows

      many : length bodies + 1 ≡ length (grown (has_room w) w.fibers Live)
      many = ap (λ (m : ℕ). m + 1) before.count ∙ sym (room_many w next.room)

      place_is : n ≡ length bodies + 1
      place_is = next.number ∙ ap (λ (m : ℕ). m + 1) (sym before.count)

      not_mine : n ≢ f
      not_mine = λ equal. absurd (omega (arith, equal, place_is, slice_get_within bodies (f - 1) None (before.away f out).place, (before.away f out).made))

      fresh_there : IsFresh (world (origin_in seen now) now.front) n
      fresh_there = rw (here, next.number) (omega arith)

      module _ (number : (seen numbered).number ≡ Some n) (born : (seen numbered).birth ≡ (seen child).birth) (share : (seen numbered).share ≡ (seen child).share) (owes : (seen numbered).owes ≡ (seen child).owes) (fitting : fits numbered []) where
        child_there : IsAtHome seen fits (with_entry now h) n numbered
        child_there =
            child_home seen fits (origin_in seen now) (seen now.main).share now.front f n birth numbered before.legal made_follows fresh_there (λ one. absurd (omega (arith, one, place_is, before.main))) not_mine
            (none_begins now.start n) number born (share ∙ fresh_child.share) (owes ∙ fresh_child.owes) fitting

        each_home : (place : ℕ) (body : B) → (slice_get bodies place ≡ Some (Some body)) ⊎ ((place ≡ length bodies) × (Some numbered ≡ Some body)) → IsAtHome seen fits (with_entry now h) (place + 1) body
        each_home place body (inl there) = still_home seen fits now h (place + 1) body legal (elsewhere seen fits bodies f place body (before.away f out) there) (before.home place body there)
        each_home place body (inr last) =
            let equal : numbered ≡ body = (let e : Some numbered ≡ Some body = last.1 in cc) in
            let at : n ≡ place + 1 = place_is ∙ ap (λ (m : ℕ). m + 1) (sym last.0) in
            subst (λ (b : B). IsAtHome seen fits (with_entry now h) (place + 1) b) equal (subst (λ (m : ℕ). IsAtHome seen fits (with_entry now h) m numbered) at child_there)

        none_else : (place : ℕ) → (slice_get bodies place ≡ Some None) ⊎ ((place ≡ length bodies) × (Some numbered ≡ None)) → now.out ≡ Some (place + 1)
        none_else place (inl there) = before.gone place there
        none_else place (inr last) = absurd (let e : Some numbered ≡ None = last.1 in cc)

        child_stored : IsStored seen fits (with_entry now h) v (bodies ++ Some numbered ∷ []) ticking
        child_stored = record {
          begun = before.begun;
          legal = legal;
          now = step ∙ (rw (sym fresh_child.same_text, sym fresh_child.same_value) (ap (λ (u : State). after u f (Fork birth.text birth.value)) (sym here)) ∙ sym (world-push (origin_in seen now) now.front h));
          main = rw (length-append bodies (Some numbered ∷ [])) (omega arith);
          count = length-append bodies (Some numbered ∷ []) ∙ (many ∙ ap (λ (u : State). length u.fibers) (sym step));
          home = λ place body there. each_home place body (get-pushed bodies (Some numbered) place (Some body) there);
          away = λ g gone. record { made = (before.away g gone).made; place = slice_get-append_left bodies (Some numbered ∷ []) (g - 1) None (before.away g gone).place };
          gone = λ place empty. none_else place (get-pushed bodies (Some numbered) place None empty);
          clock = still_home seen fits now h 0 ticking legal (λ zero_is. absurd (omega (arith, zero_is, (before.away f out).made))) before.clock;
          room = before.room;
        }

        pub fork_stored : IsStored seen fits (with_entry port (forked f n (seen child).birth)) v (bodies ++ Some numbered ∷ []) ticking
        fork_stored = subst (λ (q : Shown B). IsStored seen fits (with_entry q h) v (bodies ++ Some numbered ∷ []) ticking) (sym same) child_stored
