-- What the port stores as it is opened.
use Rattle.std.proofs.Common.{◌≡◌, ℕ, zero, suc, ◌+◌, ◌<◌, Some, None, List, [], ◌∷◌, slice_get, refl, sym, ap, subst, ◌∙◌, append-nil, arith}
use Rattle.pic_machine.specs.declared.world.Start.{Start}
use Rattle.pic_machine.specs.Happened.{Happened}
use Rattle.pic_machine.specs.State.{CanStart, world_at}
use Rattle.pic_machine.specs.Sight.{Carry, IsSame, Notes}
use Rattle.pic_machine.proofs.Histories.{IsLegal-nil}
use Rattle.port_plain.specs.Shown.{IsAtHome, IsClock, IsMain, Shown, origin_in}
use Rattle.port_plain.specs.Stored.{IsStored}

module _ {B S : Type 0} (seen : B → Carry S) (fits : B → List Happened → Type 0) (start : Start) (main clock numbered ticking : B) where
  abbrev port : Shown B
  port = record { start = start; main = main; front = []; out = None }

  module _ (may : IsMain seen fits start main) (is : seen numbered ≡ record (seen main) { number = Some 1 }) (fitting : fits numbered []) where
    main_home : IsAtHome seen fits port 1 numbered
    main_home = record {
      stands = record {
        number = ap (λ (body : Carry S). body.number) is;
        fitting = fitting;
        birth = λ fiber. ap Some (sym (ap (λ (body : Carry S). body.birth) is));
        share = λ fiber. ap (λ (body : Carry S). body.share) is;
      };
      owes = ap (λ (body : Carry S). body.owes) is ∙ may.owes;
    }

    home_there : (place : ℕ) (body : B) → slice_get (Some numbered ∷ []) place ≡ Some (Some body) → IsAtHome seen fits port (place + 1) body
    home_there zero body there =
        let same : numbered ≡ body = (let e : Some (Some numbered) ≡ Some (Some body) = there in cc) in
        subst (λ (b : B). IsAtHome seen fits port 1 b) same main_home
    home_there (suc place) body there = absurd cc

  nobody_gone : (place : ℕ) → slice_get (Some numbered ∷ []) place ≡ Some None → None ≡ Some (place + 1)
  nobody_gone zero gone = absurd (let e : Some (Some numbered) ≡ Some None = gone in cc)
  nobody_gone (suc place) gone = absurd cc

  clock_home : IsClock seen fits clock → Notes (seen clock) (seen ticking) [] → fits ticking [] → IsAtHome seen fits port 0 ticking
  clock_home may notes fitting = record {
    stands = record {
      number = notes.number ∙ may.number;
      fitting = fitting;
      birth = λ fiber. absurd (fiber refl);
      share = λ fiber. absurd (fiber refl);
    };
    owes = notes.owes ∙ may.owes;
  }

  pub opened_stored : CanStart start → IsMain seen fits start main → seen numbered ≡ record (seen main) { number = Some 1 } → fits numbered []
      → IsClock seen fits clock → Notes (seen clock) (seen ticking) [] → 0 < (seen ticking).room → fits ticking []
      → IsStored seen fits port (world_at start) (Some numbered ∷ []) ticking
  opened_stored can may_main main_is main_fits may_clock notes room clock_fits = record {
    begun = can;
    legal = IsLegal-nil (origin_in seen port);
    now = refl;
    main = omega arith;
    count = refl;
    home = home_there may_main main_is main_fits;
    away = λ f out. absurd (let e : None ≡ Some f = out in cc);
    gone = nobody_gone;
    clock = clock_home may_clock notes clock_fits;
    room = room;
  }

-- a body that got room is the same
pub roomy : {S : Type 0} (a b : Carry S) → Notes a b [] → IsSame a b
roomy a b notes = record { birth = notes.birth; number = notes.number; noted = notes.noted ∙ append-nil a.noted; share = notes.share }
