-- How bodies come home, stay there and go out again.
use Rattle.std.proofs.Common.{◌≡◌, ◌≢◌, ℕ, false, Option, Some, List, [], ◌∷◌, ◌++◌, sym, ap, subst, ◌∙◌, append_assoc}
use Rattle.pic_machine.specs.declared.birth.Birth.{Birth}
use Rattle.pic_machine.specs.Happened.{Happened}
use Rattle.pic_machine.specs.State.{owed_of}
use Rattle.pic_machine.specs.Step.{MayAct}
use Rattle.pic_machine.specs.History.{Follows, Origin, IsLegal, birth_in, forked, world}
use Rattle.pic_machine.specs.Log.{Others, is_turn, log, visible}
use Rattle.pic_machine.specs.Sight.{Carry, Sight, Holds, fiber_of}
use Rattle.pic_machine.specs.Home.{IsBodyOf, IsHome}
use Rattle.pic_machine.specs.Lending.{Laid, Made}
use Rattle.pic_machine.proofs.Histories.{IsLegal-push}
use Rattle.pic_machine.proofs.Staying.{birth_stays, log_stays, owed_stays}
use Rattle.pic_machine.proofs.Fresh.{IsFresh, birth_made, no_duty, no_log}
use Rattle.pic_machine.proofs.Onward.{log_made}

module _ {B S : Type 0} (seen : B → Carry S) (fits : B → List Happened → Type 0) where
  -- a body stands still while others act
  body_stays : (origin : Origin) (share : S) (hs more : List Happened) (f : ℕ) (body : B) → Others f more → IsBodyOf seen fits origin share hs f body → IsBodyOf seen fits origin share (hs ++ more) f body
  body_stays origin share hs more f body apart stands = record {
    number = stands.number;
    fitting = subst (fits body) (sym (log_stays hs more f apart)) stands.fitting;
    birth = λ fiber. birth_stays origin hs more f (seen body).birth (stands.birth fiber);
    share = stands.share;
  }

  -- so it stays at home
  pub home_stays : (origin : Origin) (share : S) (hs more : List Happened) (f : ℕ) (body : B) → IsLegal origin (hs ++ more) → Others f more
      → IsHome seen fits origin share hs f body → IsHome seen fits origin share (hs ++ more) f body
  home_stays origin share hs more f body legal apart home = record {
    stands = body_stays origin share hs more f body apart home.stands;
    owes = home.owes ∙ sym (owed_stays origin hs more f legal apart);
  }

  -- a body at home may go out, where its fiber may act
  pub home_held : (q : Sight S) (f : ℕ) (body : B) → IsHome seen fits q.origin q.share q.front f body → IsLegal q.origin q.front → q.out ≡ Some f → MayAct (world q.origin q.front) f → (seen body).noted ≡ visible (log q.front f) → Holds q (seen body) × (fiber_of (seen body) ≡ f)
  home_held q f body home legal out acts noted =
      let same : fiber_of (seen body) ≡ f = ap (λ (n : Option ℕ). fiber_of (record (seen body) { number = n })) home.stands.number in (
        record {
          legal = legal;
          out = out ∙ ap Some (sym same);
          number = home.stands.number ∙ ap Some (sym same);
          noted = rw same noted;
          owes = rw same home.owes;
          acts = rw same acts;
          birth = rw same home.stands.birth;
          share = rw same home.stands.share;
        },
        same,
      )

  -- a body comes home with the entry that was made for it
  pub made_home : (p q : Sight S) (a : Carry S) (h : Happened) (f : ℕ) (body : B) → Holds p a → fiber_of a ≡ f → Made p q h → h.entry.fiber ≡ f → is_turn h.entry.call ≡ false
      → (seen body).number ≡ a.number → (seen body).birth ≡ a.birth → (seen body).share ≡ a.share → fits body (log p.front f ++ h ∷ []) → (seen body).owes ≡ owed_of (world q.origin q.front) f
      → IsHome seen fits q.origin q.share q.front f body
  made_home p q a h f body holds is made mine within number birth share fitting owes =
      let front : q.front ≡ (p.front ++ made.others) ++ h ∷ [] = made.later.front ∙ sym (append_assoc p.front made.others (h ∷ [])) in
      let logs : log q.front f ≡ log p.front f ++ h ∷ [] = ap (λ (zs : List Happened). log zs f) front ∙ log_made p.front made.others h f (subst (λ (g : ℕ). Others g made.others) mine made.not_mine) mine within in
      record {
        stands = record {
          number = number ∙ (holds.number ∙ ap Some is);
          fitting = subst (fits body) (sym logs) fitting;
          birth = λ fiber.
              let before : birth_in p.origin p.front f ≡ Some a.birth = subst (λ (g : ℕ). birth_in p.origin p.front g ≡ Some a.birth) is (holds.birth (λ zero_is. fiber (sym is ∙ zero_is))) in
              ap (λ (o : Origin). birth_in o q.front f) made.later.origin ∙ (ap (λ (zs : List Happened). birth_in p.origin zs f) made.later.front
              ∙ (birth_stays p.origin p.front (made.others ++ h ∷ []) f a.birth before ∙ ap Some (sym birth)));
          share = λ fiber. share ∙ (holds.share (λ zero_is. fiber (sym is ∙ zero_is)) ∙ sym made.later.share);
        };
        owes = owes;
      }

  -- a body comes home without an entry
  pub laid_home : (p q : Sight S) (body : B) → Holds p (seen body) → Laid p q (fiber_of (seen body)) → fits body (log p.front (fiber_of (seen body)))
      → IsHome seen fits q.origin q.share q.front (fiber_of (seen body)) body
  laid_home p q body holds laid fitting =
      let f = fiber_of (seen body) in
      let later = laid.grown.later in
      let front : p.front ++ laid.grown.others ≡ q.front = sym later.front in
      let legal : IsLegal p.origin (p.front ++ laid.grown.others) = subst (IsLegal p.origin) (sym front) (subst (λ (o : Origin). IsLegal o q.front) later.origin laid.grown.legal) in
      let there = home_stays p.origin p.share p.front laid.grown.others f body legal laid.not_mine
      (record { stands = record { number = holds.number; fitting = fitting; birth = holds.birth; share = holds.share }; owes = holds.owes }) in
      subst (λ (o : Origin). IsHome seen fits o q.share q.front f body) (sym later.origin)
      (subst (λ (share : S). IsHome seen fits p.origin share q.front f body) (sym later.share)
      (subst (λ (zs : List Happened). IsHome seen fits p.origin p.share zs f body) front there))

  -- the child of a fork is at home once it has its number: the fork is the first that there is of it
  pub child_home : (origin : Origin) (share : S) (hs : List Happened) (f g : ℕ) (birth : Birth) (body : B) → IsLegal origin hs → Follows origin hs (forked f g birth) → IsFresh (world origin hs) g
      → g ≢ 1 → g ≢ f → owed_of origin.world g ≡ [] → (seen body).number ≡ Some g → (seen body).birth ≡ birth → (seen body).share ≡ share → (seen body).owes ≡ [] → fits body []
      → IsHome seen fits origin share (hs ++ forked f g birth ∷ []) g body
  child_home origin share hs f g birth body legal follows new not_main not_mine none number born shares owes fitting =
      let h = forked f g birth in
      let whole : IsLegal origin (hs ++ h ∷ []) = IsLegal-push origin hs h legal follows in
      let apart : Others g (h ∷ []) = (λ same. not_mine (sym same), tt) in
      let logs : log (hs ++ h ∷ []) g ≡ [] = log_stays hs (h ∷ []) g apart ∙ no_log origin hs g legal new in
      let owed : owed_of (world origin (hs ++ h ∷ [])) g ≡ [] = owed_stays origin hs (h ∷ []) g whole apart ∙ no_duty origin hs g legal new none in
      record {
        stands = record {
          number = number;
          fitting = subst (fits body) (sym logs) fitting;
          birth = λ fiber. birth_made origin hs f g birth legal new not_main ∙ ap Some (sym born);
          share = λ fiber. shares;
        };
        owes = owes ∙ sym owed;
      }
