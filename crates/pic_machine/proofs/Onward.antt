-- How a port's call is shown to keep the contract: the front grew by what other ports made, and then by
-- one entry that may follow.
use Rattle.std.proofs.Common.{◌≡◌, ◌≢◌, ℕ, true, false, Option, Some, List, [], ◌∷◌, ◌++◌, refl, sym, ap, subst, ◌∙◌, append_assoc, append-nil, arith}
use Rattle.pic_machine.specs.declared.entry.Entry.{Entry}
use Rattle.pic_machine.specs.Happened.{Happened}
use Rattle.pic_machine.specs.declared.port.PortFault.TheVariants.{Memory}
use Rattle.pic_machine.specs.State.{State, owed_of}
use Rattle.pic_machine.specs.Step.{MayAct}
use Rattle.pic_machine.specs.History.{Origin, Follows, IsLegal, birth_in, world}
use Rattle.pic_machine.specs.Log.{Others, is_logged, is_turn, log, visible}
use Rattle.pic_machine.specs.Sight.{Carry, Sight, Holds, IsSame, fiber_of}
use Rattle.pic_machine.specs.Lending.{Began, Kept, Later, Lent, Made, Refuses, Spared}
use Rattle.pic_machine.proofs.Histories.{IsLegal-push, log-push_mine, visible-append}
use Rattle.pic_machine.proofs.Staying.{acts_stays, birth_stays, log_stays, owed_stays, same_number}

-- the port went on to this front, and is the same port
pub record Onward {S : Type 0} (old new : Sight S) (others : List Happened) (h : Happened) : Type 0 where
  pub board : new.board ≡ old.board
  pub origin : new.origin ≡ old.origin
  pub share : new.share ≡ old.share
  pub alone : new.alone ≡ old.alone
  pub calm : new.contention ≡ old.contention
  pub front : new.front ≡ (old.front ++ others) ++ h ∷ []
  pub none : old.alone ≡ true → others ≡ []
  pub legal : IsLegal old.origin (old.front ++ others)
  pub follows : Follows old.origin (old.front ++ others) h

module _ {S : Type 0} (old new : Sight S) (others : List Happened) (h : Happened) where
  pub onward_legal : Onward old new others h → IsLegal new.origin new.front
  onward_legal on =
      let there : IsLegal old.origin new.front = subst (IsLegal old.origin) (sym on.front) (IsLegal-push old.origin (old.front ++ others) h on.legal on.follows) in
      subst (λ (o : Origin). IsLegal o new.front) (sym on.origin) there

  pub onward_later : Onward old new others h → Later old new (others ++ h ∷ [])
  onward_later on = record {
    board = on.board;
    origin = on.origin;
    share = on.share;
    alone = on.alone;
    front = on.front ∙ append_assoc old.front others (h ∷ []);
    steady = omega (arith, on.calm);
  }

  -- a body was taken out
  pub onward_began : Onward old new others h → Began old new h
  onward_began on = record { others = others; none = on.none; later = onward_later on; legal = onward_legal on; calm = on.calm }

  -- an entry was made for a body that is out
  pub onward_made : Onward old new others h → Others h.entry.fiber others → Made old new h
  onward_made on apart = record { others = others; none = on.none; not_mine = apart; later = onward_later on; legal = onward_legal on; calm = on.calm }

-- a fiber's own entry within its turn stands in its log
pub logged : (h : Happened) (f : ℕ) → h.entry.fiber ≡ f → is_turn h.entry.call ≡ false → is_logged f h ≡ true
logged h f mine within = rw (mine, within, same_number f) refl

-- the log of the fiber that made the entry
pub log_made : (front others : List Happened) (h : Happened) (f : ℕ) → Others f others → h.entry.fiber ≡ f → is_turn h.entry.call ≡ false → log ((front ++ others) ++ h ∷ []) f ≡ log front f ++ h ∷ []
log_made front others h f apart mine within =
    log-push_mine (front ++ others) h f (logged h f mine within) ∙ ap (λ (zs : List Happened). zs ++ h ∷ []) (log_stays front others f apart)

module _ {S : Type 0} (old new : Sight S) (before now : Carry S) (others : List Happened) (h : Happened) where
  -- a body that is out was lent to a call that made an entry, and noted it: what is left to show is what
  -- it owes now, and that its fiber may act
  pub onward_lent : Onward old new others h → Others h.entry.fiber others → Holds old before → new.out ≡ old.out → h.entry.fiber ≡ fiber_of before → is_turn h.entry.call ≡ false
      → now.birth ≡ before.birth → now.number ≡ before.number → now.noted ≡ before.noted ++ visible (h ∷ []) → now.share ≡ before.share
      → now.owes ≡ owed_of (world new.origin new.front) (fiber_of before) → MayAct (world new.origin new.front) (fiber_of before) → Lent old new before now h
  onward_lent on apart holds out mine within birth number noted share owes acts =
      let f = fiber_of before in
      let same : fiber_of now ≡ f = ap (λ (n : Option ℕ). fiber_of (record before { number = n })) number in
      let apart' : Others f others = subst (λ (g : ℕ). Others g others) mine apart in
      let made_log : log new.front f ≡ log old.front f ++ h ∷ [] = ap (λ (zs : List Happened). log zs f) on.front ∙ log_made old.front others h f apart' mine within in
      let listed : now.noted ≡ visible (log new.front f) = noted ∙ (ap (λ (es : List Entry). es ++ visible (h ∷ [])) holds.noted ∙ (sym (visible-append (log old.front f) (h ∷ [])) ∙ ap visible (sym made_log))) in
      let born : f ≢ 0 → birth_in new.origin new.front f ≡ Some now.birth = λ fiber.
      let there : birth_in old.origin ((old.front ++ others) ++ h ∷ []) f ≡ Some before.birth =
      birth_stays old.origin (old.front ++ others) (h ∷ []) f before.birth (birth_stays old.origin old.front others f before.birth (holds.birth fiber)) in
      ap (λ (o : Origin). birth_in o new.front f) on.origin ∙ (ap (λ (zs : List Happened). birth_in old.origin zs f) on.front ∙ (there ∙ ap Some (sym birth))) in
      record {
        made = onward_made old new others h on apart;
        holds = record {
          legal = onward_legal old new others h on;
          out = out ∙ (holds.out ∙ ap Some (sym same));
          number = number ∙ (holds.number ∙ ap Some (sym same));
          noted = rw same listed;
          owes = rw same owes;
          acts = rw same acts;
          birth = rw same born;
          share = rw same (λ fiber. share ∙ (holds.share fiber ∙ sym on.share));
        };
        number = number;
        birth = birth;
        share = share;
      }

-- ---- a call that made no entry

module _ {S : Type 0} (old new : Sight S) (before now : Carry S) where
  -- the body of a refused call is as the new front says
  pub spared : (kept : Kept old new) → Others (fiber_of before) kept.grown.others → Holds old before → IsSame before now → now.owes ≡ before.owes → Spared old new before now
  spared kept apart holds same owes =
      let f = fiber_of before in
      let others = kept.grown.others in
      let later = kept.grown.later in
      let same_fiber : fiber_of now ≡ f = ap (λ (n : Option ℕ). fiber_of (record before { number = n })) same.number in
      let legal : IsLegal old.origin (old.front ++ others) = subst (IsLegal old.origin) later.front (subst (λ (o : Origin). IsLegal o new.front) later.origin kept.grown.legal) in
      let logs : log new.front f ≡ log old.front f = ap (λ (zs : List Happened). log zs f) later.front ∙ log_stays old.front others f apart in
      let worlds : world old.origin (old.front ++ others) ≡ world new.origin new.front = ap (world old.origin) (sym later.front) ∙ ap (λ (o : Origin). world o new.front) (sym later.origin) in
      let owed : now.owes ≡ owed_of (world new.origin new.front) f = owes ∙ (holds.owes ∙ (sym (owed_stays old.origin old.front others f legal apart) ∙ ap (λ (w : State). owed_of w f) worlds)) in
      let acts : MayAct (world new.origin new.front) f = subst (λ (w : State). MayAct w f) worlds (acts_stays old.origin old.front others f legal apart holds.acts) in
      let born : f ≢ 0 → birth_in new.origin new.front f ≡ Some now.birth = λ fiber.
      ap (λ (o : Origin). birth_in o new.front f) later.origin ∙ (ap (λ (zs : List Happened). birth_in old.origin zs f) later.front ∙ (birth_stays old.origin old.front others f before.birth (holds.birth fiber) ∙ ap Some (sym same.birth))) in
      record {
        kept = kept;
        not_mine = apart;
        holds = record {
          legal = kept.grown.legal;
          out = kept.out ∙ (holds.out ∙ ap Some (sym same_fiber));
          number = same.number ∙ (holds.number ∙ ap Some (sym same_fiber));
          noted = rw same_fiber (same.noted ∙ (holds.noted ∙ ap visible (sym logs)));
          owes = rw same_fiber owed;
          acts = rw same_fiber acts;
          birth = rw same_fiber born;
          share = rw same_fiber (λ fiber. same.share ∙ (holds.share fiber ∙ sym later.share));
        };
        same = same;
      }

-- ---- a call that changed nothing

pub later_same : {S : Type 0} (p : Sight S) → Later p p []
later_same p = record { board = refl; origin = refl; share = refl; alone = refl; front = sym (append-nil p.front); steady = omega arith }

-- the port is as it was
pub kept_same : {S : Type 0} (p : Sight S) → IsLegal p.origin p.front → Kept p p
kept_same p legal = record { grown = record { others = []; none = λ alone. refl; later = later_same p; legal = legal }; out = refl }

-- so is the body that was lent
pub spared_same : {S : Type 0} (p : Sight S) (a : Carry S) → Holds p a → Spared p p a a
unfolding kept_same
spared_same p a holds = spared p p a a (kept_same p holds.legal) tt holds (record { birth = refl; number = refl; noted = refl; share = refl }) refl

-- and so are both where memory was wanted
pub refuses_memory : {S : Type 0} (p : Sight S) (a : Carry S) → Holds p a → Refuses Memory p p a a
refuses_memory p a holds = (spared_same p a holds, refl)
