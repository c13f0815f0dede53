-- A call that brings no duty leaves a fiber free that owed nothing.
use Rattle.std.proofs.Common.{◌≡◌, ℕ, Option, List, [], ◌∷◌, ◌++◌, sym, ap, subst, ◌∙◌}
use Rattle.std.proofs.lemmas.List.{append_assoc}
use Rattle.pic_machine.specs.Duty.{BringsNone}
use Rattle.pic_machine.specs.Happened.{Happened}
use Rattle.pic_machine.specs.History.{IsLegal, Origin, world}
use Rattle.pic_machine.specs.Lending.{Lent}
use Rattle.pic_machine.specs.Log.{Others}
use Rattle.pic_machine.specs.Sight.{Carry, Holds, Sight, fiber_of}
use Rattle.pic_machine.specs.State.{State, owed_of}
use Rattle.pic_machine.specs.Step.{after}
use Rattle.pic_machine.proofs.Histories.{IsLegal-front, world-push}
use Rattle.pic_machine.proofs.Staying.{owed_stays}
use Rattle.pic_machine.proofs.Steps.{free_after}

module _ {S : Type 0} (p q : Sight S) (a b : Carry S) (h : Happened) where
  -- of a body for which the call was made
  pub lent_free : Lent p q a b h → Holds p a → h.entry.fiber ≡ fiber_of a → BringsNone h.entry.call → a.owes ≡ [] → b.owes ≡ []
  lent_free lent holds mine brings free =
      let f : ℕ = fiber_of a in
      let others : List Happened = lent.made.others in
      let assoc : (p.front ++ others) ++ h ∷ [] ≡ p.front ++ (others ++ h ∷ []) = append_assoc p.front others (h ∷ []) in
      let front : q.front ≡ (p.front ++ others) ++ h ∷ [] = lent.made.later.front ∙ sym assoc in
      let legal : IsLegal p.origin ((p.front ++ others) ++ h ∷ []) =
      subst (λ (o : Origin). IsLegal o ((p.front ++ others) ++ h ∷ [])) lent.made.later.origin (subst (IsLegal q.origin) front lent.made.legal) in
      let before : List Happened = p.front ++ others in
      let apart = subst (λ (n : ℕ). Others n others) mine lent.made.not_mine in
      let none : owed_of (world p.origin before) f ≡ [] =
      owed_stays p.origin p.front others f (IsLegal-front p.origin before (h ∷ []) legal) apart ∙ (sym holds.owes ∙ free) in
      let now : owed_of (world p.origin (before ++ h ∷ [])) f ≡ [] =
      ap (λ (w : State). owed_of w f) (world-push p.origin before h)
      ∙ subst (λ (n : ℕ). owed_of (after (world p.origin before) n h.entry.call) f ≡ []) (sym mine) (free_after (world p.origin before) f h.entry.call brings none) in
      let number : fiber_of b ≡ f = ap (λ (n : Option ℕ). fiber_of (record a { number = n })) lent.number in
      lent.holds.owes
      ∙ (ap (λ (n : ℕ). owed_of (world q.origin q.front) n) number
      ∙ (ap (λ (o : Origin). owed_of (world o q.front) f) lent.made.later.origin
      ∙ (ap (λ (hs : List Happened). owed_of (world p.origin hs) f) front ∙ now)))
