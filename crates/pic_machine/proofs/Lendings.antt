-- What a body owes behind a call that it was lent to: what its own call left, since others' calls leave it.
use Rattle.std.proofs.Common.{◌≡◌, ℕ, Option, Some, List, [], ◌∷◌, ◌++◌, map, reverse, refl, sym, ap, subst, ◌∙◌, append_assoc, slice_get}
use Rattle.pic_base.specs.declared.duty.Duty.{Duty}
use Rattle.pic_base.specs.declared.duty.Duty.TheVariants.{Signal}
use Rattle.pic_base.specs.declared.outcome.Outcome.{Outcome}
use Rattle.pic_machine.specs.declared.state.CompState.{CompState}
use Rattle.pic_machine.specs.declared.state.CompState.TheVariants.{Running}
use Rattle.pic_machine.specs.declared.entry.Call.{Call}
use Rattle.pic_machine.specs.declared.entry.Call.TheVariants as call
use Rattle.pic_machine.specs.declared.entry.Call.TheVariants.{Complete, Peek}
use Rattle.pic_machine.specs.declared.entry.CompleteReply.TheVariants.{Won, Lost}
use Rattle.pic_machine.specs.declared.entry.Reply.{Reply}
use Rattle.pic_machine.specs.declared.entry.Reply.TheVariants.{Completed, Peeked}
use Rattle.pic_machine.specs.Happened.{Happened}
use Rattle.pic_machine.specs.State.{IsStart, State, owed_of}
use Rattle.pic_machine.specs.Duty.{LeavesDuties, followed, fulfilled}
use Rattle.pic_machine.specs.Step.{completed, peeked, reply_of, with_signals}
use Rattle.pic_machine.specs.History.{Follows, IsLegal, Origin, world}
use Rattle.pic_machine.specs.Sight.{Carry, Sight, Holds, fiber_of}
use Rattle.pic_machine.specs.Lending.{Lent}
use Rattle.pic_machine.proofs.Counts.{counts_start, owed_push}
use Rattle.pic_machine.proofs.Histories.{IsLegal-front}
use Rattle.pic_machine.proofs.Staying.{owed_stays}
use Rattle.pic_machine.proofs.Steps.{owes_then}

-- the call of fiber f was made in this world, where the fiber owed what its body says, and left of that what
-- the body owes now
pub record Leaves {S : Type 0} (before now : Carry S) (f : ℕ) (call : Call) (reply : Reply) : Type 0 where
  pub at : State
  pub owed : owed_of at f ≡ before.owes
  pub left : now.owes ≡ owes_then at f call
  pub answer : reply ≡ reply_of at f call

module _ {S : Type 0} (old new : Sight S) (before now : Carry S) (h : Happened) where
  pub lent_leaves : IsStart old.origin.world → Holds old before → Lent old new before now h → h.entry.fiber ≡ fiber_of before → Leaves before now h.entry.fiber h.entry.call h.entry.reply
  lent_leaves start holds lent mine =
      let f = h.entry.fiber in
      let hs = old.front ++ lent.made.others in
      let front : new.front ≡ hs ++ h ∷ [] = lent.made.later.front ∙ sym (append_assoc old.front lent.made.others (h ∷ [])) in
      let legal : IsLegal old.origin (hs ++ h ∷ []) = subst (IsLegal old.origin) front (subst (λ (o : Origin). IsLegal o new.front) lent.made.later.origin lent.made.legal) in
      let follows : Follows old.origin hs h = legal.each hs [] h refl in
      let same : fiber_of now ≡ f = ap (λ (n : Option ℕ). fiber_of (record before { number = n })) lent.number ∙ sym mine in
      let worlds : world new.origin new.front ≡ world old.origin (hs ++ h ∷ []) = ap (λ (o : Origin). world o new.front) lent.made.later.origin ∙ ap (world old.origin) front in
      record {
        at = world old.origin hs;
        owed = owed_stays old.origin old.front lent.made.others f (IsLegal-front old.origin hs (h ∷ []) legal) lent.made.not_mine
            ∙ (ap (owed_of (world old.origin old.front)) mine ∙ sym holds.owes);
        left = lent.holds.owes ∙ (ap (owed_of (world new.origin new.front)) same ∙ (ap (λ (w : State). owed_of w f) worlds
            ∙ owed_push old.origin hs h (counts_start old.origin.world start) follows));
        answer = follows.reply;
      }

module _ {S : Type 0} (before now : Carry S) (f : ℕ) where
  -- a signal fulfils the first duty
  pub signal_leaves : (t : ℕ) (reply : Reply) → Leaves before now f (call.Signal t) reply → now.owes ≡ fulfilled before.owes
  signal_leaves t reply leaves = leaves.left ∙ ap fulfilled leaves.owed

  -- so does a look at a computation, where it isn't one to be followed that is cancelled
  pub peek_leaves : (c : ℕ) (seen : Option Outcome) → Leaves before now f (Peek c) (Peeked seen) → (s : Option CompState) × (Peeked seen ≡ peeked s) × (now.owes ≡ followed before.owes s)
  peek_leaves c seen leaves =
      let s = slice_get leaves.at.comps c in
      (s, leaves.answer, leaves.left ∙ ap (λ (ds : List Duty). followed ds s) leaves.owed)

  -- so does a completion that came too late
  pub lost_leaves : (c : ℕ) (o x : Outcome) → Leaves before now f (Complete c o) (Completed (Lost x)) → now.owes ≡ fulfilled before.owes
  lost_leaves c o x leaves = leaves.left ∙ (lost (slice_get leaves.at.comps c) leaves.answer ∙ ap fulfilled leaves.owed) where
    lost : (s : Option CompState) → Completed (Lost x) ≡ completed s → with_signals s (fulfilled (owed_of leaves.at f)) ≡ fulfilled (owed_of leaves.at f)
    lost (Some (Running triggers)) is = absurd (let won : Completed (Lost x) ≡ Completed Won = is in cc)
    lost _ is = refl

  -- whoever completed a computation owes its signals before all else
  pub won_leaves : (c : ℕ) (o : Outcome) → Leaves before now f (Complete c o) (Completed Won) → (triggers : List ℕ) × (now.owes ≡ map Signal (reverse triggers) ++ fulfilled before.owes)
  won_leaves c o leaves = won (slice_get leaves.at.comps c) (leaves.left) where
    won : (s : Option CompState) → now.owes ≡ with_signals s (fulfilled (owed_of leaves.at f)) → (triggers : List ℕ) × (now.owes ≡ map Signal (reverse triggers) ++ fulfilled before.owes)
    won (Some (Running triggers)) left = (triggers, left ∙ ap (λ (ds : List Duty). map Signal (reverse triggers) ++ fulfilled ds) leaves.owed)
    won _ left = ([], left ∙ ap fulfilled leaves.owed)

  -- any other call leaves all that is owed
  pub unasked_leaves : (call : Call) (reply : Reply) → LeavesDuties call → Leaves before now f call reply → now.owes ≡ before.owes
  unasked_leaves (call.Signal t) reply none leaves = absurd none
  unasked_leaves (Complete c o) reply none leaves = absurd none
  unasked_leaves (Peek c) reply none leaves = absurd none
  unasked_leaves _ reply none leaves = leaves.left ∙ leaves.owed
