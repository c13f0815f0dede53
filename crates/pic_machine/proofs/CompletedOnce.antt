-- At most one entry completes a computation, and all that is told of it later is that outcome.
use Rattle.std.proofs.Common.{◌≡◌, ℕ, ◌<◌, Option, Some, None, List, ◌∷◌, ◌++◌, length, slice_get, slice_set, refl, sym, ap, subst, ◌∙◌}
use Rattle.std.proofs.lemmas.Option.{slice_get_within}
use Rattle.pic_base.specs.declared.outcome.Outcome.{Outcome}
use Rattle.pic_machine.specs.declared.entry.Call.{Call}
use Rattle.pic_machine.specs.declared.entry.Call.TheVariants.{Attach, Complete, Peek}
use Rattle.pic_machine.specs.declared.entry.CompleteReply.TheVariants.{Won, Lost}
use Rattle.pic_machine.specs.declared.entry.Reply.TheVariants.{Completed}
use Rattle.pic_machine.specs.declared.state.CompState.{CompState}
use Rattle.pic_machine.specs.declared.state.CompState.TheVariants.{Running, Done}
use Rattle.pic_machine.specs.Happened.{Happened}
use Rattle.pic_machine.specs.Step.{NamesStand, after, attached, completed, peeked, reply_of, with_outcome}
use Rattle.pic_machine.specs.History.{Origin, Follows, IsLegal, world}
use Rattle.pic_machine.specs.Once.{CompletesOnce, Precedes, Wins}
use Rattle.pic_machine.proofs.Completions.{done_stays}
use Rattle.pic_machine.proofs.Lasting.{first_follows, holds_later, later_follows}
use Rattle.pic_machine.proofs.Lists.{nothing_there, slice_get-set_same}

-- a completion that won found a computation running
pub won_running : (cs : List CompState) (c : ℕ) (s : Option CompState) → slice_get cs c ≡ s → c < length cs → Completed Won ≡ completed s → (triggers : List ℕ) × (slice_get cs c ≡ Some (Running triggers))
won_running cs c None is within won = absurd (nothing_there cs c within is)
won_running cs c (Some (Running triggers)) is within won = (triggers, is)
won_running cs c (Some (Done o)) is within won = absurd cc

-- what a legal entry with this call replied
pub replied : (origin : Origin) (hs : List Happened) (h : Happened) (call : Call) → Follows origin hs h → h.entry.call ≡ call → h.entry.reply ≡ reply_of (world origin hs) h.entry.fiber call
replied origin hs h call follows is = follows.reply ∙ ap (reply_of (world origin hs) h.entry.fiber) is

pub named : (origin : Origin) (hs : List Happened) (h : Happened) (call : Call) → Follows origin hs h → h.entry.call ≡ call → NamesStand (world origin hs) call
named origin hs h call follows is = subst (NamesStand (world origin hs)) is follows.may.allowed.names

-- the computation that an entry completed ran before it
pub won_before : (origin : Origin) (hs : List Happened) (h : Happened) (c : ℕ) (o : Outcome) → Follows origin hs h → Wins c o h → (triggers : List ℕ) × (slice_get (world origin hs).comps c ≡ Some (Running triggers))
won_before origin hs h c o follows wins =
    won_running (world origin hs).comps c (slice_get (world origin hs).comps c) refl (named origin hs h (Complete c o) follows wins.call) (sym wins.reply ∙ replied origin hs h (Complete c o) follows wins.call)

-- and has the outcome behind it
won_after : (origin : Origin) (hs : List Happened) (h : Happened) (c : ℕ) (o : Outcome) → Follows origin hs h → Wins c o h → slice_get (after (world origin hs) h.entry.fiber h.entry.call).comps c ≡ Some (Done o)
won_after origin hs h c o follows wins =
    let w = world origin hs in
    let ran = won_before origin hs h c o follows wins in
    let done : slice_get (slice_set w.comps c (Done o)) c ≡ Some (Done o) = slice_get-set_same w.comps c (Done o) (slice_get_within w.comps c (Running ran.0) ran.1) in
    let there : slice_get (after w h.entry.fiber (Complete c o)).comps c ≡ Some (Done o) =
    ap (λ (s : Option CompState). slice_get (with_outcome w.comps c o s) c) ran.1 ∙ done in
    ap (λ (call : Call). slice_get (after w h.entry.fiber call).comps c) wins.call ∙ there

-- before each later entry too
still_done : (origin : Origin) (hs : List Happened) (first later : Happened) (c : ℕ) (o : Outcome) (order : Precedes hs first later) → IsLegal origin hs → Wins c o first
    → slice_get (world origin (order.front ++ first ∷ order.between)).comps c ≡ Some (Done o)
still_done origin hs first later c o order legal wins =
    holds_later (λ w. slice_get w.comps c ≡ Some (Done o)) (λ w f call allowed is. done_stays w f call c o is) origin hs first later order legal
    (won_after origin order.front first c o (first_follows origin hs first later order legal) wins)

told_lost : (origin : Origin) (hs : List Happened) (first later : Happened) (c : ℕ) (o x : Outcome) (order : Precedes hs first later) → IsLegal origin hs → Wins c o first
    → later.entry.call ≡ Complete c x → later.entry.reply ≡ Completed (Lost o)
told_lost origin hs first later c o x order legal wins is =
    replied origin (order.front ++ first ∷ order.between) later (Complete c x) (later_follows origin hs first later order legal) is ∙ ap completed (still_done origin hs first later c o order legal wins)

pub completes_once : (origin : Origin) (hs : List Happened) (c : ℕ) → IsLegal origin hs → CompletesOnce hs c
completes_once origin hs c legal = record {
  once = λ first later o x order wins again.
      let both : Completed Won ≡ Completed (Lost o) = sym again.reply ∙ told_lost origin hs first later c o x order legal wins again.call in
      cc;
  lost = λ first later o x order wins is. told_lost origin hs first later c o x order legal wins is;
  seen = λ first later o order wins is.
      replied origin (order.front ++ first ∷ order.between) later (Peek c) (later_follows origin hs first later order legal) is ∙ ap peeked (still_done origin hs first later c o order legal wins);
  late = λ first later o p t order wins is.
      replied origin (order.front ++ first ∷ order.between) later (Attach p c t) (later_follows origin hs first later order legal) is ∙ ap attached (still_done origin hs first later c o order legal wins);
}
