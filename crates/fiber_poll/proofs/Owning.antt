-- What a body that stands within a statement may call: it names what stands, and its place is its own.
use Rattle.std.proofs.Common.{◌≡◌, ℕ, ◌<◌, ◌≤◌, inl, Option, Some, None, [], length, refl, ap, subst, arith}
use Rattle.std.specs.Prelude.{unwrap_or}
use Rattle.std.specs.Option.{IfSome}
use Rattle.pic_base.specs.declared.action.Action.TheVariants.{Resume}
use Rattle.pic_machine.specs.declared.entry.Call.TheVariants as asked
use Rattle.pic_machine.specs.declared.waits.Parts.{Parts}
use Rattle.pic_machine.specs.declared.waits.Standing.{Standing as Under}
use Rattle.pic_machine.specs.History.{MayMake, NumbersFit, world}
use Rattle.pic_machine.specs.Log.{log, own}
use Rattle.pic_machine.specs.Sight.{Sight, fiber_of}
use Rattle.pic_machine.proofs.Numbers.{made_place}
use Rattle.pic_machine.proofs.NumbersByLog.{numbers_by_own}
use Rattle.fiber_await.specs.Doing.{IsFree}
use Rattle.fiber_await.specs.Phases.{trigger_of}
use Rattle.fiber_await.proofs.Owning.{Triggers, arm_may as follow_arm_may, trigger_kept}
use Rattle.script_tree.specs.Tree.{Tree}
use Rattle.fiber_body.specs.declared.standing.Standing.TheVariants.{Within}
use Rattle.fiber_body.specs.declared.under_way.UnderWay.{UnderWay}
use Rattle.fiber_body.specs.declared.under_way.UnderWay.TheVariants.{Places, Awaits, Awake, Attaches, Follows}
use Rattle.fiber_body.specs.Context.{count_of}
use Rattle.script_tree.specs.declared.thing.Sort.TheVariants as sort
use Rattle.fiber_body.specs.Owns.{IsDeclared, OwnsPlace, OwnsWait}
use Rattle.fiber_body.specs.Shown.{MayBeCurrent, Shown, carry_of}
use Rattle.fiber_body.specs.Texts.{script_in}
use Rattle.fiber_poll.specs.declared.spot.Spot.{Spot}
use Rattle.fiber_poll.specs.declared.spot.Last.TheVariants.{Park}
use Rattle.fiber_poll.specs.Moving.{arms_at}
use Rattle.fiber_poll.specs.Polls.{IsPortOf}
use Rattle.fiber_poll.specs.UnderWay.{IsLast, IsUp}
use Rattle.fiber_poll.proofs.Giving.{comp_stands, trigger_stands, current_up}
use Rattle.fiber_poll.proofs.Going.{may_make, program_up}
use Rattle.fiber_poll.proofs.Stages.{within_up}

-- a body that is up is out, and may owe nothing
pub is_free : {p : Sight (Option Tree)} {a : Shown} → IsUp p a → a.owes ≡ [] → IsFree p (carry_of a)
is_free up free = record { holds = up.holds; fiber = up.fiber; owes = free }

module _ (tree : Tree) {p : Sight (Option Tree)} {a : Shown} where
  declared_here : (t : ℕ) → IsPortOf tree p → IsUp p a → IsDeclared (script_in a.program) t → IsDeclared tree t
  declared_here t of up declared = subst (λ (tr : Tree). IsDeclared tr t) (ap script_in (program_up tree p a of up)) declared

  -- a place of the fiber's own may take an attachment
  own_place : (place k t : ℕ) → IsUp p a → OwnsPlace (fiber_of (carry_of a)) (own (log p.front (fiber_of (carry_of a)))) place
      → NumbersFit p.origin p.front (fiber_of (carry_of a)) (asked.Attach place k t) × (place < (world p.origin p.front).places)
  own_place place k t up owns =
      let fits = numbers_by_own p.origin p.front (fiber_of (carry_of a)) (asked.Attach place k t) up.holds.legal owns in
      (fits, made_place p.origin p.front (fiber_of (carry_of a)) place up.holds.legal fits.0)

  pub attach_may : (spot : Spot) (r k t place : ℕ) → IsPortOf tree p → IsUp p a → a.owes ≡ [] → a.standing ≡ Within spot.block spot.place (Attaches r k t (Some place)) → MayMake p.origin p.front (fiber_of (carry_of a)) (asked.Attach place k t)
  attach_may spot r k t place of up free at =
      let kept = (within_up spot (Attaches r k t (Some place)) up at).1 in
      let here = own_place place k t up kept.1 in
      let comp : k ≤ count_of sort.Comp tree.decls = subst (λ (tr : Tree). k ≤ count_of sort.Comp tr.decls) (ap script_in (program_up tree p a of up)) kept.0.comp in
      may_make up free (here.1, comp_stands of k comp, trigger_stands of t (declared_here t of up kept.0.trigger)) tt here.0

  -- the current computation stands
  pub current_here : (u : Under) → IsPortOf tree p → IsUp p a → MayBeCurrent a.program a.birth u.current → u.current < length (world p.origin p.front).comps
  current_here u of up may = current_up of u.current up may

  pub wait_may : (spot : Spot) (parts : Parts) (u : Under) → IsPortOf tree p → IsUp p a → a.owes ≡ [] → a.standing ≡ Within spot.block spot.place (Awaits parts) → MayBeCurrent a.program a.birth u.current
      → IfSome parts.place (λ place. parts.at ≡ 2 → MayMake p.origin p.front (fiber_of (carry_of a)) (asked.Attach place u.current (trigger_of parts)))
  wait_may spot parts u of up free at may = by_place parts.place refl where
    kept : OwnsWait (script_in a.program) (fiber_of (carry_of a)) (own (log p.front (fiber_of (carry_of a)))) parts
    kept = (within_up spot (Awaits parts) up at).1

    by_place : (o : Option ℕ) → parts.place ≡ o → IfSome o (λ place. parts.at ≡ 2 → MayMake p.origin p.front (fiber_of (carry_of a)) (asked.Attach place u.current (trigger_of parts)))
    by_place None is = tt
    by_place (Some place) is = λ two.
        let owns = subst (λ (o : Option ℕ). IfSome o (OwnsPlace (fiber_of (carry_of a)) (own (log p.front (fiber_of (carry_of a)))))) is (kept.place two) in
        let here = own_place place u.current (trigger_of parts) up owns in
        may_make up free (here.1, current_up of u.current up may, trigger_stands of (trigger_of parts) (declared_here (trigger_of parts) of up kept.trigger)) tt here.0

  pub wake_may : (u : Under) → IsPortOf tree p → IsUp p a → a.owes ≡ [] → MayBeCurrent a.program a.birth u.current → MayMake p.origin p.front (fiber_of (carry_of a)) (asked.Peek u.current)
  wake_may u of up free may = may_make up free (current_up of u.current up may) tt tt

  -- a trigger for which it waits may be armed
  declared_may : (spot : Spot) (parts : Parts) (t : ℕ) → IsPortOf tree p → IsUp p a → a.owes ≡ [] → a.standing ≡ Within spot.block spot.place (Awaits parts) → parts.trigger ≡ Some t
      → MayMake p.origin p.front (fiber_of (carry_of a)) (asked.Arm t (Resume (fiber_of (carry_of a))))
  declared_may spot parts t of up free at is =
      let kept : OwnsWait (script_in a.program) (fiber_of (carry_of a)) (own (log p.front (fiber_of (carry_of a)))) parts = (within_up spot (Awaits parts) up at).1 in
      let same : trigger_of parts ≡ t = ap (λ (o : Option ℕ). unwrap_or o 0) is in
      let declared : IsDeclared tree t = subst (IsDeclared tree) same (declared_here (trigger_of parts) of up kept.trigger) in
      may_make up free (trigger_stands of t declared) refl (inl (omega (arith, declared, of.triggers)))

  -- declared, or its own
  own_may : (spot : Spot) (r k : ℕ) (parts : Parts) (t : ℕ) → IsUp p a → a.owes ≡ [] → a.standing ≡ Within spot.block spot.place (Follows r k parts) → parts.at ≡ 7 → parts.trigger ≡ Some t
      → MayMake p.origin p.front (fiber_of (carry_of a)) (asked.Arm t (Resume (fiber_of (carry_of a))))
  own_may spot r k parts t up free at seven is =
      let f = fiber_of (carry_of a) in
      subst (λ (n : ℕ). MayMake p.origin p.front f (asked.Arm n (Resume f))) (ap (λ (o : Option ℕ). unwrap_or o 0) is)
      (follow_arm_may p (carry_of a) parts (is_free up free) seven (within_up spot (Follows r k parts) up at).1.on)

  pub arm_may : (spot : Spot) (way : UnderWay) (t : ℕ) → IsPortOf tree p → IsUp p a → a.owes ≡ [] → IsLast a (Park spot way) → arms_at way ≡ Some t → MayMake p.origin p.front (fiber_of (carry_of a)) (asked.Arm t (Resume (fiber_of (carry_of a))))
  arm_may spot (Awaits parts) t of up free last is = declared_may spot parts t of up free last.0 is
  arm_may spot (Follows r k parts) t of up free last is = own_may spot r k parts t up free last.0 last.1 is
  arm_may spot (Places n) t of up free last is = absurd last.1
  arm_may spot (Awake n) t of up free last is = absurd last.1
  arm_may spot (Attaches r k n place) t of up free last is = absurd last.1

  -- the computation for which it waits stands
  pub followed_stands : (spot : Spot) (r k : ℕ) (parts : Parts) → IsPortOf tree p → IsUp p a → a.standing ≡ Within spot.block spot.place (Follows r k parts) → k < length (world p.origin p.front).comps
  followed_stands spot r k parts of up at =
      comp_stands of k (subst (λ (tr : Tree). k ≤ count_of sort.Comp tr.decls) (ap script_in (program_up tree p a of up)) (within_up spot (Follows r k parts) up at).1.comp)

-- the trigger that is to be armed is known
pub has_trigger : {p : Sight (Option Tree)} {a : Shown} (spot : Spot) (way : UnderWay) → IsUp p a → IsLast a (Park spot way) → arms_at way ≡ None → ⊥
has_trigger spot (Awaits parts) up last none = (within_up spot (Awaits parts) up last.0).1.known none
has_trigger {p} {a} spot (Follows r k parts) up last none =
    let on = (within_up spot (Follows r k parts) up last.0).1.on in
    let seven = last.1 in
    subst (λ (o : Option ℕ). Triggers p (carry_of a) o) none (trigger_kept p (carry_of a) parts (omega (arith, seven)) on.at on.has)
has_trigger spot (Places n) up last none = last.1
has_trigger spot (Awake n) up last none = last.1
has_trigger spot (Attaches r k n place) up last none = last.1
