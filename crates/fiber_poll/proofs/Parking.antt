-- Arming the trigger for which a statement waits: where the fiber is suspended, and where it goes on at once.
use Rattle.std.proofs.Common.{◌≡◌, ℕ, Option, Some, List, [], ◌∷◌, ◌++◌, ◌<◌, ◌==◌, cond, length, refl, sym, ap, subst, ◌∙◌, arith}
use Rattle.std.specs.Prelude.{unwrap_or}
use Rattle.pic_base.specs.declared.action.Action.TheVariants.{Resume}
use Rattle.pic_machine.specs.declared.entry.ArmReply.{ArmReply}
use Rattle.pic_machine.specs.declared.entry.ArmReply.TheVariants as arm
use Rattle.pic_machine.specs.declared.entry.Call.{Call}
use Rattle.pic_machine.specs.declared.entry.Call.TheVariants.{Arm}
use Rattle.pic_machine.specs.declared.entry.Reply.TheVariants.{Armed}
use Rattle.pic_machine.specs.declared.port.ParkRefusal.{ParkRefusal}
use Rattle.pic_machine.specs.declared.waits.Parts.{Parts}
use Rattle.pic_machine.specs.Happened.{Happened}
use Rattle.pic_machine.specs.History.{event}
use Rattle.pic_machine.specs.Lending.{Called, NotParked}
use Rattle.pic_machine.specs.Log.{log, own}
use Rattle.pic_machine.specs.Sight.{Sight, fiber_of}
use Rattle.pic_machine.specs.Following.{following_at, suspending as suspended}
use Rattle.pic_machine.specs.Waits.{Waiting, arming, awake, over, taken, waiting_at}
use Rattle.fiber_await.proofs.Calling.{IsQuiet, did_called}
use Rattle.fiber_await.proofs.Owning.{armed_follows}
use Rattle.script_tree.specs.Tree.{Tree}
use Rattle.fiber_body.specs.declared.standing.Exit.TheVariants.{Raised}
use Rattle.fiber_body.specs.declared.standing.Frame.{Frame}
use Rattle.fiber_body.specs.declared.standing.Standing.{Standing}
use Rattle.fiber_body.specs.declared.standing.Standing.TheVariants.{Within}
use Rattle.fiber_body.specs.declared.under_way.UnderWay.{UnderWay}
use Rattle.fiber_body.specs.declared.under_way.UnderWay.TheVariants.{Places, Awaits, Awake, Attaches, Follows}
use Rattle.fiber_body.specs.Context.{Context, taken_already, under}
use Rattle.fiber_body.specs.Fits.{LeadsTo, setting_of}
use Rattle.fiber_body.specs.Owns.{IsDeclared, OwnsParts}
use Rattle.fiber_body.specs.Phases.{Phase, awaits_comp, awaits_trigger, suspending}
use Rattle.fiber_body.specs.Shown.{IsSameRest, Shown, carry_of, stood}
use Rattle.fiber_body.specs.Tables.{asks, ends_by, leads, settles}
use Rattle.fiber_body.specs.Texts.{script_in}
use Rattle.fiber_body.specs.Triggers.{phase_of}
use Rattle.fiber_poll.specs.declared.spot.Spot.{Spot}
use Rattle.fiber_poll.specs.declared.spot.Last.TheVariants.{Park}
use Rattle.fiber_poll.specs.Moving.{arms_at, behind_arming, behind_at, weight, weight_at, weight_of}
use Rattle.fiber_poll.specs.UnderWay.{IsArming, IsLast, IsOn, IsUp}
use Rattle.fiber_poll.proofs.Amid.{LeadsAmid, Reached, amid_entry, amid_standing, ends, on_amid, stands}
use Rattle.fiber_poll.proofs.Stages.{KeptBehind, within_up}

-- the arming of a body's fiber
abbrev pub arms : Shown → ℕ → Call
arms a t = Arm t (Resume (fiber_of (carry_of a)))

-- the body stands where the trigger is to be armed, and its statement goes on from there
pub record IsParking (p : Sight (Option Tree)) (a : Shown) (spot : Spot) (way : UnderWay) (t : ℕ) : Type 0 where
  pub at : a.standing ≡ Within spot.block spot.place way
  pub asks : asks (setting_of a (fiber_of (carry_of a))) a.context (phase_of a.context way) ≡ Some (arms a t)
  pub armed : leads a.context (phase_of a.context way) (Armed arm.Set) ≡ Some (phase_of a.context (behind_arming way t))
  pub signalled : leads a.context (phase_of a.context way) (Armed arm.Signalled) ≡ Some (phase_of a.context (behind_arming way t))
  pub taken : Phase
  pub leads_taken : leads a.context (phase_of a.context way) (Armed arm.Taken) ≡ Some taken
  pub raises : settles a.context taken ≡ Some (ends_by (Raised taken_already) a.context)
  pub keeps : (h : Happened) → OwnsParts (script_in a.program) (fiber_of (carry_of a)) (own (log p.front (fiber_of (carry_of a))) ++ h ∷ []) (behind_arming way t)

-- a wait for a trigger does
module _ {p : Sight (Option Tree)} (a : Shown) (spot : Spot) (parts : Parts) (t : ℕ) (up : IsUp p a) (at : a.standing ≡ Within spot.block spot.place (Awaits parts)) (arms_so : waiting_at (under a.context) parts.at parts ≡ arming) (trigger : parts.trigger ≡ Some t) where
  awaits_so : phase_of a.context (Awaits parts) ≡ awaits_trigger t (suspending arming)
  awaits_so = ap (λ (n : ℕ). awaits_trigger n (suspending (waiting_at (under a.context) parts.at parts))) (ap (λ (o : Option ℕ). unwrap_or o 0) trigger) ∙ ap (λ (x : Waiting). awaits_trigger t (suspending x)) arms_so

  awaits_parks : IsParking p a spot (Awaits parts) t
  awaits_parks = record {
    at = at;
    asks = ap (asks (setting_of a (fiber_of (carry_of a))) a.context) awaits_so;
    armed = ap (λ (x : Phase). leads a.context x (Armed arm.Set)) awaits_so;
    signalled = ap (λ (x : Phase). leads a.context x (Armed arm.Signalled)) awaits_so;
    taken = awaits_trigger t (suspending (over taken));
    leads_taken = ap (λ (x : Phase). leads a.context x (Armed arm.Taken)) awaits_so;
    raises = refl;
    keeps = λ h. subst (IsDeclared (script_in a.program)) (ap (λ (o : Option ℕ). unwrap_or o 0) trigger) (within_up spot (Awaits parts) up at).1.trigger;
  }

-- and a wait for a computation
module _ {p : Sight (Option Tree)} (a : Shown) (spot : Spot) (r k : ℕ) (parts : Parts) (t : ℕ) (up : IsUp p a) (at : a.standing ≡ Within spot.block spot.place (Follows r k parts)) (arms_so : parts.at ≡ 7) (trigger : parts.trigger ≡ Some t) where
  follows_so : phase_of a.context (Follows r k parts) ≡ awaits_comp r k (suspended t arming)
  follows_so = ap (λ (n : ℕ). awaits_comp r k (following_at (under a.context) n parts)) arms_so ∙ ap (λ (o : Option ℕ). awaits_comp r k (suspended (unwrap_or o 0) arming)) trigger

  behind_so : awaits_comp r k (suspended t (awake (under a.context))) ≡ phase_of a.context (Follows r k (record parts { at = 9 }))
  behind_so = ap (λ (o : Option ℕ). awaits_comp r k (suspended (unwrap_or o 0) (awake (under a.context)))) (sym trigger)

  follows_parks : IsParking p a spot (Follows r k parts) t
  follows_parks =
      let kept = (within_up spot (Follows r k parts) up at).1 in
      record {
        at = at;
        asks = ap (asks (setting_of a (fiber_of (carry_of a))) a.context) follows_so;
        armed = ap (λ (x : Phase). leads a.context x (Armed arm.Set)) follows_so ∙ ap (λ (x : Phase). Some x) behind_so;
        signalled = ap (λ (x : Phase). leads a.context x (Armed arm.Signalled)) follows_so ∙ ap (λ (x : Phase). Some x) behind_so;
        taken = awaits_comp r k (suspended t (over taken));
        leads_taken = ap (λ (x : Phase). leads a.context x (Armed arm.Taken)) follows_so;
        raises = refl;
        keeps = λ h. record {
          register = kept.register;
          comp = kept.comp;
          on = armed_follows (fiber_of (carry_of a)) (own (log p.front (fiber_of (carry_of a)))) h parts arms_so kept.on;
        };
      }

pub parks_so : {p : Sight (Option Tree)} (a : Shown) (spot : Spot) (way : UnderWay) (t : ℕ) → IsUp p a → a.standing ≡ Within spot.block spot.place way → IsArming a.context way → arms_at way ≡ Some t → IsParking p a spot way t
parks_so a spot (Awaits parts) t up at arms_so trigger = awaits_parks a spot parts t up at arms_so trigger
parks_so a spot (Follows r k parts) t up at arms_so trigger = follows_parks a spot r k parts t up at arms_so trigger
parks_so a spot (Places n) t up at arms_so trigger = absurd arms_so
parks_so a spot (Awake n) t up at arms_so trigger = absurd arms_so
parks_so a spot (Attaches r k n place) t up at arms_so trigger = absurd arms_so

-- once room was made it stands there still
pub still_arms : {a b : Shown} (spot : Spot) (way : UnderWay) → IsSameRest a b → IsLast a (Park spot way) → IsLast b (Park spot way)
still_arms spot way rest last = (rest.standing ∙ last.0, subst (λ (c : Context). IsArming c way) (sym rest.context) last.1)

pub parks_reserved : {p : Sight (Option Tree)} {a b : Shown} (spot : Spot) (way : UnderWay) (t : ℕ) → IsUp p b → IsSameRest a b → IsLast a (Park spot way) → arms_at way ≡ Some t → IsParking p b spot way t
parks_reserved {a = a} {b = b} spot way t up rest last trigger =
    let there = still_arms spot way rest last in
    parks_so b spot way t up there.0 there.1 trigger

module _ {p : Sight (Option Tree)} {a : Shown} (spot : Spot) (way : UnderWay) (t : ℕ) (up : IsUp p a) (parking : IsParking p a spot way t) where
  abbrev f : ℕ
  f = fiber_of (carry_of a)

  abbrev mine : List Happened
  mine = own (log p.front f)

  -- the log leads on with the reply
  pub arming_leads : (re : ArmReply) (next : Phase) → leads a.context (phase_of a.context way) (Armed re) ≡ Some next → LeadsAmid a f spot (mine ++ event f (arms a t) (Armed re) ∷ []) next a.context
  arming_leads re next led = amid_entry a f spot mine (phase_of a.context way) next a.context (arms a t) (Armed re) refl parking.asks led (amid_standing a f spot mine way parking.at up.leads)

  -- where the fiber is suspended, its log leads to where it goes on
  pub asleep_leads : (n : ℕ) → n ≡ a.context.steps → LeadsTo (stood a (Within spot.block spot.place (behind_arming way t)) n) f (mine ++ event f (arms a t) (Armed arm.Set) ∷ [])
  asleep_leads n left =
      subst (λ (m : ℕ). LeadsTo (stood a (Within spot.block spot.place (behind_arming way t)) m) f (mine ++ event f (arms a t) (Armed arm.Set) ∷ [])) (sym left)
      (arming_leads arm.Set (phase_of a.context (behind_arming way t)) parking.armed)

-- the fiber goes on at once
on_armed : {p q : Sight (Option Tree)} (a back : Shown) {d : Shown} (line : Option (List ℕ)) (spot : Spot) (way : UnderWay) (t : ℕ) (re : ArmReply) (next : Phase) (up : IsUp p a) → (parking : IsParking p a spot way t) → a.owes ≡ []
    → IsQuiet (arms a t) (Armed re) → leads a.context (phase_of a.context way) (Armed re) ≡ Some next → Called p q (carry_of a) (carry_of back) (arms a t) (Armed re) → back.frames ≡ a.frames
    → Reached (KeptBehind p a (event (fiber_of (carry_of a)) (arms a t) (Armed re))) back spot a.context next d → IsOn p q a d line line
on_armed {p} {q} a back line spot way t re next up parking free quiet led called frames reached =
    let f = fiber_of (carry_of a) in
    on_amid line spot a.context next (event f (arms a t) (Armed re) ∷ []) up (did_called p q (carry_of a) (carry_of back) (arms a t) (Armed re) quiet (record { holds = up.holds; fiber = up.fiber; owes = free }) called) frames refl
    (within_up spot way up parking.at).0 (arming_leads spot way t up parking re next led) reached

-- the body is back that was set ahead
module _ (a : Shown) {moved back : Shown} (there : Standing) (n : ℕ) (set : moved ≡ stood a there n) (left : n ≡ a.context.steps) (same : IsSameRest moved back) where
  frames_set : back.frames ≡ a.frames
  frames_set = same.frames ∙ ap (λ (z : Shown). z.frames) set

  context_set : back.context ≡ a.context
  context_set = same.context ∙ (ap (λ (z : Shown). z.context) set ∙ ap (λ (k : ℕ). record a.context { steps = k }) left)

  back_is : back ≡ record back { standing = there; context = a.context }
  back_is = ap (λ (st : Standing). record back { standing = st }) (same.standing ∙ ap (λ (z : Shown). z.standing) set) ∙ ap (λ (c : Context). record back { standing = there; context = c }) context_set

module _ {p q : Sight (Option Tree)} {a moved back : Shown} (line : Option (List ℕ)) (spot : Spot) (way : UnderWay) (t n : ℕ) (up : IsUp p a) (parking : IsParking p a spot way t) (free : a.owes ≡ [])
    (set : moved ≡ stood a (Within spot.block spot.place (behind_arming way t)) n) (left : n ≡ a.context.steps) (same : IsSameRest moved back) where
  -- the call was made with the body set ahead
  called_set : (re : ArmReply) → Called p q (carry_of moved) (carry_of back) (arms moved t) (Armed re) → Called p q (carry_of a) (carry_of back) (arms a t) (Armed re)
  called_set re called = subst (λ (z : Shown). Called p q (carry_of z) (carry_of back) (arms z t) (Armed re)) set called

  -- it owes nothing then
  pub free_back : (re : ArmReply) → IsQuiet (arms a t) (Armed re) → Called p q (carry_of moved) (carry_of back) (arms moved t) (Armed re) → back.owes ≡ []
  free_back re quiet called = (did_called p q (carry_of a) (carry_of back) (arms a t) (Armed re) quiet (record { holds = up.holds; fiber = up.fiber; owes = free }) (called_set re called)).free.owes

  -- since its trigger was signalled
  pub on_awake : Called p q (carry_of moved) (carry_of back) (arms moved t) (Armed arm.Signalled) → IsOn p q a back line line
  on_awake called =
      on_armed a back line spot way t arm.Signalled (phase_of a.context (behind_arming way t)) up parking free (record { brings = tt; on = refl; none = λ f. refl; within = refl }) parking.signalled (called_set arm.Signalled called) (frames_set a (Within spot.block spot.place (behind_arming way t)) n set left same)
      (stands (behind_arming way t) refl (parking.keeps (event (fiber_of (carry_of a)) (arms a t) (Armed arm.Signalled))) (back_is a (Within spot.block spot.place (behind_arming way t)) n set left same))

  -- or was another's
  pub on_taken : {d : Shown} (there : Standing) → Called p q (carry_of moved) (carry_of back) (arms moved t) (Armed arm.Taken) → there ≡ behind_at spot (Raised taken_already) → d ≡ stood back there n → IsOn p q a d line line
  on_taken there called there_is is =
      on_armed a back line spot way t arm.Taken parking.taken up parking free (record { brings = tt; on = refl; none = λ f. refl; within = refl }) parking.leads_taken (called_set arm.Taken called) (frames_set a (Within spot.block spot.place (behind_arming way t)) n set left same)
      (ends (Raised taken_already) a.context parking.raises
      (is ∙ (ap (λ (st : Standing). stood back st n) there_is ∙ (ap (λ (c : Context). record back { standing = behind_at spot (Raised taken_already); context = record c { steps = n } }) (context_set a (Within spot.block spot.place (behind_arming way t)) n set left same)
      ∙ ap (λ (m : ℕ). record back { standing = behind_at spot (Raised taken_already); context = record a.context { steps = m } }) left))))

-- who goes on at once has less to do
arming_lighter : (c : Context) (way : UnderWay) (t : ℕ) → IsArming c way → weight_of (behind_arming way t) < weight_of way
arming_lighter c (Awaits parts) t arms_so = omega arith
arming_lighter c (Follows r k parts) t arms_so = subst (λ (n : ℕ). 3 < cond (n == 9) 3 4) (sym arms_so) (omega arith)
arming_lighter c (Places n) t arms_so = absurd arms_so
arming_lighter c (Awake n) t arms_so = absurd arms_so
arming_lighter c (Attaches r k n place) t arms_so = absurd arms_so

pub awake_lighter : (a : Shown) {ready moved back : Shown} (spot : Spot) (way : UnderWay) (t n : ℕ) → IsLast a (Park spot way) → IsSameRest a ready → moved ≡ stood ready (Within spot.block spot.place (behind_arming way t)) n
    → n ≡ ready.context.steps → IsSameRest moved back → weight back < weight a
awake_lighter a {ready} {moved} {back} spot way t n last rest set left same =
    let standing : weight_at back.standing ≡ weight_of (behind_arming way t) = ap weight_at (same.standing ∙ ap (λ (z : Shown). z.standing) set) in
    let steps : back.context.steps ≡ a.context.steps = ap (λ (c : Context). c.steps) same.context ∙ (ap (λ (z : Shown). z.context.steps) set ∙ (left ∙ ap (λ (c : Context). c.steps) rest.context)) in
    let frames : length back.frames ≡ length a.frames = ap (λ (fs : List Frame). length fs) (same.frames ∙ (ap (λ (z : Shown). z.frames) set ∙ rest.frames)) in
    let was : weight_at a.standing ≡ weight_of way = ap weight_at last.0 in
    let less = arming_lighter a.context way t last.1 in
    omega (arith, standing, steps, frames, was, less)

-- the body as it is set ahead
pub set_ahead : {set : Shown} {there : Standing} {ahead : UnderWay} (a : Shown) (spot : Spot) (way : UnderWay) (t n : ℕ) → set ≡ stood a there n → there ≡ Within spot.block spot.place ahead → ahead ≡ behind_arming way t
    → set ≡ stood a (Within spot.block spot.place (behind_arming way t)) n
set_ahead a spot way t n is there_is ahead_is = is ∙ ap (λ (st : Standing). stood a st n) (there_is ∙ ap (λ (w : UnderWay). Within spot.block spot.place w) ahead_is)

-- what the port says where the fiber wasn't suspended
module _ (p q : Sight (Option Tree)) (moved back : Shown) (t : ℕ) where
  abbrev pub SetBack : ParkRefusal → Type 0
  SetBack refusal = NotParked refusal p q (carry_of moved) (carry_of back) (arms moved t) × IsSameRest moved back

  pub refused_so : {one : ParkRefusal} (other : ParkRefusal) → one ≡ other → SetBack one → SetBack other
  refused_so other same none = subst SetBack same none
