-- Waits for computations: where a call that goes as far as it can leaves the body.
use Rattle.std.proofs.Common.{◌≡◌, ℕ, ◌-◌, ◌<◌, ◌≤◌, ◌==◌, cond, Bool, true, false, Option, Some, List, [], ◌++◌, length, Result, refl, sym, ap, subst, ◌∙◌, append-nil, arith}
use Rattle.std.proofs.lemmas.Bool.Decides.{nat_tests}
use Rattle.std.specs.Prelude.{IfErr, IfOk, OnOk, Ok, Err}
use Rattle.pic_machine.specs.declared.port.PortFault.{PortFault}
use Rattle.pic_machine.specs.declared.port.PortFault.TheVariants.{Full, Again, Memory}
use Rattle.pic_machine.specs.Lending.{Calm, Faulted}
use Rattle.pic_base.specs.declared.outcome.Outcome.TheVariants as outcome
use Rattle.pic_machine.specs.declared.waits.Parts.{Parts}
use Rattle.pic_machine.specs.declared.waits.Standing.{Standing as Under}
use Rattle.pic_machine.specs.Following.{Following, IsFollowing, finished, following, following_at, peeking, refused}
use Rattle.pic_machine.specs.Happened.{Happened}
use Rattle.pic_machine.specs.Log.{log, own}
use Rattle.pic_machine.specs.Sight.{Carry, Sight, fiber_of}
use Rattle.pic_machine.proofs.Turns.{went_none}
use Rattle.fiber_await.specs.Doing.{RanTelling}
use Rattle.fiber_await.specs.Phases.{FollowGaveUp, followed_at}
use Rattle.fiber_await.specs.declared.ahead.CompAhead.TheVariants as ahead
use Rattle.fiber_await.specs.declared.ahead.CompAhead.{CompAhead}
use Rattle.fiber_await.proofs.Running.{telling_own}
use Rattle.script_tree.specs.declared.program.CompRef.{CompRef}
use Rattle.script_tree.specs.declared.program.Stmt.TheVariants as stmt
use Rattle.script_tree.specs.Tree.{Tree}
use Rattle.fiber_body.specs.declared.standing.Exit.{Exit}
use Rattle.fiber_body.specs.declared.standing.Exit.TheVariants.{Next, Raised}
use Rattle.fiber_body.specs.declared.standing.Frame.{Frame}
use Rattle.fiber_body.specs.declared.standing.Standing.{Standing}
use Rattle.fiber_body.specs.declared.standing.Standing.TheVariants.{Within}
use Rattle.fiber_body.specs.declared.under_way.UnderWay.{UnderWay}
use Rattle.fiber_body.specs.declared.under_way.UnderWay.TheVariants.{Follows}
use Rattle.fiber_body.specs.Context.{Context, comp_in, limit_met, numbering, stepped, under, with_register}
use Rattle.fiber_body.specs.Owns.{OwnsFollowing, OwnsParts}
use Rattle.fiber_body.specs.Phases.{awaits_comp}
use Rattle.fiber_body.specs.Shown.{IsSameRest, Shown, carry_of, stood}
use Rattle.fiber_body.specs.Statements.{named}
use Rattle.fiber_body.specs.Tables.{ends_by, settles}
use Rattle.fiber_body.specs.Texts.{script_in}
use Rattle.fiber_poll.specs.declared.spot.Last.{Last}
use Rattle.fiber_poll.specs.declared.spot.Spot.{Spot}
use Rattle.fiber_poll.specs.Moving.{IsBefore, behind_at, unmade, weight, weight_at}
use Rattle.fiber_poll.specs.UnderWay.{HasGivenUp, IsArrived, IsOn, IsStep, IsUp, triggers_left, weight_in}
use Rattle.fiber_poll.proofs.Amid.{LeadsAmid, Reached, amid_begun, amid_follows, amid_standing, ends, on_amid_went, stands}
use Rattle.fiber_poll.proofs.Going.{same_number}
use Rattle.fiber_poll.proofs.Lighter.{behind_light, lighter_by}
use Rattle.fiber_poll.proofs.Remaking.{none_more, rearms}
use Rattle.fiber_poll.proofs.Stages.{stands_there, within_up}

-- ---- it begins

pub on_wait_begun : {p : Sight (Option Tree)} (a : Shown) {d : Shown} (line : Option (List ℕ)) (spot : Spot) (r : ℕ) (comp : CompRef) (k : ℕ) → IsUp p a → IsBefore a spot (stmt.Wait r comp) → comp_in (numbering (script_in a.program).decls).comps comp ≡ Some k
    → OwnsFollowing (script_in a.program) (fiber_of (carry_of a)) (own (log p.front (fiber_of (carry_of a)))) r k unmade → d ≡ stood a (Within spot.block spot.place (Follows r k unmade)) (a.context.steps - 1) → IsOn p p a d line line
on_wait_begun {p} a {d} line spot r comp k up before number owned is =
    let f = fiber_of (carry_of a) in
    let mine = own (log p.front f) in
    let c : Context = stepped a.context in
    let same = append-nil mine in
    on_amid_went {b = a} spot c (awaits_comp r k peeking) [] up (went_none p (carry_of a) line up.holds) refl refl (sym same) refl before.here.within
    (subst (λ (zs : List Happened). LeadsAmid a f spot zs (awaits_comp r k peeking) c) (sym same)
    (amid_begun a f spot mine (stmt.Wait r comp) (awaits_comp r k peeking) before tt (ap (λ (o : Option ℕ). named o (stmt.Wait r comp) (λ n. awaits_comp r n peeking)) number) up.leads))
    (stands (Follows r k unmade) refl (subst (λ (zs : List Happened). OwnsFollowing (script_in a.program) f zs r k unmade) (sym same) owned) is)

-- ---- it goes on

-- the routine went to this phase
abbrev pub RanTo : Sight (Option Tree) → Sight (Option Tree) → Shown → Shown → Option (List ℕ) → Option (List ℕ) → ℕ → Parts → Following → Type 0
RanTo p q a b before now k parts y =
    RanTelling (following (under a.context) (fiber_of (carry_of a)) k) p q (carry_of a) (carry_of b) before now (following_at (under a.context) parts.at parts) y

module _ {p q : Sight (Option Tree)} {before now : Option (List ℕ)} (a b : Shown) (spot : Spot) (r k : ℕ) (parts : Parts) where
  module _ (up : IsUp p a) (at : a.standing ≡ Within spot.block spot.place (Follows r k parts)) (same : IsSameRest a b) where
    followed : {d : Shown} (y : Following) (ran : RanTo p q a b before now k parts y) → Reached (OwnsParts (script_in a.program) (fiber_of (carry_of a)) (own (log p.front (fiber_of (carry_of a))) ++ ran.went.going)) b spot a.context (awaits_comp r k y) d → IsOn p q a d before now
    followed y ran reached =
        let mine = own (log p.front (fiber_of (carry_of a))) in
        on_amid_went spot a.context (awaits_comp r k y) ran.went.going up ran.went ran.birth ran.share (telling_own (following (under a.context) (fiber_of (carry_of a)) k) p q (carry_of a) (carry_of b) before now (following_at (under a.context) parts.at parts) y ran) same.frames
        (within_up spot (Follows r k parts) up at).0 (amid_follows a (fiber_of (carry_of a)) spot a.context r k mine ran.goes (amid_standing a (fiber_of (carry_of a)) spot mine (Follows r k parts) at up.leads)) reached

    -- up to where these parts say
    pub on_still : {d : Shown} (later : Parts) (there : Standing) (steps : ℕ) → RanTo p q a b before now k parts (following_at (under a.context) later.at later) → IsFollowing (fiber_of (carry_of b)) (own (log q.front (fiber_of (carry_of b)))) later
        → there ≡ Within spot.block spot.place (Follows r k later) → steps ≡ b.context.steps → d ≡ stood b there steps → IsOn p q a d before now
    on_still later there steps ran on there_is left is =
        let y = following_at (under a.context) later.at later in
        let kept = (within_up spot (Follows r k parts) up at).1 in
        let mine = telling_own (following (under a.context) (fiber_of (carry_of a)) k) p q (carry_of a) (carry_of b) before now (following_at (under a.context) parts.at parts) y ran in
        followed y ran
        (stands (Follows r k later) refl
        (record {
          register = kept.register;
          comp = kept.comp;
          on = subst (λ (zs : List Happened). IsFollowing (fiber_of (carry_of a)) zs later) mine (subst (λ (n : ℕ). IsFollowing n (own (log q.front n)) later) (same_number a b ran.went.number) on);
        })
        (stands_there same there_is left is))

    -- up to an exit
    pub on_over : {d : Shown} (y : Following) (x : Exit) (there : Standing) (steps : ℕ) → RanTo p q a b before now k parts y → settles a.context (awaits_comp r k y) ≡ Some (ends_by x a.context)
        → there ≡ behind_at spot x → steps ≡ b.context.steps → d ≡ stood b there steps → IsOn p q a d before now
    on_over y x there steps ran row there_is left is = followed y ran (ends x a.context row (stands_there same there_is left is))

    -- up to its end, with the value
    pub on_value : {d : Shown} (v : ℕ) (e : Shown) (there : Standing) (steps : ℕ) → RanTo p q a b before now k parts (finished (outcome.Returned v)) → e ≡ record b { context = with_register b.context r v }
        → there ≡ behind_at spot Next → steps ≡ b.context.steps → d ≡ stood e there steps → IsOn p q a d before now
    on_value {d} v e there steps ran set there_is left is =
        let there_so : d ≡ record b { standing = behind_at spot Next; context = with_register a.context r v } =
        is ∙ (ap (λ (st : Standing). stood e st steps) there_is ∙ (ap (λ (m : ℕ). stood e (behind_at spot Next) m) left
        ∙ (ap (λ (z : Shown). stood z (behind_at spot Next) b.context.steps) set ∙ ap (λ (x : Context). record b { standing = behind_at spot Next; context = with_register x r v }) same.context))) in
        followed (finished (outcome.Returned v)) ran (ends Next (with_register a.context r v) refl there_so)

-- the same, of what the fiber waits under, where the call answered so
pub ran_known : {p q : Sight (Option Tree)} {a b : Carry (Option Tree)} {before now : Option (List ℕ)} {f k : ℕ} (u v : Under) (parts later : Parts) {result : Result CompAhead PortFault} (known : Result CompAhead PortFault) → result ≡ known → u ≡ v
    → RanTelling (following u f k) p q a b before now (following_at u parts.at parts) (followed_at u result later) → RanTelling (following v f k) p q a b before now (following_at v parts.at parts) (followed_at v known later)
ran_known {p} {q} {a} {b} {before} {now} {f} {k} u v parts later known same under_same ran =
    subst (λ (w : Under). RanTelling (following w f k) p q a b before now (following_at w parts.at parts) (followed_at w known later)) under_same
    (subst (λ (r : Result CompAhead PortFault). RanTelling (following u f k) p q a b before now (following_at u parts.at parts) (followed_at u r later)) same ran)

-- ---- what is left to do

heavy_by : (nine : Bool) → 3 ≤ cond nine 3 4
heavy_by true = omega arith
heavy_by false = omega arith

pub over_lighter : (a b e : Shown) {d : Shown} (spot : Spot) (r k : ℕ) (parts : Parts) (x : Exit) (there : Standing) (steps : ℕ) → a.standing ≡ Within spot.block spot.place (Follows r k parts) → IsSameRest a b → e.frames ≡ b.frames
    → there ≡ behind_at spot x → steps ≡ b.context.steps → d ≡ stood e there steps → weight d < weight a
over_lighter a b e {d} spot r k parts x there steps at same frames there_is left is =
    let was : weight_at a.standing ≡ cond (parts.at == 9) 3 4 = ap weight_at at in
    let now : weight_at there ≡ weight_at (behind_at spot x) = ap weight_at there_is in
    let light = behind_light spot x in
    let steps_are : steps ≡ a.context.steps = left ∙ ap (λ (c : Context). c.steps) same.context in
    lighter_by a e there (record e.context { steps = steps }) (frames ∙ same.frames) is (let least = heavy_by (parts.at == 9) in omega (arith, was, now, light, steps_are, least))

-- one that is to arm again has made a trigger for it
pub parked_no_heavier : (p q : Sight (Option Tree)) {before now : Option (List ℕ)} (a b : Shown) {d : Shown} (spot : Spot) (r k : ℕ) (parts later : Parts) (there : Standing) (steps : ℕ) → a.standing ≡ Within spot.block spot.place (Follows r k parts) → IsSameRest a b
    → RanTo p q a b before now k parts (following_at (under a.context) later.at later) → later.at ≡ 7 → there ≡ Within spot.block spot.place (Follows r k later) → steps ≡ b.context.steps → d ≡ stood b there steps → weight_in q d ≤ weight_in p a
parked_no_heavier p q a b {d} spot r k parts later there steps at same ran seven there_is left is = by (parts.at == 9) refl where
  was : weight_at a.standing ≡ cond (parts.at == 9) 3 4
  was = ap weight_at at

  now : weight_at d.standing ≡ 4
  now = ap (λ (z : Shown). weight_at z.standing) is ∙ (ap weight_at there_is ∙ ap (λ (n : ℕ). cond (n == 9) 3 4) seven)

  frames : length d.frames ≡ length a.frames
  frames = ap (λ (z : Shown). length z.frames) is ∙ ap (λ (fs : List Frame). length fs) same.frames

  left_are : d.context.steps ≡ a.context.steps
  left_are = ap (λ (z : Shown). z.context.steps) is ∙ (left ∙ ap (λ (c : Context). c.steps) same.context)

  few : triggers_left q ≤ triggers_left p
  few = none_more p q ran.went.grew.more ran.went.grew.later

  by : (nine : Bool) → (parts.at == 9) ≡ nine → weight_in q d ≤ weight_in p a
  by true nine =
      let three : ◌≡◌ {A = ℕ} (cond (parts.at == 9) 3 4) 3 = ap (λ (b : Bool). cond b 3 4) nine in
      let less = rearms (carry_of a) (carry_of b) (under a.context) k parts later ran (grind (arith, nat_tests, nine)) seven in
      omega (arith, was, now, frames, left_are, three, less)
  by false other =
      let four : ◌≡◌ {A = ℕ} (cond (parts.at == 9) 3 4) 4 = ap (λ (b : Bool). cond b 3 4) other in
      omega (arith, was, now, frames, left_are, four, few)

-- ---- where the body stands then

-- the routine went as the call answered
abbrev pub RanSo : Sight (Option Tree) → Sight (Option Tree) → Shown → Shown → Option (List ℕ) → Option (List ℕ) → ℕ → Parts → Parts → Result CompAhead PortFault → Type 0
RanSo p q a b before now k parts later result = RanTo p q a b before now k parts (followed_at (under a.context) result later)

pub ran_so : {p q : Sight (Option Tree)} (a b : Shown) {before now : Option (List ℕ)} (k : ℕ) (u : Under) (parts later : Parts) {result : Result CompAhead PortFault} (known : Result CompAhead PortFault) → u ≡ under a.context → result ≡ known
    → RanTelling (following u (fiber_of (carry_of a)) k) p q (carry_of a) (carry_of b) before now (following_at u parts.at parts) (followed_at u result later) → RanSo p q a b before now k parts later known
ran_so a b k u parts later known same answered ran = ran_known u (under a.context) parts later known answered same ran

-- what may be gone on with behind the call
abbrev pub MayFollow : Sight (Option Tree) → Shown → Parts → Type 0
MayFollow q b later = IsFollowing (fiber_of (carry_of b)) (own (log q.front (fiber_of (carry_of b)))) later

module _ (p q : Sight (Option Tree)) (before now : Option (List ℕ)) (a b d : Shown) (spot : Spot) (r k : ℕ) (parts later : Parts) (up : IsUp p a) (at : a.standing ≡ Within spot.block spot.place (Follows r k parts)) (same : IsSameRest a b) where
  pub on_arrived : (where_to : CompAhead) (last : Option Last) → RanSo p q a b before now k parts later (Ok where_to) → (where_to ≡ ahead.Park → MayFollow q b later) → IsArrived b d spot r (Follows r k later) where_to last → IsOn p q a d before now
  on_arrived ahead.Park last ran may there = on_still a b spot r k parts up at same later (Within spot.block spot.place (Follows r k later)) b.context.steps ran (may refl) refl refl there.1
  on_arrived (ahead.Done (outcome.Returned v)) last ran may there =
      on_value a b spot r k parts up at same v (record b { context = with_register b.context r v }) (behind_at spot Next) b.context.steps ran refl refl refl there.1
  on_arrived (ahead.Done (outcome.Cancelled code)) last ran may there =
      on_over a b spot r k parts up at same (finished (outcome.Cancelled code)) (Raised code) (behind_at spot (Raised code)) b.context.steps ran refl refl refl there.1
  on_arrived (ahead.Cancelled code) last ran may there =
      on_over a b spot r k parts up at same (refused code) (Raised code) (behind_at spot (Raised code)) b.context.steps ran refl refl refl there.1

  pub arrived_step : (where_to : CompAhead) (last : Option Last) → RanSo p q a b before now k parts later (Ok where_to) → (where_to ≡ ahead.Park → later.at ≡ 7) → IsArrived b d spot r (Follows r k later) where_to last → IsStep p q a d last
  arrived_step ahead.Park last ran seven there =
      subst (IsStep p q a d) (sym there.0) (
        (ap (λ (z : Shown). z.standing) there.1, seven refl),
        parked_no_heavier p q a b spot r k parts later (Within spot.block spot.place (Follows r k later)) b.context.steps at same ran (seven refl) refl refl there.1,
      )
  arrived_step (ahead.Done (outcome.Returned v)) last ran seven there =
      subst (IsStep p q a d) (sym there.0) (over_lighter a b (record b { context = with_register b.context r v }) spot r k parts Next (behind_at spot Next) b.context.steps at same refl refl refl there.1)
  arrived_step (ahead.Done (outcome.Cancelled code)) last ran seven there =
      subst (IsStep p q a d) (sym there.0) (over_lighter a b b spot r k parts (Raised code) (behind_at spot (Raised code)) b.context.steps at same refl refl refl there.1)
  arrived_step (ahead.Cancelled code) last ran seven there =
      subst (IsStep p q a d) (sym there.0) (over_lighter a b b spot r k parts (Raised code) (behind_at spot (Raised code)) b.context.steps at same refl refl refl there.1)

  -- where it gave up
  pub on_given_up : (fault : PortFault) (answer : Result (Option Last) PortFault) → RanSo p q a b before now k parts later (Err fault) → FollowGaveUp fault p q later (MayFollow q b later) → HasGivenUp b d spot (Follows r k later) fault answer → IsOn p q a d before now
  on_given_up Full answer ran why there =
      on_over a b spot r k parts up at same (following_at (under a.context) later.at later) (Raised limit_met) (behind_at spot (Raised limit_met)) b.context.steps ran
      (ap (λ (n : ℕ). settles a.context (awaits_comp r k (following_at (under a.context) n later))) why.0) refl refl there.1
  on_given_up Again answer ran why there = on_still a b spot r k parts up at same later (Within spot.block spot.place (Follows r k later)) b.context.steps ran why.1 refl refl there.1
  on_given_up Memory answer ran why there = on_still a b spot r k parts up at same later (Within spot.block spot.place (Follows r k later)) b.context.steps ran why.1 refl refl there.1

  pub given_up_step : (fault : PortFault) (answer : Result (Option Last) PortFault) → HasGivenUp b d spot (Follows r k later) fault answer → IfOk answer (λ last. IsStep p q a d last)
  given_up_step Full answer there =
      subst (λ (x : Result (Option Last) PortFault). IfOk x (λ last. IsStep p q a d last)) (sym there.0)
      (over_lighter a b b spot r k parts (Raised limit_met) (behind_at spot (Raised limit_met)) b.context.steps at same refl refl refl there.1)
  given_up_step Again answer there = subst (λ (x : Result (Option Last) PortFault). IfOk x (λ last. IsStep p q a d last)) (sym there.0) tt
  given_up_step Memory answer there = subst (λ (x : Result (Option Last) PortFault). IfOk x (λ last. IsStep p q a d last)) (sym there.0) tt

-- it owes nothing then
pub arrived_owes : (b d : Shown) (spot : Spot) (r : ℕ) (way : UnderWay) (where_to : CompAhead) (last : Option Last) → IsArrived b d spot r way where_to last → d.owes ≡ b.owes
arrived_owes b d spot r way ahead.Park last there = ap (λ (z : Shown). z.owes) there.1
arrived_owes b d spot r way (ahead.Done (outcome.Returned v)) last there = ap (λ (z : Shown). z.owes) there.1
arrived_owes b d spot r way (ahead.Done (outcome.Cancelled code)) last there = ap (λ (z : Shown). z.owes) there.1
arrived_owes b d spot r way (ahead.Cancelled code) last there = ap (λ (z : Shown). z.owes) there.1

pub given_up_owes : (b d : Shown) (spot : Spot) (way : UnderWay) (fault : PortFault) (answer : Result (Option Last) PortFault) → HasGivenUp b d spot way fault answer → d.owes ≡ b.owes
given_up_owes b d spot way Full answer there = ap (λ (z : Shown). z.owes) there.1
given_up_owes b d spot way Again answer there = ap (λ (z : Shown). z.owes) there.1
given_up_owes b d spot way Memory answer there = ap (λ (z : Shown). z.owes) there.1

pub given_up_free : (answer : Result (Option Last) PortFault) (P : Type 0) → P → OnOk answer P
given_up_free (Ok last) P is = is
given_up_free (Err fault) P is = tt

-- why it gave up
module _ (p q : Sight (Option Tree)) (b d : Shown) (spot : Spot) (way : UnderWay) (later : Parts) (On : Type 0) where
  pub given_up_calm : (fault : PortFault) (answer : Result (Option Last) PortFault) → FollowGaveUp fault p q later On → HasGivenUp b d spot way fault answer → OnOk answer (Calm p q)
  given_up_calm Full answer why there = subst (λ (x : Result (Option Last) PortFault). OnOk x (Calm p q)) (sym there.0) why.1
  given_up_calm Again answer why there = subst (λ (x : Result (Option Last) PortFault). OnOk x (Calm p q)) (sym there.0) tt
  given_up_calm Memory answer why there = subst (λ (x : Result (Option Last) PortFault). OnOk x (Calm p q)) (sym there.0) tt

  pub given_up_why : (fault : PortFault) (answer : Result (Option Last) PortFault) → FollowGaveUp fault p q later On → HasGivenUp b d spot way fault answer → IfErr answer (λ f. Faulted f p q)
  given_up_why Full answer why there = subst (λ (x : Result (Option Last) PortFault). IfErr x (λ f. Faulted f p q)) (sym there.0) tt
  given_up_why Again answer why there = subst (λ (x : Result (Option Last) PortFault). IfErr x (λ f. Faulted f p q)) (sym there.0) why.0
  given_up_why Memory answer why there = subst (λ (x : Result (Option Last) PortFault). IfErr x (λ f. Faulted f p q)) (sym there.0) why.0
