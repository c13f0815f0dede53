-- How much less a turn has still to do behind a stage of a statement.
use Rattle.std.proofs.Common.{◌≡◌, ℕ, ◌+◌, ◌*◌, ◌<◌, ◌≤◌, Bool, true, false, Option, Some, None, List, length, refl, ap, ◌∙◌, arith}
use Rattle.pic_machine.specs.declared.state.TrigState.{TrigState}
use Rattle.pic_machine.specs.declared.waits.Parts.{Parts}
use Rattle.pic_machine.specs.declared.state.TrigState.TheVariants.{Initial, Awaiting, Signalled}
use Rattle.fiber_body.specs.declared.standing.Exit.{Exit}
use Rattle.fiber_body.specs.declared.standing.Exit.TheVariants.{Next}
use Rattle.fiber_body.specs.declared.standing.Frame.{Frame}
use Rattle.fiber_body.specs.declared.standing.Standing.{Standing}
use Rattle.fiber_body.specs.declared.standing.Standing.TheVariants.{Within}
use Rattle.fiber_body.specs.declared.under_way.UnderWay.TheVariants.{Awaits}
use Rattle.fiber_body.specs.Context.{Context}
use Rattle.fiber_body.specs.Shown.{IsSameRest, Shown, stood}
use Rattle.fiber_poll.specs.declared.spot.Spot.{Spot}
use Rattle.fiber_poll.specs.Moving.{behind_at, first_of_wait, placed_for_attachment, placed_for_wait, seen_by_wait, weight, weight_at, weight_of}

pub lighter_by : (a b : Shown) {d : Shown} (there : Standing) (e : Context) → b.frames ≡ a.frames → d ≡ record b { standing = there; context = e }
    → weight_at there + 5 * e.steps < weight_at a.standing + 5 * a.context.steps → weight d < weight a
lighter_by a b there e frames is less =
    let so = ap weight is in
    let same = ap (λ (fs : List Frame). length fs) frames in
    omega (arith, so, same, less)

pub behind_light : (spot : Spot) (x : Exit) → weight_at (behind_at spot x) ≤ 2
behind_light spot Next = omega arith
behind_light spot x = omega arith

first_light : (permitted : Bool) (t : ℕ) → weight_of (first_of_wait permitted t) ≤ 5
first_light true t = omega arith
first_light false t = omega arith

pub seen_light : (spot : Spot) (permitted : Bool) (t : ℕ) (state : TrigState) → weight_at (seen_by_wait spot permitted t state) ≤ 5
seen_light spot permitted t Initial = first_light permitted t
seen_light spot permitted t Signalled = omega arith
seen_light spot permitted t (Awaiting action) = omega arith

pub placed_light : (spot : Spot) (t : ℕ) (place : Option ℕ) → weight_at (placed_for_wait spot t place) ≤ 4
placed_light spot t (Some n) = omega arith
placed_light spot t None = omega arith

pub placed_there_light : (spot : Spot) (r k t : ℕ) (place : Option ℕ) → weight_at (placed_for_attachment spot r k t place) ≤ 3
placed_there_light spot r k t (Some n) = omega arith
placed_there_light spot r k t None = omega arith

-- a wait whose trigger is to be armed has as much to do as before its attachment
pub ready_no_heavier : (a b : Shown) {d : Shown} (spot : Spot) (parts later : Parts) (there : Standing) (steps : ℕ) → a.standing ≡ Within spot.block spot.place (Awaits parts) → IsSameRest a b
    → there ≡ Within spot.block spot.place (Awaits later) → steps ≡ b.context.steps → d ≡ stood b there steps → weight d ≤ weight a
ready_no_heavier a b {d} spot parts later there steps at same there_is left is =
    let was : weight_at a.standing ≡ 4 = ap weight_at at in
    let now : weight_at d.standing ≡ 4 = ap (λ (z : Shown). weight_at z.standing) is ∙ ap weight_at there_is in
    let frames : length d.frames ≡ length a.frames = ap (λ (z : Shown). length z.frames) is ∙ ap (λ (fs : List Frame). length fs) same.frames in
    let left_are : d.context.steps ≡ a.context.steps = ap (λ (z : Shown). z.context.steps) is ∙ (left ∙ ap (λ (c : Context). c.steps) same.context) in
    omega (arith, was, now, frames, left_are)

-- what is left to do is of the rest of a body
pub same_weight : (a b : Shown) → IsSameRest a b → weight b ≡ weight a
same_weight a b same = rw (same.standing, same.context, same.frames) refl
