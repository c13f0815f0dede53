-- What stands at its level: statements that are lines, and what is open, when it ends.
use Rattle.std.proofs.Common.{◌≡◌, ℕ, ◌+◌, ◌≤◌, true, false, ◌&&◌, nat_le, List, arith, refl, subst}
use Rattle.std.specs.List.{AllByRecursion}
use Rattle.std.proofs.lemmas.Bool.{false≢true, leb-false, or_parts}
use Rattle.script_tree.specs.declared.form.BasicForm.{BasicForm}
use Rattle.script_tree.specs.declared.form.BasicForm.TheVariants as basic_form
use Rattle.script_tree.specs.declared.form.CompForm.{CompForm}
use Rattle.script_tree.specs.declared.form.CompForm.TheVariants as comp_form
use Rattle.script_tree.specs.declared.form.ObjectForm.{ObjectForm}
use Rattle.script_tree.specs.declared.form.ObjectForm.TheVariants as object_form
use Rattle.script_tree.specs.declared.form.FiberForm.{FiberForm}
use Rattle.script_tree.specs.declared.form.FiberForm.TheVariants as fiber_form
use Rattle.script_tree.specs.declared.form.EventForm.{EventForm}
use Rattle.script_tree.specs.declared.form.EventForm.TheVariants as event_form
use Rattle.script_tree.specs.declared.form.GroupForm.TheVariants as group_form
use Rattle.script_tree.specs.declared.level.Level.{Level}
use Rattle.script_tree.specs.declared.opener.Opener.{Opener}
use Rattle.script_tree.specs.declared.opener.Opener.TheVariants as opener
use Rattle.script_tree.specs.declared.program.EventTree.{EventTree}
use Rattle.script_tree.specs.declared.program.Stmt.{Stmt}
use Rattle.script_tree.specs.Levels.{Levels, IsAt, IsShallow, AreEventsAt, StmtStands, EventStands}
use Rattle.script_tree.specs.Lines.{basic_form_made, comp_form_made, object_form_made, fiber_form_made, event_form_made}
use Rattle.script_tree.specs.Parts.{Part}
use Rattle.script_tree.specs.Reading.{State, outermost, inside, is_deep, is_bundle, bundle_count, holds_statements}
use Rattle.script_tree.proofs.Moves.{is_break, IsStated, basic, on_comps, on_objects, on_fibers, opens_block, IsBlock, a_block, IsSelect, a_select, IsGroup, a_group, Becomes, a_then, an_else, a_handler, Groups, a_choose, Ends, a_text, the_main}

-- ---- statements that are lines

basic_stands : (levels : Levels) (level : Level) (f : BasicForm) (parts : List Part) → (is_break (basic_form_made f parts) ≡ true → level.breaks ≡ true)
    → StmtStands levels level (basic_form_made f parts)
basic_stands levels level basic_form.Set parts h = tt
basic_stands levels level basic_form.Break parts h = h refl
basic_stands levels level _ parts h = tt

comp_stands : (levels : Levels) (level : Level) (f : CompForm) (parts : List Part) → StmtStands levels level (comp_form_made f parts)
comp_stands levels level comp_form.Signal parts = tt
comp_stands levels level _ parts = tt

object_stands : (levels : Levels) (level : Level) (f : ObjectForm) (parts : List Part) → StmtStands levels level (object_form_made f parts)
object_stands levels level object_form.Lock parts = tt
object_stands levels level _ parts = tt

fiber_stands : (levels : Levels) (level : Level) (f : FiberForm) (parts : List Part) → StmtStands levels level (fiber_form_made f parts)
fiber_stands levels level fiber_form.Spawn parts = tt
fiber_stands levels level _ parts = tt

-- a statement that is a line of its own
pub stated_stands : (s : State) (levels : Levels) (level : Level) (x : Stmt) → IsStated s x → (is_break x ≡ true → level.breaks ≡ true) → StmtStands levels level x
stated_stands s levels level x (basic f parts p) h = basic_stands levels level f parts h
stated_stands s levels level x (on_comps f parts p) h = comp_stands levels level f parts
stated_stands s levels level x (on_objects f parts p) h = object_stands levels level f parts
stated_stands s levels level x (on_fibers f parts p) h = fiber_stands levels level f parts

-- an event alone
pub leaf_stands : (levels : Levels) (level : Level) (f : EventForm) (parts : List Part) → EventStands levels level (event_form_made f parts)
leaf_stands levels level event_form.Ivar parts = tt
leaf_stands levels level _ parts = tt

-- ---- what is open

-- something open in something of the level `around` has its own level, and its blocks have theirs
abbrev pub OpenStands : Levels → Level → Opener → Level → ℕ → Type 0
OpenStands levels around opener.Head level place = Unit {0}
OpenStands levels around opener.Between level place = Unit {0}
OpenStands levels around opener.Over level place = Unit {0}
OpenStands levels around opener.Text level place = (level ≡ outermost) × IsAt levels.blocks level place
OpenStands levels around opener.Main level place = (level ≡ outermost) × IsAt levels.blocks level place
OpenStands levels around (opener.Otherwise l t r then_place) level place =
    (level ≡ inside around (opener.Then l t r)) × IsAt levels.blocks level place × IsAt levels.blocks level then_place
OpenStands levels around (opener.Catch body register) level place =
    (level ≡ inside around opener.Try) × IsAt levels.blocks level place × IsAt levels.blocks level body
OpenStands levels around (opener.Select n v) level place = level ≡ inside around (opener.Select n v)
OpenStands levels around opener.Choose level place = (level ≡ inside around opener.Choose) × IsAt levels.events around place
OpenStands levels around (opener.Wrap o) level place = (level ≡ inside around (opener.Wrap o)) × IsAt levels.events around place
OpenStands levels around (opener.Guard l t r) level place = (level ≡ inside around (opener.Guard l t r)) × IsAt levels.events around place
OpenStands levels around o level place = (level ≡ inside around o) × IsAt levels.blocks level place

-- the block of what holds statements
pub own_block : (levels : Levels) (around level : Level) (o : Opener) (place : ℕ) → holds_statements o ≡ true → OpenStands levels around o level place
    → IsAt levels.blocks level place
own_block levels around level opener.Head place h f = absurd (false≢true h)
own_block levels around level opener.Between place h f = absurd (false≢true h)
own_block levels around level opener.Over place h f = absurd (false≢true h)
own_block levels around level (opener.Select n v) place h f = absurd (false≢true h)
own_block levels around level opener.Choose place h f = absurd (false≢true h)
own_block levels around level (opener.Wrap o) place h f = absurd (false≢true h)
own_block levels around level (opener.Guard l t r) place h f = absurd (false≢true h)
own_block levels around level _ place h f = f.1

opened_stands : (levels : Levels) (around : Level) (o : Opener) (place : ℕ) → opens_block o ≡ true → IsAt levels.blocks (inside around o) place
    → OpenStands levels around o (inside around o) place
opened_stands levels around (opener.Then l t r) place h at = (refl, at)
opened_stands levels around opener.Loop place h at = (refl, at)
opened_stands levels around opener.Try place h at = (refl, at)
opened_stands levels around opener.Forbid place h at = (refl, at)
opened_stands levels around opener.Permit place h at = (refl, at)
opened_stands levels around (opener.Under c) place h at = (refl, at)
opened_stands levels around (opener.Link a b) place h at = (refl, at)
opened_stands levels around (opener.Protect m) place h at = (refl, at)
opened_stands levels around opener.Bundle place h at = (refl, at)
opened_stands levels around opener.Flock place h at = (refl, at)
opened_stands levels around _ place h at = absurd (false≢true h)

pub block_open : (s : State) (levels : Levels) (around : Level) (o : Opener) (place : ℕ) → IsBlock s o → IsAt levels.blocks (inside around o) place
    → OpenStands levels around o (inside around o) place
block_open s levels around o place (a_block f parts p is) at = opened_stands levels around o place is at

pub select_open : (s : State) (levels : Levels) (around : Level) (o : Opener) (place : ℕ) → IsSelect s o → OpenStands levels around o (inside around o) place
select_open s levels around o place (a_select n v f parts p is) = refl

pub group_open : (s : State) (levels : Levels) (around : Level) (o : Opener) (place : ℕ) → IsGroup s o → IsAt levels.events around place
    → OpenStands levels around o (inside around o) place
group_open s levels around o place (a_group group_form.Choose parts p) at = (refl, at)
group_open s levels around o place _ at = (refl, at)

pub group_level : (s : State) (level : Level) (o : Opener) → IsGroup s o → inside level o ≡ inside level opener.Choose
group_level s level o (a_group group_form.Choose parts p) = refl
group_level s level o _ = refl

pub behind_open : (levels : Levels) (around level : Level) (o behind : Opener) (place : ℕ) → Ends o behind → OpenStands levels around behind level place
behind_open levels around level o behind place a_text = tt
behind_open levels around level o behind place the_main = tt

-- ---- ends

pub becomes_stands : (levels : Levels) (around level : Level) (place : ℕ) (o : Opener) (x : Stmt) → Becomes place o x
    → OpenStands levels around o level place → StmtStands levels around x
becomes_stands levels around level place o x a_then f = (subst (λ k. IsAt levels.blocks k place) f.0 f.1, tt)
becomes_stands levels around level place o x (an_else {then_place = first}) f =
    (subst (λ k. IsAt levels.blocks k first) f.0 f.2, subst (λ k. IsAt levels.blocks k place) f.0 f.1)
becomes_stands levels around level place o x (a_handler {body = first}) f =
    (subst (λ k. IsAt levels.blocks k first) f.0 f.2, subst (λ k. IsAt levels.blocks k place) f.0 f.1)
becomes_stands levels around level place o x _ f = subst (λ k. IsAt levels.blocks k place) f.0 f.1

-- events in something of the level that is that of what ends
pub events_at : (levels : Levels) (level inner : Level) (members : List ℕ) → level ≡ inner → IsShallow level
    → AllByRecursion (IsAt levels.events level) members → AreEventsAt levels inner members
events_at levels level inner members e shallow all = subst (λ k. AreEventsAt levels k members) e (shallow, all)

pub groups_stand : (levels : Levels) (around level : Level) (place : ℕ) (members : List ℕ) (o : Opener) (e : EventTree) → Groups members o e
    → OpenStands levels around o level place → IsShallow level → AllByRecursion (IsAt levels.events level) members → EventStands levels around e
groups_stand levels around level place members o e a_choose f shallow all = events_at levels level _ members f.0 shallow all
groups_stand levels around level place members o e _ f shallow all = events_at levels level _ members f.0 shallow all

-- the place of a group of events
pub own_event : (levels : Levels) (around level : Level) (place : ℕ) (members : List ℕ) (o : Opener) (e : EventTree) → Groups members o e
    → OpenStands levels around o level place → IsAt levels.events around place
own_event levels around level place members o e a_choose f = f.1
own_event levels around level place members o e _ f = f.1

-- ---- one block more

bundles_few : (level : Level) (o : Opener) → (is_bundle o && nat_le 8 level.bundles) ≡ false → level.bundles ≤ 8 → level.bundles + bundle_count o ≤ 8
bundles_few level opener.Bundle h few = let l = leb-false 8 level.bundles h in omega (arith, l)
bundles_few level opener.Flock h few = let l = leb-false 8 level.bundles h in omega (arith, l)
bundles_few level _ h few = omega (arith, few)

pub shallow_inside : (level : Level) (o : Opener) → is_deep level o ≡ false → IsShallow level → IsShallow (inside level o)
shallow_inside level o h shallow =
    let parts = or_parts (nat_le 32 level.depth) (is_bundle o && nat_le 8 level.bundles) h in
    let l = leb-false 32 level.depth parts.0 in
    record { blocks = omega (arith, l); bundles = bundles_few level o parts.1 shallow.bundles }

pub shallow_outermost : IsShallow outermost
shallow_outermost = record { blocks = omega arith; bundles = omega arith }
