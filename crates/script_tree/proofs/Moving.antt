-- Each line that doesn't end an empty `else` part is a move.
use Rattle.std.proofs.Common.{◌≡◌, ℕ, ◌∙◌, Bool, true, false, ◌||◌, cond, Some, None, List, [], ◌∷◌, slice_set, refl, sym, ap, subst}
use Rattle.std.proofs.lemmas.Bool.{false≢true, and_parts}
use Rattle.script_tree.specs.declared.cause.Cause.TheVariants as cause
use Rattle.script_tree.specs.declared.form.BasicForm.{BasicForm}
use Rattle.script_tree.specs.declared.form.BasicForm.TheVariants as basic_form
use Rattle.script_tree.specs.declared.form.CompForm.{CompForm}
use Rattle.script_tree.specs.declared.form.CompForm.TheVariants as comp_form
use Rattle.script_tree.specs.declared.form.ObjectForm.{ObjectForm}
use Rattle.script_tree.specs.declared.form.ObjectForm.TheVariants as object_form
use Rattle.script_tree.specs.declared.form.FiberForm.{FiberForm}
use Rattle.script_tree.specs.declared.form.FiberForm.TheVariants as fiber_form
use Rattle.script_tree.specs.declared.form.BlockForm.{BlockForm}
use Rattle.script_tree.specs.declared.form.BlockForm.TheVariants as block_form
use Rattle.script_tree.specs.declared.form.GroupForm.{GroupForm}
use Rattle.script_tree.specs.declared.form.GroupForm.TheVariants as group_form
use Rattle.script_tree.specs.declared.form.Form.{Form}
use Rattle.script_tree.specs.declared.form.Form.TheVariants as form
use Rattle.script_tree.specs.declared.line.Line.{Line}
use Rattle.script_tree.specs.declared.line.Line.TheVariants as line
use Rattle.script_tree.specs.declared.opener.Opener.{Opener}
use Rattle.script_tree.specs.declared.opener.Opener.TheVariants as opener
use Rattle.script_tree.specs.declared.program.EventTree.{EventTree}
use Rattle.script_tree.specs.declared.program.Operand.{Operand}
use Rattle.script_tree.specs.declared.program.Stmt.{Stmt}
use Rattle.script_tree.specs.declared.program.Stmt.TheVariants as stmt
use Rattle.script_tree.specs.declared.program.Test.{Test}
use Rattle.script_tree.specs.Lines.{line_made, block_form_made, group_form_made, basic_form_made, comp_form_made, object_form_made, fiber_form_made}
use Rattle.script_tree.specs.Parts.{Part}
use Rattle.script_tree.specs.Reading.{State, Frame, after, closed, else_closed, opened, left, else_begun, is_head, is_between, is_then, is_try, holds_statements, holds_events, fits, is_group, is_full, is_line_deep, limit_broken, with_stmt, with_event, is_deep}
use Rattle.script_tree.proofs.Moves.{Moves, declares, begins_fiber, begins_main, states, adds_leaf, opens, opens_select, opens_group, begins_else, begins_catch, ends_text, ends_block, ends_select, ends_group, basic, on_comps, on_objects, on_fibers, a_block, a_select, a_group, Becomes, a_then, an_else, a_loop, a_handler, a_forbid, a_permit, an_under, a_link, a_protect, a_bundle, a_flock, Groups, a_choose, a_wrap, a_guard, Ends, a_text, the_main, is_break}
use Rattle.script_tree.proofs.Nesting.{is_file, takes_texts, stands_in, Nested, IsNested}
use Rattle.script_tree.proofs.Paths.{is_bare_else, ends_bare_else, Takes}
use Rattle.script_tree.proofs.Readings.{ArePartsOf, is_read}

-- ---- limits

no_limit : (a b : Bool) → cond a (Some cause.TooDeep) (cond b (Some cause.TooMany) None) ≡ None → (a ≡ false) × (b ≡ false)
no_limit true b h = cc
no_limit false true h = cc
no_limit false false h = (refl, refl)

-- a line within the limits is neither too deep nor one too many
within : (s : State) (l : Line) → limit_broken s l ≡ None → (is_line_deep s.top.level l ≡ false) × (is_full s l ≡ false)
within s l h = no_limit (is_line_deep s.top.level l) (is_full s l) h

-- ---- what is open

pub file_takes_texts : (o : Opener) → (is_head o || is_between o) ≡ true → takes_texts o ≡ true
file_takes_texts opener.Head h = refl
file_takes_texts opener.Between h = refl
file_takes_texts _ h = absurd (false≢true h)

is_a_try : (o : Opener) → is_try o ≡ true → o ≡ opener.Try
is_a_try opener.Try h = refl
is_a_try _ h = absurd (false≢true h)

-- a block stands in what holds statements, and isn't the file
pub becomes_in : (place : ℕ) (o : Opener) (x : Stmt) (around : Opener) → Becomes place o x → stands_in o around ≡ holds_statements around
becomes_in place o x around a_then = refl
becomes_in place o x around _ = refl

-- and holds statements
pub becomes_holds : (place : ℕ) (o : Opener) (x : Stmt) → Becomes place o x → holds_statements o ≡ true
becomes_holds place o x a_then = refl
becomes_holds place o x _ = refl

pub becomes_no_file : (place : ℕ) (o : Opener) (x : Stmt) → Becomes place o x → is_file o ≡ false
becomes_no_file place o x a_then = refl
becomes_no_file place o x _ = refl

groups_in : (members : List ℕ) (o : Opener) (e : EventTree) (around : Opener) → Groups members o e → stands_in o around ≡ holds_events around
groups_in members o e around a_choose = refl
groups_in members o e around _ = refl

groups_no_file : (members : List ℕ) (o : Opener) (e : EventTree) → Groups members o e → is_file o ≡ false
groups_no_file members o e a_choose = refl
groups_no_file members o e _ = refl

ends_in : (o behind around : Opener) → Ends o behind → stands_in o around ≡ takes_texts around
ends_in o behind around a_text = refl
ends_in o behind around the_main = refl

ends_no_file : (o behind : Opener) → Ends o behind → is_file o ≡ false
ends_no_file o behind a_text = refl
ends_no_file o behind the_main = refl

pub groups_are : (members : List ℕ) (o : Opener) (e : EventTree) → Groups members o e → is_group o ≡ true
groups_are members o e a_choose = refl
groups_are members o e _ = refl

pub ends_holds : (o behind : Opener) → Ends o behind → holds_statements o ≡ true
ends_holds o behind a_text = refl
ends_holds o behind the_main = refl

pub text_file : (o : Opener) → takes_texts o ≡ true → is_file o ≡ true
text_file opener.Head h = refl
text_file opener.Between h = refl
text_file _ h = absurd (false≢true h)

-- nothing stands around the file
pub alone : (o around : Opener) → is_file o ≡ true → stands_in o around ≡ false
alone opener.Head around h = refl
alone opener.Between around h = refl
alone opener.Over around h = refl
alone _ around h = absurd (false≢true h)

-- ---- ends

block_ends : (s : State) (x : Stmt) (fs : List Frame) → s.outer ≡ fs → Nested s.top.what fs → Becomes s.top.place s.top.what x
    → Moves s (left s (slice_set s.blocks s.top.place s.top.stmts) s.events (λ f. with_stmt f x) fs)
block_ends s x [] e n b = absurd (false≢true (sym (becomes_no_file _ _ _ b) ∙ n))
block_ends s x (f ∷ fs) e n b = ends_block f fs x e (sym (becomes_in s.top.place s.top.what x f.what b) ∙ n.0) b

group_ends : (s : State) (x : EventTree) (fs : List Frame) → s.outer ≡ fs → Nested s.top.what fs → Groups s.top.events s.top.what x
    → Moves s (left s s.blocks (slice_set s.events s.top.place x) (λ f. with_event f s.top.place) fs)
group_ends s x [] e n b = absurd (false≢true (sym (groups_no_file _ _ _ b) ∙ n))
group_ends s x (f ∷ fs) e n b = ends_group f fs x e (sym (groups_in s.top.events s.top.what x f.what b) ∙ n.0) b

select_ends : (s : State) (number value : ℕ) (fs : List Frame) → s.outer ≡ fs → Nested s.top.what fs → s.top.what ≡ opener.Select number value
    → Moves s (left s s.blocks s.events (λ f. with_stmt f (stmt.Select number value s.top.events)) fs)
select_ends s number value [] e n is = absurd (false≢true (ap is_file (sym is) ∙ n))
select_ends s number value (f ∷ fs) e n is = ends_select f fs number value e (ap (λ o. stands_in o f.what) (sym is) ∙ n.0) is

text_ends : (s : State) (behind : Opener) (fs : List Frame) → s.outer ≡ fs → Nested s.top.what fs → Ends s.top.what behind
    → Moves s (left s (slice_set s.blocks s.top.place s.top.stmts) s.events (λ f. record f { what = behind }) fs)
text_ends s behind [] e n b = absurd (false≢true (sym (ends_no_file _ _ b) ∙ n))
text_ends s behind (f ∷ []) e n b = ends_text f behind e (sym (ends_in s.top.what behind f.what b) ∙ n.0) b
text_ends s behind (f ∷ g ∷ fs) e n b =
    absurd (false≢true (sym (alone f.what g.what (text_file f.what (sym (ends_in s.top.what behind f.what b) ∙ n.0))) ∙ n.1.0))

else_ends : (s : State) (l : Operand) (t : Test) (r : Operand) (place : ℕ) (xs : List Stmt) → IsNested s
    → s.top.what ≡ opener.Otherwise l t r place → is_bare_else (opener.Otherwise l t r place) xs ≡ false → Moves s (else_closed s l t r place xs)
else_ends s l t r place [] n is h = absurd (false≢true (sym h))
else_ends s l t r place (x ∷ xs) n is h =
    block_ends s _ s.outer refl n (subst (λ o. Becomes s.top.place o (stmt.If l t r place (Some s.top.place))) (sym is) an_else)

becomes : (s : State) (o : Opener) (x : Stmt) → s.top.what ≡ o → IsNested s → Becomes s.top.place o x
    → Moves s (left s (slice_set s.blocks s.top.place s.top.stmts) s.events (λ f. with_stmt f x) s.outer)
becomes s o x is n b = block_ends s x s.outer refl n (subst (λ p. Becomes s.top.place p x) (sym is) b)

groups : (s : State) (o : Opener) (x : EventTree) → s.top.what ≡ o → IsNested s → Groups s.top.events o x
    → Moves s (left s s.blocks (slice_set s.events s.top.place x) (λ f. with_event f s.top.place) s.outer)
groups s o x is n b = group_ends s x s.outer refl n (subst (λ p. Groups s.top.events p x) (sym is) b)

ends : (s : State) (o behind : Opener) → s.top.what ≡ o → IsNested s → Ends o behind
    → Moves s (left s (slice_set s.blocks s.top.place s.top.stmts) s.events (λ f. record f { what = behind }) s.outer)
ends s o behind is n b = text_ends s behind s.outer refl n (subst (λ p. Ends p behind) (sym is) b)

closes : (s : State) (o : Opener) (breaks : Bool) → s.top.what ≡ o → fits o breaks form.End ≡ true → is_bare_else o s.top.stmts ≡ false
    → IsNested s → Moves s (closed s o)
closes s opener.Text breaks is fit bare n = ends s opener.Text opener.Between is n a_text
closes s opener.Main breaks is fit bare n = ends s opener.Main opener.Over is n the_main
closes s (opener.Then l t r) breaks is fit bare n = becomes s _ _ is n a_then
closes s (opener.Otherwise l t r place) breaks is fit bare n = else_ends s l t r place s.top.stmts n is bare
closes s opener.Loop breaks is fit bare n = becomes s _ _ is n a_loop
closes s (opener.Catch body register) breaks is fit bare n = becomes s _ _ is n a_handler
closes s opener.Forbid breaks is fit bare n = becomes s _ _ is n a_forbid
closes s opener.Permit breaks is fit bare n = becomes s _ _ is n a_permit
closes s (opener.Under c) breaks is fit bare n = becomes s _ _ is n an_under
closes s (opener.Link a b) breaks is fit bare n = becomes s _ _ is n a_link
closes s (opener.Protect m) breaks is fit bare n = becomes s _ _ is n a_protect
closes s opener.Bundle breaks is fit bare n = becomes s _ _ is n a_bundle
closes s opener.Flock breaks is fit bare n = becomes s _ _ is n a_flock
closes s (opener.Select number value) breaks is fit bare n = select_ends s number value s.outer refl n is
closes s opener.Choose breaks is fit bare n = groups s _ _ is n a_choose
closes s (opener.Wrap o) breaks is fit bare n = groups s _ _ is n a_wrap
closes s (opener.Guard l t r) breaks is fit bare n = groups s _ _ is n a_guard
closes s _ breaks is fit bare n = absurd (false≢true fit)

-- ---- openings

block_begins : (s : State) (f : BlockForm) (parts : List Part) → ArePartsOf s (form.Block f) parts → holds_statements s.top.what ≡ true
    → is_deep s.top.level (block_form_made f parts) ≡ false → is_full s (line.Open (block_form_made f parts)) ≡ false
    → Moves s (opened s (block_form_made f parts))
block_begins s block_form.If parts p h deep full = opens _ (a_block block_form.If parts p refl) h full deep
block_begins s block_form.Loop parts p h deep full = opens _ (a_block block_form.Loop parts p refl) h full deep
block_begins s block_form.Try parts p h deep full = opens _ (a_block block_form.Try parts p refl) h full deep
block_begins s block_form.Forbid parts p h deep full = opens _ (a_block block_form.Forbid parts p refl) h full deep
block_begins s block_form.Permit parts p h deep full = opens _ (a_block block_form.Permit parts p refl) h full deep
block_begins s block_form.Under parts p h deep full = opens _ (a_block block_form.Under parts p refl) h full deep
block_begins s block_form.Link parts p h deep full = opens _ (a_block block_form.Link parts p refl) h full deep
block_begins s block_form.Protect parts p h deep full = opens _ (a_block block_form.Protect parts p refl) h full deep
block_begins s block_form.Bundle parts p h deep full = opens _ (a_block block_form.Bundle parts p refl) h full deep
block_begins s block_form.Flock parts p h deep full = opens _ (a_block block_form.Flock parts p refl) h full deep
block_begins s block_form.Select parts p h deep full = opens_select _ (a_select _ _ block_form.Select parts p refl) h full deep

group_begins : (s : State) (f : GroupForm) (parts : List Part) → ArePartsOf s (form.Group f) parts → holds_events s.top.what ≡ true
    → is_deep s.top.level (group_form_made f parts) ≡ false → Moves s (opened s (group_form_made f parts))
group_begins s group_form.Choose parts p h deep = opens_group _ (a_group group_form.Choose parts p) h deep
group_begins s group_form.Wrap parts p h deep = opens_group _ (a_group group_form.Wrap parts p) h deep
group_begins s group_form.Guard parts p h deep = opens_group _ (a_group group_form.Guard parts p) h deep

else_begins : (s : State) (o : Opener) → s.top.what ≡ o → is_then o ≡ true → Moves s (else_begun s o)
else_begins s (opener.Then l t r) is h = begins_else l t r is
else_begins s _ is h = absurd (false≢true h)

basic_fits : (f : BasicForm) (o : Opener) (breaks : Bool) → fits o breaks (form.Basic f) ≡ true → holds_statements o ≡ true
basic_fits basic_form.Break o breaks h = (and_parts _ _ h).0
basic_fits _ o breaks h = h

-- a `break` stands only where one may
breaks_fit : (f : BasicForm) (o : Opener) (breaks : Bool) (parts : List Part) → fits o breaks (form.Basic f) ≡ true
    → is_break (basic_form_made f parts) ≡ true → breaks ≡ true
breaks_fit basic_form.Break o breaks parts h is = (and_parts _ _ h).1
breaks_fit _ o breaks parts h is = absurd (false≢true is)

comp_no_break : (f : CompForm) (parts : List Part) → is_break (comp_form_made f parts) ≡ false
comp_no_break comp_form.Signal parts = refl
comp_no_break _ parts = refl

object_no_break : (f : ObjectForm) (parts : List Part) → is_break (object_form_made f parts) ≡ false
object_no_break object_form.Lock parts = refl
object_no_break _ parts = refl

fiber_no_break : (f : FiberForm) (parts : List Part) → is_break (fiber_form_made f parts) ≡ false
fiber_no_break fiber_form.Spawn parts = refl
fiber_no_break _ parts = refl

-- ---- lines

made_moves : (s : State) (f : Form) (parts : List Part) → ArePartsOf s f parts → fits s.top.what s.top.level.breaks f ≡ true
    → is_line_deep s.top.level (line_made f parts) ≡ false → is_full s (line_made f parts) ≡ false → ends_bare_else s (line_made f parts) ≡ false
    → IsNested s → Moves s (after s (line_made f parts))
made_moves s (form.Declare f) parts p fit deep full bare n = declares f parts p fit full
made_moves s form.Fiber parts p fit deep full bare n = begins_fiber parts p (file_takes_texts s.top.what fit) full
made_moves s form.Main parts p fit deep full bare n = begins_main (file_takes_texts s.top.what fit)
made_moves s form.End parts p fit deep full bare n = closes s s.top.what s.top.level.breaks refl fit bare n
made_moves s form.Else parts p fit deep full bare n = else_begins s s.top.what refl fit
made_moves s form.Catch parts p fit deep full bare n = begins_catch parts p (is_a_try s.top.what fit)
made_moves s (form.Basic f) parts p fit deep full bare n = states _ (basic f parts p) (basic_fits f s.top.what s.top.level.breaks fit) full (breaks_fit f s.top.what s.top.level.breaks parts fit)
made_moves s (form.Comp f) parts p fit deep full bare n = states _ (on_comps f parts p) fit full (λ is. absurd (false≢true (sym (comp_no_break f parts) ∙ is)))
made_moves s (form.Object f) parts p fit deep full bare n = states _ (on_objects f parts p) fit full (λ is. absurd (false≢true (sym (object_no_break f parts) ∙ is)))
made_moves s (form.Fork f) parts p fit deep full bare n = states _ (on_fibers f parts p) fit full (λ is. absurd (false≢true (sym (fiber_no_break f parts) ∙ is)))
made_moves s (form.Block f) parts p fit deep full bare n = block_begins s f parts p fit deep full
made_moves s (form.Event f) parts p fit deep full bare n = adds_leaf f parts p fit full
made_moves s (form.Group f) parts p fit deep full bare n = group_begins s f parts p fit deep

-- a line that is read and doesn't end an empty `else` part is a move
pub moves : (s t : State) (words : List (List ℕ)) (l : Line) → Takes s words l t → ends_bare_else s l ≡ false → IsNested s → Moves s t
moves s t words l taken bare n =
    let r = is_read s words l taken.read in
    let p : ArePartsOf s r.form r.parts = record { words = r.rest; read = r.read } in
    subst (λ u. Moves s u) (ap (λ k. after s k) r.is ∙ sym taken.is)
    (made_moves s r.form r.parts p r.fit (ap (λ k. is_line_deep s.top.level k) r.is ∙ (within s l taken.within).0)
    (ap (λ k. is_full s k) r.is ∙ (within s l taken.within).1) (ap (λ k. ends_bare_else s k) r.is ∙ bare) n)
