-- A select has no more events than it may have.
use Rattle.std.proofs.Common.{◌≡◌, ℕ, ◌+◌, ◌≤◌, Bool, true, false, Some, None, List, [], ◌∷◌, ◌++◌, length, set, slice_get, arith, refl, sym, subst}
use Rattle.std.proofs.lemmas.Bool.{false≢true, leb-false}
use Rattle.script_tree.specs.declared.counts.Counts.{Counts}
use Rattle.script_tree.specs.declared.form.EventForm.{EventForm}
use Rattle.script_tree.specs.declared.form.EventForm.TheVariants as event_form
use Rattle.script_tree.specs.declared.form.GroupForm.TheVariants as group_form
use Rattle.script_tree.specs.declared.opener.Opener.{Opener}
use Rattle.script_tree.specs.declared.opener.Opener.TheVariants as opener
use Rattle.script_tree.specs.declared.program.EventTree.{EventTree}
use Rattle.script_tree.specs.declared.program.Kind.{Kind}
use Rattle.script_tree.specs.declared.program.Kind.TheVariants as kind
use Rattle.script_tree.specs.Leaves.{members_of, HaveLeaves, nothing, a_leaf, a_group}
use Rattle.script_tree.specs.Lines.{kind_made, event_form_made}
use Rattle.script_tree.specs.Parts.{Part}
use Rattle.script_tree.specs.Reading.{State, Frame, is_group, holds_statements, holds_events, counted, with_event}
use Rattle.script_tree.specs.Tree.{Tree}
use Rattle.script_tree.proofs.Groups.{open_groups, GroupsDescend, inner_group}
use Rattle.script_tree.proofs.Moves.{Moves, declares, begins_fiber, begins_main, states, adds_leaf, opens, opens_select, opens_group, begins_else, begins_catch, ends_text, ends_block, ends_select, ends_group, opens_block, IsBlock, a_block, IsSelect, a_select, IsGroup, a_group as a_group_opens, Groups, a_choose, Ends, a_text, the_main}
use Rattle.script_tree.proofs.Moving.{groups_are}
use Rattle.script_tree.proofs.Paths.{Descends}
use Rattle.script_tree.proofs.Settled.{Settles}
use Rattle.script_tree.proofs.Staying.{closed_in, pushed_in}

-- ---- leaves

same_count : (tree : Tree) (places : List ℕ) (a b : ℕ) → a ≡ b → HaveLeaves tree places a → HaveLeaves tree places b
same_count tree places a b e h = subst (λ n. HaveLeaves tree places n) e h

have_append : {tree : Tree} {xs ys : List ℕ} {a b : ℕ} → HaveLeaves tree xs a → HaveLeaves tree ys b → HaveLeaves tree (xs ++ ys) (a + b)
have_append {tree} {b = b} nothing h = same_count tree _ _ _ (let e : b ≡ 0 + b = omega arith in e) h
have_append {tree} {b = b} (a_leaf {count = n} place e is leaf rest) h =
    same_count tree _ _ _ (let q : 1 + (n + b) ≡ (1 + n) + b = omega arith in q) (a_leaf place e is leaf (have_append rest h))
have_append {tree} {b = b} (a_group {inner = m} {count = n} place e is group own rest) h =
    same_count tree _ _ _ (let q : m + (n + b) ≡ (m + n) + b = omega arith in q) (a_group place e is group own (have_append rest h))

-- ---- what is open

-- in a group of events, its leaves and those of what is around it
pub record GroupCounts (tree : Tree) (events : List ℕ) (around : ℕ → Type 0) (n : ℕ) : Type 0 where
  pub own : ℕ
  pub rest : ℕ
  pub leaves : HaveLeaves tree events own
  pub others : around rest
  pub sum : n ≡ own + rest

abbrev pub CountsIn : Tree → Bool → List ℕ → (ℕ → Type 0) → ℕ → Type 0
CountsIn tree true events around n = GroupCounts tree events around n
CountsIn tree false events around n = HaveLeaves tree events n

-- the leaves of the select that is open, so far
abbrev pub LeavesIn : Tree → List Frame → ℕ → Type 0
LeavesIn tree [] n = ⊥
LeavesIn tree (f ∷ fs) n = CountsIn tree (is_group f.what) f.events (LeavesIn tree fs) n

one_more_in : (tree : Tree) (b : Bool) (events : List ℕ) (around : ℕ → Type 0) (n place k : ℕ) → CountsIn tree b events around n
    → HaveLeaves tree (place ∷ []) k → CountsIn tree b (events ++ place ∷ []) around (n + k)
one_more_in tree false events around n place k c h = have_append c h
one_more_in tree true events around n place k c h =
    let sum = c.sum in
    record { own = c.own + k; rest = c.rest; leaves = have_append c.leaves h; others = c.others; sum = omega (arith, sum) }

event_counted : (tree : Tree) (f : Frame) (fs : List Frame) (n place k : ℕ) → LeavesIn tree (f ∷ fs) n → HaveLeaves tree (place ∷ []) k
    → LeavesIn tree (with_event f place ∷ fs) (n + k)
event_counted tree f fs n place k c h = one_more_in tree (is_group f.what) f.events (LeavesIn tree fs) n place k c h

-- in a select all its leaves are counted, and no more than there may be
pub record LeavesCounted (s : State) (tree : Tree) : Type 0 where
  pub all : holds_events s.top.what ≡ true → LeavesIn tree (s.top ∷ s.outer) s.counts.leaves
  pub few : s.counts.leaves ≤ 32

not_both : (o : Opener) → holds_statements o ≡ true → holds_events o ≡ true → ⊥
not_both (opener.Select n v) h e = false≢true h
not_both opener.Choose h e = false≢true h
not_both (opener.Wrap o) h e = false≢true h
not_both (opener.Guard l t r) h e = false≢true h
not_both _ h e = false≢true e

block_no_events : (o : Opener) → opens_block o ≡ true → holds_events o ≡ true → ⊥
block_no_events (opener.Select n v) h e = false≢true h
block_no_events opener.Choose h e = false≢true h
block_no_events (opener.Wrap o) h e = false≢true h
block_no_events (opener.Guard l t r) h e = false≢true h
block_no_events _ h e = false≢true e

opened_no_events : (s : State) (o : Opener) → IsBlock s o → holds_events o ≡ true → ⊥
opened_no_events s o (a_block f parts p is) e = block_no_events o is e

behind_no_events : (o behind : Opener) → Ends o behind → holds_events behind ≡ true → ⊥
behind_no_events o behind a_text e = false≢true e
behind_no_events o behind the_main e = false≢true e

select_counted : (tree : Tree) (s : State) (o : Opener) (around : ℕ → Type 0) → IsSelect s o → CountsIn tree (is_group o) [] around 0
select_counted tree s o around (a_select n v f parts p is) = nothing

group_is : (s : State) (o : Opener) → IsGroup s o → is_group o ≡ true
group_is s o (a_group_opens group_form.Choose parts p) = refl
group_is s o _ = refl

group_counted : (tree : Tree) (b : Bool) (around : ℕ → Type 0) (n : ℕ) → b ≡ true → around n → CountsIn tree b [] around n
group_counted tree b around n is c =
    subst (λ x. CountsIn tree x [] around n) (sym is) (record { own = 0; rest = n; leaves = nothing; others = c; sum = omega arith })

group_events : (o : Opener) → is_group o ≡ true → holds_events o ≡ true
group_events opener.Choose h = refl
group_events (opener.Wrap o) h = refl
group_events (opener.Guard l t r) h = refl
group_events _ h = absurd (false≢true h)

leaf_members : (f : EventForm) (parts : List Part) → members_of (event_form_made f parts) ≡ None
leaf_members event_form.Ivar parts = refl
leaf_members _ parts = refl

group_members : (members : List ℕ) (o : Opener) (e : EventTree) → Groups members o e → members_of e ≡ Some members
group_members members o e a_choose = refl
group_members members o e _ = refl

same_leaves : (counts : Counts) (k : Kind) → (counted counts k).leaves ≡ counts.leaves
same_leaves counts kind.Trigger = refl
same_leaves counts kind.Comp = refl
same_leaves counts _ = refl

-- a leaf that was added
leaf_added : (s : State) (tree : Tree) (f : EventForm) (parts : List Part)
    → slice_get tree.events (length s.events) ≡ Some (event_form_made f parts) → HaveLeaves tree (length s.events ∷ []) 1
leaf_added s tree f parts is = a_leaf (length s.events) (event_form_made f parts) is (leaf_members f parts) nothing

-- a group of events ends
group_ended : (s : State) (tree : Tree) (f : Frame) (fs : List Frame) (x : EventTree) → s.outer ≡ f ∷ fs → Groups s.top.events s.top.what x → GroupsDescend s
    → Settles (record s { events = set s.events s.top.place x; top = with_event f s.top.place; outer = fs }) tree → LeavesCounted s tree
    → LeavesIn tree (with_event f s.top.place ∷ fs) s.counts.leaves
group_ended s tree f fs x e groups d k c =
    let is = groups_are s.top.events s.top.what x groups in
    let g : GroupCounts tree s.top.events (LeavesIn tree s.outer) s.counts.leaves =
    subst (λ b. CountsIn tree b s.top.events (LeavesIn tree s.outer) s.counts.leaves) is (c.all (group_events s.top.what is)) in
    let i = inner_group (length s.events) s.top s.outer is d in
    let there = closed_in s.events s.top.place x (open_groups (f ∷ fs)) tree.events i.0 (subst (λ gs. Descends s.top.place (open_groups gs)) e i.1) k.events in
    let own = same_count tree (s.top.place ∷ []) (g.own + 0) g.own (omega arith)
    (a_group s.top.place x there (group_members s.top.events s.top.what x groups) g.leaves nothing) in
    let sum = g.sum in
    subst (λ n. LeavesIn tree (with_event f s.top.place ∷ fs) n) (let q : g.rest + g.own ≡ s.counts.leaves = omega (arith, sum) in q)
    (event_counted tree f fs g.rest s.top.place g.own (subst (λ gs. LeavesIn tree gs g.rest) e g.others) own)

pub moves_leaves : (s : State) {t : State} (tree : Tree) → Moves s t → GroupsDescend s → Settles t tree → LeavesCounted s tree → LeavesCounted t tree
moves_leaves s tree (declares f parts p h full) d k c = record {
  all = λ ev. subst (λ n. LeavesIn tree (s.top ∷ s.outer) n) (sym (same_leaves s.counts (kind_made f parts))) (c.all ev);
  few = rw (same_leaves s.counts (kind_made f parts)) c.few;
}
moves_leaves s tree (begins_fiber parts p h full) d k c = record { all = λ ev. absurd (false≢true ev); few = c.few }
moves_leaves s tree (begins_main h) d k c = record { all = λ ev. absurd (false≢true ev); few = c.few }
moves_leaves s tree (states x p h full breaks) d k c = record { all = λ ev. absurd (not_both s.top.what h ev); few = c.few }
moves_leaves s tree (adds_leaf f parts p h few) d k c =
    let l = leb-false 32 s.counts.leaves few in
    record {
      all = λ ev. event_counted tree s.top s.outer s.counts.leaves (length s.events) 1 (c.all h)
          (leaf_added s tree f parts (pushed_in s.events (event_form_made f parts) (open_groups (s.top ∷ s.outer)) tree.events d k.events));
      few = omega (arith, l);
    }
moves_leaves s tree (opens o p h full deep) d k c = record { all = λ ev. absurd (opened_no_events s o p ev); few = c.few }
moves_leaves s tree (opens_select o p h full deep) d k c =
    record { all = λ ev. select_counted tree s o (LeavesIn tree (s.top ∷ s.outer)) p; few = omega arith }
moves_leaves s tree (opens_group o p h deep) d k c =
    record { all = λ ev. group_counted tree (is_group o) (LeavesIn tree (s.top ∷ s.outer)) s.counts.leaves (group_is s o p) (c.all h); few = c.few }
moves_leaves s tree (begins_else a q b is) d k c = record { all = λ ev. absurd (false≢true ev); few = c.few }
moves_leaves s tree (begins_catch parts p is) d k c = record { all = λ ev. absurd (false≢true ev); few = c.few }
moves_leaves s tree (ends_text f behind e h ends) d k c = record { all = λ ev. absurd (behind_no_events s.top.what behind ends ev); few = c.few }
moves_leaves s tree (ends_block f fs x e h becomes) d k c = record { all = λ ev. absurd (not_both f.what h ev); few = c.few }
moves_leaves s tree (ends_select f fs number value e h is) d k c = record { all = λ ev. absurd (not_both f.what h ev); few = c.few }
moves_leaves s tree (ends_group f fs x e h groups) d k c = record { all = λ ev. group_ended s tree f fs x e groups d k c; few = c.few }
