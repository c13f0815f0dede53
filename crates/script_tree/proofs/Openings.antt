-- The canonical text goes on by a line that declares, states or opens something.
use Rattle.std.proofs.Common.{◌≡◌, ℕ, zero, suc, ◌+◌, ◌<◌, true, ◌||◌, Some, List, [], ◌∷◌, ◌++◌, length, slice_get, codes, refl, sym, ap, ◌∙◌, arith, append_assoc, append-nil}
use Rattle.script_tree.specs.declared.form.Form.{Form}
use Rattle.script_tree.specs.declared.form.Form.TheVariants as form
use Rattle.script_tree.specs.declared.opener.Opener.{Opener}
use Rattle.script_tree.specs.declared.opener.Opener.TheVariants as opener
use Rattle.script_tree.specs.declared.program.EventTree.{EventTree}
use Rattle.script_tree.specs.declared.program.EventTree.TheVariants as event
use Rattle.script_tree.specs.declared.program.Kind.{Kind}
use Rattle.script_tree.specs.declared.program.Stmt.{Stmt}
use Rattle.script_tree.specs.declared.program.Stmt.TheVariants as stmt
use Rattle.script_tree.specs.Canon.{form_line, opening, event_text, events_text, stmt_text, block_text}
use Rattle.script_tree.specs.Lines.{stmt_form, stmt_parts, opener_form, opener_parts, tree_form, event_parts, kind_form, kind_parts}
use Rattle.script_tree.specs.Parts.{name_part}
use Rattle.script_tree.specs.Reading.{State, declared, fiber_begun, text_begun, stated, opened, block_opened, select_opened, group_opened, leaf_added, is_head, is_between, is_group, holds_statements, holds_events}
use Rattle.script_tree.specs.Tree.{Tree}
use Rattle.script_tree.specs.declared.line.Line.TheVariants as line
use Rattle.script_tree.proofs.Allowed.{May, role_file, role_head, role_statements, role_events}
use Rattle.script_tree.proofs.Groups.{open_groups, GroupsDescend}
use Rattle.script_tree.proofs.Settled.{Settles}
use Rattle.script_tree.proofs.Standing.{Around, fiber, main, block, select, group, Stands, in_file, behind, in_block, in_events, Goes, is_block, begun, stmts_shown, events_shown, enough, stmts_push, events_push, decl_more}
use Rattle.script_tree.proofs.Staying.{pushed_in}

-- ---- how texts are put together

adds : (text front old new line x : List ℕ) → text ≡ front ++ old → new ≡ old ++ x → x ≡ line → text ++ line ≡ front ++ new
adds text front old new line x i j k = rw (i, j, k) (append_assoc front old line)

begins : (text front old line x : List ℕ) → text ≡ front ++ old → x ≡ line → text ++ line ≡ (front ++ (old ++ x)) ++ []
begins text front old line x i k = rw (i, k) (append_assoc front old line ∙ sym (append-nil (front ++ (old ++ line))))

-- ---- statements and events that are one line

plain_text : (inner : ℕ → List ℕ) (tree : Tree) (depth : ℕ) (x : Stmt) (f : Form) → stmt_form x ≡ Some f
    → stmt_text inner tree depth x ≡ form_line tree depth (stmt_form x) (stmt_parts x)
plain_text inner tree depth (stmt.If l t r then_place other) f e = cc
plain_text inner tree depth (stmt.Try body register handler) f e = cc
plain_text inner tree depth (stmt.Loop place) f e = cc
plain_text inner tree depth (stmt.Forbid place) f e = cc
plain_text inner tree depth (stmt.Permit place) f e = cc
plain_text inner tree depth (stmt.Under c place) f e = cc
plain_text inner tree depth (stmt.Link a b place) f e = cc
plain_text inner tree depth (stmt.Protect m place) f e = cc
plain_text inner tree depth (stmt.Bundle place) f e = cc
plain_text inner tree depth (stmt.Flock place) f e = cc
plain_text inner tree depth (stmt.Select number value members) f e = cc
plain_text inner tree depth _ f e = refl

leaf_text : (inner : List ℕ → List ℕ) (tree : Tree) (depth : ℕ) (x : EventTree) (f : Form) → tree_form x ≡ Some f
    → event_text inner tree depth (Some x) ≡ form_line tree depth (tree_form x) (event_parts x)
leaf_text inner tree depth (event.Choose members) f e = cc
leaf_text inner tree depth (event.Wrap o members) f e = cc
leaf_text inner tree depth (event.Guard l t r members) f e = cc
leaf_text inner tree depth _ f e = refl

pub plain_goes : (tree : Tree) (s : State) (x : Stmt) (text : List ℕ) (f : Form) → stmt_form x ≡ Some f → holds_statements s.top.what ≡ true → Stands tree s text
    → Goes tree (stated s x) text (stmt_form x) (stmt_parts x)
plain_goes tree s x text f e may (in_file o r h i) = cc (role_statements s.top.what may, r)
plain_goes tree s x text f e may (behind r i) = cc (role_statements s.top.what may, r)
plain_goes tree s x text f e may (in_events depth levels front h l d a i) = cc (role_statements s.top.what may, role_events s.top.what h)
plain_goes tree s x text f e may (in_block depth levels front h l d a i) = record {
  depth = depth;
  deep = d;
  stands = in_block depth levels front h l d a
      (adds text front (stmts_shown tree depth levels s.top.stmts) (stmts_shown tree depth levels (s.top.stmts ++ x ∷ [])) (form_line tree depth (stmt_form x) (stmt_parts x)) _ i
      (stmts_push tree depth levels s.top.stmts x) (plain_text (block_text levels tree (depth + 1)) tree depth x f e));
}

pub leaf_goes : (tree : Tree) (s : State) (x : EventTree) (text : List ℕ) (f : Form) → tree_form x ≡ Some f → holds_events s.top.what ≡ true
    → GroupsDescend s → Settles (leaf_added s x) tree → Stands tree s text → Goes tree (leaf_added s x) text (tree_form x) (event_parts x)
leaf_goes tree s x text f e may descend settle (in_file o r h i) = cc (role_events s.top.what may, r)
leaf_goes tree s x text f e may descend settle (behind r i) = cc (role_events s.top.what may, r)
leaf_goes tree s x text f e may descend settle (in_block depth levels front h l d a i) = cc (role_events s.top.what may, role_statements s.top.what h)
leaf_goes tree s x text f e may descend settle (in_events depth levels front h l d a i) =
    let there : slice_get tree.events (length s.events) ≡ Some x = pushed_in s.events x (open_groups (s.top ∷ s.outer)) tree.events descend settle.events in
    let shown : event_text (events_text levels tree (depth + 1)) tree depth (slice_get tree.events (length s.events)) ≡ form_line tree depth (tree_form x) (event_parts x) =
    ap (λ o. event_text (events_text levels tree (depth + 1)) tree depth o) there ∙ leaf_text (events_text levels tree (depth + 1)) tree depth x f e in
    record {
      depth = depth;
      deep = d;
      stands = in_events depth levels front h l d a
          (adds text front (events_shown tree depth levels s.top.events) (events_shown tree depth levels (s.top.events ++ length s.events ∷ [])) (form_line tree depth (tree_form x) (event_parts x)) _ i
          (events_push tree depth levels s.top.events (length s.events)) shown);
    }

-- ---- declarations and texts

head_is : (o : Opener) → is_head o ≡ true → o ≡ opener.Head
head_is opener.Head h = refl
head_is _ h = cc

pub declaration_goes : (tree : Tree) (s : State) (k : Kind) (name text : List ℕ) → is_head s.top.what ≡ true → Stands tree s text
    → Goes tree (declared s k name) text (Some (form.Declare (kind_form k))) (name_part name ∷ kind_parts k)
declaration_goes tree s k name text may (behind r i) = cc (role_head s.top.what may, r)
declaration_goes tree s k name text may (in_block depth levels front h l d a i) = cc (role_head s.top.what may, role_statements s.top.what h)
declaration_goes tree s k name text may (in_events depth levels front h l d a i) = cc (role_head s.top.what may, role_events s.top.what h)
declaration_goes tree s k name text may (in_file o r h i) =
    let none : s.texts ≡ [] = h (head_is s.top.what may) in
    let shown = rw none at i in
    record {
      depth = 0;
      deep = omega arith;
      stands = in_file o r h (rw (none, shown) (sym (decl_more tree s.decls (record { name = name; kind = k }))));
    }

pub fiber_goes : (tree : Tree) (s : State) (name text : List ℕ) → (is_head s.top.what || is_between s.top.what) ≡ true → Stands tree s text
    → Goes tree (fiber_begun s name) text (Some form.Fiber) (name_part name ∷ [])
fiber_goes tree s name text may (behind r i) = cc (role_file s.top.what may, r)
fiber_goes tree s name text may (in_block depth levels front h l d a i) = cc (role_file s.top.what may, role_statements s.top.what h)
fiber_goes tree s name text may (in_events depth levels front h l d a i) = cc (role_file s.top.what may, role_events s.top.what h)
fiber_goes tree s name text may (in_file o r h i) = record {
  depth = 0;
  deep = omega arith;
  stands = in_block 1 33 _ refl refl (omega arith) (fiber s.texts (record { name = name; block = length s.blocks }) s.top s.outer refl o)
      (rw i (sym (append-nil _)));
}

pub main_goes : (tree : Tree) (s : State) (text : List ℕ) → (is_head s.top.what || is_between s.top.what) ≡ true → Stands tree s text
    → Goes tree (text_begun s opener.Main (codes "main")) text (Some form.Main) []
main_goes tree s text may (behind r i) = cc (role_file s.top.what may, r)
main_goes tree s text may (in_block depth levels front h l d a i) = cc (role_file s.top.what may, role_statements s.top.what h)
main_goes tree s text may (in_events depth levels front h l d a i) = cc (role_file s.top.what may, role_events s.top.what h)
main_goes tree s text may (in_file o r h i) = record {
  depth = 0;
  deep = omega arith;
  stands = in_block 1 33 _ refl refl (omega arith) (main s.texts (record { name = codes "main"; block = length s.blocks }) s.top s.outer refl o)
      (rw i (sym (append-nil _)));
}

-- ---- blocks, selects and groups

block_starts : (tree : Tree) (s : State) (o : Opener) (text : List ℕ) (depth levels : ℕ) (front : List ℕ) → is_block o ≡ true → holds_statements o ≡ true
    → ((d n : ℕ) → begun tree d n o ≡ opening tree d o) → s.top.level.depth < 32 → holds_statements s.top.what ≡ true → s.top.level.depth + 1 ≡ depth
    → Around tree s.decls s.texts s.top.what s.top.place s.outer depth levels front → text ≡ front ++ stmts_shown tree depth levels s.top.stmts
    → Goes tree (block_opened s o) text (opener_form o) (opener_parts o)
block_starts tree s o text depth zero front b ho line less h l a i = absurd (omega (arith, enough a, l, less))
block_starts tree s o text depth (suc levels) front b ho line less h l a i = record {
  depth = depth;
  deep = omega (arith, l, less);
  stands = in_block (depth + 1) levels _ ho (ap (λ n. n + 1) l) (omega (arith, l, less)) (block o (length s.blocks) s.top s.outer depth levels front b h l a)
      (begins text front (stmts_shown tree depth (suc levels) s.top.stmts) (opening tree depth o) (begun tree depth (suc levels) o) i (line depth (suc levels)));
}

pub block_goes : (tree : Tree) (s : State) (o : Opener) (text : List ℕ) → is_block o ≡ true → holds_statements o ≡ true
    → ((d n : ℕ) → begun tree d n o ≡ opening tree d o) → s.top.level.depth < 32 → holds_statements s.top.what ≡ true → Stands tree s text
    → Goes tree (block_opened s o) text (opener_form o) (opener_parts o)
block_goes tree s o text b ho line less may (in_file q r h i) = cc (role_statements s.top.what may, r)
block_goes tree s o text b ho line less may (behind r i) = cc (role_statements s.top.what may, r)
block_goes tree s o text b ho line less may (in_events depth levels front h l d a i) = cc (role_statements s.top.what may, role_events s.top.what h)
block_goes tree s o text b ho line less may (in_block depth levels front h l d a i) = block_starts tree s o text depth levels front b ho line less h l a i

select_goes : (tree : Tree) (s : State) (number value : ℕ) (text : List ℕ) → s.top.level.depth < 32 → holds_statements s.top.what ≡ true → Stands tree s text
    → Goes tree (select_opened s (opener.Select number value)) text (opener_form (opener.Select number value)) (opener_parts (opener.Select number value))
select_goes tree s number value text less may (in_file q r h i) = cc (role_statements s.top.what may, r)
select_goes tree s number value text less may (behind r i) = cc (role_statements s.top.what may, r)
select_goes tree s number value text less may (in_events depth levels front h l d a i) = cc (role_statements s.top.what may, role_events s.top.what h)
select_goes tree s number value text less may (in_block depth levels front h l d a i) = record {
  depth = depth;
  deep = d;
  stands = in_events (depth + 1) 33 _ refl (ap (λ n. n + 1) l) (omega (arith, l, less)) (select number value 0 s.top s.outer depth levels front h l a)
      (begins text front (stmts_shown tree depth levels s.top.stmts) (opening tree depth (opener.Select number value)) (opening tree depth (opener.Select number value)) i refl);
}

group_starts : (tree : Tree) (s : State) (o : Opener) (text : List ℕ) (depth levels : ℕ) (front : List ℕ) → is_group o ≡ true → holds_events o ≡ true
    → s.top.level.depth < 32 → holds_events s.top.what ≡ true → s.top.level.depth + 1 ≡ depth
    → Around tree s.decls s.texts s.top.what s.top.place s.outer depth levels front → text ≡ front ++ events_shown tree depth levels s.top.events
    → Goes tree (group_opened s o) text (opener_form o) (opener_parts o)
group_starts tree s o text depth zero front g ho less h l a i = absurd (omega (arith, enough a, l, less))
group_starts tree s o text depth (suc levels) front g ho less h l a i = record {
  depth = depth;
  deep = omega (arith, l, less);
  stands = in_events (depth + 1) levels _ ho (ap (λ n. n + 1) l) (omega (arith, l, less)) (group o (length s.events) s.top s.outer depth levels front g h l a)
      (begins text front (events_shown tree depth (suc levels) s.top.events) (opening tree depth o) (opening tree depth o) i refl);
}

group_goes : (tree : Tree) (s : State) (o : Opener) (text : List ℕ) → is_group o ≡ true → holds_events o ≡ true → s.top.level.depth < 32 → holds_events s.top.what ≡ true
    → Stands tree s text → Goes tree (group_opened s o) text (opener_form o) (opener_parts o)
group_goes tree s o text g ho less may (in_file q r h i) = cc (role_events s.top.what may, r)
group_goes tree s o text g ho less may (behind r i) = cc (role_events s.top.what may, r)
group_goes tree s o text g ho less may (in_block depth levels front h l d a i) = cc (role_events s.top.what may, role_statements s.top.what h)
group_goes tree s o text g ho less may (in_events depth levels front h l d a i) = group_starts tree s o text depth levels front g ho less h l a i

pub opening_goes : (tree : Tree) (s : State) (o : Opener) (text : List ℕ) (f : Form) → opener_form o ≡ Some f → s.top.level.depth < 32
    → May s.top.what (line.Open o) → Stands tree s text → Goes tree (opened s o) text (opener_form o) (opener_parts o)
opening_goes tree s (opener.Select number value) text f e less may a = select_goes tree s number value text less may a
opening_goes tree s opener.Choose text f e less may a = group_goes tree s opener.Choose text refl refl less may a
opening_goes tree s (opener.Wrap o) text f e less may a = group_goes tree s (opener.Wrap o) text refl refl less may a
opening_goes tree s (opener.Guard l t r) text f e less may a = group_goes tree s (opener.Guard l t r) text refl refl less may a
opening_goes tree s (opener.Then l t r) text f e less may a = block_goes tree s (opener.Then l t r) text refl refl (λ d n. refl) less may a
opening_goes tree s opener.Loop text f e less may a = block_goes tree s opener.Loop text refl refl (λ d n. refl) less may a
opening_goes tree s opener.Try text f e less may a = block_goes tree s opener.Try text refl refl (λ d n. refl) less may a
opening_goes tree s opener.Forbid text f e less may a = block_goes tree s opener.Forbid text refl refl (λ d n. refl) less may a
opening_goes tree s opener.Permit text f e less may a = block_goes tree s opener.Permit text refl refl (λ d n. refl) less may a
opening_goes tree s (opener.Under c) text f e less may a = block_goes tree s (opener.Under c) text refl refl (λ d n. refl) less may a
opening_goes tree s (opener.Link p q) text f e less may a = block_goes tree s (opener.Link p q) text refl refl (λ d n. refl) less may a
opening_goes tree s (opener.Protect m) text f e less may a = block_goes tree s (opener.Protect m) text refl refl (λ d n. refl) less may a
opening_goes tree s opener.Bundle text f e less may a = block_goes tree s opener.Bundle text refl refl (λ d n. refl) less may a
opening_goes tree s opener.Flock text f e less may a = block_goes tree s opener.Flock text refl refl (λ d n. refl) less may a
opening_goes tree s _ text f e less may a = cc
