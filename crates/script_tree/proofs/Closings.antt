-- The canonical text goes on where something ends, or where the second part of a block begins.
use Rattle.std.proofs.Common.{◌≡◌, ℕ, suc, ◌+◌, ◌≤◌, true, Some, List, [], ◌∷◌, ◌++◌, length, set, slice_get, refl, ap, subst, ◌∙◌, arith, append_assoc, append-nil}
use Rattle.script_tree.specs.declared.form.Form.{Form}
use Rattle.script_tree.specs.declared.form.Form.TheVariants as form
use Rattle.script_tree.specs.declared.opener.Opener.{Opener}
use Rattle.script_tree.specs.declared.opener.Opener.TheVariants as opener
use Rattle.script_tree.specs.declared.program.EventTree.{EventTree}
use Rattle.script_tree.specs.declared.program.Stmt.{Stmt}
use Rattle.script_tree.specs.declared.program.Stmt.TheVariants as stmt
use Rattle.script_tree.specs.Canon.{opening, ending, event_text, events_text, stmts_text, stmt_text, block_text}
use Rattle.script_tree.specs.Parts.{Part, name_part}
use Rattle.script_tree.specs.Reading.{State, Frame, part_begun, left, with_stmt, with_event, is_group, holds_statements}
use Rattle.script_tree.specs.Spelling.{line_text}
use Rattle.script_tree.specs.Tree.{Tree}
use Rattle.script_tree.proofs.Descending.{descends_less}
use Rattle.script_tree.proofs.Groups.{open_groups}
use Rattle.script_tree.proofs.Paths.{open_blocks, Descends}
use Rattle.script_tree.proofs.Settled.{Settles}
use Rattle.script_tree.proofs.Standing.{Around, fiber, main, block, select, group, in_file, behind, in_block, in_events, Goes, is_block, begun, stmts_shown, events_shown, file_shown, whole_shown, stmts_push, events_push, file_more, whole_last}
use Rattle.script_tree.proofs.Staying.{AreIn, closed_in, exchanged_in, descends_first}

-- ---- how texts are put together

ends : (text front old new opened inner end whole : List ℕ) → text ≡ (front ++ (old ++ opened)) ++ inner → new ≡ old ++ whole → whole ≡ opened ++ (inner ++ end)
    → text ++ end ≡ front ++ new
ends text front old new opened inner end whole i j k = rw (i, j, k) (simp append_assoc refl)

ends_text : (text front first inner end whole : List ℕ) → text ≡ (front ++ first) ++ inner → whole ≡ front ++ (first ++ (inner ++ end)) → text ++ end ≡ whole
ends_text text front first inner end whole i k = rw (i, k) (simp append_assoc refl)

changes : (text front old opened inner line after : List ℕ) → text ≡ (front ++ (old ++ opened)) ++ inner → after ≡ opened ++ (inner ++ line)
    → text ++ line ≡ (front ++ (old ++ after)) ++ []
changes text front old opened inner line after i k = rw (i, k) (simp (append_assoc, append-nil) refl)

pub two_parts : (opened first line second end : List ℕ) → opened ++ (first ++ ((line ++ second) ++ end)) ≡ (opened ++ (first ++ line)) ++ (second ++ end)
two_parts opened first line second end = simp append_assoc refl

-- ---- what is closed

block_is : (tree : Tree) (depth levels place : ℕ) (xs : List Stmt) → slice_get tree.blocks place ≡ Some xs → block_text (suc levels) tree depth place ≡ stmts_shown tree depth levels xs
block_is tree depth levels place xs h = ap (λ o. stmts_text (block_text levels tree (depth + 1)) tree depth o) h

closed_block : (tree : Tree) (s : State) (f : Frame) (fs : List Frame) → holds_statements s.top.what ≡ true → Descends (length s.blocks) (open_blocks (s.top ∷ (f ∷ fs)))
    → AreIn (set s.blocks s.top.place s.top.stmts) (open_blocks (f ∷ fs)) tree.blocks → slice_get tree.blocks s.top.place ≡ Some s.top.stmts
closed_block tree s f fs h d settle =
    let inner = descends_first (holds_statements s.top.what) (length s.blocks) s.top.place (open_blocks (f ∷ fs)) h d in
    closed_in s.blocks s.top.place s.top.stmts (open_blocks (f ∷ fs)) tree.blocks inner.0 inner.1 settle

group_no_block : (o : Opener) → is_group o ≡ true → is_block o ≡ true → ⊥
group_no_block opener.Choose g b = cc
group_no_block (opener.Wrap o) g b = cc
group_no_block (opener.Guard l t r) g b = cc
group_no_block _ g b = cc

-- ---- blocks

pub block_closes : (tree : Tree) (s : State) (o : Opener) (x : Stmt) (place : ℕ) (outer : List Frame) (depth levels : ℕ) (front text : List ℕ)
    → is_block o ≡ true → holds_statements s.top.what ≡ true
    → ((d n : ℕ) → stmt_text (block_text n tree (d + 1)) tree d x ≡ begun tree d n o ++ (block_text n tree (d + 1) s.top.place ++ ending tree d))
    → Descends (length s.blocks) (open_blocks (s.top ∷ outer))
    → Settles (left s (set s.blocks s.top.place s.top.stmts) s.events (λ f. with_stmt f x) outer) tree
    → depth ≤ 33 → Around tree s.decls s.texts o place outer depth levels front → text ≡ front ++ stmts_shown tree depth levels s.top.stmts
    → Goes tree (left s (set s.blocks s.top.place s.top.stmts) s.events (λ f. with_stmt f x) outer) text (Some form.End) []
block_closes tree s o x place outer depth levels front text b h wraps descend settle deep (group p q f fs d n w g hf l a) i = absurd (group_no_block p g b)
block_closes tree s o x place outer depth levels front text b h wraps descend settle deep (block p q f fs d n w b2 hf l a) i =
    let there : slice_get tree.blocks s.top.place ≡ Some s.top.stmts = closed_block tree s f fs h descend settle.blocks in
    record {
      depth = d;
      deep = omega (arith, deep);
      stands = in_block d (suc n) w hf l (omega (arith, deep)) a
          (ends text w (stmts_shown tree d (suc n) f.stmts) (stmts_shown tree d (suc n) (f.stmts ++ x ∷ [])) (begun tree d (suc n) p) (stmts_shown tree (d + 1) n s.top.stmts) (ending tree d) _ i
          (stmts_push tree d (suc n) f.stmts x)
          (wraps d (suc n) ∙ ap (λ ys. begun tree d (suc n) p ++ (ys ++ ending tree d)) (block_is tree (d + 1) n s.top.place s.top.stmts there)));
    }
block_closes tree s o x place outer depth levels front text b h wraps descend settle deep _ i = cc

-- ---- texts

closed_text : (tree : Tree) (s : State) (f : Frame) (fs : List Frame) → holds_statements s.top.what ≡ true → Descends (length s.blocks) (open_blocks (s.top ∷ (f ∷ fs)))
    → AreIn (set s.blocks s.top.place s.top.stmts) (open_blocks fs) tree.blocks → slice_get tree.blocks s.top.place ≡ Some s.top.stmts
closed_text tree s f fs h d settle =
    let inner = descends_first (holds_statements s.top.what) (length s.blocks) s.top.place (open_blocks (f ∷ fs)) h d in
    closed_in s.blocks s.top.place s.top.stmts (open_blocks fs) tree.blocks inner.0 (descends_less (holds_statements f.what) s.top.place f.place (open_blocks fs) inner.1) settle

-- the text of a fiber ends
pub fiber_closes : (tree : Tree) (s : State) (place : ℕ) (outer : List Frame) (depth levels : ℕ) (front text : List ℕ) → place ≡ s.top.place → holds_statements s.top.what ≡ true
    → Descends (length s.blocks) (open_blocks (s.top ∷ outer))
    → Settles (left s (set s.blocks s.top.place s.top.stmts) s.events (λ f. record f { what = opener.Between }) outer) tree
    → Around tree s.decls s.texts opener.Text place outer depth levels front → text ≡ front ++ stmts_shown tree depth levels s.top.stmts
    → Goes tree (left s (set s.blocks s.top.place s.top.stmts) s.events (λ f. record f { what = opener.Between }) outer) text (Some form.End) []
fiber_closes tree s place outer depth levels front text same h descend settle (block p q f fs d n w b2 hf l a) i = cc
fiber_closes tree s place outer depth levels front text same h descend settle (group p q f fs d n w g hf l a) i = cc
fiber_closes tree s place outer depth levels front text same h descend settle (fiber before t f fs e none) i =
    let there : slice_get tree.blocks t.block ≡ Some s.top.stmts = ap (λ p. slice_get tree.blocks p) same ∙ closed_text tree s f fs h descend settle.blocks in
    record {
      depth = 0;
      deep = omega arith;
      stands = in_file none refl (λ q. cc)
          (ends_text text (file_shown tree s.decls before) (line_text tree 0 form.Fiber (name_part t.name ∷ [])) (stmts_shown tree 1 33 s.top.stmts) (ending tree 0)
          (file_shown tree s.decls s.texts) i
          (ap (λ ts. file_shown tree s.decls ts) e ∙ (file_more tree s.decls before t
          ∙ ap (λ ys. file_shown tree s.decls before ++ (line_text tree 0 form.Fiber (name_part t.name ∷ []) ++ (ys ++ ending tree 0))) (block_is tree 1 33 t.block s.top.stmts there))));
    }

-- the main text ends
pub main_closes : (tree : Tree) (s : State) (place : ℕ) (outer : List Frame) (depth levels : ℕ) (front text : List ℕ) → place ≡ s.top.place → holds_statements s.top.what ≡ true
    → Descends (length s.blocks) (open_blocks (s.top ∷ outer))
    → Settles (left s (set s.blocks s.top.place s.top.stmts) s.events (λ f. record f { what = opener.Over }) outer) tree
    → Around tree s.decls s.texts opener.Main place outer depth levels front → text ≡ front ++ stmts_shown tree depth levels s.top.stmts
    → Goes tree (left s (set s.blocks s.top.place s.top.stmts) s.events (λ f. record f { what = opener.Over }) outer) text (Some form.End) []
main_closes tree s place outer depth levels front text same h descend settle (block p q f fs d n w b2 hf l a) i = cc
main_closes tree s place outer depth levels front text same h descend settle (group p q f fs d n w g hf l a) i = cc
main_closes tree s place outer depth levels front text same h descend settle (main before t f fs e none) i =
    let there : slice_get tree.blocks t.block ≡ Some s.top.stmts = ap (λ p. slice_get tree.blocks p) same ∙ closed_text tree s f fs h descend settle.blocks in
    record {
      depth = 0;
      deep = omega arith;
      stands = behind refl
          (ends_text text (file_shown tree s.decls before) (line_text tree 0 form.Main []) (stmts_shown tree 1 33 s.top.stmts) (ending tree 0)
          (whole_shown tree s.decls s.texts) i
          (ap (λ ts. whole_shown tree s.decls ts) e ∙ (whole_last tree s.decls before t
          ∙ ap (λ ys. file_shown tree s.decls before ++ (line_text tree 0 form.Main [] ++ (ys ++ ending tree 0))) (block_is tree 1 33 t.block s.top.stmts there))));
    }

-- ---- selects and groups

pub select_closes : (tree : Tree) (s : State) (number value place : ℕ) (outer : List Frame) (depth levels : ℕ) (front text : List ℕ) → depth ≤ 33
    → Around tree s.decls s.texts (opener.Select number value) place outer depth levels front → text ≡ front ++ events_shown tree depth levels s.top.events
    → Goes tree (left s s.blocks s.events (λ f. with_stmt f (stmt.Select number value s.top.events)) outer) text (Some form.End) []
select_closes tree s number value place outer depth levels front text deep (block p q f fs d n w b2 hf l a) i = cc
select_closes tree s number value place outer depth levels front text deep (group p q f fs d n w g hf l a) i = cc
select_closes tree s number value place outer depth levels front text deep (select p q r f fs d n w hf l a) i =
    let x : Stmt = stmt.Select number value s.top.events in
    record {
      depth = d;
      deep = omega (arith, deep);
      stands = in_block d n w hf l (omega (arith, deep)) a
          (ends text w (stmts_shown tree d n f.stmts) (stmts_shown tree d n (f.stmts ++ x ∷ [])) (opening tree d (opener.Select number value)) (events_shown tree (d + 1) 33 s.top.events)
          (ending tree d) _ i (stmts_push tree d n f.stmts x) refl);
    }

pub group_closes : (tree : Tree) (s : State) (o : Opener) (x : EventTree) (place : ℕ) (outer : List Frame) (depth levels : ℕ) (front text : List ℕ)
    → is_group o ≡ true → is_group s.top.what ≡ true
    → ((d n : ℕ) → event_text (events_text n tree (d + 1)) tree d (Some x) ≡ opening tree d o ++ (events_text n tree (d + 1) s.top.events ++ ending tree d))
    → Descends (length s.events) (open_groups (s.top ∷ outer))
    → Settles (left s s.blocks (set s.events s.top.place x) (λ f. with_event f s.top.place) outer) tree
    → depth ≤ 33 → Around tree s.decls s.texts o place outer depth levels front → text ≡ front ++ events_shown tree depth levels s.top.events
    → Goes tree (left s s.blocks (set s.events s.top.place x) (λ f. with_event f s.top.place) outer) text (Some form.End) []
group_closes tree s o x place outer depth levels front text g h wraps descend settle deep (block p q f fs d n w b hf l a) i = absurd (group_no_block p g b)
group_closes tree s o x place outer depth levels front text g h wraps descend settle deep (group p q f fs d n w g2 hf l a) i =
    let inner = descends_first (is_group s.top.what) (length s.events) s.top.place (open_groups (f ∷ fs)) h descend in
    let there : slice_get tree.events s.top.place ≡ Some x = closed_in s.events s.top.place x (open_groups (f ∷ fs)) tree.events inner.0 inner.1 settle.events in
    record {
      depth = d;
      deep = omega (arith, deep);
      stands = in_events d (suc n) w hf l (omega (arith, deep)) a
          (ends text w (events_shown tree d (suc n) f.events) (events_shown tree d (suc n) (f.events ++ s.top.place ∷ [])) (opening tree d p) (events_shown tree (d + 1) n s.top.events) (ending tree d) _ i
          (events_push tree d (suc n) f.events s.top.place)
          (ap (λ o. event_text (events_text (suc n) tree (d + 1)) tree d o) there ∙ wraps d (suc n)));
    }
group_closes tree s o x place outer depth levels front text g h wraps descend settle deep _ i = cc

-- ---- the second part of a block

pub part_goes : (tree : Tree) (s : State) (o after : Opener) (f2 : Form) (parts : List Part) (place : ℕ) (outer : List Frame) (depth levels : ℕ) (front text : List ℕ)
    → is_block o ≡ true → is_block after ≡ true → holds_statements after ≡ true → holds_statements s.top.what ≡ true
    → ((d n : ℕ) → begun tree d n after ≡ begun tree d n o ++ (block_text n tree (d + 1) s.top.place ++ line_text tree d f2 parts))
    → Descends (length s.blocks) (open_blocks (s.top ∷ outer))
    → AreIn (set s.blocks s.top.place s.top.stmts ++ [] ∷ []) (length s.blocks ∷ open_blocks outer) tree.blocks
    → s.top.level.depth + 1 ≡ depth → depth ≤ 33 → Around tree s.decls s.texts o place outer depth levels front → text ≡ front ++ stmts_shown tree depth levels s.top.stmts
    → outer ≡ s.outer → Goes tree (part_begun s after) text (Some f2) parts
part_goes tree s o after f2 parts place outer depth levels front text b b2 ha h comes descend settle level deep (group p q f fs d n w g hf l a) i same = absurd (group_no_block p g b)
part_goes tree s o after f2 parts place outer depth levels front text b b2 ha h comes descend settle level deep (block p q f fs d n w b3 hf l a) i same =
    let inner = descends_first (holds_statements s.top.what) (length s.blocks) s.top.place (open_blocks (f ∷ fs)) h descend in
    let there : slice_get tree.blocks s.top.place ≡ Some s.top.stmts =
    exchanged_in s.blocks s.top.place s.top.stmts [] (open_blocks (f ∷ fs)) tree.blocks inner.0 inner.1 settle in
    record {
      depth = d;
      deep = omega (arith, deep);
      stands = in_block (d + 1) n _ ha level deep
          (subst (λ fs. Around tree s.decls s.texts after (length s.blocks) fs (d + 1) n (w ++ (stmts_shown tree d (suc n) f.stmts ++ begun tree d (suc n) after))) same (block after (length s.blocks) f fs d n w b2 hf l a))
          (changes text w (stmts_shown tree d (suc n) f.stmts) (begun tree d (suc n) p) (stmts_shown tree (d + 1) n s.top.stmts) (line_text tree d f2 parts) (begun tree d (suc n) after) i
          (comes d (suc n) ∙ ap (λ ys. begun tree d (suc n) p ++ (ys ++ line_text tree d f2 parts)) (block_is tree (d + 1) n s.top.place s.top.stmts there)));
    }
part_goes tree s o after f2 parts place outer depth levels front text b b2 ha h comes descend settle level deep _ i same = cc
