-- Blocks and events that are closed stay as they are along the reading of a script.
use Rattle.std.proofs.Common.{◌≡◌, ℕ, Bool, true, false, cond, List, [], ◌∷◌, ◌++◌, length, set, refl, ap, length-set}
use Rattle.script_tree.specs.declared.form.BlockForm.{BlockForm}
use Rattle.script_tree.specs.declared.form.BlockForm.TheVariants as block_form
use Rattle.script_tree.specs.declared.form.GroupForm.TheVariants as group_form
use Rattle.script_tree.specs.declared.opener.Opener.{Opener}
use Rattle.script_tree.specs.declared.opener.Opener.TheVariants as opener
use Rattle.script_tree.specs.declared.program.Stmt.{Stmt}
use Rattle.script_tree.specs.Grammar.{tree_of}
use Rattle.script_tree.specs.Lines.{number_in, part_at, block_form_made}
use Rattle.script_tree.specs.Parts.{Part}
use Rattle.script_tree.specs.Reading.{State, is_group, holds_statements, part_begun}
use Rattle.script_tree.specs.Tree.{Tree}
use Rattle.script_tree.proofs.Groups.{open_groups, block_no_group, select_no_group, behind_no_group}
use Rattle.script_tree.proofs.Moves.{Moves, begins_fiber, begins_main, adds_leaf, opens, opens_select, opens_group, begins_else, begins_catch, ends_text, ends_block, ends_select, ends_group, opens_block, IsBlock, a_block, IsSelect, a_select, IsGroup, a_group, Ends, a_text, the_main}
use Rattle.script_tree.proofs.Moving.{becomes_holds, ends_holds, groups_are}
use Rattle.script_tree.proofs.Paths.{open_blocks}
use Rattle.script_tree.proofs.Staying.{Stays, AreIn, stays_same, stays_pushed, stays_opened, stays_closed, stays_exchanged, stays_less, were_in}

-- ---- from one state to the next

pub record Keeps (s t : State) : Type 0 where
  pub blocks : Stays s.blocks t.blocks (open_blocks (s.top ∷ s.outer)) (open_blocks (t.top ∷ t.outer))
  pub events : Stays s.events t.events (open_groups (s.top ∷ s.outer)) (open_groups (t.top ∷ t.outer))

-- one more opens
one_opens : {A : Type 0} (b : Bool) (xs : List A) (x : A) (places : List ℕ) → b ≡ true → Stays xs (xs ++ x ∷ []) places (cond b (length xs ∷ places) places)
one_opens true xs x places h = stays_opened xs x places
one_opens false xs x places h = cc

-- something opens that has none
none_opens : {A : Type 0} (b : Bool) (p : ℕ) (xs : List A) (places : List ℕ) → b ≡ false → Stays xs xs places (cond b (p ∷ places) places)
none_opens true p xs places h = cc
none_opens false p xs places h = stays_same xs places

-- the one of what is open ends
one_ends : {A : Type 0} (b : Bool) (xs : List A) (p : ℕ) (x : A) (places : List ℕ) → b ≡ true → Stays xs (set xs p x) (cond b (p ∷ places) places) places
one_ends true xs p x places h = stays_closed xs p x places
one_ends false xs p x places h = cc

-- what is open ends, and no element of the list is set
none_ends : {A : Type 0} (b : Bool) (p : ℕ) (xs : List A) (places : List ℕ) → Stays xs xs (cond b (p ∷ places) places) places
none_ends b p xs places = stays_less b p xs xs places places (stays_same xs places)

-- the block of a text ends, inside the file
block_of_text_ends : (b c : Bool) (p q : ℕ) (xs : List (List Stmt)) (x : List Stmt) (places : List ℕ) → b ≡ true
    → Stays xs (set xs p x) (cond b (p ∷ cond c (q ∷ places) places) (cond c (q ∷ places) places)) places
block_of_text_ends true true p q xs x places h = record {
  within = λ k l. rw length-set l;
  closed = λ k l n. n.1.1;
  same = λ k l n. (stays_closed xs p x places).same k l (n.0, n.1.1);
}
block_of_text_ends true false p q xs x places h = stays_closed xs p x places
block_of_text_ends false c p q xs x places h = cc

-- a block ends, and another one begins
block_changes : (b : Bool) (xs : List (List Stmt)) (p : ℕ) (x : List Stmt) (places : List ℕ) → b ≡ true
    → Stays xs (set xs p x ++ [] ∷ []) (cond b (p ∷ places) places) (length xs ∷ places)
block_changes true xs p x places h = stays_exchanged xs p x [] places
block_changes false xs p x places h = cc

part_keeps : (s : State) (o : Opener) → holds_statements s.top.what ≡ true → holds_statements o ≡ true → is_group o ≡ false → Keeps s (part_begun s o)
part_keeps s o h block no_group = record {
  blocks = rw block (block_changes (holds_statements s.top.what) s.blocks s.top.place s.top.stmts (open_blocks s.outer) h);
  events = rw no_group (none_ends (is_group s.top.what) s.top.place s.events (open_groups s.outer));
}

block_form_holds : (f : BlockForm) (parts : List Part) → opens_block (block_form_made f parts) ≡ true → holds_statements (block_form_made f parts) ≡ true
block_form_holds block_form.Select parts h = cc
block_form_holds _ parts h = refl

block_holds : (s : State) (o : Opener) → IsBlock s o → holds_statements o ≡ true
block_holds s o (a_block f parts p is) = block_form_holds f parts is

select_holds : (s : State) (o : Opener) → IsSelect s o → holds_statements o ≡ false
select_holds s o (a_select n v f parts p is) = refl

group_holds : (s : State) (o : Opener) → IsGroup s o → (holds_statements o ≡ false) × (is_group o ≡ true)
group_holds s o (a_group group_form.Choose parts p) = (refl, refl)
group_holds s o _ = (refl, refl)

behind_holds : (o behind : Opener) → Ends o behind → holds_statements behind ≡ false
behind_holds o behind a_text = refl
behind_holds o behind the_main = refl

-- a move keeps what is closed
pub moves_keep : (s : State) {t : State} → Moves s t → Keeps s t
moves_keep s (begins_fiber parts p h full) = record { blocks = stays_opened s.blocks [] _; events = stays_same s.events _ }
moves_keep s (begins_main h) = record { blocks = stays_opened s.blocks [] _; events = stays_same s.events _ }
moves_keep s (adds_leaf f parts p h few) = record { blocks = stays_same s.blocks _; events = stays_pushed s.events _ _ }
moves_keep s (opens o p h full deep) = record {
  blocks = one_opens (holds_statements o) s.blocks [] (open_blocks (s.top ∷ s.outer)) (block_holds s o p);
  events = none_opens (is_group o) (length s.blocks) s.events (open_groups (s.top ∷ s.outer)) (block_no_group s o p);
}
moves_keep s (opens_select o p h full deep) = record {
  blocks = none_opens (holds_statements o) 0 s.blocks (open_blocks (s.top ∷ s.outer)) (select_holds s o p);
  events = none_opens (is_group o) 0 s.events (open_groups (s.top ∷ s.outer)) (select_no_group s o p);
}
moves_keep s (opens_group o p h deep) = record {
  blocks = none_opens (holds_statements o) (length s.events) s.blocks (open_blocks (s.top ∷ s.outer)) (group_holds s o p).0;
  events = one_opens (is_group o) s.events _ (open_groups (s.top ∷ s.outer)) (group_holds s o p).1;
}
moves_keep s (begins_else l t r is) = part_keeps s (opener.Otherwise l t r s.top.place) (ap holds_statements is) refl refl
moves_keep s (begins_catch parts p is) = part_keeps s (opener.Catch s.top.place (number_in (part_at parts 0))) (ap holds_statements is) refl refl
moves_keep s (ends_text f behind e h ends) = record {
  blocks = rw (e, behind_holds s.top.what behind ends)
      (block_of_text_ends (holds_statements s.top.what) (holds_statements f.what) s.top.place f.place s.blocks s.top.stmts [] (ends_holds s.top.what behind ends));
  events = rw (e, behind_no_group s.top.what behind ends)
      (stays_less (is_group s.top.what) s.top.place s.events s.events (open_groups (f ∷ [])) [] (none_ends (is_group f.what) f.place s.events []));
}
moves_keep s (ends_block f fs x e h becomes) = record {
  blocks = rw e (one_ends (holds_statements s.top.what) s.blocks s.top.place s.top.stmts (open_blocks (f ∷ fs)) (becomes_holds s.top.place s.top.what x becomes));
  events = rw e (none_ends (is_group s.top.what) s.top.place s.events (open_groups (f ∷ fs)));
}
moves_keep s (ends_select f fs number value e h is) = record {
  blocks = rw e (none_ends (holds_statements s.top.what) s.top.place s.blocks (open_blocks (f ∷ fs)));
  events = rw e (none_ends (is_group s.top.what) s.top.place s.events (open_groups (f ∷ fs)));
}
moves_keep s (ends_group f fs x e h groups) = record {
  blocks = rw e (none_ends (holds_statements s.top.what) s.top.place s.blocks (open_blocks (f ∷ fs)));
  events = rw e (one_ends (is_group s.top.what) s.events s.top.place x (open_groups (f ∷ fs)) (groups_are s.top.events s.top.what x groups));
}
moves_keep s _ = record { blocks = stays_same s.blocks _; events = stays_same s.events _ }

-- ---- for good

-- what is closed in the state is in the tree
pub record Settles (s : State) (tree : Tree) : Type 0 where
  pub blocks : AreIn s.blocks (open_blocks (s.top ∷ s.outer)) tree.blocks
  pub events : AreIn s.events (open_groups (s.top ∷ s.outer)) tree.events

pub settled_at_end : (s : State) → Settles s (tree_of s)
settled_at_end s = record { blocks = λ p l n. refl; events = λ p l n. refl }

pub settled_before : (s t : State) (tree : Tree) → Keeps s t → Settles t tree → Settles s tree
settled_before s t tree k h = record {
  blocks = were_in s.blocks t.blocks (open_blocks (s.top ∷ s.outer)) (open_blocks (t.top ∷ t.outer)) tree.blocks k.blocks h.blocks;
  events = were_in s.events t.events (open_groups (s.top ∷ s.outer)) (open_groups (t.top ∷ t.outer)) tree.events k.events h.events;
}
