-- All that was read of a script fits: blocks, events, and what is open.
use Rattle.std.proofs.Common.{◌≡◌, ℕ, ◌+◌, ◌<◌, ◌≤◌, ◌∙◌, true, false, Some, List, [], ◌∷◌, ◌++◌, length, set, slice_get, arith, length-append, lt_of_lt_of_le, refl, sym, ap, subst}
use Rattle.std.specs.List.{AllByRecursion}
use Rattle.std.proofs.lemmas.Bool.{false≢true}
use Rattle.script_tree.specs.declared.opener.Opener.{Opener}
use Rattle.script_tree.specs.declared.opener.Opener.TheVariants as opener
use Rattle.script_tree.specs.declared.program.EventTree.{EventTree}
use Rattle.script_tree.specs.declared.program.EventTree.TheVariants as event
use Rattle.script_tree.specs.declared.program.Operand.{Operand}
use Rattle.script_tree.specs.declared.program.Stmt.{Stmt}
use Rattle.script_tree.specs.declared.program.Stmt.TheVariants as stmt
use Rattle.script_tree.specs.declared.program.Test.{Test}
use Rattle.script_tree.specs.declared.form.Form.TheVariants as form
use Rattle.script_tree.specs.Lines.{number_in, part_at, event_form_made}
use Rattle.script_tree.specs.Reading.{State, Frame, is_group, holds_statements, frame, outermost, inside, with_stmt, with_event}
use Rattle.script_tree.specs.Tree.{Tree}
use Rattle.script_tree.specs.WellFormed.{IsInner, IsEvent, StmtFits, EventFits}
use Rattle.script_tree.proofs.Descending.{inner_descend}
use Rattle.script_tree.proofs.Fitting.{NamesFit}
use Rattle.script_tree.proofs.Frames.{OpenFits, FramesFit, place_around, block_opens_fit, select_opens_fit, group_opens_fit, empty_fits, becomes_fits, groups_fit, behind_text_fits}
use Rattle.script_tree.proofs.Groups.{GroupsDescend, open_groups, inner_group, behind_no_group}
use Rattle.script_tree.proofs.Lasting.{LastsIn, all_push}
use Rattle.script_tree.proofs.Moves.{Moves, declares, begins_fiber, begins_main, states, adds_leaf, opens, opens_select, opens_group, begins_else, begins_catch, ends_text, ends_block, ends_select, ends_group, Becomes, Ends}
use Rattle.script_tree.proofs.Moving.{groups_are, becomes_in, becomes_no_file, becomes_holds}
use Rattle.script_tree.proofs.Nesting.{is_file, stands_in, Nested, IsNested}
use Rattle.script_tree.proofs.Paths.{open_blocks, Descends, BlocksDescend}
use Rattle.script_tree.proofs.Elements.{set_keeps, push_keeps}
use Rattle.script_tree.proofs.StatementsFit.{stated_fits, opened_fits, select_fits, group_fits, leaf_fits, are_for}

pub record Holds (s : State) (tree : Tree) : Type 0 where
  pub blocks : (place : ℕ) (block : List Stmt) → slice_get s.blocks place ≡ Some block → AllByRecursion (StmtFits tree place) block
  pub events : (place : ℕ) (e : EventTree) → slice_get s.events place ≡ Some e → EventFits tree place e
  pub frames : FramesFit tree (s.top ∷ s.outer)

-- a block in another one stands behind it
record IsBehind (s : State) : Type 0 where
  behind : place_around s.outer < s.top.place
  within : s.top.place < length s.blocks

module _ (s : State) (tree : Tree) (n : IsNested s) (d : BlocksDescend s) (g : GroupsDescend s) (known : NamesFit tree s.names) (l : LastsIn s tree)
    (h : Holds s tree) where
  -- ---- blocks

  block_behind : (o : Opener) (fs : List Frame) → holds_statements s.top.what ≡ true → is_file o ≡ false
      → ((around : Opener) → stands_in o around ≡ holds_statements around) → Nested o fs → Descends s.top.place (open_blocks fs) → place_around fs < s.top.place
  block_behind o [] holds no_file stands m d = absurd (false≢true (sym no_file ∙ m))
  block_behind o (f ∷ fs) holds no_file stands m d = (inner_descend s.top.place f fs (sym (stands f.what) ∙ m.0) d).0

  is_behind : holds_statements s.top.what ≡ true → is_file s.top.what ≡ false → ((around : Opener) → stands_in s.top.what around ≡ holds_statements around)
      → IsBehind s
  is_behind holds no_file stands =
      let i = inner_descend (length s.blocks) s.top s.outer holds d in
      record { behind = block_behind s.top.what s.outer holds no_file stands n i.1; within = i.0 }

  -- the block of what is open holds its statements
  filled : (place : ℕ) (block : List Stmt) → slice_get (set s.blocks s.top.place s.top.stmts) place ≡ Some block → AllByRecursion (StmtFits tree place) block
  filled = set_keeps (λ place block. AllByRecursion (StmtFits tree place) block) s.blocks s.top.place s.top.stmts h.blocks h.frames.0.stmts

  -- a block without statements opens
  with_block : (place : ℕ) (block : List Stmt) → slice_get (s.blocks ++ [] ∷ []) place ≡ Some block → AllByRecursion (StmtFits tree place) block
  with_block = push_keeps (λ place block. AllByRecursion (StmtFits tree place) block) s.blocks [] h.blocks tt

  with_part : (place : ℕ) (block : List Stmt) → slice_get (set s.blocks s.top.place s.top.stmts ++ [] ∷ []) place ≡ Some block
      → AllByRecursion (StmtFits tree place) block
  with_part = push_keeps (λ place block. AllByRecursion (StmtFits tree place) block) (set s.blocks s.top.place s.top.stmts) [] filled tt

  inner_block : (holder : ℕ) → place_around s.outer ≡ holder → IsBehind s → IsInner tree holder s.top.place
  inner_block holder e b = record { behind = subst (λ k. k < s.top.place) e b.behind; is = lt_of_lt_of_le b.within l.blocks }

  -- ---- lines

  text_holds : (o : Opener) → OpenFits tree s.top.place o → FramesFit tree (frame o (length s.blocks) outermost ∷ (s.top ∷ s.outer))
  text_holds o f = (empty_fits tree s.top.place (frame o (length s.blocks) outermost) f refl refl, h.frames)

  -- the second part of a block is open
  part_holds : (o : Opener) → OpenFits tree (place_around s.outer) o → is_group o ≡ false
      → FramesFit tree (record s.top { what = o; place = length s.blocks; stmts = [] } ∷ s.outer)
  part_holds o f none = (record { what = f; stmts = tt; events = h.frames.0.events; members = λ is. absurd (false≢true (sym none ∙ is)) }, h.frames.1)

  -- a statement stands in what is open
  with_stmt_holds : (f : Frame) (fs : List Frame) (x : Stmt) → StmtFits tree f.place x → FramesFit tree (f ∷ fs) → FramesFit tree (with_stmt f x ∷ fs)
  with_stmt_holds f fs x fits frames = (
    record {
      what = frames.0.what;
      stmts = all_push (StmtFits tree f.place) f.stmts x frames.0.stmts fits;
      events = frames.0.events;
      members = frames.0.members;
    },
    frames.1,
  )

  -- an event stands in what is open
  with_event_holds : (f : Frame) (fs : List Frame) (place : ℕ) → IsEvent tree place → (is_group f.what ≡ true → f.place < place) → FramesFit tree (f ∷ fs)
      → FramesFit tree (with_event f place ∷ fs)
  with_event_holds f fs place is behind frames = (
    record {
      what = frames.0.what;
      stmts = frames.0.stmts;
      events = all_push (IsEvent tree) f.events place frames.0.events is;
      members = λ group. all_push (λ k. (f.place < k) × IsEvent tree k) f.events place (frames.0.members group) (behind group, is);
    },
    frames.1,
  )

  -- what is around what is open
  around : (f : Frame) (fs : List Frame) → s.outer ≡ f ∷ fs → FramesFit tree (f ∷ fs)
  around f fs e = subst (λ gs. FramesFit tree gs) e h.frames.1

  behind_text : (f : Frame) (behind : Opener) → Ends s.top.what behind → FramesFit tree (f ∷ []) → FramesFit tree (record f { what = behind } ∷ [])
  behind_text f behind ends frames = (
    record {
      what = behind_text_fits tree 0 s.top.what behind ends;
      stmts = frames.0.stmts;
      events = frames.0.events;
      members = λ is. absurd (false≢true (sym (behind_no_group s.top.what behind ends) ∙ is));
    },
    tt,
  )

  becomes_behind : (x : Stmt) → Becomes s.top.place s.top.what x → IsBehind s
  becomes_behind x b =
      is_behind (becomes_holds s.top.place s.top.what x b) (becomes_no_file s.top.place s.top.what x b) (λ a. becomes_in s.top.place s.top.what x a b)

  -- a statement that ends a block stands in what is around it
  block_ended : (f : Frame) (fs : List Frame) (x : Stmt) → s.outer ≡ f ∷ fs → Becomes s.top.place s.top.what x → StmtFits tree f.place x
  block_ended f fs x e b =
      let holder : place_around s.outer ≡ f.place = ap place_around e in
      becomes_fits tree f.place s.top.place s.top.what x b (subst (λ k. OpenFits tree k s.top.what) holder h.frames.0.what)
      (inner_block f.place holder (becomes_behind x b))

  select_ended : (f : Frame) (number value : ℕ) → s.top.what ≡ opener.Select number value → StmtFits tree f.place (stmt.Select number value s.top.events)
  select_ended f number value is = (subst (λ o. OpenFits tree (place_around s.outer) o) is h.frames.0.what, h.frames.0.events)

  group_behind : (f : Frame) (fs : List Frame) → s.outer ≡ f ∷ fs → is_group s.top.what ≡ true
      → (s.top.place < length s.events) × (is_group f.what ≡ true → f.place < s.top.place)
  group_behind f fs e is =
      let i = inner_group (length s.events) s.top s.outer is g in
      (i.0, λ group. (inner_group s.top.place f fs group (subst (λ gs. Descends s.top.place (open_groups gs)) e i.1)).0)

  group_ended : (f : Frame) (fs : List Frame) → s.outer ≡ f ∷ fs → is_group s.top.what ≡ true → FramesFit tree (with_event f s.top.place ∷ fs)
  group_ended f fs e is =
      let b = group_behind f fs e is in with_event_holds f fs s.top.place (lt_of_lt_of_le b.0 l.events) b.1 (around f fs e)

  else_open : (a : Operand) (q : Test) (b : Operand) → s.top.what ≡ opener.Then a q b
      → OpenFits tree (place_around s.outer) (opener.Otherwise a q b s.top.place)
  else_open a q b is = (
    subst (λ o. OpenFits tree (place_around s.outer) o) is h.frames.0.what,
    inner_block (place_around s.outer) refl
        (is_behind (ap holds_statements is) (ap is_file is)
        (λ around. ap (λ o. stands_in o around) is)),
  )

  catch_open : (register : ℕ) → register < 16 → s.top.what ≡ opener.Try → OpenFits tree (place_around s.outer) (opener.Catch s.top.place register)
  catch_open register small is = (
    small,
    inner_block (place_around s.outer) refl
        (is_behind (ap holds_statements is) (ap is_file is)
        (λ around. ap (λ o. stands_in o around) is)),
  )

  new_event : (events : ℕ) → length s.events + 1 ≡ events → events ≤ length tree.events → IsEvent tree (length s.events)
  new_event events e le = omega (arith, e, le)

  -- what holds of a state holds of the next one
  pub moves_hold : {t : State} → Moves s t → LastsIn t tree → Holds t tree
  moves_hold (declares f parts p holds full) m = record { blocks = h.blocks; events = h.events; frames = h.frames }
  moves_hold (begins_fiber parts p holds full) m = record { blocks = with_block; events = h.events; frames = text_holds opener.Text tt }
  moves_hold (begins_main holds) m = record { blocks = with_block; events = h.events; frames = text_holds opener.Main tt }
  moves_hold (states x p holds full breaks) m =
      record { blocks = h.blocks; events = h.events; frames = with_stmt_holds s.top s.outer x (stated_fits s tree s.top.place x known p) h.frames }
  moves_hold (adds_leaf f parts p holds few) m = record {
    blocks = h.blocks;
    events = push_keeps (λ place e. EventFits tree place e) s.events (event_form_made f parts) h.events (leaf_fits s tree (length s.events) f parts known p);
    frames = with_event_holds s.top s.outer (length s.events) (new_event _ (sym (length-append s.events (event_form_made f parts ∷ []))) m.events)
        (λ is. (inner_group (length s.events) s.top s.outer is g).0) h.frames;
  }
  moves_hold (opens o p holds full deep) m = record {
    blocks = with_block;
    events = h.events;
    frames = (
      empty_fits tree s.top.place (frame o (length s.blocks) (inside s.top.level o))
          (block_opens_fit s tree s.top.place o p (opened_fits s tree o known p)) refl refl,
      h.frames,
    );
  }
  moves_hold (opens_select o p holds full deep) m = record {
    blocks = h.blocks;
    events = h.events;
    frames = (
      empty_fits tree s.top.place (frame o 0 (inside s.top.level o))
          (select_opens_fit s tree s.top.place o p (select_fits s tree o known p)) refl refl,
      h.frames,
    );
  }
  moves_hold (opens_group o p holds deep) m = record {
    blocks = h.blocks;
    events = push_keeps (λ place e. EventFits tree place e) s.events (event.Choose []) h.events tt;
    frames = (
      empty_fits tree s.top.place (frame o (length s.events) (inside s.top.level o))
          (group_opens_fit s tree s.top.place o p (group_fits s tree o known p)) refl refl,
      h.frames,
    );
  }
  moves_hold (begins_else a q b is) m =
      record { blocks = with_part; events = h.events; frames = part_holds (opener.Otherwise a q b s.top.place) (else_open a q b is) refl }
  moves_hold (begins_catch parts p is) m = record {
    blocks = with_part;
    events = h.events;
    frames = part_holds (opener.Catch s.top.place (number_in (part_at parts 0)))
        (catch_open (number_in (part_at parts 0)) (are_for s tree form.Catch parts known p).0 is) refl;
  }
  moves_hold (ends_text f behind e holds ends) m = record { blocks = filled; events = h.events; frames = behind_text f behind ends (around f [] e) }
  moves_hold (ends_block f fs x e holds becomes) m =
      record { blocks = filled; events = h.events; frames = with_stmt_holds f fs x (block_ended f fs x e becomes) (around f fs e) }
  moves_hold (ends_select f fs number value e holds is) m = record {
    blocks = h.blocks;
    events = h.events;
    frames = with_stmt_holds f fs (stmt.Select number value s.top.events) (select_ended f number value is) (around f fs e);
  }
  moves_hold (ends_group f fs x e holds groups) m = record {
    blocks = h.blocks;
    events = set_keeps (λ place y. EventFits tree place y) s.events s.top.place x h.events
        (groups_fit tree (place_around s.outer) s.top.place s.top.events s.top.what x groups h.frames.0.what h.frames.0.members);
    frames = group_ended f fs e (groups_are s.top.events s.top.what x groups);
  }
