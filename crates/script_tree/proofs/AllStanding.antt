-- All that was read of a script stands at its level: blocks, events, texts, and what is open.
use Rattle.std.proofs.Common.{◌≡◌, ℕ, ◌∙◌, true, false, Some, List, [], ◌∷◌, ◌++◌, length, set, slice_get, codes, refl, sym, ap, subst}
use Rattle.std.specs.List.{AllByRecursion}
use Rattle.std.proofs.lemmas.Option.{same_Some}
use Rattle.script_tree.specs.declared.level.Level.{Level}
use Rattle.script_tree.specs.declared.opener.Opener.{Opener}
use Rattle.script_tree.specs.declared.opener.Opener.TheVariants as opener
use Rattle.script_tree.specs.declared.program.EventTree.{EventTree}
use Rattle.script_tree.specs.declared.program.EventTree.TheVariants as event
use Rattle.script_tree.specs.declared.program.Stmt.{Stmt}
use Rattle.script_tree.specs.declared.program.Stmt.TheVariants as stmt
use Rattle.script_tree.specs.declared.program.Text.{Text}
use Rattle.script_tree.specs.Levels.{Levels, IsAt, IsShallow, StmtStands, EventStands}
use Rattle.script_tree.specs.Lines.{name_in, number_in, part_at, event_form_made}
use Rattle.script_tree.specs.Reading.{State, Frame, frame, outermost, inside, is_deep, holds_statements, with_stmt, with_event}
use Rattle.script_tree.proofs.Elements.{set_keeps, push_keeps}
use Rattle.script_tree.proofs.Lasting.{all_push}
use Rattle.script_tree.proofs.Levelling.{levels_after, Leveled, Extends, next_block, next_event}
use Rattle.script_tree.proofs.Moves.{Moves, declares, begins_fiber, begins_main, states, adds_leaf, opens, opens_select, opens_group, begins_else, begins_catch, ends_text, ends_block, ends_select, ends_group, IsGroup, Groups, Ends}
use Rattle.script_tree.proofs.Moving.{becomes_holds, ends_holds}
use Rattle.script_tree.proofs.AtLevels.{OpenStands, own_block, block_open, select_open, group_open, group_level, behind_open, becomes_stands, events_at, groups_stand, own_event, stated_stands, leaf_stands, shallow_inside, shallow_outermost}

-- the statements of the block at a place stand at its level, and so an event
abbrev pub BlockStands : Levels → ℕ → List Stmt → Type 0
BlockStands levels place block = (level : Level) → IsAt levels.blocks level place → AllByRecursion (StmtStands levels level) block

abbrev pub EventStandsAt : Levels → ℕ → EventTree → Type 0
EventStandsAt levels place e = (level : Level) → IsAt levels.events level place → EventStands levels level e

-- something open in something of the level `around`, and what it holds so far
pub record FrameStands (levels : Levels) (around : Level) (f : Frame) : Type 0 where
  pub what : OpenStands levels around f.what f.level f.place
  pub shallow : IsShallow f.level
  pub stmts : AllByRecursion (StmtStands levels f.level) f.stmts
  pub events : AllByRecursion (IsAt levels.events f.level) f.events

abbrev pub level_around : List Frame → Level
level_around [] = outermost
level_around (f ∷ fs) = f.level

abbrev pub FramesStand : Levels → List Frame → Type 0
FramesStand levels [] = Unit {0}
FramesStand levels (f ∷ fs) = FrameStands levels (level_around fs) f × FramesStand levels fs

pub record AllStands (s : State) (made levels : Levels) : Type 0 where
  pub shallow : AllByRecursion IsShallow made.blocks
  pub texts : AllByRecursion (λ (t : Text). IsAt levels.blocks outermost t.block) s.texts
  pub blocks : (place : ℕ) (block : List Stmt) → slice_get s.blocks place ≡ Some block → BlockStands levels place block
  pub events : (place : ℕ) (e : EventTree) → slice_get s.events place ≡ Some e → EventStandsAt levels place e
  pub frames : FramesStand levels (s.top ∷ s.outer)

-- a level is the one that is there
same_level : (levels : List Level) (place : ℕ) (level other : Level) → IsAt levels level place → IsAt levels other place → level ≡ other
same_level levels place level other a b = same_Some level other (sym a ∙ b)

module _ (s : State) (made levels : Levels) (l : Leveled s made) (h : AllStands s made levels) where
  -- ---- blocks

  -- the block of what is open holds its statements
  filled : holds_statements s.top.what ≡ true → (place : ℕ) (block : List Stmt) → slice_get (set s.blocks s.top.place s.top.stmts) place ≡ Some block
      → BlockStands levels place block
  filled holds =
      set_keeps (BlockStands levels) s.blocks s.top.place s.top.stmts h.blocks
      (λ level at. subst (λ k. AllByRecursion (StmtStands levels k) s.top.stmts)
      (same_level levels.blocks s.top.place s.top.level level
      (own_block levels (level_around s.outer) s.top.level s.top.what s.top.place holds h.frames.0.what) at)
      h.frames.0.stmts)

  -- a block without statements opens
  with_empty : (place : ℕ) (block : List Stmt) → slice_get (s.blocks ++ [] ∷ []) place ≡ Some block → BlockStands levels place block
  with_empty = push_keeps (BlockStands levels) s.blocks [] h.blocks (λ level at. tt)

  with_part : holds_statements s.top.what ≡ true → (place : ℕ) (block : List Stmt)
      → slice_get (set s.blocks s.top.place s.top.stmts ++ [] ∷ []) place ≡ Some block → BlockStands levels place block
  with_part holds = push_keeps (BlockStands levels) (set s.blocks s.top.place s.top.stmts) [] (filled holds) (λ level at. tt)

  -- ---- what is open

  opened : (f : Frame) → OpenStands levels s.top.level f.what f.level f.place → IsShallow f.level → f.stmts ≡ [] → f.events ≡ []
      → FramesStand levels (f ∷ (s.top ∷ s.outer))
  opened f what shallow none no_events = (
    record {
      what = what;
      shallow = shallow;
      stmts = subst (λ xs. AllByRecursion (StmtStands levels f.level) xs) (sym none) tt;
      events = subst (λ xs. AllByRecursion (IsAt levels.events f.level) xs) (sym no_events) tt;
    },
    h.frames,
  )

  part : (o : Opener) → OpenStands levels (level_around s.outer) o s.top.level (length s.blocks)
      → FramesStand levels (record s.top { what = o; place = length s.blocks; stmts = [] } ∷ s.outer)
  part o what = (record { what = what; shallow = h.frames.0.shallow; stmts = tt; events = h.frames.0.events }, h.frames.1)

  stmt_added : (f : Frame) (fs : List Frame) (x : Stmt) → StmtStands levels f.level x → FramesStand levels (f ∷ fs) → FramesStand levels (with_stmt f x ∷ fs)
  stmt_added f fs x stands frames = (
    record {
      what = frames.0.what;
      shallow = frames.0.shallow;
      stmts = all_push (StmtStands levels f.level) f.stmts x frames.0.stmts stands;
      events = frames.0.events;
    },
    frames.1,
  )

  event_added : (f : Frame) (fs : List Frame) (place : ℕ) → IsAt levels.events f.level place → FramesStand levels (f ∷ fs)
      → FramesStand levels (with_event f place ∷ fs)
  event_added f fs place at frames = (
    record {
      what = frames.0.what;
      shallow = frames.0.shallow;
      stmts = frames.0.stmts;
      events = all_push (IsAt levels.events f.level) f.events place frames.0.events at;
    },
    frames.1,
  )

  -- what is around what is open
  around : (f : Frame) (fs : List Frame) → s.outer ≡ f ∷ fs → FramesStand levels (f ∷ fs)
  around f fs e = subst (λ gs. FramesStand levels gs) e h.frames.1

  own : (f : Frame) (fs : List Frame) → s.outer ≡ f ∷ fs → OpenStands levels f.level s.top.what s.top.level s.top.place
  own f fs e = subst (λ k. OpenStands levels k s.top.what s.top.level s.top.place) (ap level_around e) h.frames.0.what

  text_ended : (f : Frame) (behind : Opener) → s.outer ≡ f ∷ [] → Ends s.top.what behind → FramesStand levels (record f { what = behind } ∷ [])
  text_ended f behind e ends =
      let frames = around f [] e in (
        record {
          what = behind_open levels outermost f.level s.top.what behind f.place ends;
          shallow = frames.0.shallow;
          stmts = frames.0.stmts;
          events = frames.0.events;
        },
        tt,
      )

  select_ended : (f : Frame) (fs : List Frame) (number value : ℕ) → s.outer ≡ f ∷ fs → s.top.what ≡ opener.Select number value
      → StmtStands levels f.level (stmt.Select number value s.top.events)
  select_ended f fs number value e is =
      events_at levels s.top.level (inside f.level (opener.Select number value)) s.top.events
      (subst (λ o. OpenStands levels f.level o s.top.level s.top.place) is (own f fs e)) h.frames.0.shallow h.frames.0.events

  -- a group of events at a place, from the level of what holds it
  group_stands : (f : Frame) (fs : List Frame) (x : EventTree) → s.outer ≡ f ∷ fs → Groups s.top.events s.top.what x → EventStandsAt levels s.top.place x
  group_stands f fs x e groups level at =
      let holder = same_level levels.events s.top.place f.level level
      (own_event levels f.level s.top.level s.top.place s.top.events s.top.what x groups (own f fs e)) at in
      subst (λ k. EventStands levels k x) holder
      (groups_stand levels f.level s.top.level s.top.place s.top.events s.top.what x groups (own f fs e) h.frames.0.shallow h.frames.0.events)

  -- a group without members
  empty_group : (o : Opener) → IsGroup s o → is_deep s.top.level o ≡ false → IsAt levels.events s.top.level (length s.events)
      → EventStandsAt levels (length s.events) (event.Choose [])
  empty_group o p deep here level at =
      subst (λ k. EventStands levels k (event.Choose [])) (same_level levels.events (length s.events) s.top.level level here at)
      (subst (λ k. IsShallow k) (group_level s s.top.level o p) (shallow_inside s.top.level o deep h.frames.0.shallow), tt)

  text_opened : (o : Opener) → OpenStands levels s.top.level o outermost (length s.blocks)
      → FramesStand levels (frame o (length s.blocks) outermost ∷ (s.top ∷ s.outer))
  text_opened o what = opened (frame o (length s.blocks) outermost) what shallow_outermost refl refl

  text_added : (text : Text) → IsAt levels.blocks outermost text.block → AllByRecursion (λ (t : Text). IsAt levels.blocks outermost t.block) (s.texts ++ text ∷ [])
  text_added text at = all_push (λ (t : Text). IsAt levels.blocks outermost t.block) s.texts text h.texts at

  -- ---- lines

  pub moves_stand : {t : State} (m : Moves s t) → Extends (levels_after s made m) levels → AllStands t (levels_after s made m) levels
  moves_stand (declares f parts p holds full) e = record { shallow = h.shallow; texts = h.texts; blocks = h.blocks; events = h.events; frames = h.frames }
  moves_stand (begins_fiber parts p holds full) e =
      let at = next_block s made levels outermost l e in
      record {
        shallow = all_push IsShallow made.blocks outermost h.shallow shallow_outermost;
        texts = text_added (record { name = name_in (part_at parts 0); block = length s.blocks }) at;
        blocks = with_empty;
        events = h.events;
        frames = text_opened opener.Text (refl, at);
      }
  moves_stand (begins_main holds) e =
      let at = next_block s made levels outermost l e in
      record {
        shallow = all_push IsShallow made.blocks outermost h.shallow shallow_outermost;
        texts = text_added (record { name = codes "main"; block = length s.blocks }) at;
        blocks = with_empty;
        events = h.events;
        frames = text_opened opener.Main (refl, at);
      }
  moves_stand (states x p holds full breaks) e = record {
    shallow = h.shallow;
    texts = h.texts;
    blocks = h.blocks;
    events = h.events;
    frames = stmt_added s.top s.outer x (stated_stands s levels s.top.level x p breaks) h.frames;
  }
  moves_stand (adds_leaf f parts p holds few) e = record {
    shallow = h.shallow;
    texts = h.texts;
    blocks = h.blocks;
    events = push_keeps (EventStandsAt levels) s.events (event_form_made f parts) h.events (λ level at. leaf_stands levels level f parts);
    frames = event_added s.top s.outer (length s.events) (next_event s made levels s.top.level l e) h.frames;
  }
  moves_stand (opens o p holds full deep) e =
      let shallow = shallow_inside s.top.level o deep h.frames.0.shallow in
      record {
        shallow = all_push IsShallow made.blocks (inside s.top.level o) h.shallow shallow;
        texts = h.texts;
        blocks = with_empty;
        events = h.events;
        frames = opened (frame o (length s.blocks) (inside s.top.level o))
            (block_open s levels s.top.level o (length s.blocks) p (next_block s made levels (inside s.top.level o) l e)) shallow refl refl;
      }
  moves_stand (opens_select o p holds full deep) e = record {
    shallow = h.shallow;
    texts = h.texts;
    blocks = h.blocks;
    events = h.events;
    frames = opened (frame o 0 (inside s.top.level o)) (select_open s levels s.top.level o 0 p)
        (shallow_inside s.top.level o deep h.frames.0.shallow) refl refl;
  }
  moves_stand (opens_group o p holds deep) e =
      let at = next_event s made levels s.top.level l e in
      record {
        shallow = h.shallow;
        texts = h.texts;
        blocks = h.blocks;
        events = push_keeps (EventStandsAt levels) s.events (event.Choose []) h.events (empty_group o p deep at);
        frames = opened (frame o (length s.events) (inside s.top.level o)) (group_open s levels s.top.level o (length s.events) p at)
            (shallow_inside s.top.level o deep h.frames.0.shallow) refl refl;
      }
  moves_stand (begins_else a q b is) e =
      let own = subst (λ o. OpenStands levels (level_around s.outer) o s.top.level s.top.place) is h.frames.0.what in
      record {
        shallow = all_push IsShallow made.blocks s.top.level h.shallow h.frames.0.shallow;
        texts = h.texts;
        blocks = with_part (ap holds_statements is);
        events = h.events;
        frames = part (opener.Otherwise a q b s.top.place) (own.0, next_block s made levels s.top.level l e, own.1);
      }
  moves_stand (begins_catch parts p is) e =
      let own = subst (λ o. OpenStands levels (level_around s.outer) o s.top.level s.top.place) is h.frames.0.what in
      record {
        shallow = all_push IsShallow made.blocks s.top.level h.shallow h.frames.0.shallow;
        texts = h.texts;
        blocks = with_part (ap holds_statements is);
        events = h.events;
        frames = part (opener.Catch s.top.place (number_in (part_at parts 0))) (own.0, next_block s made levels s.top.level l e, own.1);
      }
  moves_stand (ends_text f behind i holds ends) e = record {
    shallow = h.shallow;
    texts = h.texts;
    blocks = filled (ends_holds s.top.what behind ends);
    events = h.events;
    frames = text_ended f behind i ends;
  }
  moves_stand (ends_block f fs x i holds becomes) e = record {
    shallow = h.shallow;
    texts = h.texts;
    blocks = filled (becomes_holds s.top.place s.top.what x becomes);
    events = h.events;
    frames = stmt_added f fs x (becomes_stands levels f.level s.top.level s.top.place s.top.what x becomes (own f fs i)) (around f fs i);
  }
  moves_stand (ends_select f fs number value i holds is) e = record {
    shallow = h.shallow;
    texts = h.texts;
    blocks = h.blocks;
    events = h.events;
    frames = stmt_added f fs (stmt.Select number value s.top.events) (select_ended f fs number value i is) (around f fs i);
  }
  moves_stand (ends_group f fs x i holds groups) e = record {
    shallow = h.shallow;
    texts = h.texts;
    blocks = h.blocks;
    events = set_keeps (EventStandsAt levels) s.events s.top.place x h.events (group_stands f fs x i groups);
    frames = event_added f fs s.top.place
        (own_event levels f.level s.top.level s.top.place s.top.events s.top.what x groups (own f fs i)) (around f fs i);
  }
