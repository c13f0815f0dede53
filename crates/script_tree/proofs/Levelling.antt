-- Blocks and events of a script stand at their levels.
use Rattle.std.proofs.Common.{◌≡◌, ◌∙◌, Some, List, [], ◌∷◌, ◌++◌, length, set, slice_get, arith, append_assoc, append-nil, length-append, length-set, sym, ap, subst}
use Rattle.script_tree.specs.declared.level.Level.{Level}
use Rattle.script_tree.specs.declared.program.EventTree.TheVariants as event
use Rattle.script_tree.specs.Levels.{Levels, IsAt}
use Rattle.script_tree.specs.Lines.{event_form_made}
use Rattle.script_tree.specs.Reading.{State, outermost, inside}
use Rattle.script_tree.proofs.Lasting.{at_end}
use Rattle.script_tree.proofs.Moves.{Moves, begins_fiber, begins_main, adds_leaf, opens, opens_group, begins_else, begins_catch, ends_text, ends_block, ends_group}

-- ---- the levels of what was read

abbrev with_block : Levels → Level → Levels
with_block made level = record made { blocks = made.blocks ++ level ∷ [] }

abbrev with_event_level : Levels → Level → Levels
with_event_level made level = record made { events = made.events ++ level ∷ [] }

-- a block or an event that a move adds has its level
abbrev pub levels_after : (s : State) {t : State} → Levels → Moves s t → Levels
levels_after s made (begins_fiber parts p h full) = with_block made outermost
levels_after s made (begins_main h) = with_block made outermost
levels_after s made (adds_leaf f parts p h few) = with_event_level made s.top.level
levels_after s made (opens o p h full deep) = with_block made (inside s.top.level o)
levels_after s made (opens_group o p h deep) = with_event_level made s.top.level
levels_after s made (begins_else l t r is) = with_block made s.top.level
levels_after s made (begins_catch parts p is) = with_block made s.top.level
levels_after s made _ = made

-- each block and event has a level
pub record Leveled (s : State) (made : Levels) : Type 0 where
  pub blocks : length made.blocks ≡ length s.blocks
  pub events : length made.events ≡ length s.events

one_longer : {A B : Type 0} (xs : List A) (ys : List B) (x : A) (y : B) → length xs ≡ length ys → length (xs ++ x ∷ []) ≡ length (ys ++ y ∷ [])
one_longer xs ys x y e = let a = length-append xs (x ∷ []) in let b = length-append ys (y ∷ []) in omega (arith, a, b, e)

with_part : (s : State) (made : Levels) → Leveled s made → length (made.blocks ++ s.top.level ∷ []) ≡ length (set s.blocks s.top.place s.top.stmts ++ [] ∷ [])
with_part s made l =
    one_longer made.blocks (set s.blocks s.top.place s.top.stmts) s.top.level [] (l.blocks ∙ sym (length-set s.blocks s.top.place s.top.stmts))

pub moves_leveled : (s : State) {t : State} (made : Levels) (m : Moves s t) → Leveled s made → Leveled t (levels_after s made m)
moves_leveled s made (begins_fiber parts p h full) l = record { blocks = one_longer made.blocks s.blocks outermost [] l.blocks; events = l.events }
moves_leveled s made (begins_main h) l = record { blocks = one_longer made.blocks s.blocks outermost [] l.blocks; events = l.events }
moves_leveled s made (adds_leaf f parts p h few) l =
    record { blocks = l.blocks; events = one_longer made.events s.events s.top.level (event_form_made f parts) l.events }
moves_leveled s made (opens o p h full deep) l =
    record { blocks = one_longer made.blocks s.blocks (inside s.top.level o) [] l.blocks; events = l.events }
moves_leveled s made (opens_group o p h deep) l = record { blocks = l.blocks; events = one_longer made.events s.events s.top.level (event.Choose []) l.events }
moves_leveled s made (begins_else a q b is) l = record { blocks = with_part s made l; events = l.events }
moves_leveled s made (begins_catch parts p is) l = record { blocks = with_part s made l; events = l.events }
moves_leveled s made (ends_text f behind e h ends) l = record { blocks = l.blocks ∙ sym (length-set s.blocks s.top.place s.top.stmts); events = l.events }
moves_leveled s made (ends_block f fs x e h becomes) l = record { blocks = l.blocks ∙ sym (length-set s.blocks s.top.place s.top.stmts); events = l.events }
moves_leveled s made (ends_group f fs x e h groups) l = record { blocks = l.blocks; events = l.events ∙ sym (length-set s.events s.top.place x) }
moves_leveled s made _ l = record { blocks = l.blocks; events = l.events }

-- these levels, and maybe more
pub record Extends (made levels : Levels) : Type 0 where
  pub more_blocks : List Level
  pub blocks : levels.blocks ≡ made.blocks ++ more_blocks
  pub more_events : List Level
  pub events : levels.events ≡ made.events ++ more_events

pub extends_itself : (made : Levels) → Extends made made
extends_itself made = record { more_blocks = []; blocks = sym (append-nil made.blocks); more_events = []; events = sym (append-nil made.events) }

without_block : (made levels : Levels) (level : Level) → Extends (with_block made level) levels → Extends made levels
without_block made levels level e = record {
  more_blocks = level ∷ e.more_blocks;
  blocks = e.blocks ∙ append_assoc made.blocks (level ∷ []) e.more_blocks;
  more_events = e.more_events;
  events = e.events;
}

without_event : (made levels : Levels) (level : Level) → Extends (with_event_level made level) levels → Extends made levels
without_event made levels level e = record {
  more_blocks = e.more_blocks;
  blocks = e.blocks;
  more_events = level ∷ e.more_events;
  events = e.events ∙ append_assoc made.events (level ∷ []) e.more_events;
}

pub extends_back : (s : State) {t : State} (made levels : Levels) (m : Moves s t) → Extends (levels_after s made m) levels → Extends made levels
extends_back s made levels (begins_fiber parts p h full) e = without_block made levels outermost e
extends_back s made levels (begins_main h) e = without_block made levels outermost e
extends_back s made levels (adds_leaf f parts p h few) e = without_event made levels s.top.level e
extends_back s made levels (opens o p h full deep) e = without_block made levels (inside s.top.level o) e
extends_back s made levels (opens_group o p h deep) e = without_event made levels s.top.level e
extends_back s made levels (begins_else a q b is) e = without_block made levels s.top.level e
extends_back s made levels (begins_catch parts p is) e = without_block made levels s.top.level e
extends_back s made levels _ e = e

-- the level of the block or event that comes next
pub next_block : (s : State) (made levels : Levels) (level : Level) → Leveled s made → Extends (with_block made level) levels
    → IsAt levels.blocks level (length s.blocks)
next_block s made levels level l e =
    subst (λ n. slice_get levels.blocks n ≡ Some level) l.blocks
    (ap (λ xs. slice_get xs (length made.blocks)) e.blocks ∙ at_end made.blocks level e.more_blocks)

pub next_event : (s : State) (made levels : Levels) (level : Level) → Leveled s made → Extends (with_event_level made level) levels
    → IsAt levels.events level (length s.events)
next_event s made levels level l e =
    subst (λ n. slice_get levels.events n ≡ Some level) l.events
    (ap (λ xs. slice_get xs (length made.events)) e.events ∙ at_end made.events level e.more_events)
