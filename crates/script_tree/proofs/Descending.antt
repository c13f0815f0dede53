-- The places of open blocks descend from the inside out.
use Rattle.std.proofs.Common.{◌≡◌, ℕ, ◌+◌, ◌<◌, ◌≤◌, Bool, true, false, cond, List, [], ◌∷◌, ◌++◌, length, set, arith, length-append, length-set, lt_of_lt_of_le, refl, sym, subst}
use Rattle.script_tree.specs.declared.opener.Opener.{Opener}
use Rattle.script_tree.specs.declared.opener.Opener.TheVariants as opener
use Rattle.script_tree.specs.declared.program.Stmt.{Stmt}
use Rattle.script_tree.specs.declared.form.GroupForm.TheVariants as group_form
use Rattle.script_tree.specs.Lines.{number_in, part_at}
use Rattle.script_tree.specs.Reading.{State, Frame, holds_statements, frame, outermost, inside}
use Rattle.script_tree.proofs.Moves.{Moves, begins_fiber, begins_main, opens, opens_select, opens_group, begins_else, begins_catch, ends_text, ends_block, ends_select, ends_group, IsSelect, a_select, IsGroup, a_group, Ends, a_text, the_main}
use Rattle.script_tree.proofs.Moving.{moves}
use Rattle.script_tree.proofs.Pathways.{path_nested}
use Rattle.script_tree.proofs.Paths.{Path, begin, more, open_blocks, Descends, BlocksDescend}

pub descends_up : (a b : ℕ) (places : List ℕ) → a ≤ b → Descends a places → Descends b places
descends_up a b [] h d = tt
descends_up a b (p ∷ ps) h d = (lt_of_lt_of_le d.0 h, d.1)

-- without the first place
pub descends_less : (b : Bool) (bound p : ℕ) (places : List ℕ) → Descends bound (cond b (p ∷ places) places) → Descends bound places
descends_less true bound p places d = descends_up p bound places (omega (arith, d.0)) d.1
descends_less false bound p places d = d

pub around_descend : (bound : ℕ) (f : Frame) (fs : List Frame) → Descends bound (open_blocks (f ∷ fs)) → Descends bound (open_blocks fs)
around_descend bound f fs d = descends_less (holds_statements f.what) bound f.place (open_blocks fs) d

-- the innermost block and what is around it
pub inner_descend : (bound : ℕ) (f : Frame) (fs : List Frame) → holds_statements f.what ≡ true → Descends bound (open_blocks (f ∷ fs))
    → (f.place < bound) × Descends f.place (open_blocks fs)
inner_descend bound f fs h d = subst (λ b. Descends bound (cond b (f.place ∷ open_blocks fs) (open_blocks fs))) h d

outer_descend : (bound place : ℕ) (places : List ℕ) (b : Bool) → place < bound → Descends place places → Descends bound (cond b (place ∷ places) places)
outer_descend bound place places true h d = (h, d)
outer_descend bound place places false h d = descends_up place bound places (omega (arith, h)) d

-- a block behind all others opens
new_descend : (blocks : List (List Stmt)) (f : Frame) (fs : List Frame) → f.place ≡ length blocks → Descends (length blocks) (open_blocks fs)
    → Descends (length (blocks ++ [] ∷ [])) (open_blocks (f ∷ fs))
new_descend blocks f fs e d =
    rw length-append
    (outer_descend (length blocks + 1) f.place (open_blocks fs) (holds_statements f.what) (omega (arith, e))
    (descends_up (length blocks) f.place (open_blocks fs) (omega (arith, e)) d))

-- the second part of a block opens
part_descend : (s : State) (o : Opener) → BlocksDescend s
    → Descends (length (set s.blocks s.top.place s.top.stmts ++ [] ∷ [])) (open_blocks (record s.top { what = o; place = length s.blocks; stmts = [] } ∷ s.outer))
part_descend s o d =
    new_descend (set s.blocks s.top.place s.top.stmts) (record s.top { what = o; place = length s.blocks; stmts = [] }) s.outer (sym (length-set s.blocks s.top.place s.top.stmts))
    (rw length-set (around_descend (length s.blocks) s.top s.outer d))

-- what is open ends
end_descend : (s : State) (f : Frame) (fs : List Frame) → s.outer ≡ f ∷ fs → BlocksDescend s → Descends (length s.blocks) (open_blocks (f ∷ fs))
end_descend s f fs e d = subst (λ gs. Descends (length s.blocks) (open_blocks gs)) e (around_descend (length s.blocks) s.top s.outer d)

behind_descend : (o behind : Opener) (bound : ℕ) (f : Frame) → Ends o behind → Descends bound (open_blocks (record f { what = behind } ∷ []))
behind_descend o behind bound f a_text = tt
behind_descend o behind bound f the_main = tt

select_descend : (s : State) (o : Opener) (bound place : ℕ) (places : List ℕ) → IsSelect s o → Descends bound places
    → Descends bound (cond (holds_statements o) (place ∷ places) places)
select_descend s o bound place places (a_select n v f parts p is) d = d

group_descend : (s : State) (o : Opener) (bound place : ℕ) (places : List ℕ) → IsGroup s o → Descends bound places
    → Descends bound (cond (holds_statements o) (place ∷ places) places)
group_descend s o bound place places (a_group group_form.Choose parts p) d = d
group_descend s o bound place places _ d = d

pub moves_descend : (s : State) {t : State} → Moves s t → BlocksDescend s → BlocksDescend t
moves_descend s (begins_fiber parts p h full) d = new_descend s.blocks (frame opener.Text (length s.blocks) outermost) (s.top ∷ s.outer) refl d
moves_descend s (begins_main h) d = new_descend s.blocks (frame opener.Main (length s.blocks) outermost) (s.top ∷ s.outer) refl d
moves_descend s (opens o p h full deep) d = new_descend s.blocks (frame o (length s.blocks) (inside s.top.level o)) (s.top ∷ s.outer) refl d
moves_descend s (opens_select o p h full deep) d = select_descend s o (length s.blocks) 0 (open_blocks (s.top ∷ s.outer)) p d
moves_descend s (opens_group o p h deep) d = group_descend s o (length s.blocks) (length s.events) (open_blocks (s.top ∷ s.outer)) p d
moves_descend s (begins_else l q r is) d = part_descend s (opener.Otherwise l q r s.top.place) d
moves_descend s (begins_catch parts p is) d = part_descend s (opener.Catch s.top.place (number_in (part_at parts 0))) d
moves_descend s (ends_text f behind e h ends) d = behind_descend s.top.what behind _ f ends
moves_descend s (ends_block f fs x e h becomes) d = rw length-set (end_descend s f fs e d)
moves_descend s (ends_select f fs number value e h is) d = end_descend s f fs e d
moves_descend s (ends_group f fs x e h groups) d = end_descend s f fs e d
moves_descend s _ d = d

-- the places of open blocks descend
pub blocks_descend : {s : State} {lines : List (List (List ℕ))} → Path s lines → BlocksDescend s
blocks_descend begin = tt
blocks_descend (more {s = before} {lines = lines} {words = words} l path taken bare) =
    moves_descend before (moves before _ words l taken bare (path_nested before lines path)) (blocks_descend path)
