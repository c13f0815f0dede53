-- The places of open groups of events descend from the inside out, and those of their members stand behind them.
use Rattle.std.proofs.Common.{◌≡◌, ℕ, ◌<◌, Bool, true, false, cond, List, [], ◌∷◌, ◌++◌, length, set, arith, length-append, length-set, refl, sym, subst}
use Rattle.std.proofs.lemmas.Bool.{false≢true}
use Rattle.script_tree.specs.declared.opener.Opener.{Opener}
use Rattle.script_tree.specs.declared.opener.Opener.TheVariants as opener
use Rattle.script_tree.specs.declared.program.EventTree.{EventTree}
use Rattle.script_tree.specs.declared.program.EventTree.TheVariants as event
use Rattle.script_tree.specs.Reading.{State, Frame, is_group, frame, inside}
use Rattle.script_tree.proofs.Descending.{descends_up, descends_less}
use Rattle.script_tree.proofs.Moves.{Moves, adds_leaf, opens, opens_select, opens_group, begins_else, begins_catch, ends_text, ends_block, ends_select, ends_group, opens_block, IsBlock, a_block, IsSelect, a_select, Ends, a_text, the_main}
use Rattle.script_tree.proofs.Moving.{moves}
use Rattle.script_tree.proofs.Pathways.{path_nested}
use Rattle.script_tree.proofs.Paths.{Path, begin, more, Descends}

-- the places of the open groups, from the inside out
abbrev pub open_groups : List Frame → List ℕ
open_groups [] = []
open_groups (f ∷ fs) = cond (is_group f.what) (f.place ∷ open_groups fs) (open_groups fs)

abbrev pub GroupsDescend : State → Type 0
GroupsDescend s = Descends (length s.events) (open_groups (s.top ∷ s.outer))

pub around_groups : (bound : ℕ) (f : Frame) (fs : List Frame) → Descends bound (open_groups (f ∷ fs)) → Descends bound (open_groups fs)
around_groups bound f fs d = descends_less (is_group f.what) bound f.place (open_groups fs) d

-- the innermost group and what is around it
pub inner_group : (bound : ℕ) (f : Frame) (fs : List Frame) → is_group f.what ≡ true → Descends bound (open_groups (f ∷ fs))
    → (f.place < bound) × Descends f.place (open_groups fs)
inner_group bound f fs h d = subst (λ b. Descends bound (cond b (f.place ∷ open_groups fs) (open_groups fs))) h d

no_group : (bound : ℕ) (f : Frame) (fs : List Frame) → is_group f.what ≡ false → Descends bound (open_groups fs) → Descends bound (open_groups (f ∷ fs))
no_group bound f fs h d = subst (λ b. Descends bound (cond b (f.place ∷ open_groups fs) (open_groups fs))) (sym h) d

more_events : (s : State) (e : EventTree) (places : List ℕ) → Descends (length s.events) places → Descends (length (s.events ++ e ∷ [])) places
more_events s e places d = descends_up (length s.events) (length (s.events ++ e ∷ [])) places (rw length-append (omega arith)) d

same_events : (s : State) (place : ℕ) (e : EventTree) (places : List ℕ) → Descends (length s.events) places → Descends (length (set s.events place e)) places
same_events s place e places d = rw length-set d

-- a group behind all other events opens
new_group : (s : State) (o : Opener) (places : List ℕ) (b : Bool) → Descends (length s.events) places
    → Descends (length (s.events ++ event.Choose [] ∷ [])) (cond b (length s.events ∷ places) places)
new_group s o places true d = (rw length-append (omega arith), d)
new_group s o places false d = more_events s (event.Choose []) places d

opens_no_group : (o : Opener) → opens_block o ≡ true → is_group o ≡ false
opens_no_group opener.Choose h = absurd (false≢true h)
opens_no_group (opener.Wrap p) h = absurd (false≢true h)
opens_no_group (opener.Guard l t r) h = absurd (false≢true h)
opens_no_group _ h = refl

pub block_no_group : (s : State) (o : Opener) → IsBlock s o → is_group o ≡ false
block_no_group s o (a_block f parts p is) = opens_no_group o is

pub select_no_group : (s : State) (o : Opener) → IsSelect s o → is_group o ≡ false
select_no_group s o (a_select n v f parts p is) = refl

pub behind_no_group : (o behind : Opener) → Ends o behind → is_group behind ≡ false
behind_no_group o behind a_text = refl
behind_no_group o behind the_main = refl

-- what is open ends
end_groups : (s : State) (f : Frame) (fs : List Frame) → s.outer ≡ f ∷ fs → GroupsDescend s → Descends (length s.events) (open_groups (f ∷ fs))
end_groups s f fs e d = subst (λ gs. Descends (length s.events) (open_groups gs)) e (around_groups (length s.events) s.top s.outer d)

pub moves_groups : (s : State) {t : State} → Moves s t → GroupsDescend s → GroupsDescend t
moves_groups s (adds_leaf f parts p h few) d = more_events s _ (open_groups (s.top ∷ s.outer)) d
moves_groups s (opens o p h full deep) d = no_group (length s.events) (frame o (length s.blocks) (inside s.top.level o)) (s.top ∷ s.outer) (block_no_group s o p) d
moves_groups s (opens_select o p h full deep) d = no_group (length s.events) (frame o 0 (inside s.top.level o)) (s.top ∷ s.outer) (select_no_group s o p) d
moves_groups s (opens_group o p h deep) d = new_group s o (open_groups (s.top ∷ s.outer)) (is_group o) d
moves_groups s (begins_else l q r is) d = around_groups (length s.events) s.top s.outer d
moves_groups s (begins_catch parts p is) d = around_groups (length s.events) s.top s.outer d
moves_groups s (ends_text f behind e h ends) d = no_group (length s.events) (record f { what = behind }) [] (behind_no_group s.top.what behind ends) tt
moves_groups s (ends_block f fs x e h becomes) d = end_groups s f fs e d
moves_groups s (ends_select f fs number value e h is) d = end_groups s f fs e d
moves_groups s (ends_group f fs x e h groups) d = same_events s s.top.place x (open_groups (f ∷ fs)) (end_groups s f fs e d)
moves_groups s _ d = d

pub groups_descend : {s : State} {lines : List (List (List ℕ))} → Path s lines → GroupsDescend s
groups_descend begin = tt
groups_descend (more {s = before} {lines = lines} {words = words} l path taken bare) =
    moves_groups before (moves before _ words l taken bare (path_nested before lines path)) (groups_descend path)
