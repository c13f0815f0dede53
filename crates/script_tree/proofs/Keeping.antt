-- Moves keep what stands in what.
use Rattle.std.proofs.Common.{◌≡◌, ◌∙◌, true, false, List, [], ◌∷◌, refl, sym, subst}
use Rattle.std.proofs.lemmas.Bool.{false≢true}
use Rattle.script_tree.specs.declared.form.BlockForm.{BlockForm}
use Rattle.script_tree.specs.declared.form.BlockForm.TheVariants as block_form
use Rattle.script_tree.specs.declared.form.GroupForm.TheVariants as group_form
use Rattle.script_tree.specs.declared.opener.Opener.{Opener}
use Rattle.script_tree.specs.declared.opener.Opener.TheVariants as opener
use Rattle.script_tree.specs.Lines.{block_form_made}
use Rattle.script_tree.specs.Parts.{Part}
use Rattle.script_tree.specs.Reading.{State, Frame, holds_statements, holds_events}
use Rattle.script_tree.proofs.Moves.{Moves, begins_fiber, begins_main, opens, opens_select, opens_group, begins_else, begins_catch, ends_text, ends_block, ends_select, ends_group, IsBlock, a_block, IsSelect, a_select, IsGroup, a_group, Ends, a_text, the_main}
use Rattle.script_tree.proofs.Nesting.{is_file, stands_in, Nested, IsNested}

block_form_in : (f : BlockForm) (parts : List Part) (around : Opener) → stands_in (block_form_made f parts) around ≡ holds_statements around
block_form_in block_form.If parts around = refl
block_form_in _ parts around = refl

block_in : (s : State) (o around : Opener) → IsBlock s o → stands_in o around ≡ holds_statements around
block_in s o around (a_block f parts p is) = block_form_in f parts around

select_in : (s : State) (o around : Opener) → IsSelect s o → stands_in o around ≡ holds_statements around
select_in s o around (a_select n v f parts p is) = refl

group_in : (s : State) (o around : Opener) → IsGroup s o → stands_in o around ≡ holds_events around
group_in s o around (a_group group_form.Choose parts p) = refl
group_in s o around _ = refl

-- another part of a block stands where the first one stood
part_in : (old new : Opener) (fs : List Frame) → is_file old ≡ false → ((around : Opener) → stands_in old around ≡ stands_in new around)
    → Nested old fs → Nested new fs
part_in old new [] no_file same n = absurd (false≢true (sym no_file ∙ n))
part_in old new (f ∷ fs) no_file same n = (sym (same f.what) ∙ n.0, n.1)

behind_file : (o behind : Opener) → Ends o behind → is_file behind ≡ true
behind_file o behind a_text = refl
behind_file o behind the_main = refl

-- what is around what is open stands as before
inner : (o : Opener) (f : Frame) (fs outer : List Frame) → outer ≡ f ∷ fs → Nested o outer → Nested f.what fs
inner o f fs outer e n = let m : Nested o (f ∷ fs) = subst (λ gs. Nested o gs) e n in m.1

pub moves_nested : (s : State) {t : State} → Moves s t → IsNested s → IsNested t
moves_nested s (begins_fiber parts p h full) n = (h, n)
moves_nested s (begins_main h) n = (h, n)
moves_nested s (opens o p h full deep) n = (block_in s o s.top.what p ∙ h, n)
moves_nested s (opens_select o p h full deep) n = (select_in s o s.top.what p ∙ h, n)
moves_nested s (opens_group o p h deep) n = (group_in s o s.top.what p ∙ h, n)
moves_nested s (begins_else l q r is) n =
    part_in (opener.Then l q r) (opener.Otherwise l q r s.top.place) s.outer refl (λ around. refl) (subst (λ o. Nested o s.outer) is n)
moves_nested s (begins_catch parts p is) n = part_in opener.Try (opener.Catch s.top.place _) s.outer refl (λ around. refl) (subst (λ o. Nested o s.outer) is n)
moves_nested s (ends_text f behind e h ends) n = behind_file s.top.what behind ends
moves_nested s (ends_block f fs x e h becomes) n = inner s.top.what f fs s.outer e n
moves_nested s (ends_select f fs number value e h is) n = inner s.top.what f fs s.outer e n
moves_nested s (ends_group f fs x e h groups) n = inner s.top.what f fs s.outer e n
moves_nested s _ n = n
