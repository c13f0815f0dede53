-- The main text is the last one: behind it no text begins.
use Rattle.std.proofs.Common.{◌≡◌, ℕ, ◌≤◌, ◌∙◌, Bool, true, false, cond, List, [], ◌∷◌, ◌++◌, length, codes, arith, le_refl, refl, sym, ap, subst}
use Rattle.std.proofs.lemmas.Bool.{false≢true}
use Rattle.script_tree.specs.declared.form.GroupForm.TheVariants as group_form
use Rattle.script_tree.specs.declared.opener.Opener.{Opener}
use Rattle.script_tree.specs.declared.opener.Opener.TheVariants as opener
use Rattle.script_tree.specs.declared.program.EventTree.{EventTree}
use Rattle.script_tree.specs.declared.program.Stmt.{Stmt}
use Rattle.script_tree.specs.declared.program.Text.{Text}
use Rattle.script_tree.specs.Lines.{name_in, number_in, part_at}
use Rattle.script_tree.specs.Reading.{State, Frame, is_over}
use Rattle.script_tree.proofs.Moves.{Moves, begins_fiber, begins_main, opens, opens_select, opens_group, begins_else, begins_catch, ends_text, ends_block, ends_select, ends_group, opens_block, IsBlock, a_block, IsSelect, a_select, IsGroup, a_group, Becomes, a_then, Groups, a_choose, Ends, a_text, the_main}
use Rattle.script_tree.proofs.Moving.{alone, text_file}
use Rattle.script_tree.proofs.Nesting.{takes_texts, Nested, IsNested}

abbrev pub is_main : Opener → Bool
is_main opener.Main = true
is_main _ = false

few : (b : Bool) (n : ℕ) → n ≤ 1 → cond b 1 n ≤ 1
few true n h = le_refl 1
few false n h = h

-- how many main texts were begun
abbrev pub mains : Opener → List Frame → ℕ
mains o [] = cond (is_over o) 1 0
mains o (f ∷ fs) = cond (is_main o) 1 (mains f.what fs)

abbrev pub main_count : State → ℕ
main_count s = mains s.top.what s.outer

-- something that is neither the main text nor the file behind it
abbrev IsInner : Opener → Type 0
IsInner o = (is_main o ≡ false) × (is_over o ≡ false)

inner_mains : (o : Opener) (f : Frame) (fs : List Frame) → IsInner o → mains o (f ∷ fs) ≡ mains f.what fs
inner_mains o f fs i = ap (λ b. cond b 1 (mains f.what fs)) i.0

part_mains : (o p : Opener) (fs : List Frame) → IsInner o → IsInner p → mains p fs ≡ mains o fs
part_mains o p [] i j = ap (λ b. cond b 1 0) j.1 ∙ ap (λ b. cond b 1 0) (sym i.1)
part_mains o p (f ∷ fs) i j = inner_mains p f fs j ∙ sym (inner_mains o f fs i)

opens_inner : (o : Opener) → opens_block o ≡ true → IsInner o
opens_inner opener.Main h = absurd (false≢true h)
opens_inner opener.Over h = absurd (false≢true h)
opens_inner _ h = (refl, refl)

block_inner : (s : State) (o : Opener) → IsBlock s o → IsInner o
block_inner s o (a_block f parts p is) = opens_inner o is

select_inner : (s : State) (o : Opener) → IsSelect s o → IsInner o
select_inner s o (a_select n v f parts p is) = (refl, refl)

group_inner : (s : State) (o : Opener) → IsGroup s o → IsInner o
group_inner s o (a_group group_form.Choose parts p) = (refl, refl)
group_inner s o _ = (refl, refl)

becomes_inner : (place : ℕ) (o : Opener) (x : Stmt) → Becomes place o x → IsInner o
becomes_inner place o x a_then = (refl, refl)
becomes_inner place o x _ = (refl, refl)

groups_inner : (members : List ℕ) (o : Opener) (e : EventTree) → Groups members o e → IsInner o
groups_inner members o e a_choose = (refl, refl)
groups_inner members o e _ = (refl, refl)

-- what a move does to the texts
pub data TextsMove (s t : State) : Type 0 where
  same_texts : t.texts ≡ s.texts → main_count t ≡ main_count s → TextsMove s t
  a_fiber : (text : Text) → t.texts ≡ s.texts ++ text ∷ [] → main_count s ≡ 0 → main_count t ≡ 0 → TextsMove s t
  main_begun : (text : Text) → text.name ≡ codes "main" → t.texts ≡ s.texts ++ text ∷ [] → main_count s ≡ 0 → main_count t ≡ 1 → TextsMove s t

-- in the file that isn't over no main text was begun
pub file_mains : (o : Opener) (fs : List Frame) → takes_texts o ≡ true → Nested o fs → mains o fs ≡ 0
file_mains opener.Head [] h n = refl
file_mains opener.Between [] h n = refl
file_mains o [] h n = absurd (false≢true h)
file_mains o (f ∷ fs) h n = absurd (false≢true (sym (alone o f.what (text_file o h)) ∙ n.0))

-- what is open ends, and isn't a text
ended : (s : State) (f : Frame) (fs : List Frame) → s.outer ≡ f ∷ fs → IsInner s.top.what → mains f.what fs ≡ main_count s
ended s f fs e i = sym (ap (λ gs. mains s.top.what gs) e ∙ inner_mains s.top.what f fs i)

not_over : (o : Opener) → takes_texts o ≡ true → is_over o ≡ false
not_over opener.Over h = absurd (false≢true h)
not_over _ h = refl

text_mains : (o behind : Opener) (f : Frame) → takes_texts f.what ≡ true → Ends o behind → mains behind [] ≡ mains o (f ∷ [])
text_mains o behind f h a_text = ap (λ b. cond b 1 0) (sym (not_over f.what h))
text_mains o behind f h the_main = refl

pub texts_move : (s : State) {t : State} → Moves s t → IsNested s → TextsMove s t
texts_move s (begins_fiber parts p h full) n =
    let none = file_mains s.top.what s.outer h n in
    a_fiber (record { name = name_in (part_at parts 0); block = length s.blocks }) refl none none
texts_move s (begins_main h) n =
    main_begun (record { name = codes "main"; block = length s.blocks }) refl refl (file_mains s.top.what s.outer h n) refl
texts_move s (opens o p h full deep) n = same_texts refl (inner_mains o s.top s.outer (block_inner s o p))
texts_move s (opens_select o p h full deep) n = same_texts refl (inner_mains o s.top s.outer (select_inner s o p))
texts_move s (opens_group o p h deep) n = same_texts refl (inner_mains o s.top s.outer (group_inner s o p))
texts_move s (begins_else l q r is) n =
    same_texts refl (part_mains (opener.Then l q r) (opener.Otherwise l q r s.top.place) s.outer (refl, refl) (refl, refl) ∙ ap (λ o. mains o s.outer) (sym is))
texts_move s (begins_catch parts p is) n =
    same_texts refl (part_mains opener.Try (opener.Catch s.top.place (number_in (part_at parts 0))) s.outer (refl, refl) (refl, refl) ∙ ap (λ o. mains o s.outer) (sym is))
texts_move s (ends_text f behind e h ends) n =
    same_texts refl (text_mains s.top.what behind f h ends ∙ ap (λ fs. mains s.top.what fs) (sym e))
texts_move s (ends_block f fs x e h becomes) n = same_texts refl (ended s f fs e (becomes_inner s.top.place s.top.what x becomes))
texts_move s (ends_select f fs number value e h is) n =
    same_texts refl (ended s f fs e (subst (λ o. IsInner o) (sym is) (refl, refl)))
texts_move s (ends_group f fs x e h groups) n = same_texts refl (ended s f fs e (groups_inner s.top.events s.top.what x groups))
texts_move s _ n = same_texts refl refl

pub mains_few : (o : Opener) (fs : List Frame) → mains o fs ≤ 1
mains_few o [] = few (is_over o) 0 (omega arith)
mains_few o (f ∷ fs) = few (is_main o) (mains f.what fs) (mains_few f.what fs)
