-- The canonical text as far as a script was read: what stands around an open block, and what it holds.
use Rattle.std.proofs.Common.{◌≡◌, ℕ, suc, ◌+◌, ◌≤◌, Bool, true, false, Option, List, [], ◌∷◌, ◌++◌, flat_map, slice_get, refl, sym, ap, ◌∙◌, arith, append_assoc, append-nil}
use Rattle.std.proofs.lemmas.List.Concat.{flat_map-append}
use Rattle.script_tree.specs.declared.form.Form.{Form}
use Rattle.script_tree.specs.declared.form.Form.TheVariants as form
use Rattle.script_tree.specs.declared.opener.Opener.{Opener}
use Rattle.script_tree.specs.declared.opener.Opener.TheVariants as opener
use Rattle.script_tree.specs.declared.program.Decl.{Decl}
use Rattle.script_tree.specs.declared.program.Stmt.{Stmt}
use Rattle.script_tree.specs.declared.program.Text.{Text}
use Rattle.script_tree.specs.Canon.{form_line, opening, ending, event_text, events_text, stmt_text, block_text, decl_text, text_line, texts_text}
use Rattle.script_tree.specs.Parts.{Part, number_part, name_part}
use Rattle.script_tree.specs.Reading.{State, Frame, holds_statements, holds_events, is_group}
use Rattle.script_tree.specs.Spelling.{line_text}
use Rattle.script_tree.specs.Tree.{Tree}
use Rattle.script_tree.proofs.Allowed.{file, over, role}

-- ---- what the file and its blocks hold

-- statements at a depth, looked into `levels` blocks deep
abbrev pub stmts_shown : Tree → (depth levels : ℕ) → List Stmt → List ℕ
stmts_shown tree depth levels stmts = flat_map (stmt_text (block_text levels tree (depth + 1)) tree depth) stmts

-- events at a depth, looked into `levels` groups deep
abbrev pub events_shown : Tree → (depth levels : ℕ) → List ℕ → List ℕ
events_shown tree depth levels places = events_text (suc levels) tree depth places

-- a fiber's text, and the declarations with some of these
abbrev pub fiber_shown : Tree → Text → List ℕ
fiber_shown tree t = line_text tree 0 form.Fiber (name_part t.name ∷ []) ++ (block_text 34 tree 1 t.block ++ ending tree 0)

abbrev pub file_shown : Tree → List Decl → List Text → List ℕ
file_shown tree decls texts = flat_map (decl_text tree) decls ++ flat_map (fiber_shown tree) texts

-- declarations and texts, of which the last is the main text
abbrev pub whole_shown : Tree → List Decl → List Text → List ℕ
whole_shown tree decls texts = flat_map (decl_text tree) decls ++ texts_text tree texts

-- ---- what stands around

-- a block that isn't a text
abbrev pub is_block : Opener → Bool
is_block opener.Text = false
is_block opener.Main = false
is_block o = holds_statements o

-- what stands in front of a block's statements: its first line, and maybe its first part with the line behind it
abbrev pub begun : Tree → (depth levels : ℕ) → Opener → List ℕ
begun tree depth levels (opener.Otherwise l t r place) =
    opening tree depth (opener.Then l t r) ++ (block_text levels tree (depth + 1) place ++ line_text tree depth form.Else [])
begun tree depth levels (opener.Catch place register) =
    opening tree depth opener.Try ++ (block_text levels tree (depth + 1) place ++ line_text tree depth form.Catch (number_part register ∷ []))
begun tree depth levels o = opening tree depth o

-- what is open at a place inside these frames, what it holds standing at a depth and looked into `levels`
-- deep, and the text in front of what it holds
pub data Around (tree : Tree) (decls : List Decl) (texts : List Text) : Opener → ℕ → List Frame → ℕ → ℕ → List ℕ → Type 0 where
  fiber : (closed : List Text) (t : Text) (f : Frame) (fs : List Frame) → texts ≡ closed ++ t ∷ [] → fs ≡ []
      → Around tree decls texts opener.Text t.block (f ∷ fs) 1 33 (file_shown tree decls closed ++ line_text tree 0 form.Fiber (name_part t.name ∷ []))
  main : (closed : List Text) (t : Text) (f : Frame) (fs : List Frame) → texts ≡ closed ++ t ∷ [] → fs ≡ []
      → Around tree decls texts opener.Main t.block (f ∷ fs) 1 33 (file_shown tree decls closed ++ line_text tree 0 form.Main [])
  block : (o : Opener) (place : ℕ) (f : Frame) (fs : List Frame) (depth levels : ℕ) (front : List ℕ)
      → is_block o ≡ true → holds_statements f.what ≡ true → f.level.depth + 1 ≡ depth
      → Around tree decls texts f.what f.place fs depth (suc levels) front
      → Around tree decls texts o place (f ∷ fs) (depth + 1) levels (front ++ (stmts_shown tree depth (suc levels) f.stmts ++ begun tree depth (suc levels) o))
  select : (number value place : ℕ) (f : Frame) (fs : List Frame) (depth levels : ℕ) (front : List ℕ)
      → holds_statements f.what ≡ true → f.level.depth + 1 ≡ depth
      → Around tree decls texts f.what f.place fs depth levels front
      → Around tree decls texts (opener.Select number value) place (f ∷ fs) (depth + 1) 33
      (front ++ (stmts_shown tree depth levels f.stmts ++ opening tree depth (opener.Select number value)))
  group : (o : Opener) (place : ℕ) (f : Frame) (fs : List Frame) (depth levels : ℕ) (front : List ℕ)
      → is_group o ≡ true → holds_events f.what ≡ true → f.level.depth + 1 ≡ depth
      → Around tree decls texts f.what f.place fs depth (suc levels) front
      → Around tree decls texts o place (f ∷ fs) (depth + 1) levels (front ++ (events_shown tree depth (suc levels) f.events ++ opening tree depth o))

-- the text so far of a state
pub data Stands (tree : Tree) (s : State) (text : List ℕ) : Type 0 where
  in_file : s.outer ≡ [] → role s.top.what ≡ file → (s.top.what ≡ opener.Head → s.texts ≡ []) → text ≡ file_shown tree s.decls s.texts → Stands tree s text
  behind : role s.top.what ≡ over → text ≡ whole_shown tree s.decls s.texts → Stands tree s text
  in_block : (depth levels : ℕ) (front : List ℕ) → holds_statements s.top.what ≡ true → s.top.level.depth + 1 ≡ depth → depth ≤ 33
      → Around tree s.decls s.texts s.top.what s.top.place s.outer depth levels front → text ≡ front ++ stmts_shown tree depth levels s.top.stmts → Stands tree s text
  in_events : (depth levels : ℕ) (front : List ℕ) → holds_events s.top.what ≡ true → s.top.level.depth + 1 ≡ depth → depth ≤ 33
      → Around tree s.decls s.texts s.top.what s.top.place s.outer depth levels front → text ≡ front ++ events_shown tree depth levels s.top.events → Stands tree s text

-- behind a line of this form and parts the state has the text of the line too, at some depth
pub record Goes (tree : Tree) (t : State) (text : List ℕ) (o : Option Form) (parts : List Part) : Type 0 where
  pub depth : ℕ
  pub deep : depth ≤ 33
  pub stands : Stands tree t (text ++ form_line tree depth o parts)

-- ---- laws

-- the levels suffice for all that may be inside
pub enough : {tree : Tree} {decls : List Decl} {texts : List Text} {o : Opener} {place depth levels : ℕ} {outer : List Frame} {front : List ℕ}
    → Around tree decls texts o place outer depth levels front → 34 ≤ levels + depth
enough (fiber closed t f fs e n) = omega arith
enough (main closed t f fs e n) = omega arith
enough (block o place f fs depth levels front b h l a) = omega (arith, enough a)
enough (select number value place f fs depth levels front h l a) = omega (arith, enough a)
enough (group o place f fs depth levels front g h l a) = omega (arith, enough a)

pub flat_map_push : {A : Type 0} (f : A → List ℕ) (xs : List A) (x : A) → flat_map f (xs ++ x ∷ []) ≡ flat_map f xs ++ f x
flat_map_push f xs x = flat_map-append f xs (x ∷ []) ∙ ap (λ ys. flat_map f xs ++ ys) (append-nil (f x))

pub stmts_push : (tree : Tree) (depth levels : ℕ) (xs : List Stmt) (x : Stmt)
    → stmts_shown tree depth levels (xs ++ x ∷ []) ≡ stmts_shown tree depth levels xs ++ stmt_text (block_text levels tree (depth + 1)) tree depth x
stmts_push tree depth levels xs x = flat_map_push (stmt_text (block_text levels tree (depth + 1)) tree depth) xs x

pub events_push : (tree : Tree) (depth levels : ℕ) (places : List ℕ) (place : ℕ)
    → events_shown tree depth levels (places ++ place ∷ [])
    ≡ events_shown tree depth levels places ++ event_text (events_text levels tree (depth + 1)) tree depth (slice_get tree.events place)
events_push tree depth levels places place =
    flat_map_push (λ p. event_text (events_text levels tree (depth + 1)) tree depth (slice_get tree.events p)) places place

-- ---- the texts of the file

text_line_before : (tree : Tree) (u t : Text) (us : List Text) → text_line tree u (us ++ t ∷ []) ≡ line_text tree 0 form.Fiber (name_part u.name ∷ [])
text_line_before tree u t [] = refl
text_line_before tree u t (v ∷ vs) = refl

-- a main text behind those of fibers
pub texts_last : (tree : Tree) (closed : List Text) (t : Text)
    → texts_text tree (closed ++ t ∷ []) ≡ flat_map (fiber_shown tree) closed ++ (line_text tree 0 form.Main [] ++ (block_text 34 tree 1 t.block ++ ending tree 0))
texts_last tree [] t = append-nil _
texts_last tree (u ∷ us) t =
    rw (text_line_before tree u t us, texts_last tree us t)
    (sym (append_assoc (fiber_shown tree u) (flat_map (fiber_shown tree) us) (line_text tree 0 form.Main [] ++ (block_text 34 tree 1 t.block ++ ending tree 0))))

pub file_more : (tree : Tree) (decls : List Decl) (closed : List Text) (t : Text) → file_shown tree decls (closed ++ t ∷ []) ≡ file_shown tree decls closed ++ fiber_shown tree t
file_more tree decls closed t =
    rw (flat_map_push (fiber_shown tree) closed t) (sym (append_assoc (flat_map (decl_text tree) decls) (flat_map (fiber_shown tree) closed) (fiber_shown tree t)))

pub whole_last : (tree : Tree) (decls : List Decl) (closed : List Text) (t : Text)
    → whole_shown tree decls (closed ++ t ∷ []) ≡ file_shown tree decls closed ++ (line_text tree 0 form.Main [] ++ (block_text 34 tree 1 t.block ++ ending tree 0))
whole_last tree decls closed t =
    rw (texts_last tree closed t)
    (sym (append_assoc (flat_map (decl_text tree) decls) (flat_map (fiber_shown tree) closed) (line_text tree 0 form.Main [] ++ (block_text 34 tree 1 t.block ++ ending tree 0))))

pub decl_more : (tree : Tree) (decls : List Decl) (d : Decl) → file_shown tree (decls ++ d ∷ []) [] ≡ file_shown tree decls [] ++ decl_text tree d
decl_more tree decls d =
    append-nil _ ∙ (flat_map_push (decl_text tree) decls d ∙ ap (λ ys. ys ++ decl_text tree d) (sym (append-nil (flat_map (decl_text tree) decls))))
