-- What was read lasts: a tree that has what a state has, has what the states before it had, and the names of
-- a state stand for things that are in the tree.
use Rattle.std.proofs.Common.{◌≡◌, ℕ, ◌+◌, ◌≤◌, ◌==◌, ◌∙◌, Some, List, [], ◌∷◌, ◌++◌, length, set, slice_get, arith, append_assoc, append-nil, length-append, length-set, le_refl, le_trans, refl, sym, ap, subst}
use Rattle.std.specs.List.{AllByRecursion}
use Rattle.std.proofs.lemmas.Bool.{eq-eqb}
use Rattle.script_tree.specs.declared.program.Decl.{Decl}
use Rattle.script_tree.specs.declared.program.Kind.{Kind}
use Rattle.script_tree.specs.declared.program.Kind.TheVariants as kind
use Rattle.script_tree.specs.declared.program.Text.{Text}
use Rattle.script_tree.specs.Grammar.{tree_of}
use Rattle.script_tree.specs.Lines.{kind_made, name_in, part_at}
use Rattle.script_tree.specs.Names.{Named, sort_of, sort_number}
use Rattle.script_tree.specs.Reading.{State}
use Rattle.script_tree.specs.Tree.{Tree}
use Rattle.script_tree.specs.WellFormed.{IsOfSort}
use Rattle.script_tree.proofs.Fitting.{PlaceFits, ThingFits, NamesFit}
use Rattle.script_tree.proofs.Mains.{main_count, TextsMove, same_texts, a_fiber, main_begun, texts_move, file_mains}
use Rattle.script_tree.proofs.Moves.{Moves, declares, begins_fiber, states, adds_leaf, opens_select, opens_group, begins_else, begins_catch, ends_text, ends_block, ends_select, ends_group}
use Rattle.script_tree.proofs.Nesting.{IsNested}

-- the tree has the declarations of a state, and as many texts, blocks and events; it has one text more than
-- the state where the main text hasn't begun
pub record LastsIn (s : State) (tree : Tree) : Type 0 where
  pub more : List Decl
  pub decls : tree.decls ≡ s.decls ++ more
  pub texts : length s.texts + 1 ≤ length tree.texts + main_count s
  pub blocks : length s.blocks ≤ length tree.blocks
  pub events : length s.events ≤ length tree.events

-- from one state to the next there are more
record Lasts (s t : State) : Type 0 where
  more : List Decl
  decls : t.decls ≡ s.decls ++ more
  blocks : length s.blocks ≤ length t.blocks
  events : length s.events ≤ length t.events

longer : {A : Type 0} (xs : List A) (x : A) → length xs ≤ length (xs ++ x ∷ [])
longer xs x = rw length-append (omega arith)

longer_set : {A : Type 0} (xs : List A) (place : ℕ) (y x : A) → length xs ≤ length (set xs place y ++ x ∷ [])
longer_set xs place y x = rw (length-append, length-set) (omega arith)

same_length : {A : Type 0} (xs : List A) (place : ℕ) (y : A) → length xs ≤ length (set xs place y)
same_length xs place y = rw length-set (le_refl (length xs))

lasts : (s : State) {t : State} → Moves s t → Lasts s t
lasts s (declares f parts p h full) =
    record { more = record { name = name_in (part_at parts 0); kind = kind_made f parts } ∷ []; decls = refl; blocks = le_refl _; events = le_refl _ }
lasts s (states x p h full breaks) = record { more = []; decls = sym (append-nil s.decls); blocks = le_refl _; events = le_refl _ }
lasts s (adds_leaf f parts p h few) = record { more = []; decls = sym (append-nil s.decls); blocks = le_refl _; events = longer s.events _ }
lasts s (opens_select o p h full deep) = record { more = []; decls = sym (append-nil s.decls); blocks = le_refl _; events = le_refl _ }
lasts s (opens_group o p h deep) = record { more = []; decls = sym (append-nil s.decls); blocks = le_refl _; events = longer s.events _ }
lasts s (begins_else l q r is) =
    record { more = []; decls = sym (append-nil s.decls); blocks = longer_set s.blocks s.top.place s.top.stmts []; events = le_refl _ }
lasts s (begins_catch parts p is) =
    record { more = []; decls = sym (append-nil s.decls); blocks = longer_set s.blocks s.top.place s.top.stmts []; events = le_refl _ }
lasts s (ends_text f behind e h ends) =
    record { more = []; decls = sym (append-nil s.decls); blocks = same_length s.blocks s.top.place s.top.stmts; events = le_refl _ }
lasts s (ends_block f fs x e h becomes) =
    record { more = []; decls = sym (append-nil s.decls); blocks = same_length s.blocks s.top.place s.top.stmts; events = le_refl _ }
lasts s (ends_select f fs number value e h is) = record { more = []; decls = sym (append-nil s.decls); blocks = le_refl _; events = le_refl _ }
lasts s (ends_group f fs x e h groups) =
    record { more = []; decls = sym (append-nil s.decls); blocks = le_refl _; events = same_length s.events s.top.place x }
lasts s _ = record { more = []; decls = sym (append-nil s.decls); blocks = longer s.blocks []; events = le_refl _ }

texts_last : (s t : State) (n : ℕ) → TextsMove s t → length t.texts + 1 ≤ n + main_count t → length s.texts + 1 ≤ n + main_count s
texts_last s t n (same_texts e m) h = let l = ap (λ (ts : List Text). length ts) e in omega (arith, l, m, h)
texts_last s t n (a_fiber text e b a) h = let l = ap (λ (ts : List Text). length ts) e ∙ length-append s.texts (text ∷ []) in omega (arith, l, a, b, h)
texts_last s t n (main_begun text name e b a) h = let l = ap (λ (ts : List Text). length ts) e ∙ length-append s.texts (text ∷ []) in omega (arith, l, a, b, h)

-- what the next state has, the state before had
pub lasts_in : (s : State) {t : State} (tree : Tree) → Moves s t → IsNested s → LastsIn t tree → LastsIn s tree
lasts_in s {t} tree m n l =
    let k = lasts s m in
    record {
      more = k.more ++ l.more;
      decls = l.decls ∙ ap (λ (ds : List Decl). ds ++ l.more) k.decls ∙ append_assoc s.decls k.more l.more;
      texts = texts_last s t (length tree.texts) (texts_move s m n) l.texts;
      blocks = le_trans k.blocks l.blocks;
      events = le_trans k.events l.events;
    }

-- a program has what the state at its end has
pub lasts_itself : (s : State) → IsNested s → main_count s ≡ 1 → LastsIn s (tree_of s)
lasts_itself s n m = record { more = []; decls = sym (append-nil s.decls); texts = rw m (le_refl (length s.texts + 1)); blocks = le_refl _; events = le_refl _ }

-- ---- names

pub all_push : {A : Type 0} (P : A → Type 0) (xs : List A) (x : A) → AllByRecursion P xs → P x → AllByRecursion P (xs ++ x ∷ [])
all_push P [] x h p = (p, tt)
all_push P (y ∷ ys) x h p = (h.0, all_push P ys x h.1 p)

pub at_end : {A : Type 0} (xs : List A) (x : A) (ys : List A) → slice_get ((xs ++ x ∷ []) ++ ys) (length xs) ≡ Some x
at_end [] x ys = refl
at_end (y ∷ xs) x ys = at_end xs x ys

-- a declared thing is in the tree
decl_place : (tree : Tree) (k : Kind) (place : ℕ) → IsOfSort (λ n. n == sort_number (sort_of k)) (slice_get tree.decls place) → PlaceFits tree (sort_of k) place
decl_place tree kind.Trigger place h = h
decl_place tree _ place h = h

declared_fits : (tree : Tree) (decls others : List Decl) (d : Decl) → tree.decls ≡ (decls ++ d ∷ []) ++ others → PlaceFits tree (sort_of d.kind) (length decls)
declared_fits tree decls others d e =
    let at : slice_get tree.decls (length decls) ≡ Some d = ap (λ (ds : List Decl). slice_get ds (length decls)) e ∙ at_end decls d others in
    decl_place tree d.kind (length decls)
    (subst (λ o. IsOfSort (λ n. n == sort_number (sort_of d.kind)) o) (sym at) (eq-eqb (sort_number (sort_of d.kind)) _ refl))

pub moves_names : (s : State) {t : State} (tree : Tree) → Moves s t → IsNested s → LastsIn t tree → NamesFit tree s.names → NamesFit tree t.names
moves_names s tree (declares f parts p h full) n l names =
    all_push (λ (m : Named). ThingFits tree m.thing) s.names _ names
    (declared_fits tree s.decls l.more (record { name = name_in (part_at parts 0); kind = kind_made f parts }) l.decls)
moves_names s tree (begins_fiber parts p h full) n l names =
    all_push (λ (m : Named). ThingFits tree m.thing) s.names _ names
    (let none = file_mains s.top.what s.outer h n in
    let more = length-append s.texts (record { name = name_in (part_at parts 0); block = length s.blocks } ∷ []) in
    let fits = l.texts in omega (arith, fits, none, more))
moves_names s tree _ n l names = names
