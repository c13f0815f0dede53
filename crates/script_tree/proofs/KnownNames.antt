-- The names that are known are the root's, main's, those of declarations and those of fibers' texts, in this order.
use Rattle.std.proofs.Common.{◌≡◌, ℕ, ◌≤◌, ◌∙◌, true, List, [], ◌∷◌, ◌++◌, length, map, codes, arith, append_assoc, append-nil, length-append, refl, sym, ap, subst, not-suc-le-zero}
use Rattle.std.proofs.lemmas.Bool.{false≢true}
use Rattle.std.proofs.lemmas.List.{map-append}
use Rattle.script_tree.specs.declared.form.GroupForm.TheVariants as group_form
use Rattle.script_tree.specs.declared.opener.Opener.{Opener}
use Rattle.script_tree.specs.declared.opener.Opener.TheVariants as opener
use Rattle.script_tree.specs.declared.program.Decl.{Decl}
use Rattle.script_tree.specs.declared.program.Text.{Text}
use Rattle.script_tree.specs.Grammar.{tree_of}
use Rattle.script_tree.specs.Lines.{kind_made, name_in, part_at}
use Rattle.script_tree.specs.Names.{Named}
use Rattle.script_tree.specs.Reading.{State, is_head, holds_statements, holds_events}
use Rattle.script_tree.specs.WellFormed.{AreDistinct, names}
use Rattle.script_tree.proofs.Distinct.{bytes_of, second_last}
use Rattle.script_tree.proofs.Mains.{main_count, TextsMove, same_texts, a_fiber, main_begun, file_mains}
use Rattle.script_tree.proofs.Moves.{Moves, declares, begins_fiber, begins_main, states, adds_leaf, opens, opens_select, opens_group, ends_text, ends_block, ends_select, ends_group, opens_block, IsBlock, a_block, IsSelect, a_select, IsGroup, a_group, Ends, a_text, the_main}
use Rattle.script_tree.proofs.Nesting.{IsNested, takes_texts}

-- ---- declarations come first

head_takes : (o : Opener) → is_head o ≡ true → takes_texts o ≡ true
head_takes opener.Head h = refl
head_takes _ h = absurd (false≢true h)

statements_no_head : (o : Opener) → holds_statements o ≡ true → is_head o ≡ true → ⊥
statements_no_head opener.Head h i = false≢true h
statements_no_head _ h i = false≢true i

events_no_head : (o : Opener) → holds_events o ≡ true → is_head o ≡ true → ⊥
events_no_head opener.Head h i = false≢true h
events_no_head _ h i = false≢true i

opens_no_head : (o : Opener) → opens_block o ≡ true → is_head o ≡ true → ⊥
opens_no_head opener.Head h i = false≢true h
opens_no_head _ h i = false≢true i

block_no_head : (s : State) (o : Opener) → IsBlock s o → is_head o ≡ true → ⊥
block_no_head s o (a_block f parts p is) i = opens_no_head o is i

select_no_head : (s : State) (o : Opener) → IsSelect s o → is_head o ≡ true → ⊥
select_no_head s o (a_select n v f parts p is) i = false≢true i

group_no_head : (s : State) (o : Opener) → IsGroup s o → is_head o ≡ true → ⊥
group_no_head s o (a_group group_form.Choose parts p) i = false≢true i
group_no_head s o _ i = false≢true i

behind_no_head : (o behind : Opener) → Ends o behind → is_head behind ≡ true → ⊥
behind_no_head o behind a_text i = false≢true i
behind_no_head o behind the_main i = false≢true i

-- before the first text there are no texts
abbrev pub HeadIsFirst : State → Type 0
HeadIsFirst s = is_head s.top.what ≡ true → s.texts ≡ []

pub moves_head : (s : State) {t : State} → Moves s t → HeadIsFirst s → HeadIsFirst t
moves_head s (declares f parts p h full) first = first
moves_head s (states x p h full breaks) first = first
moves_head s (adds_leaf f parts p h few) first = first
moves_head s (opens o p h full deep) first = λ i. absurd (block_no_head s o p i)
moves_head s (opens_select o p h full deep) first = λ i. absurd (select_no_head s o p i)
moves_head s (opens_group o p h deep) first = λ i. absurd (group_no_head s o p i)
moves_head s (ends_text f behind e h ends) first = λ i. absurd (behind_no_head s.top.what behind ends i)
moves_head s (ends_block f fs x e h becomes) first = λ i. absurd (statements_no_head f.what h i)
moves_head s (ends_select f fs number value e h is) first = λ i. absurd (statements_no_head f.what h i)
moves_head s (ends_group f fs x e h groups) first = λ i. absurd (events_no_head f.what h i)
moves_head s _ first = λ i. absurd (false≢true i)

-- ---- what names are known

abbrev decl_names : List Decl → List (List ℕ)
decl_names decls = map (λ (d : Decl). d.name) decls

abbrev text_names : List Text → List (List ℕ)
text_names texts = map (λ (t : Text). t.name) texts

-- the names with these declarations and fibers' texts
abbrev known : List Decl → List Text → List (List ℕ)
known decls fibers = codes "root" ∷ (codes "main" ∷ (decl_names decls ++ text_names fibers))

pub data Knows (s : State) : Type 0 where
  before_main : main_count s ≡ 0 → bytes_of s.names ≡ known s.decls s.texts → Knows s
  with_main : (fibers : List Text) (main : Text) → main_count s ≡ 1 → s.texts ≡ fibers ++ main ∷ [] → main.name ≡ codes "main"
      → bytes_of s.names ≡ known s.decls fibers → Knows s

knows_before : (s : State) → main_count s ≡ 0 → Knows s → bytes_of s.names ≡ known s.decls s.texts
knows_before s z (before_main o e) = e
knows_before s z (with_main fibers main o texts name e) = let bad : 1 ≤ 0 = omega (arith, z, o) in absurd (not-suc-le-zero bad)

-- a move without a text
same_mains : (s t : State) → TextsMove s t → length t.texts ≡ length s.texts → main_count t ≡ main_count s
same_mains s t (same_texts e m) l = m
same_mains s t (a_fiber text e b a) l = a ∙ sym b
same_mains s t (main_begun text name e b a) l =
    let more = ap (λ (ts : List Text). length ts) e ∙ length-append s.texts (text ∷ []) in
    let bad : 1 ≤ 0 = omega (arith, more, l) in absurd (not-suc-le-zero bad)

-- a move that makes no name known
knows_same : (s t : State) → t.names ≡ s.names → t.decls ≡ s.decls → t.texts ≡ s.texts → TextsMove s t → Knows s → Knows t
knows_same s t n d x m (before_main z e) =
    before_main (same_mains s t m (ap (λ (ts : List Text). length ts) x) ∙ z)
    (ap bytes_of n ∙ e ∙ ap (λ ds. known ds s.texts) (sym d) ∙ ap (λ ts. known t.decls ts) (sym x))
knows_same s t n d x m (with_main fibers main o texts name e) =
    with_main fibers main (same_mains s t m (ap (λ (ts : List Text). length ts) x) ∙ o) (x ∙ texts) name
    (ap bytes_of n ∙ e ∙ ap (λ ds. known ds fibers) (sym d))

bytes_push : (names : List Named) (n : Named) → bytes_of (names ++ n ∷ []) ≡ bytes_of names ++ n.bytes ∷ []
bytes_push names n = map-append (λ (m : Named). m.bytes) names (n ∷ [])

-- a declaration comes behind the others
with_decl : (decls : List Decl) (texts : List Text) (d : Decl) → texts ≡ [] → known decls texts ++ d.name ∷ [] ≡ known (decls ++ d ∷ []) texts
with_decl decls texts d none =
    let behind : (decl_names decls ++ text_names texts) ++ d.name ∷ [] ≡ decl_names (decls ++ d ∷ []) ++ text_names texts =
    ap (λ (ts : List Text). (decl_names decls ++ text_names ts) ++ d.name ∷ []) none
    ∙ ap (λ (xs : List (List ℕ)). xs ++ d.name ∷ []) (append-nil (decl_names decls))
    ∙ sym (map-append (λ (e : Decl). e.name) decls (d ∷ []))
    ∙ sym (append-nil (decl_names (decls ++ d ∷ [])))
    ∙ ap (λ (ts : List Text). decl_names (decls ++ d ∷ []) ++ text_names ts) (sym none) in
    ap (λ (xs : List (List ℕ)). codes "root" ∷ (codes "main" ∷ xs)) behind

-- a text comes behind the others
with_text : (decls : List Decl) (texts : List Text) (t : Text) → known decls texts ++ t.name ∷ [] ≡ known decls (texts ++ t ∷ [])
with_text decls texts t =
    ap (λ (xs : List (List ℕ)). codes "root" ∷ (codes "main" ∷ xs))
    (append_assoc (decl_names decls) (text_names texts) (t.name ∷ [])
    ∙ ap (λ (xs : List (List ℕ)). decl_names decls ++ xs) (sym (map-append (λ (u : Text). u.name) texts (t ∷ []))))

pub moves_know : (s : State) {t : State} → Moves s t → TextsMove s t → IsNested s → HeadIsFirst s → Knows s → Knows t
moves_know s (declares f parts p h full) m n first k =
    let none = file_mains s.top.what s.outer (head_takes s.top.what h) n in
    let d : Decl = record { name = name_in (part_at parts 0); kind = kind_made f parts } in
    before_main none (bytes_push s.names _ ∙ ap (λ xs. xs ++ name_in (part_at parts 0) ∷ []) (knows_before s none k) ∙ with_decl s.decls s.texts d (first h))
moves_know s (begins_fiber parts p h full) m n first k =
    let none = file_mains s.top.what s.outer h n in
    let t : Text = record { name = name_in (part_at parts 0); block = length s.blocks } in
    before_main none (bytes_push s.names _ ∙ ap (λ xs. xs ++ name_in (part_at parts 0) ∷ []) (knows_before s none k) ∙ with_text s.decls s.texts t)
moves_know s (begins_main h) m n first k =
    with_main s.texts (record { name = codes "main"; block = length s.blocks }) refl refl refl (knows_before s (file_mains s.top.what s.outer h n) k)
moves_know s _ m n first k = knows_same s _ refl refl refl m k

-- the names of a program are those that are known at its end
pub distinct_names : (s : State) → main_count s ≡ 1 → AreDistinct (bytes_of s.names) → Knows s → AreDistinct (names (tree_of s))
distinct_names s one d (before_main z e) = let bad : 1 ≤ 0 = omega (arith, z, one) in absurd (not-suc-le-zero bad)
distinct_names s one d (with_main fibers main o texts name e) =
    let last : text_names s.texts ≡ text_names fibers ++ codes "main" ∷ [] =
    ap text_names texts ∙ map-append (λ (u : Text). u.name) fibers (main ∷ []) ∙ ap (λ w. text_names fibers ++ w ∷ []) name in
    let all : (decl_names s.decls ++ text_names fibers) ++ codes "main" ∷ [] ≡ decl_names s.decls ++ text_names s.texts =
    append_assoc (decl_names s.decls) (text_names fibers) (codes "main" ∷ []) ∙ ap (λ xs. decl_names s.decls ++ xs) (sym last) in
    subst (λ xs. AreDistinct (codes "root" ∷ xs)) all
    (second_last (codes "root") (codes "main") (decl_names s.decls ++ text_names fibers) (subst (λ ns. AreDistinct ns) e d))
