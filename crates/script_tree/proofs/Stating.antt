-- A script has no more statements than it may have.
use Rattle.std.proofs.Common.{◌≡◌, ℕ, zero, suc, ◌+◌, ◌≤◌, ◌∙◌, false, nat_le, List, [], ◌∷◌, ◌++◌, length, set, flat_map, arith, length-append, refl, ap}
use Rattle.std.proofs.lemmas.Bool.{leb-false}
use Rattle.std.proofs.lemmas.Grind.{flat_map-append}
use Rattle.script_tree.specs.declared.counts.Counts.{Counts}
use Rattle.script_tree.specs.declared.form.BlockForm.{BlockForm}
use Rattle.script_tree.specs.declared.form.BlockForm.TheVariants as block_form
use Rattle.script_tree.specs.declared.form.GroupForm.TheVariants as group_form
use Rattle.script_tree.specs.declared.opener.Opener.{Opener}
use Rattle.script_tree.specs.declared.opener.Opener.TheVariants as opener
use Rattle.script_tree.specs.declared.program.Kind.{Kind}
use Rattle.script_tree.specs.declared.program.Kind.TheVariants as kind
use Rattle.script_tree.specs.declared.program.Stmt.{Stmt}
use Rattle.script_tree.specs.declared.program.Stmt.TheVariants as stmt
use Rattle.script_tree.specs.Lines.{number_in, part_at, kind_made, block_form_made}
use Rattle.script_tree.specs.Parts.{Part}
use Rattle.script_tree.specs.Reading.{State, Frame, frame, inside, part_begun, counted}
use Rattle.script_tree.proofs.Moves.{Moves, declares, begins_fiber, begins_main, states, adds_leaf, opens, opens_select, opens_group, begins_else, begins_catch, ends_text, ends_block, ends_select, ends_group, IsBlock, a_block, IsSelect, a_select, IsGroup, a_group, Becomes, a_then, Ends, a_text, the_main}

-- a block or select that is open is a statement when it ends
abbrev pub becomes_one : Opener → ℕ
becomes_one opener.Head = 0
becomes_one opener.Between = 0
becomes_one opener.Over = 0
becomes_one opener.Text = 0
becomes_one opener.Main = 0
becomes_one opener.Choose = 0
becomes_one (opener.Wrap o) = 0
becomes_one (opener.Guard l t r) = 0
becomes_one _ = 1

-- the statements that what is open holds and becomes
abbrev pub open_count : List Frame → ℕ
open_count [] = 0
open_count (f ∷ fs) = (length f.stmts + becomes_one f.what) + open_count fs

abbrev pub statements_in : List (List Stmt) → ℕ
statements_in blocks = length (flat_map (λ (block : List Stmt). block) blocks)

pub record FewStatements (s : State) : Type 0 where
  pub all : statements_in s.blocks + open_count (s.top ∷ s.outer) ≤ s.counts.statements
  pub few : s.counts.statements ≤ 10000

with_empty : (blocks : List (List Stmt)) → statements_in (blocks ++ [] ∷ []) ≡ statements_in blocks
with_empty blocks =
    ap (λ (xs : List Stmt). length xs) (flat_map-append (λ (block : List Stmt). block) blocks ([] ∷ []))
    ∙ length-append (flat_map (λ (block : List Stmt). block) blocks) [] ∙ (let e : statements_in blocks + 0 ≡ statements_in blocks = omega arith in e)

filled_count : (blocks : List (List Stmt)) (place : ℕ) (xs : List Stmt) → statements_in (set blocks place xs) ≤ statements_in blocks + length xs
filled_count [] place xs = omega arith
filled_count (b ∷ bs) zero xs =
    let old = length-append b (flat_map (λ (block : List Stmt). block) bs) in
    let new = length-append xs (flat_map (λ (block : List Stmt). block) bs) in
    omega (arith, old, new)
filled_count (b ∷ bs) (suc place) xs =
    let old = length-append b (flat_map (λ (block : List Stmt). block) bs) in
    let new = length-append b (flat_map (λ (block : List Stmt). block) (set bs place xs)) in
    let rest = filled_count bs place xs in
    omega (arith, old, new, rest)

block_form_becomes : (f : BlockForm) (parts : List Part) → becomes_one (block_form_made f parts) ≡ 1
block_form_becomes block_form.If parts = refl
block_form_becomes _ parts = refl

block_becomes : (s : State) (o : Opener) → IsBlock s o → becomes_one o ≡ 1
block_becomes s o (a_block f parts p is) = block_form_becomes f parts

select_becomes : (s : State) (o : Opener) → IsSelect s o → becomes_one o ≡ 1
select_becomes s o (a_select n v f parts p is) = refl

group_becomes : (s : State) (o : Opener) → IsGroup s o → becomes_one o ≡ 0
group_becomes s o (a_group group_form.Choose parts p) = refl
group_becomes s o _ = refl

becomes_it : (place : ℕ) (o : Opener) (x : Stmt) → Becomes place o x → becomes_one o ≡ 1
becomes_it place o x a_then = refl
becomes_it place o x _ = refl

behind_becomes : (o behind : Opener) → Ends o behind → becomes_one behind ≡ 0
behind_becomes o behind a_text = refl
behind_becomes o behind the_main = refl

one_stmt_more : (xs : List Stmt) (x : Stmt) → length (xs ++ x ∷ []) ≡ length xs + 1
one_stmt_more xs x = length-append xs (x ∷ [])

-- what is open ends
around_count : (s : State) (f : Frame) (fs : List Frame) → s.outer ≡ f ∷ fs
    → open_count s.outer ≡ (length f.stmts + becomes_one f.what) + open_count fs
around_count s f fs e = ap (λ gs. open_count gs) e

-- a block opens, which is one statement more
block_counts : (s : State) (o : Opener) (f : Frame) → f.stmts ≡ [] → becomes_one f.what ≡ 1 → nat_le 10000 s.counts.statements ≡ false → FewStatements s
    → (statements_in s.blocks + open_count (f ∷ (s.top ∷ s.outer)) ≤ s.counts.statements + 1) × (s.counts.statements + 1 ≤ 10000)
block_counts s o f none one full h =
    let l = leb-false 10000 s.counts.statements full in
    let nothing : length f.stmts ≡ 0 = ap (λ (xs : List Stmt). length xs) none in
    let all = h.all in
    (omega (arith, one, nothing, all), omega (arith, l))

-- a declaration is no statement
statements_counted : (counts : Counts) (k : Kind) → (counted counts k).statements ≡ counts.statements
statements_counted counts kind.Trigger = refl
statements_counted counts kind.Comp = refl
statements_counted counts _ = refl

-- the second part of a block opens, which becomes one statement with the first
part_counts : (s : State) (o : Opener) → becomes_one s.top.what ≡ 1 → becomes_one o ≡ 1 → FewStatements s → FewStatements (part_begun s o)
part_counts s o one same c =
    let filled = filled_count s.blocks s.top.place s.top.stmts in
    let empty = with_empty (set s.blocks s.top.place s.top.stmts) in
    let all = c.all in
    record { all = omega (arith, filled, empty, one, same, all); few = c.few }

pub moves_state : (s : State) {t : State} → Moves s t → FewStatements s → FewStatements t
moves_state s (declares f parts p h full) c = record { all = rw (statements_counted s.counts (kind_made f parts)) c.all; few = rw (statements_counted s.counts (kind_made f parts)) c.few }
moves_state s (begins_fiber parts p h full) c = let all = c.all in record { all = rw with_empty (omega (arith, all)); few = c.few }
moves_state s (begins_main h) c = let all = c.all in record { all = rw with_empty (omega (arith, all)); few = c.few }
moves_state s (states x p h full breaks) c =
    let l = leb-false 10000 s.counts.statements full in
    let more = one_stmt_more s.top.stmts x in
    let all = c.all in
    record { all = omega (arith, more, all); few = omega (arith, l) }
moves_state s (adds_leaf f parts p h few) c = record { all = c.all; few = c.few }
moves_state s (opens o p h full deep) c =
    let b = block_counts s o (frame o (length s.blocks) (inside s.top.level o)) refl (block_becomes s o p) full c in
    record { all = rw with_empty b.0; few = b.1 }
moves_state s (opens_select o p h full deep) c =
    let b = block_counts s o (frame o 0 (inside s.top.level o)) refl (select_becomes s o p) full c in
    record { all = b.0; few = b.1 }
moves_state s (opens_group o p h deep) c =
    let none = group_becomes s o p in
    let all = c.all in
    record { all = omega (arith, none, all); few = c.few }
moves_state s (begins_else a q b is) c = part_counts s (opener.Otherwise a q b s.top.place) (ap becomes_one is) refl c
moves_state s (begins_catch parts p is) c = part_counts s (opener.Catch s.top.place (number_in (part_at parts 0))) (ap becomes_one is) refl c
moves_state s (ends_text f behind e h ends) c =
    let around = around_count s f [] e in
    let filled = filled_count s.blocks s.top.place s.top.stmts in
    let none = behind_becomes s.top.what behind ends in
    let all = c.all in
    record { all = omega (arith, around, filled, none, all); few = c.few }
moves_state s (ends_block f fs x e h becomes) c =
    let around = around_count s f fs e in
    let filled = filled_count s.blocks s.top.place s.top.stmts in
    let one = becomes_it s.top.place s.top.what x becomes in
    let more = one_stmt_more f.stmts x in
    let all = c.all in
    record { all = omega (arith, around, filled, one, more, all); few = c.few }
moves_state s (ends_select f fs number value e h is) c =
    let around = around_count s f fs e in
    let one : becomes_one s.top.what ≡ 1 = ap becomes_one is in
    let more = one_stmt_more f.stmts (stmt.Select number value s.top.events) in
    let all = c.all in
    record { all = omega (arith, around, one, more, all); few = c.few }
moves_state s (ends_group f fs x e h groups) c =
    let around = around_count s f fs e in
    let all = c.all in
    record { all = omega (arith, around, all); few = c.few }
