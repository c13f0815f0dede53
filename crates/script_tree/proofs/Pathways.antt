-- Each script has a path: where an empty `else` part ends, the state is the same as without the line `else`.
use Rattle.std.proofs.Common.{◌≡◌, ℕ, ◌+◌, ◌-◌, ◌∙◌, Bool, true, false, ◌||◌, cond, Option, Some, None, Result, Ok, Err, List, [], ◌∷◌, ◌++◌, length, take, set, arith, length-append, take_at, refl, sym, ap, subst, inl, inr}
use Rattle.std.proofs.lemmas.Bool.{cases_Bool, false≢true}
use Rattle.script_text.specs.Faults.{first_fault}
use Rattle.script_text.specs.Lines.{Row, lines, rows}
use Rattle.script_text.specs.declared.token.TokenRefusal.{TokenRefusal}
use Rattle.script_tree.specs.declared.cause.Cause.{Cause}
use Rattle.script_tree.specs.declared.cause.Cause.TheVariants as cause
use Rattle.script_tree.specs.declared.form.Form.{Form}
use Rattle.script_tree.specs.declared.form.Form.TheVariants as form
use Rattle.script_tree.specs.declared.form.GroupForm.TheVariants as group_form
use Rattle.script_tree.specs.declared.line.Line.{Line}
use Rattle.script_tree.specs.declared.line.Line.TheVariants as line
use Rattle.script_tree.specs.declared.opener.Opener.{Opener}
use Rattle.script_tree.specs.declared.opener.Opener.TheVariants as opener
use Rattle.script_tree.specs.declared.program.Operand.{Operand}
use Rattle.script_tree.specs.declared.program.Stmt.{Stmt}
use Rattle.script_tree.specs.declared.program.Stmt.TheVariants as stmt
use Rattle.script_tree.specs.declared.program.Test.{Test}
use Rattle.script_tree.specs.declared.refusal.Refused.{Refused}
use Rattle.script_tree.specs.Forms.{form_of, shapes}
use Rattle.script_tree.specs.Grammar.{IsScript, text_read, script_read, rows_read, then_read, step, stepped, admitted, line_read, line_seen, line_of_parts, tree_of, is_header, refused}
use Rattle.script_tree.specs.Lines.{line_made}
use Rattle.script_tree.specs.Parts.{Part, words_read}
use Rattle.script_tree.specs.Reading.{State, Frame, start, after, left, closed, fits, with_stmt, limit_broken, is_over, is_head, is_between, holds_events, part_begun}
use Rattle.script_tree.specs.Tree.{Tree}
use Rattle.script_tree.proofs.Moves.{Moves, declares, states, adds_leaf, opens, opens_select, opens_group, begins_else, ends_text, ends_block, ends_select, ends_group, IsBlock, a_block, IsSelect, a_select, IsGroup, a_group, opens_block, Ends, a_text, the_main}
use Rattle.script_tree.proofs.Moving.{moves}
use Rattle.script_tree.proofs.Keeping.{moves_nested}
use Rattle.script_tree.proofs.Nesting.{Nested, IsNested, is_file}
use Rattle.script_tree.proofs.Paths.{is_bare_else, ends_bare_else, Takes, Path, begin, more}
use Rattle.script_tree.proofs.Readings.{is_read}

-- what was read of a script, and the path to it
pub record Way (tree : Tree) : Type 0 where
  pub state : State
  pub lines : List (List (List ℕ))
  pub path : Path state lines
  pub is : tree_of state ≡ tree
  pub over : is_over state.top.what ≡ true

-- ---- nothing but an `else` line opens an empty `else` part

abbrev pub IsBare : State → Type 0
IsBare s = is_bare_else s.top.what s.top.stmts ≡ true

head_not_bare : (o : Opener) (xs : List Stmt) → is_head o ≡ true → is_bare_else o xs ≡ true → ⊥
head_not_bare opener.Head xs h b = false≢true b
head_not_bare _ xs h b = false≢true h

holder_of_events_not_bare : (o : Opener) (xs : List Stmt) → holds_events o ≡ true → is_bare_else o xs ≡ true → ⊥
holder_of_events_not_bare (opener.Select n v) xs h b = false≢true b
holder_of_events_not_bare opener.Choose xs h b = false≢true b
holder_of_events_not_bare (opener.Wrap o) xs h b = false≢true b
holder_of_events_not_bare (opener.Guard l t r) xs h b = false≢true b
holder_of_events_not_bare _ xs h b = false≢true h

block_not_bare : (o : Opener) → opens_block o ≡ true → is_bare_else o [] ≡ true → ⊥
block_not_bare (opener.Otherwise l t r place) h b = false≢true h
block_not_bare _ h b = false≢true b

filled_not_bare : (o : Opener) (xs : List Stmt) (x : Stmt) → is_bare_else o (xs ++ x ∷ []) ≡ true → ⊥
filled_not_bare (opener.Otherwise l t r place) [] x b = false≢true b
filled_not_bare (opener.Otherwise l t r place) (y ∷ xs) x b = false≢true b
filled_not_bare _ xs x b = false≢true b

-- the state is the one behind an `else` line
pub record BeganBare (s : State) : Type 0 where
  pub before : State
  pub lines : List (List (List ℕ))
  pub path : Path before lines
  pub left : Operand
  pub test : Test
  pub right : Operand
  pub what : before.top.what ≡ opener.Then left test right
  pub is : s ≡ part_begun before (opener.Otherwise left test right before.top.place)

block_opened_not_bare : (s : State) (o : Opener) → IsBlock s o → is_bare_else o [] ≡ true → ⊥
block_opened_not_bare s o (a_block f parts p is) b = block_not_bare o is b

group_opened_not_bare : (s : State) (o : Opener) → IsGroup s o → is_bare_else o [] ≡ true → ⊥
group_opened_not_bare s o (a_group group_form.Choose parts p) b = false≢true b
group_opened_not_bare s o _ b = false≢true b

select_opened_not_bare : (s : State) (o : Opener) → IsSelect s o → is_bare_else o [] ≡ true → ⊥
select_opened_not_bare s o (a_select n v f parts p is) b = false≢true b

behind_text_not_bare : (o behind : Opener) (xs : List Stmt) → Ends o behind → is_bare_else behind xs ≡ true → ⊥
behind_text_not_bare o behind xs a_text b = false≢true b
behind_text_not_bare o behind xs the_main b = false≢true b

began_bare : (s t : State) (lines : List (List (List ℕ))) → Path s lines → Moves s t → IsBare t → BeganBare t
began_bare s t lines path (declares f parts p h full) b = absurd (head_not_bare s.top.what s.top.stmts h b)
began_bare s t lines path (states x p h full breaks) b = absurd (filled_not_bare s.top.what s.top.stmts x b)
began_bare s t lines path (adds_leaf f parts p h few) b = absurd (holder_of_events_not_bare s.top.what s.top.stmts h b)
began_bare s t lines path (opens o p h full deep) b = absurd (block_opened_not_bare s o p b)
began_bare s t lines path (opens_select o p h full deep) b = absurd (select_opened_not_bare s o p b)
began_bare s t lines path (opens_group o p h deep) b = absurd (group_opened_not_bare s o p b)
began_bare s t lines path (begins_else l q r is) b =
    record { before = s; lines = lines; path = path; left = l; test = q; right = r; what = is; is = refl }
began_bare s t lines path (ends_text f behind e h ends) b = absurd (behind_text_not_bare s.top.what behind f.stmts ends b)
began_bare s t lines path (ends_block f fs x e h becomes) b = absurd (filled_not_bare f.what f.stmts x b)
began_bare s t lines path (ends_select f fs n v e h is) b = absurd (filled_not_bare f.what f.stmts _ b)
began_bare s t lines path (ends_group f fs e is h groups) b = absurd (holder_of_events_not_bare f.what f.stmts h b)
began_bare s t lines path _ b = absurd (false≢true b)

-- ---- states that are reached

pub path_nested : (s : State) (lines : List (List (List ℕ))) → Path s lines → IsNested s
path_nested s ls begin = refl
path_nested s ls (more {s = before} {words = words} l path taken bare) =
    let n = path_nested before _ path in moves_nested before (moves before s words l taken bare n) n

-- there is a path to the state, and an empty `else` part began with the line before
pub record Reached (s : State) : Type 0 where
  pub lines : List (List (List ℕ))
  pub path : Path s lines
  pub bare : IsBare s → BeganBare s

reached_on : (s t : State) (lines : List (List (List ℕ))) (words : List (List ℕ)) (l : Line) → Path s lines → Takes s words l t
    → ends_bare_else s l ≡ false → Reached t
reached_on s t lines words l path taken bare = record {
  lines = lines ++ words ∷ [];
  path = more l path taken bare;
  bare = began_bare s t lines path (moves s t words l taken bare (path_nested s lines path));
}

-- ---- an empty `else` part ends

ends_made : (f : Form) (parts : List Part) → line_made f parts ≡ line.End → f ≡ form.End
ends_made form.End parts h = refl
ends_made _ parts h = cc

-- without its block the blocks are those of the `if` that ends
last_gone : (blocks : List (List Stmt)) → take (length (blocks ++ [] ∷ []) - 1) (blocks ++ [] ∷ []) ≡ blocks
last_gone blocks = take_at blocks ([] ∷ []) (length (blocks ++ [] ∷ []) - 1) (rw length-append (omega arith))

-- words that may stand in a state are read as their line
reads_as : (s : State) (words : List (List ℕ)) (f : Form) (rest : List (List ℕ)) (parts : List Part) → is_over s.top.what ≡ false
    → form_of words ≡ Some (record { form = f; rest = rest }) → fits s.top.what s.top.level.breaks f ≡ true
    → words_read s.names (shapes f) rest ≡ Ok parts → line_read s s.top.what words ≡ Ok (line_made f parts)
reads_as s words f rest parts over told fit read =
    ap (λ b. cond b (Err cause.AfterMain) (line_seen s (form_of words))) over
    ∙ ap (λ o. line_seen s o) told
    ∙ ap (λ b. cond b (line_of_parts f (words_read s.names (shapes f) rest)) (Err cause.Word)) fit
    ∙ ap (λ r. line_of_parts f r) read

-- the state in which an `else` part begins
abbrev with_else : State → Operand → Test → Operand → State
with_else s l q r = part_begun s (opener.Otherwise l q r s.top.place)

same_left : (s : State) (l : Operand) (q : Test) (r : Operand) (blocks : List (List Stmt)) (fs : List Frame) → Nested s.top.what fs
    → s.top.what ≡ opener.Then l q r → blocks ≡ set s.blocks s.top.place s.top.stmts
    → left (with_else s l q r) blocks s.events (λ f. with_stmt f (stmt.If l q r s.top.place None)) fs
    ≡ left s (set s.blocks s.top.place s.top.stmts) s.events (λ f. with_stmt f (stmt.If l q r s.top.place None)) fs
same_left s l q r blocks [] n is e = absurd (false≢true (ap is_file (sym is) ∙ n))
same_left s l q r blocks (f ∷ fs) n is e =
    ap (λ (bs : List (List Stmt)). record s { blocks = bs; top = with_stmt f (stmt.If l q r s.top.place None); outer = fs }) e

-- an `end` behind a bare `else` does what it does without the `else`
same_end : (s : State) (l : Operand) (q : Test) (r : Operand) → IsNested s → s.top.what ≡ opener.Then l q r
    → after (with_else s l q r) line.End ≡ after s line.End
same_end s l q r n is =
    same_left s l q r _ s.outer n is (last_gone (set s.blocks s.top.place s.top.stmts)) ∙ ap (λ o. closed s o) (sym is)

end_without : (s t : State) (l : Operand) (q : Test) (r : Operand) (words : List (List ℕ)) → IsNested s → s.top.what ≡ opener.Then l q r
    → Takes (with_else s l q r) words line.End t → Takes s words line.End t
end_without s t l q r words n is taken =
    let read = is_read (with_else s l q r) words line.End taken.read in
    let form_is = ends_made read.form read.parts read.is in
    let fit : fits s.top.what s.top.level.breaks read.form ≡ true =
    ap (λ f. fits s.top.what s.top.level.breaks f) form_is ∙ ap (λ o. fits o s.top.level.breaks form.End) is in
    record {
      read = reads_as s words read.form read.rest read.parts (ap is_over is) read.told fit read.read ∙ ap (λ k. Ok k) read.is;
      within = refl;
      is = taken.is ∙ same_end s l q r n is;
    }

bare_ends : (s t : State) (words : List (List ℕ)) → Takes s words line.End t → BeganBare s → Reached t
bare_ends s t words taken b =
    reached_on b.before t b.lines words line.End b.path
    (end_without b.before t b.left b.test b.right words (path_nested b.before b.lines b.path) b.what (subst (λ u. Takes u words line.End t) b.is taken))
    (ap (λ o. is_bare_else o b.before.top.stmts) b.what)

bare_end : (s : State) (l : Line) → ends_bare_else s l ≡ true → (l ≡ line.End) × IsBare s
bare_end s line.End h = (refl, h)
bare_end s _ h = absurd (false≢true h)

-- ---- rows

-- a line that is taken
record IsTaken (s : State) (words : List (List ℕ)) (t : State) : Type 0 where
  line : Line
  takes : Takes s words line t

admitted_taken : (s t : State) (words : List (List ℕ)) (l : Line) (o : Option Cause) → line_read s s.top.what words ≡ Ok l → limit_broken s l ≡ o
    → admitted s l o ≡ Ok t → IsTaken s words t
admitted_taken s t words l (Some c) read within h = cc
admitted_taken s t words l None read within h = record { line = l; takes = record { read = read; within = within; is = cc } }

read_taken : (s t : State) (words : List (List ℕ)) (r : Result Line Cause) → line_read s s.top.what words ≡ r → stepped s r ≡ Ok t
    → IsTaken s words t
read_taken s t words (Err c) read h = cc
read_taken s t words (Ok l) read h = admitted_taken s t words l (limit_broken s l) read refl h

is_taken : (s t : State) (words : List (List ℕ)) → step s words ≡ Ok t → IsTaken s words t
is_taken s t words h = read_taken s t words (line_read s s.top.what words) refl h

reached_step : (s t : State) (words : List (List ℕ)) → Reached s → step s words ≡ Ok t → Reached t
reached_step s t words reached h =
    let taken = is_taken s t words h in
    elim (cases_Bool (ends_bare_else s taken.line)) [
      | inl bare ↦
          let ends = bare_end s taken.line bare in
          bare_ends s t words (subst (λ l. Takes s words l t) ends.0 taken.takes) (reached.bare ends.1)
      | inr bare ↦ reached_on s t reached.lines words taken.line reached.path taken.takes bare
    ]

-- the state behind the first row
record GoesOn (s : State) (words : List (List ℕ)) (go : State → Result Tree Refused) (tree : Tree) : Type 0 where
  state : State
  steps : step s words ≡ Ok state
  rest : go state ≡ Ok tree

goes_on : (s : State) (words : List (List ℕ)) (number : ℕ) (go : State → Result Tree Refused) (tree : Tree) (x : Result State Cause)
    → step s words ≡ x → then_read number x go ≡ Ok tree → GoesOn s words go tree
goes_on s words number go tree (Err c) steps h = cc
goes_on s words number go tree (Ok t) steps h = record { state = t; steps = steps; rest = h }

file_over : (s : State) (tree : Tree) (x y : Refused) (b c : Bool) → Reached s → is_over s.top.what ≡ b
    → cond b (Ok (tree_of s)) (cond c (Err x) (Err y)) ≡ Ok tree → Way tree
file_over s tree x y false true reached over h = cc
file_over s tree x y false false reached over h = cc
file_over s tree x y true c reached over h = record { state = s; lines = reached.lines; path = reached.path; is = cc; over = over }

rows_way : (s : State) (rs : List Row) (end : ℕ) (tree : Tree) → Reached s → rows_read s rs end ≡ Ok tree → Way tree
rows_way s [] end tree reached h =
    file_over s tree (refused end cause.NoMain) (refused end cause.TextOpen) (is_over s.top.what) (is_head s.top.what || is_between s.top.what) reached refl h
rows_way s (r ∷ rs) end tree reached h =
    let next = goes_on s r.words r.number (λ t. rows_read t rs end) tree (step s r.words) refl h in
    rows_way next.state rs end tree (reached_step s next.state r.words reached next.steps) next.rest

start_reached : Reached start
start_reached = record { lines = []; path = begin; bare = λ b. absurd (false≢true b) }

header_way : (rs : List Row) (end : ℕ) (tree : Tree) (x : Refused) (b : Bool) → cond b (rows_read start rs end) (Err x) ≡ Ok tree → Way tree
header_way rs end tree x false h = cc
header_way rs end tree x true h = rows_way start rs end tree start_reached h

script_way : (rs : List Row) (end : ℕ) (tree : Tree) → script_read rs end ≡ Ok tree → Way tree
script_way [] end tree h = cc
script_way (r ∷ rs) end tree h = header_way rs end tree _ (is_header r.words) h

text_way : (text : List ℕ) (o : Option TokenRefusal) (tree : Tree) → text_read text o ≡ Ok tree → Way tree
text_way text (Some fault) tree h = cc
text_way text None tree h = script_way (rows text) (length (lines text) + 1) tree h

-- each program has a path
pub path_of : (tree : Tree) → IsScript tree → Way tree
path_of tree script = text_way script.0 (first_fault script.0) tree script.1
