-- Formatting is a round trip: the canonical text of a program is read as that program.
use Rattle.std.proofs.Common.{◌≡◌, ℕ, ◌+◌, true, Ok, List, [], ◌∷◌, ◌++◌, length, flat_map, codes, refl, sym, subst, ap, ◌∙◌, append-nil}
use Rattle.script_text.specs.Lines.{lines, rows}
use Rattle.script_tree.specs.Canon.{canon}
use Rattle.script_tree.specs.Grammar.{grammar, text_read, script_read, rows_read, tree_of, IsScript}
use Rattle.script_tree.specs.Reading.{State, start, is_over}
use Rattle.script_tree.specs.Tree.{Tree}
use Rattle.script_tree.proofs.Allowed.{role_over, role_statements, role_events}
use Rattle.script_tree.proofs.Paths.{Path, Extends}
use Rattle.script_tree.proofs.Pathways.{path_of}
use Rattle.script_tree.proofs.Placed.{Placed, placed_text, placed_rows, numbered, header, header_placed}
use Rattle.script_tree.proofs.Replaying.{path_read}
use Rattle.script_tree.proofs.Settled.{settled_at_end}
use Rattle.script_tree.proofs.Standing.{Stands, in_file, behind, in_block, in_events, whole_shown}
use Rattle.script_tree.proofs.Written.{IsWritten, path_written}

-- behind the main text the text so far is that of the whole
stands_whole : (tree : Tree) (s : State) (text : List ℕ) → is_over s.top.what ≡ true → Stands tree s text → text ≡ whole_shown tree s.decls s.texts
stands_whole tree s text over (behind r i) = i
stands_whole tree s text over (in_file o r h i) = cc (role_over s.top.what over, r)
stands_whole tree s text over (in_block depth levels front h l d a i) = cc (role_over s.top.what over, role_statements s.top.what h)
stands_whole tree s text over (in_events depth levels front h l d a i) = cc (role_over s.top.what over, role_events s.top.what h)

extends_itself : (s : State) → Extends s (tree_of s)
extends_itself s = record { more_decls = []; decls = sym (append-nil s.decls); more_texts = []; texts = sym (append-nil s.texts) }

-- reading the header's row and the rows of a path to the end gives what was read
path_script : (s : State) (lines : List (List (List ℕ))) (end : ℕ) → Path s lines → is_over s.top.what ≡ true
    → script_read (numbered 1 (header.words ∷ lines)) end ≡ Ok (tree_of s)
path_script s lines end path over =
    ap (λ rs. rows_read start rs end) (sym (append-nil (numbered 2 lines)))
    ∙ (path_read s lines 2 end [] path ∙ rw over refl)

-- the canonical text of what a path leads to
path_round : (s : State) (lines : List (List (List ℕ))) → Path s lines → is_over s.top.what ≡ true → grammar (canon (tree_of s)) ≡ Ok (tree_of s)
path_round s path_lines path over =
    let w : IsWritten (tree_of s) s path_lines = path_written (tree_of s) s path_lines path (settled_at_end s) (extends_itself s) in
    let all : List Placed = header ∷ w.placed in
    let shown : canon (tree_of s) ≡ flat_map placed_text all =
    ap (λ ys. codes "picos 1" ++ (10 ∷ ys)) (sym (stands_whole (tree_of s) s (flat_map placed_text w.placed) over w.stands)) in
    let read = placed_rows all (header_placed, w.each) in
    let found : rows (flat_map placed_text all) ≡ numbered 1 (header.words ∷ path_lines) = read.1 ∙ ap (λ ls. numbered 1 (header.words ∷ ls)) w.words in
    ap grammar shown
    ∙ (ap (λ o. text_read (flat_map placed_text all) o) read.0
    ∙ (ap (λ rs. script_read rs (length (lines (flat_map placed_text all)) + 1)) found
    ∙ path_script s path_lines (length (lines (flat_map placed_text all)) + 1) path over))

-- the canonical text of a program is read as the program
pub round_trip : (tree : Tree) → IsScript tree → grammar (canon tree) ≡ Ok tree
round_trip tree script =
    let way = path_of tree script in
    subst (λ t. grammar (canon t) ≡ Ok t) way.is (path_round way.state way.lines way.path way.over)

-- so a canonical text is its own canonical text
pub canon_again : (tree : Tree) → IsScript tree → (other : Tree) → grammar (canon tree) ≡ Ok other → canon other ≡ canon tree
canon_again tree script other read =
    let same : other ≡ tree = cc (round_trip tree script) in
    ap canon same
