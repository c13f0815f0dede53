-- The canonical text of a path: a line for each of its lines.
use Rattle.std.proofs.Common.{◌≡◌, ℕ, ◌<◌, Option, Some, None, List, [], ◌∷◌, ◌++◌, map, length, flat_map, refl, sym, subst, ap, ◌∙◌, arith}
use Rattle.std.specs.List.{AllByRecursion}
use Rattle.std.proofs.lemmas.List.{map_push}
use Rattle.script_tree.specs.declared.form.Form.{Form}
use Rattle.script_tree.specs.declared.line.Line.{Line}
use Rattle.script_tree.specs.Canon.{form_line}
use Rattle.script_tree.specs.Lines.{line_form, line_parts}
use Rattle.script_tree.specs.Reading.{State, after}
use Rattle.script_tree.specs.Tree.{Tree}
use Rattle.script_tree.proofs.Allowed.{read_may}
use Rattle.script_tree.proofs.Descending.{blocks_descend}
use Rattle.script_tree.proofs.Each.{each-append}
use Rattle.script_tree.proofs.Knowing.{extends_before}
use Rattle.script_tree.proofs.Groups.{groups_descend}
use Rattle.script_tree.proofs.Moving.{moves}
use Rattle.script_tree.proofs.Pathways.{path_nested}
use Rattle.script_tree.proofs.Paths.{Path, begin, more, Extends, AreWords, form_words, line_words}
use Rattle.script_tree.proofs.Placed.{Placed, placed_text, IsPlaced, placed_line}
use Rattle.script_tree.proofs.Said.{said}
use Rattle.script_tree.proofs.Settled.{Settles, moves_keep, settled_before}
use Rattle.script_tree.proofs.Shown.{line_goes}
use Rattle.script_tree.proofs.Standing.{Stands, in_file, Goes, flat_map_push}

-- the canonical text of the tree as far as the state has it is that of some placed lines with these words
pub record IsWritten (tree : Tree) (s : State) (lines : List (List (List ℕ))) : Type 0 where
  pub placed : List Placed
  pub each : AllByRecursion IsPlaced placed
  pub words : map (λ p. p.words) placed ≡ lines
  pub stands : Stands tree s (flat_map placed_text placed)

-- a line with words has a form
record HasForm (l : Line) : Type 0 where
  form : Form
  is : line_form l ≡ Some form

has_form : (tree : Tree) (l : Line) (o : Option Form) (words : List (List ℕ)) → line_form l ≡ o → form_words tree o (line_parts l) ≡ words → 0 < length words → HasForm l
has_form tree l None words e w some = let none : length words ≡ 0 = ap (λ ws. length ws) (sym w) in absurd (omega (arith, none, some))
has_form tree l (Some f) words e w some = record { form = f; is = e }

-- one line more
writes : (tree : Tree) (s t : State) (lines : List (List (List ℕ))) (l : Line) (words : List (List ℕ)) (f : Form) → line_form l ≡ Some f → line_words tree l ≡ words → AreWords words
    → (w : IsWritten tree s lines) → Goes tree t (flat_map placed_text w.placed) (line_form l) (line_parts l) → IsWritten tree t (lines ++ words ∷ [])
writes tree s t lines l words f e said_so are w goes =
    let x : Placed = record { depth = goes.depth; words = words } in
    let shown : form_line tree goes.depth (line_form l) (line_parts l) ≡ placed_text x =
    ap (λ o. form_line tree goes.depth o (line_parts l)) e
    ∙ (placed_line tree goes.depth f (line_parts l)
    ∙ ap (λ (ws : List (List ℕ)). placed_text (record { depth = goes.depth; words = ws })) (ap (λ o. form_words tree o (line_parts l)) (sym e) ∙ said_so)) in
    record {
      placed = w.placed ++ x ∷ [];
      each = each-append IsPlaced w.placed (x ∷ []) w.each (record { deep = goes.deep; words = are }, tt);
      words = map_push (λ (p : Placed). p.words) w.placed x ∙ ap (λ ls. ls ++ words ∷ []) w.words;
      stands = subst (λ text. Stands tree t text) (ap (λ ys. flat_map placed_text w.placed ++ ys) shown ∙ sym (flat_map_push placed_text w.placed x)) goes.stands;
    }

pub path_written : (tree : Tree) (s : State) (lines : List (List (List ℕ))) → Path s lines → Settles s tree → Extends s tree → IsWritten tree s lines
path_written tree s lines begin settle extends = record { placed = []; each = tt; words = refl; stands = in_file refl refl (λ e. refl) refl }
path_written tree s lines (more {s = before} {lines = front} {words = words} l path takes some) settle extends =
    let may = read_may before words l takes.read in
    let here : Settles (after before l) tree = subst (λ u. Settles u tree) takes.is settle in
    let m = moves before s words l takes some (path_nested before front path) in
    let wide : Extends before tree = extends_before before m extends in
    let w = path_written tree before front path (settled_before before s tree (moves_keep before m) settle) wide in
    let what = said path takes tree wide in
    let formed = has_form tree l (line_form l) words refl what.0 what.1.some in
    subst (λ u. IsWritten tree u (front ++ words ∷ [])) (sym takes.is)
    (writes tree before (after before l) front l words formed.form formed.is what.0 what.1 w
    (line_goes tree before l (flat_map placed_text w.placed) formed.form formed.is may takes.within some (blocks_descend path) (groups_descend path) here w.stands))
