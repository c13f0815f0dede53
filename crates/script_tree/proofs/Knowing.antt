-- The names that are known on a path stand for what the program at its end has under them.
use Rattle.std.proofs.Common.{◌≡◌, ℕ, Some, List, [], ◌∷◌, ◌++◌, length, slice_get, refl, sym, ap, ◌∙◌, append-nil, append_assoc}
use Rattle.std.specs.List.{AllByRecursion}
use Rattle.script_tree.specs.declared.program.Kind.{Kind}
use Rattle.script_tree.specs.declared.program.Kind.TheVariants as kind
use Rattle.script_tree.specs.declared.thing.Thing.TheVariants as thing
use Rattle.script_tree.specs.Grammar.{tree_of}
use Rattle.script_tree.specs.Lines.{kind_made, name_in, part_at}
use Rattle.script_tree.specs.Names.{sort_of}
use Rattle.script_tree.specs.Reading.{State}
use Rattle.script_tree.specs.Spelling.{text_name}
use Rattle.script_tree.specs.Tree.{Tree}
use Rattle.script_tree.proofs.Each.{each-append}
use Rattle.script_tree.proofs.Moves.{Moves, declares, begins_fiber, begins_main}
use Rattle.script_tree.proofs.Moving.{moves}
use Rattle.script_tree.proofs.Pathways.{path_nested}
use Rattle.script_tree.proofs.Paths.{Path, begin, more, Extends, Agrees, AgreesOn}

-- a move keeps the declarations and texts in front of what it adds
moves_extend : (s : State) {t : State} → Moves s t → Extends s (tree_of t)
moves_extend s (declares f parts p h full) = record { more_decls = _; decls = refl; more_texts = []; texts = sym (append-nil s.texts) }
moves_extend s (begins_fiber parts p h full) = record { more_decls = []; decls = sym (append-nil s.decls); more_texts = _; texts = refl }
moves_extend s (begins_main h) = record { more_decls = []; decls = sym (append-nil s.decls); more_texts = _; texts = refl }
moves_extend s _ = record { more_decls = []; decls = sym (append-nil s.decls); more_texts = []; texts = sym (append-nil s.texts) }

extends_on : {s t : State} {tree : Tree} → Extends s (tree_of t) → Extends t tree → Extends s tree
extends_on {s} a b = record {
  more_decls = a.more_decls ++ b.more_decls;
  decls = b.decls ∙ (ap (λ ds. ds ++ b.more_decls) a.decls ∙ append_assoc s.decls a.more_decls b.more_decls);
  more_texts = a.more_texts ++ b.more_texts;
  texts = b.texts ∙ (ap (λ ts. ts ++ b.more_texts) a.texts ∙ append_assoc s.texts a.more_texts b.more_texts);
}

-- what has all of the state behind a move has all of the state before it
pub extends_before : (s : State) {t : State} {tree : Tree} → Moves s t → Extends t tree → Extends s tree
extends_before s m e = extends_on (moves_extend s m) e

slice_get_at : {X : Type 0} (xs ys : List X) (x : X) → slice_get ((xs ++ x ∷ []) ++ ys) (length xs) ≡ Some x
slice_get_at [] ys x = refl
slice_get_at (z ∷ xs) ys x = slice_get_at xs ys x

declared_agrees : (tree : Tree) (place : ℕ) (name : List ℕ) (k : Kind) → slice_get tree.decls place ≡ Some (record { name = name; kind = k })
    → AgreesOn tree name (thing.Named (sort_of k) place)
declared_agrees tree place name kind.Trigger h = record { decl = _; at = h; name_is = refl; sort_is = refl }
declared_agrees tree place name _ h = record { decl = _; at = h; name_is = refl; sort_is = refl }

-- where the names before a move agree with a program that has all of the state behind it, those behind it do
names_after : (s : State) {t : State} (tree : Tree) → Moves s t → AllByRecursion (Agrees tree) s.names → Extends t tree → AllByRecursion (Agrees tree) t.names
names_after s tree (declares f parts p h full) a e =
    each-append (Agrees tree) s.names _ a
    (declared_agrees tree (length s.decls) (name_in (part_at parts 0)) (kind_made f parts) (rw e.decls (slice_get_at s.decls e.more_decls _)), tt)
names_after s tree (begins_fiber parts p h full) a e =
    each-append (Agrees tree) s.names _ a (rw e.texts (ap text_name (slice_get_at s.texts e.more_texts _)), tt)
names_after s tree _ a e = a

-- each name that is known at the end of a path is that of what it stands for
pub names_agree : {s : State} {lines : List (List (List ℕ))} → Path s lines → (tree : Tree) → Extends s tree → AllByRecursion (Agrees tree) s.names
names_agree begin tree e = (refl, (tt, tt))
names_agree (more {s = s} {lines = lines} {words = words} l path taken whole) tree e =
    let m = moves s _ words l taken whole (path_nested s lines path) in names_after s tree m (names_agree path tree (extends_before s m e)) e
