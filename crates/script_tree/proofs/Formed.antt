-- Each program that is read is well-formed.
use Rattle.std.proofs.Common.{◌≡◌, ◌≢◌, ℕ, ◌≤◌, true, List, [], ◌∷◌, codes, arith, le_trans, not-suc-le-zero, refl, subst}
use Rattle.std.proofs.lemmas.Bool.{false≢true}
use Rattle.std.proofs.lemmas.Option.{none-some}
use Rattle.std.proofs.lemmas.Slice.Eq.{bytes_eq-Decides}
use Rattle.script_tree.specs.declared.opener.Opener.{Opener}
use Rattle.script_tree.specs.declared.opener.Opener.TheVariants as opener
use Rattle.script_tree.specs.Grammar.{IsScript, tree_of}
use Rattle.script_tree.specs.Reading.{State, Frame, start, is_over}
use Rattle.script_tree.specs.Leaves.{SelectKeepsLimit}
use Rattle.script_tree.specs.Tree.{Tree}
use Rattle.script_tree.specs.WellFormed.{IsWellFormed, IsProgram, KeepsLimits, AreDistinct}
use Rattle.script_tree.proofs.Counting.{FewDecls, FewTexts, moves_decls, moves_texts}
use Rattle.script_tree.proofs.Deep.{LevelsMade, levels_first, levels_next, has_levels}
use Rattle.script_tree.proofs.Declaring.{Declares, moves_declare, MainIsLast, main_last}
use Rattle.script_tree.proofs.Descending.{moves_descend}
use Rattle.script_tree.proofs.Distinct.{bytes_of, moves_distinct}
use Rattle.script_tree.proofs.Fitting.{NamesFit}
use Rattle.script_tree.proofs.Groups.{GroupsDescend, moves_groups}
use Rattle.script_tree.proofs.Holding.{Holds, moves_hold}
use Rattle.script_tree.proofs.Keeping.{moves_nested}
use Rattle.script_tree.proofs.KnownNames.{HeadIsFirst, Knows, before_main, moves_head, moves_know, distinct_names}
use Rattle.script_tree.proofs.Lasting.{LastsIn, lasts_in, lasts_itself, moves_names}
use Rattle.script_tree.proofs.Mains.{main_count, mains, texts_move}
use Rattle.script_tree.proofs.Moves.{Moves}
use Rattle.script_tree.proofs.Moving.{moves}
use Rattle.script_tree.proofs.Nesting.{IsNested, Nested}
use Rattle.script_tree.proofs.Paths.{Path, begin, more, BlocksDescend}
use Rattle.script_tree.proofs.Pathways.{path_of}
use Rattle.script_tree.proofs.Selecting.{LeavesCounted, moves_leaves}
use Rattle.script_tree.proofs.Settled.{Settles, moves_keep, settled_at_end, settled_before}
use Rattle.script_tree.proofs.EachStatement.{Each, moves_each, new_keeps}
use Rattle.script_tree.proofs.Stating.{FewStatements, moves_state}

-- what holds of each state on a path
record Stands (s : State) : Type 0 where
  nested : IsNested s
  blocks : BlocksDescend s
  groups : GroupsDescend s
  head : HeadIsFirst s
  main : MainIsLast s
  distinct : AreDistinct (bytes_of s.names)
  knows : Knows s
  few_decls : FewDecls s.counts s.decls
  few_texts : FewTexts s
  few_statements : FewStatements s
  levels : LevelsMade s

-- and of what was read, in a tree that has it
record FitsIn (s : State) (tree : Tree) : Type 0 where
  names : NamesFit tree s.names
  declares : Declares s tree
  holds : Holds s tree
  leaves : LeavesCounted s tree
  selects : Each (SelectKeepsLimit tree) s

-- ---- along a path

apart : codes "root" ≢ codes "main"
apart e = false≢true ((bytes_eq-Decides (codes "root") (codes "main")).1 e)

stands_first : Stands start
stands_first = record {
  nested = refl;
  blocks = tt;
  groups = tt;
  head = λ h. refl;
  main = λ one. let bad : 1 ≤ 0 = omega (arith, one) in absurd (not-suc-le-zero bad);
  distinct = ((apart, tt), (tt, tt));
  knows = before_main refl refl;
  few_decls = record {
    triggers = omega arith;
    comps = omega arith;
    objects = omega arith;
    few_triggers = omega arith;
    few_comps = omega arith;
    few_objects = omega arith;
  };
  few_texts = omega arith;
  few_statements = record { all = omega arith; few = omega arith };
  levels = levels_first;
}

stands_next : (s t : State) → Moves s t → Stands s → Stands t
stands_next s t m h =
    let texts = texts_move s m h.nested in
    record {
      nested = moves_nested s m h.nested;
      blocks = moves_descend s m h.blocks;
      groups = moves_groups s m h.groups;
      head = moves_head s m h.head;
      main = main_last s t texts h.main;
      distinct = moves_distinct s m h.distinct;
      knows = moves_know s m texts h.nested h.head h.knows;
      few_decls = moves_decls s m h.few_decls;
      few_texts = moves_texts s m texts h.nested h.few_texts;
      few_statements = moves_state s m h.few_statements;
      levels = levels_next s t m h.levels;
    }

stands : {s : State} {lines : List (List (List ℕ))} → Path s lines → Stands s
stands begin = stands_first
stands (more {s = before} {words = words} l path taken bare) =
    let h = stands path in stands_next before _ (moves before _ words l taken bare h.nested) h

fits_first : (tree : Tree) → FitsIn start tree
fits_first tree = record {
  names = (tt, (tt, tt));
  declares = record { decls = tt; texts = tt };
  holds = record {
    blocks = λ place block e. absurd (none-some block e);
    events = λ place e is. absurd (none-some e is);
    frames = (record { what = tt; stmts = tt; events = tt; members = λ h. tt }, tt);
  };
  leaves = record { all = λ ev. absurd (false≢true ev); few = omega arith };
  selects = record { blocks = tt; frames = (tt, tt) };
}

fits_next : (s t : State) (tree : Tree) → Moves s t → Stands s → LastsIn t tree → Settles t tree → FitsIn s tree → FitsIn t tree
fits_next s t tree m h l closed f =
    record {
      names = moves_names s tree m h.nested l f.names;
      declares = moves_declare s tree f.names m l f.declares;
      holds = moves_hold s tree h.nested h.blocks h.groups f.names (lasts_in s tree m h.nested l) f.holds m l;
      leaves = moves_leaves s tree m h.groups closed f.leaves;
      selects = moves_each (SelectKeepsLimit tree) s f.selects m (new_keeps s tree f.leaves);
    }

fits : {s : State} {lines : List (List (List ℕ))} (tree : Tree) → Path s lines → LastsIn s tree → Settles s tree → FitsIn s tree
fits tree begin l closed = fits_first tree
fits tree (more {s = before} {words = words} line path taken bare) l closed =
    let h = stands path in
    let m = moves before _ words line taken bare h.nested in
    fits_next before _ tree m h l closed (fits tree path (lasts_in before tree m h.nested l) (settled_before before _ tree (moves_keep before m) closed))

-- ---- at the end

-- the file is over behind the main text alone
over_alone : (o : Opener) (fs : List Frame) → is_over o ≡ true → Nested o fs → mains o fs ≡ 1
over_alone opener.Over [] h n = refl
over_alone opener.Over (f ∷ fs) h n = absurd (false≢true n.0)
over_alone _ fs h n = absurd (false≢true h)

keeps_limits : (s : State) → main_count s ≡ 1 → Stands s → FitsIn s (tree_of s) → KeepsLimits (tree_of s)
keeps_limits s one h f =
    let d = h.few_decls in
    let texts = h.few_texts in
    let all = h.few_statements.all in
    let few = h.few_statements.few in
    record {
      triggers = le_trans d.triggers d.few_triggers;
      comps = le_trans d.comps d.few_comps;
      objects = le_trans d.objects d.few_objects;
      texts = omega (arith, one, texts);
      statements = omega (arith, all, few);
      events = f.selects.blocks;
    }

-- what is read until the file is over is well-formed
formed : (s : State) (lines : List (List (List ℕ))) → Path s lines → is_over s.top.what ≡ true → IsWellFormed (tree_of s)
formed s lines path over =
    let h = stands path in
    let one = over_alone s.top.what s.outer over h.nested in
    let f = fits (tree_of s) path (lasts_itself s h.nested one) (settled_at_end s) in
    record {
      decls = f.declares.decls;
      texts = f.declares.texts;
      main = h.main one;
      blocks = f.holds.blocks;
      events = f.holds.events;
      names = distinct_names s one h.distinct h.knows;
      limits = keeps_limits s one h f;
      levels = has_levels s h.levels;
    }

-- each program is well-formed
pub well_formed : (tree : Tree) → IsScript tree → IsWellFormed tree
well_formed tree script =
    let way = path_of tree script in subst (λ t. IsWellFormed t) way.is (formed way.state way.lines way.path way.over)

-- what some text is, is a program
pub is_program : (tree : Tree) → IsScript tree → IsProgram tree
is_program tree script = record { script = script; formed = well_formed tree script }
