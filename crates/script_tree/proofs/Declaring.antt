-- The names of declarations are names, texts have their blocks, and the last text is main's.
use Rattle.std.proofs.Common.{◌≡◌, ◌≤◌, ◌∙◌, List, [], ◌∷◌, ◌++◌, length, codes, arith, length-append, refl, sym, not-suc-le-zero}
use Rattle.std.specs.List.{AllByRecursion}
use Rattle.script_tree.specs.declared.form.DeclForm.{DeclForm}
use Rattle.script_tree.specs.declared.form.DeclForm.TheVariants as decl_form
use Rattle.script_tree.specs.declared.form.Form.TheVariants as form
use Rattle.script_tree.specs.declared.program.Text.{Text}
use Rattle.script_tree.specs.Grammar.{tree_of}
use Rattle.script_tree.specs.Lines.{kind_made, name_in, part_at}
use Rattle.script_tree.specs.Parts.{Part}
use Rattle.script_tree.specs.Reading.{State}
use Rattle.script_tree.specs.Tree.{Tree}
use Rattle.script_tree.specs.WellFormed.{DeclFits, EndsInMain, TextFits}
use Rattle.script_tree.specs.Words.{class}
use Rattle.script_tree.specs.declared.class.Class.TheVariants as class_is
use Rattle.script_tree.proofs.Fitting.{NamesFit}
use Rattle.script_tree.proofs.Lasting.{LastsIn, all_push}
use Rattle.script_tree.proofs.Mains.{main_count, TextsMove, same_texts, a_fiber, main_begun}
use Rattle.script_tree.proofs.Moves.{Moves, declares, begins_fiber, begins_main, states, adds_leaf, opens, opens_select, opens_group, begins_else, begins_catch, ends_text, ends_block, ends_select, ends_group}
use Rattle.script_tree.proofs.StatementsFit.{AreFor, are_for}

-- declarations have names, and texts blocks of the tree
pub record Declares (s : State) (tree : Tree) : Type 0 where
  pub decls : AllByRecursion DeclFits s.decls
  pub texts : AllByRecursion (TextFits tree) s.texts

declared_name : (tree : Tree) (f : DeclForm) (parts : List Part) → AreFor tree (form.Declare f) parts → class (name_in (part_at parts 0)) ≡ class_is.Name
declared_name tree decl_form.Trigger parts r = r.0
declared_name tree _ parts r = r.0

-- a text begins with a block of its own
text_begins : (s : State) (tree : Tree) (text : Text) → class text.name ≡ class_is.Name → text.block ≡ length s.blocks → length (s.blocks ++ [] ∷ []) ≤ length tree.blocks
    → AllByRecursion (TextFits tree) s.texts → AllByRecursion (TextFits tree) (s.texts ++ text ∷ [])
text_begins s tree text n e l h =
    let m = length-append s.blocks ([] ∷ []) in all_push (TextFits tree) s.texts text h (n, omega (arith, e, l, m))

pub moves_declare : (s : State) {t : State} (tree : Tree) → NamesFit tree s.names → Moves s t → LastsIn t tree → Declares s tree → Declares t tree
moves_declare s tree known (declares f parts p h full) l d = record {
  decls = all_push DeclFits s.decls (record { name = name_in (part_at parts 0); kind = kind_made f parts }) d.decls
      (declared_name tree f parts (are_for s tree (form.Declare f) parts known p));
  texts = d.texts;
}
moves_declare s tree known (begins_fiber parts p h full) l d =
    record { decls = d.decls; texts = text_begins s tree (record { name = name_in (part_at parts 0); block = length s.blocks }) (are_for s tree form.Fiber parts known p).0 refl l.blocks d.texts }
moves_declare s tree known (begins_main h) l d =
    record { decls = d.decls; texts = text_begins s tree (record { name = codes "main"; block = length s.blocks }) refl refl l.blocks d.texts }
moves_declare s tree known (states x p h full breaks) l d = record { decls = d.decls; texts = d.texts }
moves_declare s tree known (adds_leaf f parts p h few) l d = record { decls = d.decls; texts = d.texts }
moves_declare s tree known (opens o p h full deep) l d = record { decls = d.decls; texts = d.texts }
moves_declare s tree known (opens_select o p h full deep) l d = record { decls = d.decls; texts = d.texts }
moves_declare s tree known (opens_group o p h deep) l d = record { decls = d.decls; texts = d.texts }
moves_declare s tree known (begins_else a q b is) l d = record { decls = d.decls; texts = d.texts }
moves_declare s tree known (begins_catch parts p is) l d = record { decls = d.decls; texts = d.texts }
moves_declare s tree known (ends_text f behind e h ends) l d = record { decls = d.decls; texts = d.texts }
moves_declare s tree known (ends_block f fs x e h becomes) l d = record { decls = d.decls; texts = d.texts }
moves_declare s tree known (ends_select f fs number value e h is) l d = record { decls = d.decls; texts = d.texts }
moves_declare s tree known (ends_group f fs x e h groups) l d = record { decls = d.decls; texts = d.texts }

-- once the main text has begun, it is the last one
abbrev pub MainIsLast : State → Type 0
MainIsLast s = main_count s ≡ 1 → EndsInMain (tree_of s)

pub main_last : (s t : State) → TextsMove s t → MainIsLast s → MainIsLast t
main_last s t (same_texts e m) h =
    λ one. let last = h (sym m ∙ one) in record { fibers = last.fibers; main = last.main; texts = e ∙ last.texts; name = last.name }
main_last s t (a_fiber text e b a) h = λ one. let bad : 1 ≤ 0 = omega (arith, a, one) in absurd (not-suc-le-zero bad)
main_last s t (main_begun text name e b a) h = λ one. record { fibers = s.texts; main = text; texts = e; name = name }
