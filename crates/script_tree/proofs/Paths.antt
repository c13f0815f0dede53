-- How a script is read line by line: the paths of the reading on which no empty `else` part ends, what
-- the end of a path has of what stood before, and what each line on it is.
use Rattle.std.proofs.Common.{◌≡◌, ℕ, ◌<◌, ◌≤◌, Bool, true, false, cond, Option, Some, None, Ok, List, [], ◌∷◌, ◌++◌, length, slice_get, codes}
use Rattle.std.specs.List.{AllByRecursion}
use Rattle.script_tree.specs.declared.form.Form.{Form}
use Rattle.script_tree.specs.declared.line.Line.{Line}
use Rattle.script_tree.specs.declared.line.Line.TheVariants as line
use Rattle.script_tree.specs.declared.opener.Opener.{Opener}
use Rattle.script_tree.specs.declared.opener.Opener.TheVariants as opener
use Rattle.script_tree.specs.declared.program.Decl.{Decl}
use Rattle.script_tree.specs.declared.program.Stmt.{Stmt}
use Rattle.script_tree.specs.declared.program.Text.{Text}
use Rattle.script_tree.specs.declared.thing.Sort.{Sort}
use Rattle.script_tree.specs.declared.thing.Sort.TheVariants as sort
use Rattle.script_tree.specs.declared.thing.Thing.{Thing}
use Rattle.script_tree.specs.declared.thing.Thing.TheVariants as thing
use Rattle.script_tree.specs.Forms.{shapes}
use Rattle.script_tree.specs.Grammar.{line_read}
use Rattle.script_tree.specs.Lines.{line_form, line_parts}
use Rattle.script_tree.specs.Names.{Named, sort_of}
use Rattle.script_tree.specs.Parts.{Part}
use Rattle.script_tree.specs.Reading.{State, Frame, start, after, limit_broken, holds_statements}
use Rattle.script_tree.specs.Spelling.{lead, part_words, text_name}
use Rattle.script_tree.specs.Tree.{Tree}
use Rattle.script_tree.specs.Words.{all_name_bytes}

-- ---- paths

-- the `else` part that is open has no statements
abbrev pub is_bare_else : Opener → List Stmt → Bool
is_bare_else (opener.Otherwise l t r place) [] = true
is_bare_else _ _ = false

-- the line ends an empty `else` part
abbrev pub ends_bare_else : State → Line → Bool
ends_bare_else s line.End = is_bare_else s.top.what s.top.stmts
ends_bare_else s _ = false

-- the words are read as a line, which is within the limits and leads to the state t
pub record Takes (s : State) (words : List (List ℕ)) (l : Line) (t : State) : Type 0 where
  pub read : line_read s s.top.what words ≡ Ok l
  pub within : limit_broken s l ≡ None
  pub is : t ≡ after s l

-- from the start to a state by lines of these words, none of which ends an empty `else` part
pub data Path : State → List (List (List ℕ)) → Type 0 where
  begin : Path start []
  more : {s t : State} {lines : List (List (List ℕ))} {words : List (List ℕ)} (l : Line)
      → Path s lines → Takes s words l t → ends_bare_else s l ≡ false → Path t (lines ++ words ∷ [])

-- ---- open blocks

-- the places of the open blocks, from the inside out
abbrev pub open_blocks : List Frame → List ℕ
open_blocks [] = []
open_blocks (f ∷ fs) = cond (holds_statements f.what) (f.place ∷ open_blocks fs) (open_blocks fs)

-- each place stands before `bound`, and behind the next one
abbrev pub Descends : ℕ → List ℕ → Type 0
Descends bound [] = Unit {0}
Descends bound (place ∷ places) = (place < bound) × Descends place places

abbrev pub BlocksDescend : State → Type 0
BlocksDescend s = Descends (length s.blocks) (open_blocks (s.top ∷ s.outer))

-- ---- names

-- the tree has the declarations and texts of the state, and maybe more
pub record Extends (s : State) (tree : Tree) : Type 0 where
  pub more_decls : List Decl
  pub decls : tree.decls ≡ s.decls ++ more_decls
  pub more_texts : List Text
  pub texts : tree.texts ≡ s.texts ++ more_texts

-- at the place there is a declaration with this name and of this sort
pub record DeclaredAt (tree : Tree) (place : ℕ) (name : List ℕ) (s : Sort) : Type 0 where
  pub decl : Decl
  pub at : slice_get tree.decls place ≡ Some decl
  pub name_is : decl.name ≡ name
  pub sort_is : sort_of decl.kind ≡ s

abbrev pub AgreesOn : Tree → List ℕ → Thing → Type 0
AgreesOn tree name thing.Root = name ≡ codes "root"
AgreesOn tree name thing.Main = Unit {0}
AgreesOn tree name (thing.Named sort.Text place) = text_name (slice_get tree.texts place) ≡ name
AgreesOn tree name (thing.Named s place) = DeclaredAt tree place name s

-- what a name stands for has that name
abbrev pub Agrees : Tree → Named → Type 0
Agrees tree n = AgreesOn tree n.bytes n.thing

-- ---- lines as they are written

abbrev pub form_words : Tree → Option Form → List Part → List (List ℕ)
form_words tree None parts = []
form_words tree (Some f) parts = lead f ++ part_words tree (shapes f) parts

-- the words that a line is written with
abbrev pub line_words : Tree → Line → List (List ℕ)
line_words tree l = form_words tree (line_form l) (line_parts l)

-- a word: lower-case letters, digits and `_`, at most 24
pub record IsWord (word : List ℕ) : Type 0 where
  pub some : 0 < length word
  pub short : length word ≤ 24
  pub bytes : all_name_bytes word ≡ true

-- one to five words
pub record AreWords (words : List (List ℕ)) : Type 0 where
  pub some : 0 < length words
  pub few : length words ≤ 5
  pub each : AllByRecursion IsWord words
