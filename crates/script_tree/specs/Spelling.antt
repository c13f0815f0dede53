-- How the parts of a line are spelled, and how its words are laid out.
use Rattle.std.specs.Prelude.{ℕ, ◌*◌, Option, Some, None, List, [], ◌∷◌, ◌++◌, codes, flat_map, replicate, slice_get}
use Rattle.std.specs.Fmt.{decimal}
use Rattle.script_tree.specs.declared.form.Form.{Form}
use Rattle.script_tree.specs.declared.form.Form.TheVariants as form
use Rattle.script_tree.specs.declared.program.CompRef.{CompRef}
use Rattle.script_tree.specs.declared.program.CompRef.TheVariants as comp
use Rattle.script_tree.specs.declared.program.Decl.{Decl}
use Rattle.script_tree.specs.declared.program.Operand.{Operand}
use Rattle.script_tree.specs.declared.program.Operand.TheVariants as operand
use Rattle.script_tree.specs.declared.program.Test.{Test}
use Rattle.script_tree.specs.declared.program.Test.TheVariants as test
use Rattle.script_tree.specs.declared.program.Text.{Text}
use Rattle.script_tree.specs.declared.thing.Sort.TheVariants as sort
use Rattle.script_tree.specs.Forms.{keyword, shapes}
use Rattle.script_tree.specs.Parts.{Part, number_part, operand_part, comp_part, test_part, name_part, Shape, a_register, a_promise, a_fillable, a_place}
use Rattle.script_tree.specs.Tree.{Tree}

abbrev pub decl_name : Option Decl → List ℕ
decl_name None = []
decl_name (Some d) = d.name

abbrev pub text_name : Option Text → List ℕ
text_name None = []
text_name (Some t) = t.name

abbrev pub operand_word : Operand → List ℕ
operand_word (operand.Reg r) = 114 ∷ decimal r
operand_word (operand.Num n) = decimal n

abbrev pub comp_word : Tree → CompRef → List ℕ
comp_word tree comp.Root = codes "root"
comp_word tree (comp.Named n) = decl_name (slice_get tree.decls n)
comp_word tree (comp.Promise p) = 112 ∷ decimal p

abbrev pub test_word : Test → List ℕ
test_word test.Eq = codes "eq"
test_word test.Ne = codes "ne"
test_word test.Lt = codes "lt"
test_word test.Le = codes "le"
test_word test.Gt = codes "gt"
test_word test.Ge = codes "ge"

abbrev pub number_word : Tree → Shape → ℕ → List ℕ
number_word tree a_register n = 114 ∷ decimal n
number_word tree a_promise n = 112 ∷ decimal n
number_word tree a_fillable n = decl_name (slice_get tree.decls n)
number_word tree (a_place sort.Text) n = text_name (slice_get tree.texts n)
number_word tree (a_place s) n = decl_name (slice_get tree.decls n)
number_word tree _ n = decimal n

-- the word of a part
abbrev pub part_word : Tree → Shape → Part → List ℕ
part_word tree shape (number_part n) = number_word tree shape n
part_word tree shape (operand_part o) = operand_word o
part_word tree shape (comp_part c) = comp_word tree c
part_word tree shape (test_part t) = test_word t
part_word tree shape (name_part w) = w

abbrev pub part_words : Tree → List Shape → List Part → List (List ℕ)
part_words tree [] parts = []
part_words tree (s ∷ ss) [] = []
part_words tree (s ∷ ss) (p ∷ ps) = part_word tree s p ∷ part_words tree ss ps

-- the words that tell a form
abbrev pub lead : Form → List (List ℕ)
lead (form.Event f) = codes "on" ∷ (keyword (form.Event f) ∷ [])
lead f = keyword f ∷ []

-- words with a blank in front of each
abbrev pub spaced : List (List ℕ) → List ℕ
spaced words = flat_map (λ w. 32 ∷ w) words

-- words with single blanks between them
abbrev pub joined : List (List ℕ) → List ℕ
joined [] = []
joined (w ∷ ws) = w ++ spaced ws

-- a line inside `depth` blocks and texts: two blanks for each, its words, and its end
abbrev pub line_text : Tree → ℕ → Form → List Part → List ℕ
line_text tree depth f parts = replicate (2 * depth) 32 ++ (joined (lead f) ++ (spaced (part_words tree (shapes f) parts) ++ 10 ∷ []))
