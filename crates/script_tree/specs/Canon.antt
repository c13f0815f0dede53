-- The canonical text of a program: no comments, no blank lines, two blanks of indent per open block
-- or text, single blanks, each line with its end.
use Rattle.std.specs.Prelude.{ℕ, zero, suc, ◌+◌, Option, Some, None, List, [], ◌∷◌, ◌++◌, codes, flat_map, slice_get}
use Rattle.script_tree.specs.declared.form.Form.{Form}
use Rattle.script_tree.specs.declared.form.Form.TheVariants as form
use Rattle.script_tree.specs.declared.opener.Opener.{Opener}
use Rattle.script_tree.specs.declared.opener.Opener.TheVariants as opener
use Rattle.script_tree.specs.declared.program.Decl.{Decl}
use Rattle.script_tree.specs.declared.program.EventTree.{EventTree}
use Rattle.script_tree.specs.declared.program.EventTree.TheVariants as event
use Rattle.script_tree.specs.declared.program.Stmt.{Stmt}
use Rattle.script_tree.specs.declared.program.Stmt.TheVariants as stmt
use Rattle.script_tree.specs.declared.program.Text.{Text}
use Rattle.script_tree.specs.Lines.{stmt_form, stmt_parts, opener_form, opener_parts, tree_form, event_parts, kind_form, kind_parts}
use Rattle.script_tree.specs.Parts.{Part, number_part, name_part}
use Rattle.script_tree.specs.Spelling.{line_text}
use Rattle.script_tree.specs.Tree.{Tree}

-- the line of a form, where there is one
abbrev pub form_line : Tree → ℕ → Option Form → List Part → List ℕ
form_line tree depth None parts = []
form_line tree depth (Some f) parts = line_text tree depth f parts

-- the line that opens something, and the one that ends it
abbrev pub opening : Tree → ℕ → Opener → List ℕ
opening tree depth o = form_line tree depth (opener_form o) (opener_parts o)

abbrev pub ending : Tree → ℕ → List ℕ
ending tree depth = line_text tree depth form.End []

-- a group of events around its members, or an event alone; `inner` gives the text of the members
abbrev pub group_text : (List ℕ → List ℕ) → Tree → ℕ → Opener → List ℕ → List ℕ
group_text inner tree depth o members = opening tree depth o ++ (inner members ++ ending tree depth)

abbrev pub event_text : (List ℕ → List ℕ) → Tree → ℕ → Option EventTree → List ℕ
event_text inner tree depth None = []
event_text inner tree depth (Some (event.Choose members)) = group_text inner tree depth opener.Choose members
event_text inner tree depth (Some (event.Wrap o members)) = group_text inner tree depth (opener.Wrap o) members
event_text inner tree depth (Some (event.Guard l t r members)) = group_text inner tree depth (opener.Guard l t r) members
event_text inner tree depth (Some e) = form_line tree depth (tree_form e) (event_parts e)

-- the events at some places, looked into `levels` groups deep
abbrev pub events_text : ℕ → Tree → ℕ → List ℕ → List ℕ
events_text zero tree depth places = []
events_text (suc levels) tree depth places =
    flat_map (λ place. event_text (events_text levels tree (depth + 1)) tree depth (slice_get tree.events place)) places

-- blocks stand at most 32 deep
abbrev pub levels_of_blocks : ℕ
levels_of_blocks = 34

-- a block around its statements; `inner` gives the text of the block at a place
abbrev pub around : (ℕ → List ℕ) → Tree → ℕ → Opener → ℕ → List ℕ
around inner tree depth o place = opening tree depth o ++ (inner place ++ ending tree depth)

-- the second part of a block, behind a line of its own
abbrev pub part_text : (ℕ → List ℕ) → Tree → ℕ → Form → List Part → ℕ → List ℕ
part_text inner tree depth f parts place = line_text tree depth f parts ++ inner place

abbrev pub else_text : (ℕ → List ℕ) → Tree → ℕ → Option ℕ → List ℕ
else_text inner tree depth None = []
else_text inner tree depth (Some place) = part_text inner tree depth form.Else [] place

abbrev pub stmt_text : (ℕ → List ℕ) → Tree → ℕ → Stmt → List ℕ
stmt_text inner tree depth (stmt.If l t r then_place other) =
    opening tree depth (opener.Then l t r) ++ (inner then_place ++ (else_text inner tree depth other ++ ending tree depth))
stmt_text inner tree depth (stmt.Try body register handler) =
    opening tree depth opener.Try ++ (inner body ++ (part_text inner tree depth form.Catch (number_part register ∷ []) handler ++ ending tree depth))
stmt_text inner tree depth (stmt.Loop place) = around inner tree depth opener.Loop place
stmt_text inner tree depth (stmt.Forbid place) = around inner tree depth opener.Forbid place
stmt_text inner tree depth (stmt.Permit place) = around inner tree depth opener.Permit place
stmt_text inner tree depth (stmt.Under c place) = around inner tree depth (opener.Under c) place
stmt_text inner tree depth (stmt.Link a b place) = around inner tree depth (opener.Link a b) place
stmt_text inner tree depth (stmt.Protect m place) = around inner tree depth (opener.Protect m) place
stmt_text inner tree depth (stmt.Bundle place) = around inner tree depth opener.Bundle place
stmt_text inner tree depth (stmt.Flock place) = around inner tree depth opener.Flock place
stmt_text inner tree depth (stmt.Select number value events) =
    opening tree depth (opener.Select number value) ++ (events_text levels_of_blocks tree (depth + 1) events ++ ending tree depth)
stmt_text inner tree depth x = form_line tree depth (stmt_form x) (stmt_parts x)

-- the statements of a block, if there is one
abbrev pub stmts_text : (ℕ → List ℕ) → Tree → ℕ → Option (List Stmt) → List ℕ
stmts_text inner tree depth None = []
stmts_text inner tree depth (Some stmts) = flat_map (stmt_text inner tree depth) stmts

-- the statements of the block at a place, looked into `levels` blocks deep
abbrev pub block_text : ℕ → Tree → ℕ → ℕ → List ℕ
block_text zero tree depth place = []
block_text (suc levels) tree depth place = stmts_text (block_text levels tree (depth + 1)) tree depth (slice_get tree.blocks place)

abbrev pub decl_text : Tree → Decl → List ℕ
decl_text tree d = line_text tree 0 (form.Declare (kind_form d.kind)) (name_part d.name ∷ kind_parts d.kind)

-- the last text is the main text
abbrev pub text_line : Tree → Text → List Text → List ℕ
text_line tree t [] = line_text tree 0 form.Main []
text_line tree t (u ∷ us) = line_text tree 0 form.Fiber (name_part t.name ∷ [])

-- a text with its block, in front of the others
abbrev pub text_text : Tree → Text → List Text → List ℕ
text_text tree t others = text_line tree t others ++ (block_text levels_of_blocks tree 1 t.block ++ ending tree 0)

abbrev pub texts_text : Tree → List Text → List ℕ
texts_text tree [] = []
texts_text tree (t ∷ ts) = text_text tree t ts ++ texts_text tree ts

-- the canonical text of a program
abbrev pub canon : Tree → List ℕ
canon tree = codes "picos 1" ++ (10 ∷ (flat_map (decl_text tree) tree.decls ++ texts_text tree tree.texts))
