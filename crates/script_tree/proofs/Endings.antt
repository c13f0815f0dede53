-- The canonical text goes on by a line `end`, `else` or `catch`.
use Rattle.std.proofs.Common.{◌≡◌, ℕ, ◌+◌, ◌≤◌, true, false, Some, None, List, [], ◌∷◌, ◌++◌, refl, ap, inl, inr}
use Rattle.script_tree.specs.declared.form.Form.TheVariants as form
use Rattle.script_tree.specs.declared.line.Line.TheVariants as line
use Rattle.script_tree.specs.declared.opener.Opener.{Opener}
use Rattle.script_tree.specs.declared.opener.Opener.TheVariants as opener
use Rattle.script_tree.specs.declared.program.EventTree.TheVariants as event
use Rattle.script_tree.specs.declared.program.Operand.{Operand}
use Rattle.script_tree.specs.declared.program.Stmt.{Stmt}
use Rattle.script_tree.specs.declared.program.Stmt.TheVariants as stmt
use Rattle.script_tree.specs.declared.program.Test.{Test}
use Rattle.script_tree.specs.Canon.{opening, ending, block_text}
use Rattle.script_tree.specs.Parts.{number_part}
use Rattle.script_tree.specs.Reading.{State, closed, else_closed, part_begun, else_begun, is_group, is_then, is_try, holds_statements, holds_events}
use Rattle.script_tree.specs.Spelling.{line_text}
use Rattle.script_tree.specs.Tree.{Tree}
use Rattle.script_tree.proofs.Allowed.{May, role_events, role_then, role_try, nothing_ends}
use Rattle.script_tree.proofs.Closings.{two_parts, block_closes, fiber_closes, main_closes, select_closes, group_closes, part_goes}
use Rattle.script_tree.proofs.Groups.{GroupsDescend}
use Rattle.script_tree.proofs.Paths.{is_bare_else, BlocksDescend}
use Rattle.script_tree.proofs.Settled.{Settles}
use Rattle.script_tree.proofs.Standing.{Around, Stands, in_file, behind, in_block, in_events, Goes, stmts_shown, events_shown}

else_ends : (tree : Tree) (s : State) (l : Operand) (t : Test) (r : Operand) (then_place : ℕ) (xs : List Stmt) (depth levels : ℕ) (front text : List ℕ)
    → is_bare_else (opener.Otherwise l t r then_place) xs ≡ false → holds_statements s.top.what ≡ true → BlocksDescend s
    → Settles (else_closed s l t r then_place xs) tree → depth ≤ 33
    → Around tree s.decls s.texts (opener.Otherwise l t r then_place) s.top.place s.outer depth levels front → text ≡ front ++ stmts_shown tree depth levels s.top.stmts
    → Goes tree (else_closed s l t r then_place xs) text (Some form.End) []
else_ends tree s l t r then_place [] depth levels front text some h descend settle deep a i = cc
else_ends tree s l t r then_place (x ∷ xs) depth levels front text some h descend settle deep a i =
    block_closes tree s (opener.Otherwise l t r then_place) (stmt.If l t r then_place (Some s.top.place)) s.top.place s.outer depth levels front text refl h
    (λ d n. two_parts (opening tree d (opener.Then l t r)) (block_text n tree (d + 1) then_place) (line_text tree d form.Else []) (block_text n tree (d + 1) s.top.place) (ending tree d))
    descend settle deep a i

block_ends : (tree : Tree) (s : State) (o : Opener) (depth levels : ℕ) (front text : List ℕ) → s.top.what ≡ o → holds_statements s.top.what ≡ true → May o line.End
    → is_bare_else o s.top.stmts ≡ false → BlocksDescend s → Settles (closed s o) tree → depth ≤ 33
    → Around tree s.decls s.texts o s.top.place s.outer depth levels front → text ≡ front ++ stmts_shown tree depth levels s.top.stmts
    → Goes tree (closed s o) text (Some form.End) []
block_ends tree s (opener.Select n v) depth levels front text e h may some descend settle deep a i = cc (h, ap holds_statements e)
block_ends tree s opener.Choose depth levels front text e h may some descend settle deep a i = cc (h, ap holds_statements e)
block_ends tree s (opener.Wrap o) depth levels front text e h may some descend settle deep a i = cc (h, ap holds_statements e)
block_ends tree s (opener.Guard l t r) depth levels front text e h may some descend settle deep a i = cc (h, ap holds_statements e)
block_ends tree s opener.Text depth levels front text e h may some descend settle deep a i =
    fiber_closes tree s s.top.place s.outer depth levels front text refl h descend settle a i
block_ends tree s opener.Main depth levels front text e h may some descend settle deep a i =
    main_closes tree s s.top.place s.outer depth levels front text refl h descend settle a i
block_ends tree s (opener.Otherwise l t r then_place) depth levels front text e h may some descend settle deep a i =
    else_ends tree s l t r then_place s.top.stmts depth levels front text some h descend settle deep a i
block_ends tree s (opener.Catch body register) depth levels front text e h may some descend settle deep a i =
    block_closes tree s (opener.Catch body register) (stmt.Try body register s.top.place) s.top.place s.outer depth levels front text refl h
    (λ d n. two_parts (opening tree d opener.Try) (block_text n tree (d + 1) body) (line_text tree d form.Catch (number_part register ∷ [])) (block_text n tree (d + 1) s.top.place) (ending tree d))
    descend settle deep a i
block_ends tree s (opener.Then l t r) depth levels front text e h may some descend settle deep a i =
    block_closes tree s (opener.Then l t r) (stmt.If l t r s.top.place None) s.top.place s.outer depth levels front text refl h (λ d n. refl) descend settle deep a i
block_ends tree s opener.Loop depth levels front text e h may some descend settle deep a i =
    block_closes tree s opener.Loop (stmt.Loop s.top.place) s.top.place s.outer depth levels front text refl h (λ d n. refl) descend settle deep a i
block_ends tree s opener.Forbid depth levels front text e h may some descend settle deep a i =
    block_closes tree s opener.Forbid (stmt.Forbid s.top.place) s.top.place s.outer depth levels front text refl h (λ d n. refl) descend settle deep a i
block_ends tree s opener.Permit depth levels front text e h may some descend settle deep a i =
    block_closes tree s opener.Permit (stmt.Permit s.top.place) s.top.place s.outer depth levels front text refl h (λ d n. refl) descend settle deep a i
block_ends tree s (opener.Under c) depth levels front text e h may some descend settle deep a i =
    block_closes tree s (opener.Under c) (stmt.Under c s.top.place) s.top.place s.outer depth levels front text refl h (λ d n. refl) descend settle deep a i
block_ends tree s (opener.Link p q) depth levels front text e h may some descend settle deep a i =
    block_closes tree s (opener.Link p q) (stmt.Link p q s.top.place) s.top.place s.outer depth levels front text refl h (λ d n. refl) descend settle deep a i
block_ends tree s (opener.Protect m) depth levels front text e h may some descend settle deep a i =
    block_closes tree s (opener.Protect m) (stmt.Protect m s.top.place) s.top.place s.outer depth levels front text refl h (λ d n. refl) descend settle deep a i
block_ends tree s opener.Bundle depth levels front text e h may some descend settle deep a i =
    block_closes tree s opener.Bundle (stmt.Bundle s.top.place) s.top.place s.outer depth levels front text refl h (λ d n. refl) descend settle deep a i
block_ends tree s opener.Flock depth levels front text e h may some descend settle deep a i =
    block_closes tree s opener.Flock (stmt.Flock s.top.place) s.top.place s.outer depth levels front text refl h (λ d n. refl) descend settle deep a i
block_ends tree s _ depth levels front text e h may some descend settle deep a i = cc

events_end : (tree : Tree) (s : State) (o : Opener) (depth levels : ℕ) (front text : List ℕ) → s.top.what ≡ o → holds_events o ≡ true → GroupsDescend s
    → Settles (closed s o) tree → depth ≤ 33
    → Around tree s.decls s.texts o s.top.place s.outer depth levels front → text ≡ front ++ events_shown tree depth levels s.top.events
    → Goes tree (closed s o) text (Some form.End) []
events_end tree s (opener.Select n v) depth levels front text e h descend settle deep a i = select_closes tree s n v s.top.place s.outer depth levels front text deep a i
events_end tree s opener.Choose depth levels front text e h descend settle deep a i =
    group_closes tree s opener.Choose (event.Choose s.top.events) s.top.place s.outer depth levels front text refl (ap is_group e) (λ d n. refl) descend settle deep a i
events_end tree s (opener.Wrap o) depth levels front text e h descend settle deep a i =
    group_closes tree s (opener.Wrap o) (event.Wrap o s.top.events) s.top.place s.outer depth levels front text refl (ap is_group e) (λ d n. refl) descend settle deep a i
events_end tree s (opener.Guard l t r) depth levels front text e h descend settle deep a i =
    group_closes tree s (opener.Guard l t r) (event.Guard l t r s.top.events) s.top.place s.outer depth levels front text refl (ap is_group e) (λ d n. refl) descend settle deep a i
events_end tree s _ depth levels front text e h descend settle deep a i = cc

-- an `end`
pub ending_goes : (tree : Tree) (s : State) (text : List ℕ) → May s.top.what line.End → is_bare_else s.top.what s.top.stmts ≡ false → BlocksDescend s → GroupsDescend s
    → Settles (closed s s.top.what) tree → Stands tree s text → Goes tree (closed s s.top.what) text (Some form.End) []
ending_goes tree s text may some blocks groups settle (in_file q r h i) = absurd (nothing_ends s.top.what may (inl r))
ending_goes tree s text may some blocks groups settle (behind r i) = absurd (nothing_ends s.top.what may (inr r))
ending_goes tree s text may some blocks groups settle (in_block depth levels front h l d a i) =
    block_ends tree s s.top.what depth levels front text refl h may some blocks settle d a i
ending_goes tree s text may some blocks groups settle (in_events depth levels front h l d a i) =
    events_end tree s s.top.what depth levels front text refl h groups settle d a i

else_begins : (tree : Tree) (s : State) (o : Opener) (depth levels : ℕ) (front text : List ℕ) → is_then o ≡ true → holds_statements s.top.what ≡ true → BlocksDescend s
    → Settles (else_begun s o) tree → s.top.level.depth + 1 ≡ depth → depth ≤ 33
    → Around tree s.decls s.texts o s.top.place s.outer depth levels front → text ≡ front ++ stmts_shown tree depth levels s.top.stmts
    → Goes tree (else_begun s o) text (Some form.Else) []
else_begins tree s (opener.Then l t r) depth levels front text may h descend settle level deep a i =
    part_goes tree s (opener.Then l t r) (opener.Otherwise l t r s.top.place) form.Else [] s.top.place s.outer depth levels front text refl refl refl h (λ d n. refl)
    descend settle.blocks level deep a i refl
else_begins tree s _ depth levels front text may h descend settle level deep a i = cc

-- an `else`
pub else_goes : (tree : Tree) (s : State) (text : List ℕ) → is_then s.top.what ≡ true → BlocksDescend s → Settles (else_begun s s.top.what) tree → Stands tree s text
    → Goes tree (else_begun s s.top.what) text (Some form.Else) []
else_goes tree s text may descend settle (in_file q r h i) = cc (role_then s.top.what may, r)
else_goes tree s text may descend settle (behind r i) = cc (role_then s.top.what may, r)
else_goes tree s text may descend settle (in_events depth levels front h l d a i) = cc (role_then s.top.what may, role_events s.top.what h)
else_goes tree s text may descend settle (in_block depth levels front h l d a i) =
    else_begins tree s s.top.what depth levels front text may h descend settle l d a i

catch_begins : (tree : Tree) (s : State) (o : Opener) (register depth levels : ℕ) (front text : List ℕ) → is_try o ≡ true → holds_statements s.top.what ≡ true → BlocksDescend s
    → Settles (part_begun s (opener.Catch s.top.place register)) tree → s.top.level.depth + 1 ≡ depth → depth ≤ 33
    → Around tree s.decls s.texts o s.top.place s.outer depth levels front → text ≡ front ++ stmts_shown tree depth levels s.top.stmts
    → Goes tree (part_begun s (opener.Catch s.top.place register)) text (Some form.Catch) (number_part register ∷ [])
catch_begins tree s opener.Try register depth levels front text may h descend settle level deep a i =
    part_goes tree s opener.Try (opener.Catch s.top.place register) form.Catch (number_part register ∷ []) s.top.place s.outer depth levels front text refl refl refl h (λ d n. refl)
    descend settle.blocks level deep a i refl
catch_begins tree s _ register depth levels front text may h descend settle level deep a i = cc

-- a `catch`
pub catch_goes : (tree : Tree) (s : State) (register : ℕ) (text : List ℕ) → is_try s.top.what ≡ true → BlocksDescend s
    → Settles (part_begun s (opener.Catch s.top.place register)) tree → Stands tree s text
    → Goes tree (part_begun s (opener.Catch s.top.place register)) text (Some form.Catch) (number_part register ∷ [])
catch_goes tree s register text may descend settle (in_file q r h i) = cc (role_try s.top.what may, r)
catch_goes tree s register text may descend settle (behind r i) = cc (role_try s.top.what may, r)
catch_goes tree s register text may descend settle (in_events depth levels front h l d a i) = cc (role_try s.top.what may, role_events s.top.what h)
catch_goes tree s register text may descend settle (in_block depth levels front h l d a i) =
    catch_begins tree s s.top.what register depth levels front text may h descend settle l d a i
