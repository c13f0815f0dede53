-- The text of a block, looked into some levels deep.
use Rattle.std.proofs.Common.{◌≡◌, ℕ, zero, suc, ◌+◌, ◌-◌, ◌<◌, ◌≤◌, get_or, Some, List, [], length, flat_map, slice_get, sub-one, refl, sym, ap, ◌∙◌}
use Rattle.std.proofs.lemmas.Option.{slice_get_past, slice_get_read}
use Rattle.script_tree.specs.declared.program.Stmt.{Stmt}
use Rattle.script_tree.specs.Canon.{stmt_text, block_text, stmts_text}
use Rattle.script_tree.specs.Tree.{Tree}

-- what was read from a list at a place, seen otherwise
pub read_at : {A : Type 0} (xs ys : List A) (i : ℕ) (x y : A) → xs ≡ ys → i < length xs → x ≡ get_or xs i x → y ≡ x → slice_get ys i ≡ Some y
read_at xs ys i x y same within read seen =
    ap (λ zs. slice_get zs i) (sym same) ∙ slice_get_read xs (length xs) i x refl within read ∙ ap (λ z. Some z) (sym seen)

-- a block that is there
pub block_there : (tree : Tree) (levels depth place : ℕ) (block : List Stmt) → (levels ≡ 0 → ⊥) → slice_get tree.blocks place ≡ Some block
    → flat_map (stmt_text (block_text (levels - 1) tree (depth + 1)) tree depth) block ≡ block_text levels tree depth place
block_there tree zero depth place block some at = absurd (some refl)
block_there tree (suc levels) depth place block some at =
    ap (λ n. flat_map (stmt_text (block_text n tree (depth + 1)) tree depth) block) (sub-one (suc levels))
    ∙ ap (λ o. stmts_text (block_text levels tree (depth + 1)) tree depth o) (sym at)

-- a block that isn't there
pub block_missing : (tree : Tree) (levels depth place : ℕ) → length tree.blocks ≤ place → block_text levels tree depth place ≡ []
block_missing tree zero depth place past = refl
block_missing tree (suc levels) depth place past =
    ap (λ o. stmts_text (block_text levels tree (depth + 1)) tree depth o) (slice_get_past tree.blocks place past)
