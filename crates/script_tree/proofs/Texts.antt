-- One text more of those that are written.
use Rattle.std.proofs.Common.{◌≡◌, ℕ, List, ◌∷◌, ◌++◌, ◌∙◌, append_assoc}
use Rattle.script_tree.specs.Canon.{text_text, texts_text}
use Rattle.script_tree.specs.Tree.{Tree}
use Rattle.script_tree.specs.declared.program.Text.{Text}

-- one text more
pub texts_more : (tree : Tree) (rest others : List Text) (t : Text) (out now whole : List ℕ) → rest ≡ t ∷ others → now ≡ out ++ text_text tree t others
    → out ++ texts_text tree rest ≡ whole → now ++ texts_text tree others ≡ whole
texts_more tree rest others t out now whole cut written before =
    let was = rw cut at before in
    rw written (append_assoc out (text_text tree t others) (texts_text tree others) ∙ was)
