-- Blanks in front of a line.
use Rattle.std.proofs.Common.{◌≡◌, ℕ, ◌+◌, ◌*◌, List, [], ◌∷◌, ◌++◌, replicate, ap, ◌∙◌, arith, append_assoc}
use Rattle.std.proofs.lemmas.List.{replicate-append-replicate}

-- one level more
pub indent_more : (n : ℕ) (old before now : List ℕ) → before ≡ old ++ replicate (2 * n) 32 → now ≡ before ++ (32 ∷ (32 ∷ [])) → now ≡ old ++ replicate (2 * (n + 1)) 32
indent_more n old before now b w =
    let count : 2 * n + 2 ≡ 2 * (n + 1) = omega arith in
    w ∙ rw b (append_assoc old (replicate (2 * n) 32) (32 ∷ (32 ∷ [])) ∙ ap (λ ys. old ++ ys) (replicate-append-replicate (2 * n) 2 32 ∙ ap (λ k. replicate k 32) count))
