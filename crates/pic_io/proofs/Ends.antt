-- When a front of a list is the whole list.
use Rattle.std.proofs.Common.{◌≡◌, ℕ, ◌<◌, ◌≤◌, List, [], ◌++◌, length, take, ap, ◌∙◌, arith}
use Rattle.std.proofs.lemmas.List.{take_all, length-take}

-- a front that is shorter than it was allowed to be
pub whole_of_front : (most : ℕ) (bytes content : List ℕ) →
    bytes ≡ [] ++ take most content → length bytes < most → bytes ≡ content
whole_of_front most bytes content e short =
    let all_fits : length content ≤ most = omega (arith, length-take most content, ap length e) in
    e ∙ take_all most content all_fits
