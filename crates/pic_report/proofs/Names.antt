-- The names of computations.
use Rattle.std.proofs.Common.{◌≡◌, ◌≢◌, ℕ, zero, suc, ◌-◌, ◌<◌, List, [], ◌∷◌, length, map, get_or, codes, refl, sym, ap, ◌∙◌, arith}
use Rattle.std.proofs.lemmas.List.{length-map}
use Rattle.std.specs.Borrow.{Bor}
use Rattle.pic_report.specs.Names.{read_names}
use Rattle.pic_report.specs.Report.{comp_name}

at_map : {A : Type 0} (f : A → List ℕ) (xs : List A) (k : ℕ) (d : A) (e : List ℕ) → k < length xs → get_or (map f xs) k e ≡ f (get_or xs k d)
at_map f [] k d e within = absurd (omega arith)
at_map f (x ∷ xs) zero d e within = refl
at_map f (x ∷ xs) (suc k) d e within = at_map f xs k d e (omega arith)

pub comp_named : {A : Type 0} (f : A → List ℕ) (xs : List A) (number : ℕ) (name : A) → number ≢ 0 → number - 1 < length xs → name ≡ get_or xs (number - 1) name → f name ≡ comp_name (map f xs) number
comp_named f xs zero name some within is = absurd (omega arith)
comp_named f xs (suc k) name some within is =
    let one_less : suc k - 1 ≡ k = omega arith in
    let is' = rw one_less at is in
    ap f is' ∙ sym (at_map f xs k name (codes "-") (omega arith))

-- as many names are kept as there are
pub counted : (names : List (Bor (List ℕ))) (all : List (List ℕ)) → read_names names ≡ all → length names ≡ length all
counted names all are = sym (length-map names (λ (name : Bor (List ℕ)). name.now)) ∙ ap (λ (ws : List (List ℕ)). length ws) are
