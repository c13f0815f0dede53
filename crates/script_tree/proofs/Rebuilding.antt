-- The parts that words are read as are what their shapes want, also as the lines made of them have them.
use Rattle.std.proofs.Common.{◌≡◌, ℕ, Result, Ok, Err, List, [], ◌∷◌, refl, sym, subst}
use Rattle.script_tree.specs.declared.cause.Cause.{Cause}
use Rattle.script_tree.specs.declared.thing.Sort.TheVariants as sort
use Rattle.script_tree.specs.Names.{Named}
use Rattle.script_tree.specs.Parts.{Part, number_part, operand_part, comp_part, test_part, name_part, Shape, a_register, a_value, a_number, a_key, a_promise, a_comp, a_test, a_new_name, a_fillable, a_place, words_read, word_read, then_read}
use Rattle.script_tree.specs.Tree.{Tree}
use Rattle.script_tree.specs.WellFormed.{PartFits, PartsFit}
use Rattle.script_tree.proofs.Fitting.{NamesFit, word_is}
use Rattle.script_tree.proofs.Remade.{as_wanted, all_wanted, AreWanted, no_parts, one_more, wanted_same}

more_parts : (tree : Tree) (s : Shape) (ss : List Shape) (x : Result Part Cause) (rest : Result (List Part) Cause) (ps : List Part)
    → ((q : Part) → x ≡ Ok q → PartFits tree s q) → ((qs : List Part) → rest ≡ Ok qs → PartsFit tree ss qs) → then_read x rest ≡ Ok ps
    → PartsFit tree (s ∷ ss) ps
more_parts tree s ss (Err c) rest ps f g e = cc
more_parts tree s ss (Ok q) (Err c) ps f g e = cc
more_parts tree s ss (Ok q) (Ok qs) ps f g e = let h : (q ∷ qs) ≡ ps = cc in subst (λ rs. PartsFit tree (s ∷ ss) rs) h (f q refl, g qs refl)

words_fit : (tree : Tree) (names : List Named) (ss : List Shape) (words : List (List ℕ)) (ps : List Part) → NamesFit tree names
    → words_read names ss words ≡ Ok ps → PartsFit tree ss ps
words_fit tree names [] [] ps n e = let h : [] ≡ ps = cc in subst (λ rs. PartsFit tree [] rs) h tt
words_fit tree names [] (w ∷ ws) ps n e = cc
words_fit tree names (s ∷ ss) [] ps n e = cc
words_fit tree names (s ∷ ss) (w ∷ ws) ps n e =
    more_parts tree s ss (word_read names s w) (words_read names ss ws) ps (λ q h. word_is tree names s w q n h) (λ qs h. words_fit tree names ss ws qs n h) e

-- a part that fits is of the kind that is wanted
fit_wanted : (tree : Tree) (s : Shape) (p : Part) → PartFits tree s p → as_wanted s p ≡ p
fit_wanted tree a_register (number_part n) h = refl
fit_wanted tree a_value (operand_part o) h = refl
fit_wanted tree a_number (number_part n) h = refl
fit_wanted tree a_key (number_part n) h = refl
fit_wanted tree a_promise (number_part n) h = refl
fit_wanted tree a_comp (comp_part c) h = refl
fit_wanted tree a_test (test_part t) h = refl
fit_wanted tree a_new_name (name_part w) h = refl
fit_wanted tree a_fillable (number_part n) h = refl
fit_wanted tree (a_place sort.Text) (number_part n) h = refl
fit_wanted tree (a_place _) (number_part n) h = refl
fit_wanted tree _ _ h = absurd h

are_wanted : (tree : Tree) (ss : List Shape) (ps : List Part) → PartsFit tree ss ps → AreWanted ss ps
are_wanted tree [] [] f = no_parts
are_wanted tree [] (p ∷ ps) f = absurd f
are_wanted tree (s ∷ ss) [] f = absurd f
are_wanted tree (s ∷ ss) (p ∷ ps) f = one_more (fit_wanted tree s p f.0) (are_wanted tree ss ps f.1)

-- the parts of the line that is made of what words are read as
pub made_parts_fit : (tree : Tree) (names : List Named) (ss : List Shape) (words : List (List ℕ)) (ps : List Part) → NamesFit tree names
    → words_read names ss words ≡ Ok ps → PartsFit tree ss (all_wanted ss 0 ps)
made_parts_fit tree names ss words ps n e =
    let f = words_fit tree names ss words ps n e in subst (λ qs. PartsFit tree ss qs) (sym (wanted_same (are_wanted tree ss ps f))) f
