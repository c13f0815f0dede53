-- Numerals and what `parse` makes of them.
use Rattle.std.proofs.Common.{◌≡◌, ℕ, zero, suc, ◌<◌, ◌^◌, true, List, [], ◌∷◌, length, Result, Ok, Err, SomeIff, OkIff, IsAscii, arith}
use Rattle.std.specs.Str.{all_ascii_digits}
use Rattle.std.specs.Str.Parse.{digits_value, ParsesUnsigned}
use Rattle.std.specs.Result.{result_ok}
use Rattle.std.proofs.lemmas.Bool.{and_parts}
use Rattle.std.proofs.lemmas.Str.Parse.{IsNumeralModel, numerals_by_value, tells_all_ascii_digits, parse_digits}
use Rattle.script_tree.specs.Words.{is_numeral}

pub own : IsNumeralModel (λ ds. all_ascii_digits ds ≡ true) (digits_value 10)
own = numerals_by_value _ tells_all_ascii_digits

pub digits_ascii : (ds : List ℕ) → all_ascii_digits ds ≡ true → IsAscii ds
digits_ascii [] h i = omega arith
digits_ascii (c ∷ cs) h zero = let p = tells_all_ascii_digits.parts c cs h in omega (arith, p.0)
digits_ascii (c ∷ cs) h (suc i) = let p = tells_all_ascii_digits.parts c cs h in digits_ascii cs p.1 i

pub numeral_digits : (ds : List ℕ) → is_numeral ds ≡ true → all_ascii_digits ds ≡ true
numeral_digits ds h = (and_parts _ _ h).0

pub numeral_some : (ds : List ℕ) → is_numeral ds ≡ true → 0 < length ds
numeral_some [] h = absurd (cc)
numeral_some (c ∷ cs) h = omega arith

found : {E : Type 0} (r : Result ℕ E) (Q : Type 0) (n v : ℕ) → OkIff r ((0 < n) × Q) v → 0 < n → SomeIff (result_ok r) Q v
found (Ok x) Q n v h some = (h.0.1, h.1)
found (Err e) Q n v h some = λ q. h (some, q)

-- what `parse` answers for a numeral
pub parsed : {E : Type 0} (ds text : List ℕ) (r : Result ℕ E) → is_numeral ds ≡ true → text ≡ ds → ParsesUnsigned 32 10 text r
    → SomeIff (result_ok r) (digits_value 10 ds < 2 ^ 32) (digits_value 10 ds)
parsed ds text r h same p =
    found r (digits_value 10 ds < 2 ^ 32) (length ds) (digits_value 10 ds)
    (parse_digits own 32 ds r (rw same at p) (numeral_digits ds h)) (numeral_some ds h)
