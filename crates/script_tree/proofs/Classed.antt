-- A word of a class with a number is how that number is spelled, and words of these classes are words
-- that a line may have.
use Rattle.std.proofs.Common.{◌≡◌, ℕ, ◌<◌, ◌≤◌, ◌^◌, ◌==◌, ◌&&◌, not, true, nat_lt, nat_le, List, [], ◌∷◌, length, drop, slice_index, get_or, refl, sym, ap, subst, ◌∙◌, inl, inr, arith}
use Rattle.std.specs.Char.{is_ascii_digit, is_ascii_lowercase}
use Rattle.std.specs.Fmt.{decimal}
use Rattle.std.specs.Str.{all_ascii_digits}
use Rattle.std.specs.Str.Parse.{digits_value}
use Rattle.std.proofs.lemmas.Bool.{cond_both, and_parts, and_from, and_cases, or_left, or_right, not-true, ltb-true, ltb-false, leb-true, eqb-true, eqb-false}
use Rattle.std.proofs.lemmas.Fmt.{decimal-digits_value, length-decimal-le}
use Rattle.script_tree.specs.declared.class.Class.{Class}
use Rattle.script_tree.specs.declared.class.Class.TheVariants as class_is
use Rattle.script_tree.specs.Words.{class, is_numeral, is_lettered, is_name, is_name_byte, all_name_bytes, number_class, register_class, promise_class, lettered_class}
use Rattle.script_tree.proofs.Numerals.{own, numeral_digits, numeral_some}
use Rattle.script_tree.proofs.Paths.{IsWord}

digits_name_bytes : (ds : List ℕ) → all_ascii_digits ds ≡ true → all_name_bytes ds ≡ true
digits_name_bytes [] h = refl
digits_name_bytes (c ∷ cs) h =
    let p = and_parts (is_ascii_digit c) (all_ascii_digits cs) h in
    and_from (is_name_byte c) (all_name_bytes cs) (or_right (is_ascii_lowercase c) _ (or_left (is_ascii_digit c) _ p.0)) (digits_name_bytes cs p.1)

-- a numeral that begins with `0` is `0`
lone_zero : (ds : List ℕ) → is_numeral ds ≡ true → get_or ds 0 0 ≡ 48 → length ds ≡ 1
lone_zero ds h z =
    let shape = and_parts (not (length ds == 0)) (not (nat_lt 1 (length ds) && (slice_index ds 0 == 48))) (and_parts (all_ascii_digits ds) _ h).1 in
    elim (and_cases (nat_lt 1 (length ds)) (slice_index ds 0 == 48) (not-true _ shape.1)) [
      | inl e ↦ omega (arith, ltb-false 1 (length ds) e, numeral_some ds h)
      | inr e ↦ absurd (eqb-false (slice_index ds 0) 48 e z)
    ]

-- a numeral is how its number is spelled
numeral_spelled : (ds : List ℕ) → is_numeral ds ≡ true → digits_value 10 ds < 2 ^ 32 → decimal (digits_value 10 ds) ≡ ds
numeral_spelled ds h small = decimal-digits_value own ds (numeral_digits ds h) (numeral_some ds h) (lone_zero ds h) (omega (arith, small))

numeral_short : (ds : List ℕ) → is_numeral ds ≡ true → digits_value 10 ds < 2 ^ 32 → length ds ≤ 10
numeral_short ds h small =
    subst (λ (xs : List ℕ). length xs ≤ 10) (numeral_spelled ds h small)
    (length-decimal-le 10 (digits_value 10 ds) (omega arith) (omega (arith, small)) (omega (arith, small)))

-- digits behind a letter are that letter and how their number is spelled
lettered_spelled : (letter : ℕ) (w : List ℕ) → is_lettered letter w ≡ true → is_numeral (drop 1 w) ≡ true → digits_value 10 (drop 1 w) < 2 ^ 32
    → letter ∷ decimal (digits_value 10 (drop 1 w)) ≡ w
lettered_spelled letter [] l n small = absurd (cc)
lettered_spelled letter (c ∷ cs) l n small =
    let first : c ≡ letter = eqb-true c letter (and_parts (c == letter) _ l).0 in
    subst (λ (x : ℕ). letter ∷ decimal (digits_value 10 cs) ≡ x ∷ cs) (sym first) (ap (λ (xs : List ℕ). letter ∷ xs) (numeral_spelled cs n small))

lettered_word : (letter : ℕ) (w : List ℕ) → is_name_byte letter ≡ true → is_lettered letter w ≡ true → is_numeral (drop 1 w) ≡ true
    → digits_value 10 (drop 1 w) < 2 ^ 32 → IsWord w
lettered_word letter [] b l n small = absurd (cc)
lettered_word letter (c ∷ cs) b l n small =
    let first : c ≡ letter = eqb-true c letter (and_parts (c == letter) _ l).0 in
    record {
      some = omega arith;
      short = omega (arith, numeral_short cs n small);
      bytes = and_from (is_name_byte c) (all_name_bytes cs) (ap is_name_byte first ∙ b) (digits_name_bytes cs (numeral_digits cs n));
    }

name_word : (w : List ℕ) → is_name w ≡ true → IsWord w
name_word [] h = absurd (cc)
name_word (c ∷ cs) h =
    let p = and_parts (nat_le (length (c ∷ cs)) 24) (all_name_bytes (c ∷ cs)) (and_parts (is_ascii_lowercase c) _ h).1 in
    record { some = omega arith; short = leb-true _ _ p.0; bytes = p.1 }

-- what a word of a class is
pub record Spells (text word : List ℕ) : Type 0 where
  pub is : text ≡ word
  pub is_word : IsWord word

abbrev pub IsClassed : List ℕ → Class → Type 0
IsClassed w (class_is.Number n) = Spells (decimal n) w
IsClassed w (class_is.Register n) = Spells (114 ∷ decimal n) w
IsClassed w (class_is.Promise n) = Spells (112 ∷ decimal n) w
IsClassed w class_is.Name = IsWord w
IsClassed w _ = Unit {0}

number_classed : (w : List ℕ) → is_numeral w ≡ true → IsClassed w (number_class (digits_value 10 w))
number_classed w h =
    cond_both (nat_lt (digits_value 10 w) (2 ^ 32)) (class_is.Number (digits_value 10 w)) class_is.LargeNumber (IsClassed w) (λ e. small (ltb-true _ _ e)) (λ e. tt)
  where
    small : digits_value 10 w < 2 ^ 32 → Spells (decimal (digits_value 10 w)) w
    small s = record {
      is = numeral_spelled w h s;
      is_word = record { some = numeral_some w h; short = omega (arith, numeral_short w h s); bytes = digits_name_bytes w (numeral_digits w h) };
    }

register_classed : (w : List ℕ) → is_lettered 114 w ≡ true → IsClassed w (lettered_class register_class (drop 1 w))
register_classed w l =
    cond_both (is_numeral (drop 1 w)) (register_class (digits_value 10 (drop 1 w))) class_is.Other (IsClassed w)
    (λ n. cond_both (nat_lt (digits_value 10 (drop 1 w)) 16) (class_is.Register (digits_value 10 (drop 1 w))) class_is.LargeRegister (IsClassed w) (λ e. small n (ltb-true _ _ e)) (λ e. tt))
    (λ n. tt)
  where
    small : is_numeral (drop 1 w) ≡ true → digits_value 10 (drop 1 w) < 16 → Spells (114 ∷ decimal (digits_value 10 (drop 1 w))) w
    small n s = record { is = lettered_spelled 114 w l n (omega (arith, s)); is_word = lettered_word 114 w refl l n (omega (arith, s)) }

promise_classed : (w : List ℕ) → is_lettered 112 w ≡ true → IsClassed w (lettered_class promise_class (drop 1 w))
promise_classed w l =
    cond_both (is_numeral (drop 1 w)) (promise_class (digits_value 10 (drop 1 w))) class_is.Other (IsClassed w)
    (λ n. cond_both (nat_lt (digits_value 10 (drop 1 w)) 8) (class_is.Promise (digits_value 10 (drop 1 w))) class_is.LargePromise (IsClassed w) (λ e. small n (ltb-true _ _ e)) (λ e. tt))
    (λ n. tt)
  where
    small : is_numeral (drop 1 w) ≡ true → digits_value 10 (drop 1 w) < 8 → Spells (112 ∷ decimal (digits_value 10 (drop 1 w))) w
    small n s = record { is = lettered_spelled 112 w l n (omega (arith, s)); is_word = lettered_word 112 w refl l n (omega (arith, s)) }

-- each word is what its class says
pub classed : (w : List ℕ) → IsClassed w (class w)
classed w =
    cond_both (is_numeral w) (number_class (digits_value 10 w)) _ (IsClassed w) (number_classed w)
    (λ a. cond_both (is_lettered 114 w) (lettered_class register_class (drop 1 w)) _ (IsClassed w) (register_classed w)
    (λ b. cond_both (is_lettered 112 w) (lettered_class promise_class (drop 1 w)) _ (IsClassed w) (promise_classed w)
    (λ c. cond_both (is_name w) class_is.Name class_is.Other (IsClassed w) (name_word w) (λ d. tt))))
