-- Words of a name's shape are ASCII.
use Rattle.std.proofs.Common.{◌≡◌, ℕ, zero, suc, ◌<◌, ◌^◌, true, nat_lt, List, [], ◌∷◌, drop, IsAscii, inl, inr, arith}
use Rattle.std.specs.Str.Parse.{digits_value}
use Rattle.std.proofs.lemmas.Bool.{cases_Bool, and_parts, or_cases, leb-true, eqb-true}
use Rattle.script_tree.specs.declared.class.Class.TheVariants as class_is
use Rattle.script_tree.specs.Words.{class, is_name, is_name_byte, all_name_bytes, is_numeral, is_lettered, number_class, register_class, promise_class, lettered_class}

name_byte_ascii : (b : ℕ) → is_name_byte b ≡ true → b < 128
name_byte_ascii b h = grind (arith, or_cases, and_parts, leb-true, eqb-true)

name_bytes_ascii : (bs : List ℕ) → all_name_bytes bs ≡ true → IsAscii bs
name_bytes_ascii [] h i = omega arith
name_bytes_ascii (b ∷ bs) h zero = name_byte_ascii b (and_parts (is_name_byte b) (all_name_bytes bs) h).0
name_bytes_ascii (b ∷ bs) h (suc i) = name_bytes_ascii bs (and_parts (is_name_byte b) (all_name_bytes bs) h).1 i

number_no_name : (n : ℕ) → number_class n ≡ class_is.Name → ⊥
number_no_name n h = elim (cases_Bool (nat_lt n (2 ^ 32))) [ inl e ↦ let k = rw e at h in cc | inr e ↦ let k = rw e at h in cc ]

register_no_name : (ds : List ℕ) → lettered_class register_class ds ≡ class_is.Name → ⊥
register_no_name ds h =
    elim (cases_Bool (is_numeral ds)) [
      | inl e ↦ elim (cases_Bool (nat_lt (digits_value 10 ds) 16)) [ inl f ↦ let k = rw (e, f) at h in cc | inr f ↦ let k = rw (e, f) at h in cc ]
      | inr e ↦ let k = rw e at h in cc
    ]

promise_no_name : (ds : List ℕ) → lettered_class promise_class ds ≡ class_is.Name → ⊥
promise_no_name ds h =
    elim (cases_Bool (is_numeral ds)) [
      | inl e ↦ elim (cases_Bool (nat_lt (digits_value 10 ds) 8)) [ inl f ↦ let k = rw (e, f) at h in cc | inr f ↦ let k = rw (e, f) at h in cc ]
      | inr e ↦ let k = rw e at h in cc
    ]

-- a word of this class has a name's bytes
pub class_name : (w : List ℕ) → class w ≡ class_is.Name → is_name w ≡ true
class_name w h =
    elim (cases_Bool (is_numeral w)) [
      | inl e ↦ absurd (number_no_name (digits_value 10 w) (rw e at h))
      | inr e ↦ let h1 = rw e at h in elim (cases_Bool (is_lettered 114 w)) [
        | inl f ↦ absurd (register_no_name (drop 1 w) (rw f at h1))
        | inr f ↦ let h2 = rw f at h1 in elim (cases_Bool (is_lettered 112 w)) [
          | inl g ↦ absurd (promise_no_name (drop 1 w) (rw g at h2))
          | inr g ↦ let h3 = rw g at h2 in elim (cases_Bool (is_name w)) [ inl n ↦ n | inr n ↦ let h4 = rw n at h3 in absurd (cc) ]
        ]
      ]
    ]

pub name_ascii : (w : List ℕ) → class w ≡ class_is.Name → IsAscii w
name_ascii w h = name_bytes_ascii w (and_parts _ _ (and_parts _ _ (class_name w h)).1).1

pub main_ascii : IsAscii (109 ∷ (97 ∷ (105 ∷ (110 ∷ []))))
main_ascii zero = omega arith
main_ascii (suc zero) = omega arith
main_ascii (suc (suc zero)) = omega arith
main_ascii (suc (suc (suc zero))) = omega arith
main_ascii (suc (suc (suc (suc i)))) = omega arith
