-- What a word of a script is, by its bytes alone: a number, a register, a promise register, a name.
use Rattle.std.specs.Prelude.{ℕ, ◌^◌, Bool, true, not, ◌||◌, ◌&&◌, ◌==◌, nat_lt, nat_le, List, [], ◌∷◌, length, drop, slice_index, if◌then◌else◌}
use Rattle.std.specs.Char.{is_ascii_digit, is_ascii_lowercase}
use Rattle.std.specs.Str.{all_ascii_digits}
use Rattle.std.specs.Str.Parse.{digits_value}
use Rattle.script_tree.specs.declared.class.Class.{Class}
use Rattle.script_tree.specs.declared.class.Class.TheVariants.{Number, LargeNumber, Register, LargeRegister, Promise, LargePromise, Name, Other}

-- `0`, or digits of which the first isn't 0
abbrev pub is_numeral : List ℕ → Bool
is_numeral ds = all_ascii_digits ds && (not (length ds == 0) && not (nat_lt 1 (length ds) && (slice_index ds 0 == 48)))

-- a letter with digits behind it
abbrev pub is_lettered : ℕ → List ℕ → Bool
is_lettered letter word = (slice_index word 0 == letter) && (nat_lt 1 (length word) && all_ascii_digits (drop 1 word))

-- a byte of a name: a lower-case letter, a digit or `_`
abbrev pub is_name_byte : ℕ → Bool
is_name_byte b = is_ascii_lowercase b || (is_ascii_digit b || (b == 95))

abbrev pub all_name_bytes : List ℕ → Bool
all_name_bytes [] = true
all_name_bytes (b ∷ bs) = is_name_byte b && all_name_bytes bs

-- a lower-case letter with at most 23 name bytes behind it
abbrev pub is_name : List ℕ → Bool
is_name word = is_ascii_lowercase (slice_index word 0) && (nat_le (length word) 24 && all_name_bytes word)

-- numbers end at 4294967295, registers at 15, promise registers at 7
abbrev pub number_class : ℕ → Class
number_class n = if nat_lt n (2 ^ 32) then Number n else LargeNumber

abbrev pub register_class : ℕ → Class
register_class n = if nat_lt n 16 then Register n else LargeRegister

abbrev pub promise_class : ℕ → Class
promise_class n = if nat_lt n 8 then Promise n else LargePromise

-- the class of digits behind `r` or `p`: with a leading zero they make neither register nor name
abbrev pub lettered_class : (ℕ → Class) → List ℕ → Class
lettered_class class_of digits = if is_numeral digits then class_of (digits_value 10 digits) else Other

-- the class of a word
abbrev pub class : List ℕ → Class
class word =
    if is_numeral word then number_class (digits_value 10 word)
    else (if is_lettered 114 word then lettered_class register_class (drop 1 word)
    else (if is_lettered 112 word then lettered_class promise_class (drop 1 word)
    else (if is_name word then Name else Other)))
