-- What may stand at a place of a line form, what was read there, and the first wrong word.
use Rattle.std.specs.Prelude.{ℕ, Bool, ◌||◌, ◌==◌, nat_lt, Option, Some, None, Result, Ok, Err, List, [], ◌∷◌, codes, bytes_eq, if◌then◌else◌}
use Rattle.script_tree.specs.declared.cause.Cause.{Cause}
use Rattle.script_tree.specs.declared.cause.Cause.TheVariants as cause
use Rattle.script_tree.specs.declared.class.Class.{Class}
use Rattle.script_tree.specs.declared.class.Class.TheVariants as class_is
use Rattle.script_tree.specs.declared.program.Operand.{Operand}
use Rattle.script_tree.specs.declared.program.Operand.TheVariants as operand
use Rattle.script_tree.specs.declared.program.CompRef.{CompRef}
use Rattle.script_tree.specs.declared.program.CompRef.TheVariants as comp
use Rattle.script_tree.specs.declared.program.Test.{Test}
use Rattle.script_tree.specs.declared.program.Test.TheVariants as test
use Rattle.script_tree.specs.declared.thing.Sort.{Sort}
use Rattle.script_tree.specs.declared.thing.Thing.{Thing}
use Rattle.script_tree.specs.declared.thing.Thing.TheVariants as thing
use Rattle.script_tree.specs.Names.{Named, thing_of, sort_number}
use Rattle.script_tree.specs.Words.{class}

-- what a line form wants at one of its places: a register, a register or number, a number, a key,
-- a promise register, a computation, a comparison, a name that isn't taken, an ivar or stream, or
-- the name of a thing of one sort
pub data Shape : Type 0 where
  a_register : Shape
  a_value : Shape
  a_number : Shape
  a_key : Shape
  a_promise : Shape
  a_comp : Shape
  a_test : Shape
  a_new_name : Shape
  a_fillable : Shape
  a_place : Sort → Shape

-- what was read there: a number, which may be that of a register or a place, or one of the others
pub data Part : Type 0 where
  number_part : ℕ → Part
  operand_part : Operand → Part
  comp_part : CompRef → Part
  test_part : Test → Part
  name_part : List ℕ → Part

-- a name where a computation is wanted
abbrev pub comp_named : Option Thing → Result Part Cause
comp_named None = Err cause.Unknown
comp_named (Some thing.Root) = Ok (comp_part comp.Root)
comp_named (Some thing.Main) = Err cause.OtherKind
comp_named (Some (thing.Named t place)) = if sort_number t == 1 then Ok (comp_part (comp.Named place)) else Err cause.OtherKind

-- a name where a thing of a sort is wanted, the sort given by a test on its number
abbrev pub place_named : (ℕ → Bool) → Option Thing → Result Part Cause
place_named fits None = Err cause.Unknown
place_named fits (Some thing.Root) = Err cause.OtherKind
place_named fits (Some thing.Main) = Err cause.OtherKind
place_named fits (Some (thing.Named t place)) = if fits (sort_number t) then Ok (number_part place) else Err cause.OtherKind

-- a name where a new one is wanted
abbrev pub new_name : List ℕ → Option Thing → Result Part Cause
new_name word None = Ok (name_part word)
new_name word (Some t) = Err cause.Taken

-- a key is a number up to 15
abbrev pub key : ℕ → Result Part Cause
key n = if nat_lt n 16 then Ok (number_part n) else Err cause.LargeRegister

-- a comparison
abbrev pub test_read : List ℕ → Result Part Cause
test_read word =
    if bytes_eq word (codes "eq") then Ok (test_part test.Eq)
    else (if bytes_eq word (codes "ne") then Ok (test_part test.Ne)
    else (if bytes_eq word (codes "lt") then Ok (test_part test.Lt)
    else (if bytes_eq word (codes "le") then Ok (test_part test.Le)
    else (if bytes_eq word (codes "gt") then Ok (test_part test.Gt)
    else (if bytes_eq word (codes "ge") then Ok (test_part test.Ge)
    else Err cause.Word)))))

-- a word of a class where a shape is wanted, under the names known there
abbrev pub class_read : List Named → Shape → List ℕ → Class → Result Part Cause
class_read names a_register word (class_is.Register r) = Ok (number_part r)
class_read names a_register word class_is.LargeRegister = Err cause.LargeRegister
class_read names a_register word _ = Err cause.Word
class_read names a_value word (class_is.Register r) = Ok (operand_part (operand.Reg r))
class_read names a_value word class_is.LargeRegister = Err cause.LargeRegister
class_read names a_value word (class_is.Number n) = Ok (operand_part (operand.Num n))
class_read names a_value word class_is.LargeNumber = Err cause.LargeNumber
class_read names a_value word _ = Err cause.Word
class_read names a_number word (class_is.Number n) = Ok (number_part n)
class_read names a_number word class_is.LargeNumber = Err cause.LargeNumber
class_read names a_number word _ = Err cause.Word
class_read names a_key word (class_is.Number n) = key n
class_read names a_key word class_is.LargeNumber = Err cause.LargeNumber
class_read names a_key word _ = Err cause.Word
class_read names a_promise word (class_is.Promise p) = Ok (number_part p)
class_read names a_promise word class_is.LargePromise = Err cause.LargeRegister
class_read names a_promise word _ = Err cause.Word
class_read names a_comp word (class_is.Promise p) = Ok (comp_part (comp.Promise p))
class_read names a_comp word class_is.LargePromise = Err cause.LargeRegister
class_read names a_comp word class_is.Name = comp_named (thing_of names word)
class_read names a_comp word _ = Err cause.Word
class_read names a_test word _ = test_read word
class_read names a_new_name word class_is.Name = new_name word (thing_of names word)
class_read names a_new_name word _ = Err cause.Word
class_read names a_fillable word class_is.Name = place_named (λ s. (s == 6) || (s == 7)) (thing_of names word)
class_read names a_fillable word _ = Err cause.Word
class_read names (a_place s) word class_is.Name = place_named (λ t. t == sort_number s) (thing_of names word)
class_read names (a_place s) word _ = Err cause.Word

-- a word where a shape is wanted
abbrev pub word_read : List Named → Shape → List ℕ → Result Part Cause
word_read names shape word = class_read names shape word (class word)

-- one word's part before the others: the first wrong word from the left decides
abbrev pub then_read : Result Part Cause → Result (List Part) Cause → Result (List Part) Cause
then_read (Err c) rest = Err c
then_read (Ok part) (Err c) = Err c
then_read (Ok part) (Ok parts) = Ok (part ∷ parts)

-- the words of a line behind its keyword; one too many and one too few are wrong words
abbrev pub words_read : List Named → List Shape → List (List ℕ) → Result (List Part) Cause
words_read names [] [] = Ok []
words_read names [] (w ∷ ws) = Err cause.Word
words_read names (s ∷ ss) [] = Err cause.Word
words_read names (s ∷ ss) (w ∷ ws) = then_read (word_read names s w) (words_read names ss ws)

-- a result whose value is seen by a function
abbrev pub told : {A B : Type 0} → (A → B) → Result A Cause → Result B Cause
told f (Ok x) = Ok (f x)
told f (Err c) = Err c
