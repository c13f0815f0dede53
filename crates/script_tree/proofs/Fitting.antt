-- What is read where a shape is wanted fits the shape, in each tree in which the names stand for what they should.
use Rattle.std.proofs.Common.{◌≡◌, ℕ, ◌^◌, ◌<◌, Bool, true, false, cond, ◌||◌, ◌==◌, IsTrue, Option, Some, None, Result, Ok, Err, List, [], ◌∷◌, drop, slice_get, nat_lt, refl, subst}
use Rattle.std.proofs.lemmas.Bool.{false≢true, ltb-true, eqb-true}
use Rattle.std.specs.List.{AllByRecursion}
use Rattle.std.specs.Str.{bytes_eq}
use Rattle.std.specs.Str.Parse.{digits_value}
use Rattle.script_tree.specs.declared.cause.Cause.{Cause}
use Rattle.script_tree.specs.declared.cause.Cause.TheVariants as cause
use Rattle.script_tree.specs.declared.class.Class.{Class}
use Rattle.script_tree.specs.declared.class.Class.TheVariants as class_is
use Rattle.script_tree.specs.declared.program.CompRef.TheVariants as comp
use Rattle.script_tree.specs.declared.program.Decl.{Decl}
use Rattle.script_tree.specs.declared.program.Operand.TheVariants as operand
use Rattle.script_tree.specs.declared.program.Test.{Test}
use Rattle.script_tree.specs.declared.program.Test.TheVariants as test
use Rattle.script_tree.specs.declared.thing.Sort.{Sort}
use Rattle.script_tree.specs.declared.thing.Sort.TheVariants as sort
use Rattle.script_tree.specs.declared.thing.Thing.{Thing}
use Rattle.script_tree.specs.declared.thing.Thing.TheVariants as thing
use Rattle.script_tree.specs.Names.{Named, thing_of, sort_of, sort_number}
use Rattle.script_tree.specs.Parts.{Part, number_part, operand_part, comp_part, test_part, name_part, Shape, a_register, a_value, a_number, a_key, a_promise, a_comp, a_test, a_new_name, a_fillable, a_place, comp_named, place_named, new_name, test_read, class_read, word_read}
use Rattle.script_tree.specs.Tree.{Tree}
use Rattle.script_tree.specs.WellFormed.{IsOfSort, IsFiberText, PartFits}
use Rattle.script_tree.proofs.Spelled.{sorts_same}
use Rattle.script_tree.specs.Words.{class, is_numeral, is_lettered, is_name, register_class, promise_class, lettered_class}

-- ---- names

-- the thing is in the tree
abbrev pub PlaceFits : Tree → Sort → ℕ → Type 0
PlaceFits tree sort.Text place = IsFiberText tree place
PlaceFits tree s place = IsOfSort (λ t. t == sort_number s) (slice_get tree.decls place)

abbrev pub ThingFits : Tree → Thing → Type 0
ThingFits tree thing.Root = Unit {0}
ThingFits tree thing.Main = Unit {0}
ThingFits tree (thing.Named s place) = PlaceFits tree s place

-- all names stand for things that are in the tree
abbrev pub NamesFit : Tree → List Named → Type 0
NamesFit tree names = AllByRecursion (λ (n : Named). ThingFits tree n.thing) names

abbrev FoundFits : Tree → Option Thing → Type 0
FoundFits tree None = Unit {0}
FoundFits tree (Some t) = ThingFits tree t

found_first : (tree : Tree) (t : Thing) (o : Option Thing) (b : Bool) → ThingFits tree t → FoundFits tree o → FoundFits tree (cond b (Some t) o)
found_first tree t o true x y = x
found_first tree t o false x y = y

found_fits : (tree : Tree) (names : List Named) (word : List ℕ) → NamesFit tree names → FoundFits tree (thing_of names word)
found_fits tree [] word n = tt
found_fits tree (m ∷ ms) word n = found_first tree m.thing (thing_of ms word) (bytes_eq word m.bytes) n.0 (found_fits tree ms word n.1)

-- ---- classes of words

abbrev ClassFits : List ℕ → Class → Type 0
ClassFits word (class_is.Number n) = n < 2 ^ 32
ClassFits word (class_is.Register r) = r < 16
ClassFits word (class_is.Promise p) = p < 8
ClassFits word _ = Unit {0}

number_fits : (word : List ℕ) (n : ℕ) (b : Bool) → nat_lt n (2 ^ 32) ≡ b → ClassFits word (cond b (class_is.Number n) class_is.LargeNumber)
number_fits word n true e = ltb-true n (2 ^ 32) e
number_fits word n false e = tt

register_fits : (word : List ℕ) (n : ℕ) (b : Bool) → nat_lt n 16 ≡ b → ClassFits word (cond b (class_is.Register n) class_is.LargeRegister)
register_fits word n true e = ltb-true n 16 e
register_fits word n false e = tt

promise_fits : (word : List ℕ) (n : ℕ) (b : Bool) → nat_lt n 8 ≡ b → ClassFits word (cond b (class_is.Promise n) class_is.LargePromise)
promise_fits word n true e = ltb-true n 8 e
promise_fits word n false e = tt

either_fits : (word : List ℕ) (b : Bool) (c d : Class) → ClassFits word c → ClassFits word d → ClassFits word (cond b c d)
either_fits word true c d x y = x
either_fits word false c d x y = y

lettered_fits : (word : List ℕ) (of : ℕ → Class) (digits : List ℕ) → ClassFits word (of (digits_value 10 digits)) → ClassFits word (lettered_class of digits)
lettered_fits word of digits h = either_fits word (is_numeral digits) (of (digits_value 10 digits)) class_is.Other h tt

class_fits : (word : List ℕ) → ClassFits word (class word)
class_fits word =
    either_fits word (is_numeral word) _ _ (number_fits word _ _ refl)
    (either_fits word (is_lettered 114 word) _ _ (lettered_fits word register_class (drop 1 word) (register_fits word (digits_value 10 (drop 1 word)) _ refl))
    (either_fits word (is_lettered 112 word) _ _ (lettered_fits word promise_class (drop 1 word) (promise_fits word (digits_value 10 (drop 1 word)) _ refl))
    (either_fits word (is_name word) class_is.Name class_is.Other tt tt)))

-- ---- parts

abbrev read_part : Part → Result Part Cause
read_part p = Ok p

part_is : (tree : Tree) (shape : Shape) (p q : Part) → PartFits tree shape p → read_part p ≡ Ok q → PartFits tree shape q
part_is tree shape p q x e = let h : p ≡ q = cc in subst (λ r. PartFits tree shape r) h x

-- ---- what a name stands for

place_fits : (tree : Tree) (s : Sort) (place : ℕ) → PlaceFits tree s place → PartFits tree (a_place s) (number_part place)
place_fits tree sort.Text place h = h
place_fits tree _ place h = h

of_this_sort : (tree : Tree) (s t : Sort) (place : ℕ) → (sort_number t == sort_number s) ≡ true → PlaceFits tree t place
    → PartFits tree (a_place s) (number_part place)
of_this_sort tree s t place e h =
    place_fits tree s place (subst (λ r. PlaceFits tree r place) (sorts_same t s (eqb-true (sort_number t) (sort_number s) e)) h)

true_left : (a b : Bool) → IsTrue a → IsTrue (a || b)
true_left true b h = refl
true_left false b h = absurd (false≢true h)

true_right : (a b : Bool) → IsTrue b → IsTrue (a || b)
true_right true b h = refl
true_right false b h = h

ivar_fills : (o : Option Decl) → IsOfSort (λ s. s == 6) o → IsOfSort (λ s. (s == 6) || (s == 7)) o
ivar_fills None h = h
ivar_fills (Some d) h = true_left (sort_number (sort_of d.kind) == 6) _ h

stream_fills : (o : Option Decl) → IsOfSort (λ s. s == 7) o → IsOfSort (λ s. (s == 6) || (s == 7)) o
stream_fills None h = h
stream_fills (Some d) h = true_right (sort_number (sort_of d.kind) == 6) _ h

fillable : (tree : Tree) (t : Sort) (place : ℕ) → ((sort_number t == 6) || (sort_number t == 7)) ≡ true → PlaceFits tree t place
    → PartFits tree a_fillable (number_part place)
fillable tree sort.Ivar place e h = ivar_fills (slice_get tree.decls place) h
fillable tree sort.Stream place e h = stream_fills (slice_get tree.decls place) h
fillable tree _ place e h = absurd (false≢true e)

-- a name of one of the sorts that are wanted
sort_named : (tree : Tree) (shape : Shape) (b : Bool) (place : ℕ) (q : Part) → (b ≡ true → PartFits tree shape (number_part place))
    → cond b (read_part (number_part place)) (Err cause.OtherKind) ≡ Ok q → PartFits tree shape q
sort_named tree shape false place q h e = cc
sort_named tree shape true place q h e = part_is tree shape (number_part place) q (h refl) e

place_is : (tree : Tree) (wanted : ℕ → Bool) (shape : Shape) (o : Option Thing) (q : Part)
    → ((t : Sort) (place : ℕ) → wanted (sort_number t) ≡ true → PlaceFits tree t place → PartFits tree shape (number_part place))
    → FoundFits tree o → place_named wanted o ≡ Ok q → PartFits tree shape q
place_is tree wanted shape (Some (thing.Named t place)) q h f e =
    sort_named tree shape (wanted (sort_number t)) place q (λ w. h t place w f) e
place_is tree wanted shape _ q h f e = cc

comp_is : (tree : Tree) (o : Option Thing) (q : Part) → FoundFits tree o → comp_named o ≡ Ok q → PartFits tree a_comp q
comp_is tree (Some thing.Root) q f e = part_is tree a_comp (comp_part comp.Root) q tt e
comp_is tree (Some (thing.Named sort.Comp place)) q f e =
    part_is tree a_comp (comp_part (comp.Named place)) q f e
comp_is tree _ q f e = cc

name_is : (tree : Tree) (word : List ℕ) (o : Option Thing) (q : Part) → class word ≡ class_is.Name → new_name word o ≡ Ok q → PartFits tree a_new_name q
name_is tree word (Some t) q n e = cc
name_is tree word None q n e =
    part_is tree a_new_name (name_part word) q n e

key_is : (tree : Tree) (n : ℕ) (q : Part) (b : Bool) → nat_lt n 16 ≡ b → cond b (Ok (number_part n)) (Err cause.LargeRegister) ≡ Ok q
    → PartFits tree a_key q
key_is tree n q false l e = cc
key_is tree n q true l e = part_is tree a_key (number_part n) q (ltb-true n 16 l) e

test_is : (tree : Tree) (t : Test) (b : Bool) (other : Result Part Cause) (q : Part) → (other ≡ Ok q → PartFits tree a_test q)
    → cond b (Ok (test_part t)) other ≡ Ok q → PartFits tree a_test q
test_is tree t true other q h e = part_is tree a_test (test_part t) q tt e
test_is tree t false other q h e = h e

abbrev refused_part : Cause → Result Part Cause
refused_part c = Err c

no_part : (tree : Tree) (shape : Shape) (q : Part) (c : Cause) → refused_part c ≡ Ok q → PartFits tree shape q
no_part tree shape q c e = cc

tests_are : (tree : Tree) (word : List ℕ) (q : Part) → test_read word ≡ Ok q → PartFits tree a_test q
tests_are tree word q =
    test_is tree test.Eq _ _ q (test_is tree test.Ne _ _ q (test_is tree test.Lt _ _ q (test_is tree test.Le _ _ q
    (test_is tree test.Gt _ _ q (test_is tree test.Ge _ _ q (no_part tree a_test q cause.Word))))))

-- ---- words

read_is : (tree : Tree) (names : List Named) (shape : Shape) (word : List ℕ) (c : Class) (q : Part) → class word ≡ c → ClassFits word c → NamesFit tree names
    → class_read names shape word c ≡ Ok q → PartFits tree shape q
read_is tree names a_register word (class_is.Register r) q k f n e = part_is tree a_register (number_part r) q f e
read_is tree names a_value word (class_is.Register r) q k f n e = part_is tree a_value (operand_part (operand.Reg r)) q f e
read_is tree names a_value word (class_is.Number m) q k f n e = part_is tree a_value (operand_part (operand.Num m)) q f e
read_is tree names a_number word (class_is.Number m) q k f n e = part_is tree a_number (number_part m) q f e
read_is tree names a_key word (class_is.Number m) q k f n e = key_is tree m q (nat_lt m 16) refl e
read_is tree names a_promise word (class_is.Promise p) q k f n e = part_is tree a_promise (number_part p) q f e
read_is tree names a_comp word (class_is.Promise p) q k f n e = part_is tree a_comp (comp_part (comp.Promise p)) q f e
read_is tree names a_comp word class_is.Name q k f n e = comp_is tree (thing_of names word) q (found_fits tree names word n) e
read_is tree names a_test word c q k f n e = tests_are tree word q e
read_is tree names a_new_name word class_is.Name q k f n e = name_is tree word (thing_of names word) q k e
read_is tree names a_fillable word class_is.Name q k f n e =
    place_is tree (λ s. (s == 6) || (s == 7)) a_fillable (thing_of names word) q (fillable tree) (found_fits tree names word n) e
read_is tree names (a_place s) word class_is.Name q k f n e =
    place_is tree (λ t. t == sort_number s) (a_place s) (thing_of names word) q (of_this_sort tree s) (found_fits tree names word n) e
read_is tree names _ word _ q k f n e = cc

-- the part that a word is read as
pub word_is : (tree : Tree) (names : List Named) (shape : Shape) (word : List ℕ) (q : Part) → NamesFit tree names
    → word_read names shape word ≡ Ok q → PartFits tree shape q
word_is tree names shape word q n e = read_is tree names shape word (class word) q refl (class_fits word) n e
