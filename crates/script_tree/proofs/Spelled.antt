-- What a word was read as is spelled as that word again.
use Rattle.std.proofs.Common.{◌≡◌, ℕ, ◌==◌, ◌||◌, Bool, true, false, cond, nat_lt, nat_le, ◌&&◌, Option, Some, None, Result, Ok, Err, List, [], ◌∷◌, length, slice_get, bytes_eq, suc, refl, sym, ap, ap₂, subst, ◌∙◌, inl, inr}
use Rattle.std.specs.List.{AllByRecursion}
use Rattle.std.specs.Fmt.{decimal}
use Rattle.std.proofs.lemmas.Bool.{cases_Bool, and_parts, ltb-true, leb-true, eqb-true}
use Rattle.std.proofs.lemmas.Slice.Eq.{bytes_eq-Decides}
use Rattle.script_tree.specs.declared.cause.Cause.{Cause}
use Rattle.script_tree.specs.declared.cause.Cause.TheVariants as cause
use Rattle.script_tree.specs.declared.class.Class.{Class}
use Rattle.script_tree.specs.declared.class.Class.TheVariants as class_is
use Rattle.script_tree.specs.declared.program.Test.{Test}
use Rattle.script_tree.specs.declared.program.Test.TheVariants as test
use Rattle.script_tree.specs.declared.thing.Sort.{Sort}
use Rattle.script_tree.specs.declared.thing.Sort.TheVariants as sort
use Rattle.script_tree.specs.declared.thing.Thing.{Thing}
use Rattle.script_tree.specs.declared.thing.Thing.TheVariants as thing
use Rattle.script_tree.specs.Names.{Named, thing_of, sort_number}
use Rattle.script_tree.specs.Parts.{Part, number_part, test_part, Shape, a_register, a_value, a_number, a_key, a_promise, a_comp, a_test, a_new_name, a_fillable, a_place, comp_named, place_named, new_name, test_read, class_read, word_read, words_read, then_read}
use Rattle.script_tree.specs.Spelling.{part_word, part_words, test_word, decl_name, number_word}
use Rattle.script_tree.specs.Tree.{Tree}
use Rattle.script_tree.specs.Words.{class, all_name_bytes}
use Rattle.script_tree.proofs.Classed.{IsClassed, classed}
use Rattle.script_tree.proofs.Paths.{Agrees, AgreesOn, DeclaredAt, IsWord}
use Rattle.script_tree.proofs.Remade.{as_wanted, AreWanted, no_parts, one_more}

pub bytes_same : (xs ys : List ℕ) → bytes_eq xs ys ≡ true → xs ≡ ys
bytes_same xs ys h = (bytes_eq-Decides xs ys).0 h

-- a test for words
abbrev pub word_test : List ℕ → Bool
word_test w = nat_lt 0 (length w) && (nat_le (length w) 24 && all_name_bytes w)

pub tested : (w : List ℕ) → word_test w ≡ true → IsWord w
tested w h =
    let p = and_parts (nat_lt 0 (length w)) _ h in
    let q = and_parts (nat_le (length w) 24) (all_name_bytes w) p.1 in
    record { some = ltb-true 0 (length w) p.0; short = leb-true (length w) 24 q.0; bytes = q.1 }

-- the part is of the kind that the shape wants, and it is spelled as the word
pub record Spelled (tree : Tree) (shape : Shape) (word : List ℕ) (part : Part) : Type 0 where
  pub wanted : as_wanted shape part ≡ part
  pub spelled : part_word tree shape part ≡ word
  pub is_word : IsWord word

-- a part is such if it is one that is
such : {tree : Tree} {shape : Shape} {word : List ℕ} {read part : Part} → read ≡ part → as_wanted shape read ≡ read → part_word tree shape read ≡ word → IsWord word
    → Spelled tree shape word part
such {tree} {shape} {word} h w s is = subst (λ p. Spelled tree shape word p) h (record { wanted = w; spelled = s; is_word = is })

-- a result that is this part
abbrev pub Reads : Result Part Cause → Part → Type 0
Reads (Ok x) part = x ≡ part
Reads (Err c) part = ⊥

reads : (r : Result Part Cause) (part : Part) → r ≡ Ok part → Reads r part
reads (Ok x) part h = cc
reads (Err c) part h = absurd (cc)

-- what a word stands for agrees with it
found : (tree : Tree) (names : List Named) (word : List ℕ) (t : Thing) → AllByRecursion (Agrees tree) names → thing_of names word ≡ Some t → AgreesOn tree word t
found tree [] word t a h = absurd (cc)
found tree (n ∷ ns) word t a h =
    elim (cases_Bool (bytes_eq word n.bytes)) [
      | inl e ↦ here (bytes_same word n.bytes e) (rw e at h)
      | inr e ↦ found tree ns word t a.1 (rw e at h)
    ]
  where
    here : word ≡ n.bytes → Some n.thing ≡ Some t → AgreesOn tree word t
    here w i = let same : n.thing ≡ t = cc in rw w (subst (λ x. AgreesOn tree n.bytes x) same a.0)

declared_word : {tree : Tree} {place : ℕ} {word : List ℕ} {s : Sort} → DeclaredAt tree place word s → decl_name (slice_get tree.decls place) ≡ word
declared_word d = ap decl_name d.at ∙ d.name_is

comp_spelled : (tree : Tree) (word : List ℕ) → IsWord word → (o : Option Thing) → ((t : Thing) → o ≡ Some t → AgreesOn tree word t)
    → (part : Part) → Reads (comp_named o) part → Spelled tree a_comp word part
comp_spelled tree word w (Some thing.Root) a part h = such h refl (sym (a thing.Root refl)) w
comp_spelled tree word w (Some (thing.Named sort.Comp place)) a part h = such h refl (declared_word (a (thing.Named sort.Comp place) refl)) w
comp_spelled tree word w _ a part h = absurd h

-- the sort with a number
sort_at : ℕ → Sort
sort_at n =
    cond (n == 0) sort.Trigger (cond (n == 1) sort.Comp (cond (n == 2) sort.Mutex (cond (n == 3) sort.Cond
    (cond (n == 4) sort.Sem (cond (n == 5) sort.Latch (cond (n == 6) sort.Ivar (cond (n == 7) sort.Stream sort.Text)))))))

sort_back : (s : Sort) → sort_at (sort_number s) ≡ s
unfolding sort_at
sort_back sort.Trigger = refl
sort_back _ = refl

pub sorts_same : (s t : Sort) → sort_number s ≡ sort_number t → s ≡ t
sorts_same s t h = sym (sort_back s) ∙ (ap sort_at h ∙ sort_back t)

place_word : (tree : Tree) (word : List ℕ) (s : Sort) (place : ℕ) → AgreesOn tree word (thing.Named s place) → number_word tree (a_place s) place ≡ word
place_word tree word sort.Text place a = a
place_word tree word _ place a = declared_word a

place_kept : (tree : Tree) (word : List ℕ) → IsWord word → (s t : Sort) (place : ℕ) → AgreesOn tree word (thing.Named t place) → (b : Bool) → (sort_number t == sort_number s) ≡ b
    → (part : Part) → Reads (cond b (Ok (number_part place)) (Err cause.OtherKind)) part → Spelled tree (a_place s) word part
place_kept tree word w s t place a true e part h =
    let same : t ≡ s = sorts_same t s (eqb-true _ _ e) in
    let there : AgreesOn tree word (thing.Named s place) = subst (λ u. AgreesOn tree word (thing.Named u place)) same a in
    such {shape = a_place s} h refl (place_word tree word s place there) w
place_kept tree word w s t place a false e part h = absurd h

place_spelled : (tree : Tree) (word : List ℕ) → IsWord word → (s : Sort) (o : Option Thing) → ((t : Thing) → o ≡ Some t → AgreesOn tree word t)
    → (part : Part) → Reads (place_named (λ t. t == sort_number s) o) part → Spelled tree (a_place s) word part
place_spelled tree word w s (Some (thing.Named t place)) a part h = place_kept tree word w s t place (a (thing.Named t place) refl) (sort_number t == sort_number s) refl part h
place_spelled tree word w s _ a part h = absurd h

fillable_spelled : (tree : Tree) (word : List ℕ) → IsWord word → (o : Option Thing) → ((t : Thing) → o ≡ Some t → AgreesOn tree word t)
    → (part : Part) → Reads (place_named (λ s. (s == 6) || (s == 7)) o) part → Spelled tree a_fillable word part
fillable_spelled tree word w (Some (thing.Named sort.Ivar place)) a part h = such h refl (declared_word (a (thing.Named sort.Ivar place) refl)) w
fillable_spelled tree word w (Some (thing.Named sort.Stream place)) a part h = such h refl (declared_word (a (thing.Named sort.Stream place) refl)) w
fillable_spelled tree word w _ a part h = absurd h

new_spelled : (tree : Tree) (word : List ℕ) → IsWord word → (o : Option Thing) (part : Part) → Reads (new_name word o) part → Spelled tree a_new_name word part
new_spelled tree word w None part h = such h refl refl w
new_spelled tree word w (Some t) part h = absurd h

key_spelled : (tree : Tree) (word : List ℕ) → IsWord word → (n : ℕ) → decimal n ≡ word → (b : Bool) (part : Part)
    → Reads (cond b (Ok (number_part n)) (Err cause.LargeRegister)) part → Spelled tree a_key word part
key_spelled tree word w n e true part h = such h refl e w
key_spelled tree word w n e false part h = absurd h

-- a comparison's word
test_of : (tree : Tree) (word : List ℕ) (t : Test) (rest : Result Part Cause) → IsWord (test_word t) → ((part : Part) → Reads rest part → Spelled tree a_test word part)
    → (b : Bool) → bytes_eq word (test_word t) ≡ b → (part : Part) → Reads (cond b (Ok (test_part t)) rest) part → Spelled tree a_test word part
test_of tree word t rest w others true e part h =
    let same : test_word t ≡ word = sym (bytes_same word (test_word t) e) in
    such h refl same (subst (λ x. IsWord x) same w)
test_of tree word t rest w others false e part h = others part h

test_spelled : (tree : Tree) (word : List ℕ) (part : Part) → Reads (test_read word) part → Spelled tree a_test word part
test_spelled tree word =
    test_of tree word test.Eq _ (tested _ refl)
    (test_of tree word test.Ne _ (tested _ refl)
    (test_of tree word test.Lt _ (tested _ refl)
    (test_of tree word test.Le _ (tested _ refl)
    (test_of tree word test.Gt _ (tested _ refl)
    (test_of tree word test.Ge _ (tested _ refl) (λ part h. absurd h) _ refl) _ refl) _ refl) _ refl) _ refl) _ refl

class_spelled : (tree : Tree) (word : List ℕ) (names : List Named) → AllByRecursion (Agrees tree) names → (shape : Shape) (c : Class) → IsClassed word c → (part : Part)
    → Reads (class_read names shape word c) part → Spelled tree shape word part
class_spelled tree word names a a_register (class_is.Register r) k part h = such h refl k.is k.is_word
class_spelled tree word names a a_value (class_is.Register r) k part h = such h refl k.is k.is_word
class_spelled tree word names a a_value (class_is.Number n) k part h = such h refl k.is k.is_word
class_spelled tree word names a a_number (class_is.Number n) k part h = such h refl k.is k.is_word
class_spelled tree word names a a_key (class_is.Number n) k part h = key_spelled tree word k.is_word n k.is (nat_lt n 16) part h
class_spelled tree word names a a_promise (class_is.Promise p) k part h = such h refl k.is k.is_word
class_spelled tree word names a a_comp (class_is.Promise p) k part h = such h refl k.is k.is_word
class_spelled tree word names a a_comp class_is.Name k part h = comp_spelled tree word k (thing_of names word) (λ t. found tree names word t a) part h
class_spelled tree word names a a_test c k part h = test_spelled tree word part h
class_spelled tree word names a a_new_name class_is.Name k part h = new_spelled tree word k (thing_of names word) part h
class_spelled tree word names a a_fillable class_is.Name k part h = fillable_spelled tree word k (thing_of names word) (λ t. found tree names word t a) part h
class_spelled tree word names a (a_place s) class_is.Name k part h = place_spelled tree word k s (thing_of names word) (λ t. found tree names word t a) part h
class_spelled tree word names a _ _ k part h = absurd h

-- what a word was read as is spelled as that word
pub word_spelled : (tree : Tree) (names : List Named) → AllByRecursion (Agrees tree) names → (shape : Shape) (word : List ℕ) (part : Part)
    → word_read names shape word ≡ Ok part → Spelled tree shape word part
word_spelled tree names a shape word part h = class_spelled tree word names a shape (class word) (classed word) part (reads (word_read names shape word) part h)

-- what the words behind a keyword were read as is spelled as those words
pub record AreSpelled (tree : Tree) (shapes : List Shape) (words : List (List ℕ)) (parts : List Part) : Type 0 where
  pub wanted : AreWanted shapes parts
  pub spelled : part_words tree shapes parts ≡ words
  pub each : AllByRecursion IsWord words
  pub count : length words ≡ length shapes

-- two results of which the one puts its part before the parts of the other
record Both (first : Result Part Cause) (others : Result (List Part) Cause) (parts : List Part) : Type 0 where
  head : Part
  tail : List Part
  first_is : first ≡ Ok head
  others_are : others ≡ Ok tail
  are : head ∷ tail ≡ parts

both : (first : Result Part Cause) (others : Result (List Part) Cause) (parts : List Part) → then_read first others ≡ Ok parts → Both first others parts
both (Ok p) (Ok ps) parts h = record { head = p; tail = ps; first_is = refl; others_are = refl; are = cc }
both (Ok p) (Err c) parts h = absurd (cc)
both (Err c) others parts h = absurd (cc)

pub words_spelled : (tree : Tree) (names : List Named) → AllByRecursion (Agrees tree) names → (shapes : List Shape) (words : List (List ℕ)) (parts : List Part)
    → words_read names shapes words ≡ Ok parts → AreSpelled tree shapes words parts
words_spelled tree names a [] [] parts h =
    let e : [] ≡ parts = cc in
    subst (λ ps. AreSpelled tree [] [] ps) e (record { wanted = no_parts; spelled = refl; each = tt; count = refl })
words_spelled tree names a [] (w ∷ ws) parts h = absurd (cc)
words_spelled tree names a (s ∷ ss) [] parts h = absurd (cc)
words_spelled tree names a (s ∷ ss) (w ∷ ws) parts h =
    let b = both (word_read names s w) (words_read names ss ws) parts h in
    let here = word_spelled tree names a s w b.head b.first_is in
    let below = words_spelled tree names a ss ws b.tail b.others_are in
    subst (λ ps. AreSpelled tree (s ∷ ss) (w ∷ ws) ps) b.are (record {
      wanted = one_more here.wanted below.wanted;
      spelled = ap₂ (λ (x : List ℕ) (xs : List (List ℕ)). x ∷ xs) here.spelled below.spelled;
      each = (here.is_word, below.each);
      count = ap suc below.count;
    })
