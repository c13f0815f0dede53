-- The names of a script are apart.
use Rattle.std.proofs.Common.{◌≡◌, ◌≢◌, ℕ, ◌∙◌, Bool, true, false, cond, Option, Some, None, Result, Ok, Err, List, [], ◌∷◌, ◌++◌, map, refl, sym, subst}
use Rattle.std.specs.List.{AllByRecursion}
use Rattle.std.specs.Str.{bytes_eq}
use Rattle.std.proofs.lemmas.Bool.{false≢true}
use Rattle.std.proofs.lemmas.List.{map-append}
use Rattle.std.proofs.lemmas.Slice.Eq.{bytes_eq-Decides}
use Rattle.script_tree.specs.declared.cause.Cause.{Cause}
use Rattle.script_tree.specs.declared.class.Class.{Class}
use Rattle.script_tree.specs.declared.class.Class.TheVariants as class_is
use Rattle.script_tree.specs.declared.form.DeclForm.{DeclForm}
use Rattle.script_tree.specs.declared.form.DeclForm.TheVariants as decl_form
use Rattle.script_tree.specs.declared.thing.Thing.{Thing}
use Rattle.script_tree.specs.Forms.{decl_form_shapes}
use Rattle.script_tree.specs.Lines.{name_in, part_at}
use Rattle.script_tree.specs.Names.{Named, thing_of}
use Rattle.script_tree.specs.Parts.{Part, name_part, Shape, a_new_name, a_number, new_name, class_read, word_read, words_read, then_read}
use Rattle.script_tree.specs.Reading.{State}
use Rattle.script_tree.specs.Words.{class}
use Rattle.script_tree.specs.WellFormed.{AreDistinct}
use Rattle.script_tree.proofs.Lasting.{all_push}
use Rattle.script_tree.proofs.Moves.{Moves, declares, begins_fiber}

-- ---- new names

new_free : (o : Option Thing) (word : List ℕ) (q : Part) → new_name word o ≡ Ok q → (o ≡ None) × (name_part word ≡ q)
new_free (Some t) word q e = cc
new_free None word q e = (refl, cc)

named_free : (names : List Named) (word : List ℕ) (c : Class) (q : Part) → class_read names a_new_name word c ≡ Ok q → thing_of names (name_in q) ≡ None
named_free names word class_is.Name q e =
    let f = new_free (thing_of names word) word q e in subst (λ p. thing_of names (name_in p) ≡ None) f.1 f.0
named_free names word _ q e = cc

first_free : (names : List Named) (x : Result Part Cause) (rest : Result (List Part) Cause) (parts : List Part)
    → ((q : Part) → x ≡ Ok q → thing_of names (name_in q) ≡ None) → then_read x rest ≡ Ok parts → thing_of names (name_in (part_at parts 0)) ≡ None
first_free names (Err c) rest parts f e = cc
first_free names (Ok q) (Err c) parts f e = cc
first_free names (Ok q) (Ok qs) parts f e =
    let h : (q ∷ qs) ≡ parts = cc in subst (λ ps. thing_of names (name_in (part_at ps 0)) ≡ None) h (f q refl)

read_free : (names : List Named) (ss : List Shape) (words : List (List ℕ)) (parts : List Part) → words_read names (a_new_name ∷ ss) words ≡ Ok parts
    → thing_of names (name_in (part_at parts 0)) ≡ None
read_free names ss [] parts e = cc
read_free names ss (w ∷ ws) parts e =
    first_free names (word_read names a_new_name w) (words_read names ss ws) parts (λ q h. named_free names w (class w) q h) e

-- a name that a declaration makes known was not taken
declared_free : (names : List Named) (f : DeclForm) (words : List (List ℕ)) (parts : List Part) → words_read names (decl_form_shapes f) words ≡ Ok parts
    → thing_of names (name_in (part_at parts 0)) ≡ None
declared_free names decl_form.Sem words parts e = read_free names (a_number ∷ []) words parts e
declared_free names decl_form.Latch words parts e = read_free names (a_number ∷ []) words parts e
declared_free names _ words parts e = read_free names [] words parts e

-- ---- distinct names

abbrev pub bytes_of : List Named → List (List ℕ)
bytes_of names = map (λ (n : Named). n.bytes) names

abbrev Differ : List ℕ → List (List ℕ) → Type 0
Differ name others = AllByRecursion (λ other. other ≢ name) others

first_differs : (word name : List ℕ) (t : Thing) (o : Option Thing) (b : Bool) → bytes_eq word name ≡ b → cond b (Some t) o ≡ None → (name ≢ word) × (o ≡ None)
first_differs word name t o true e h = cc
first_differs word name t o false e h = (λ same. false≢true (sym e ∙ (bytes_eq-Decides word name).1 (sym same)), h)

-- a name that isn't taken differs from all others
free_differs : (names : List Named) (word : List ℕ) → thing_of names word ≡ None → Differ word (bytes_of names)
free_differs [] word h = tt
free_differs (n ∷ ns) word h =
    let d = first_differs word n.bytes n.thing (thing_of ns word) (bytes_eq word n.bytes) refl h in (d.0, free_differs ns word d.1)

distinct_push : (names : List (List ℕ)) (name : List ℕ) → AreDistinct names → Differ name names → AreDistinct (names ++ name ∷ [])
distinct_push [] name d f = (tt, tt)
distinct_push (n ∷ ns) name d f = (all_push (λ other. n ≢ other) ns name d.0 f.0, distinct_push ns name d.1 f.1)

other_way : (name : List ℕ) (others : List (List ℕ)) → AllByRecursion (λ other. name ≢ other) others → Differ name others
other_way name [] f = tt
other_way name (n ∷ ns) f = (λ e. f.0 (sym e), other_way name ns f.1)

-- a name in the second place may come last
pub second_last : (first second : List ℕ) (others : List (List ℕ)) → AreDistinct (first ∷ (second ∷ others)) → AreDistinct (first ∷ (others ++ second ∷ []))
second_last first second others d =
    (all_push (λ other. first ≢ other) others second d.0.1 d.0.0, distinct_push others second d.1.1 (other_way second others d.1.0))

name_pushed : (names : List Named) (n : Named) → AreDistinct (bytes_of names) → thing_of names n.bytes ≡ None → AreDistinct (bytes_of (names ++ n ∷ []))
name_pushed names n d free =
    subst (λ ns. AreDistinct ns) (sym (map-append (λ (m : Named). m.bytes) names (n ∷ []))) (distinct_push (bytes_of names) n.bytes d (free_differs names n.bytes free))

pub moves_distinct : (s : State) {t : State} → Moves s t → AreDistinct (bytes_of s.names) → AreDistinct (bytes_of t.names)
moves_distinct s (declares f parts p h full) d = name_pushed s.names _ d (declared_free s.names f p.words parts p.read)
moves_distinct s (begins_fiber parts p h full) d = name_pushed s.names _ d (read_free s.names [] p.words parts p.read)
moves_distinct s _ d = d
