-- The map of names, seen as the list of its entries.
use Rattle.std.proofs.Common.{◌≡◌, ℕ, cond, List, [], ◌∷◌, ◌++◌, Some, None, refl, ap, inl, inr}
use Rattle.std.specs.Prelude.{Vec}
use Rattle.std.specs.Global.{Global}
use Rattle.std.specs.Str.{bytes_eq}
use Rattle.std.specs.Map.{lookup}
use Rattle.std.proofs.lemmas.Bool.{cases_Bool}
use Rattle.indexmap.specs.IndexMap.{insert_entry}
use Rattle.script_tree.specs.Names.{thing_of}
use Rattle.script_tree.specs.Known.{names_of}
use Rattle.script_tree.specs.declared.thing.Thing.{Thing}

-- a look-up in the entries finds what the name stands for
pub lookup_names : (es : List (Vec ℕ Global × Thing)) (word : List ℕ) → lookup (λ (k : Vec ℕ Global). bytes_eq word k.items) es ≡ thing_of (names_of es) word
lookup_names [] word = refl
lookup_names (e ∷ es) word = ap (λ r. cond (bytes_eq word e.0.items) (Some e.1) r) (lookup_names es word)

-- a name that isn't taken comes last
pub names_of-insert : (es : List (Vec ℕ Global × Thing)) (key : Vec ℕ Global) (thing : Thing) → thing_of (names_of es) key.items ≡ None
    → names_of (insert_entry (λ (x : Vec ℕ Global) (y : Vec ℕ Global). bytes_eq x.items y.items) es key thing) ≡ names_of es ++ record { bytes = key.items; thing = thing } ∷ []
names_of-insert [] key thing free = refl
names_of-insert (e ∷ es) key thing free =
    elim (cases_Bool (bytes_eq key.items e.0.items)) [
      | inl y ↦ let taken = rw y at free in cc
      | inr n ↦ rw n (ap (λ ns. record { bytes = e.0.items; thing = e.1 } ∷ ns) (names_of-insert es key thing (rw n at free)))
    ]
