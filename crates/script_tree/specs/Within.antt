-- Where the words of a text may stand.
use Rattle.std.specs.Prelude.{ℕ, ◌≤◌, List, [], ◌∷◌, length}
use Rattle.script_text.specs.declared.token.Token.{Token}

-- the spans lie within the text
abbrev pub AreWithin : List ℕ → List Token → Type 0
AreWithin text [] = Unit {0}
AreWithin text (t ∷ ts) = (t.start ≤ t.end) × (t.end ≤ length text) × AreWithin text ts
