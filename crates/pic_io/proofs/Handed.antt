-- How what is handed on grows, and what it leaves as it was.
use Rattle.std.proofs.Common.{◌≡◌, ℕ, List, [], ◌++◌, Option, refl, sym, ap, ◌∙◌, take, drop, append_assoc, take-append-drop}
use Rattle.std.specs.Io.KnownBytes.{Appends, Keeps, append_known}
use Rattle.std.proofs.KnownBytes.{Appends-nil, Appends-trans, Appends-kept, append_known-moved}
use Rattle.pic_io.specs.Handed.{HandsOn}

pub HandsOn-none : (a : Option (List ℕ)) (gathered : List ℕ) → HandsOn a a gathered gathered
HandsOn-none a gathered = record { front = []; split = refl; handed = Appends-nil a }

-- the sink took the front of what was left
pub HandsOn-more : (a b c : Option (List ℕ)) (gathered left rest : List ℕ) (n : ℕ) → HandsOn a b gathered left → Appends b c (take n left) → rest ≡ drop n left → HandsOn a c gathered rest
HandsOn-more a b c gathered left rest n hands took is = record {
  front = hands.front ++ take n left;
  split = hands.split ∙ ap (λ (l : List ℕ). hands.front ++ l) (sym (take-append-drop n left) ∙ ap (λ (l : List ℕ). take n left ++ l) (sym is)) ∙ sym (append_assoc hands.front (take n left) rest);
  handed = Appends-trans a b c hands.front (take n left) hands.handed took;
}

-- the sink took nothing
pub HandsOn-kept : (a b c : Option (List ℕ)) (gathered left : List ℕ) → HandsOn a b gathered left → Keeps b c → HandsOn a c gathered left
HandsOn-kept a b c gathered left hands kept = record { front = hands.front; split = hands.split; handed = Appends-kept a b c hands.front hands.handed kept }

-- what was taken in all stays
pub HandsOn-whole : (a b : Option (List ℕ)) (gathered left : List ℕ) → HandsOn a b gathered left → Keeps (append_known a gathered) (append_known b left)
HandsOn-whole a b gathered left hands = append_known-moved a b hands.front left gathered hands.handed hands.split
