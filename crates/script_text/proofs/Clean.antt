-- A text whose bytes may all stand and whose lines are short has no fault.
use Rattle.std.proofs.Common.{◌≡◌, ℕ, zero, suc, ◌+◌, ◌<◌, ◌≤◌, Bool, true, false, not, ◌&&◌, List, [], ◌∷◌, length, get_or, drop, None, refl, inl, inr, arith, one-add, add-one}
use Rattle.std.specs.List.{onto_first, position, prefix_len}
use Rattle.std.proofs.lemmas.Bool.{cases_Bool, le-ltb}
use Rattle.script_text.specs.Faults.{first_fault, fault_from, line_fault}
use Rattle.script_text.specs.Lines.{is_line_end, lines, may_stand}
use Rattle.script_text.specs.Scan.{AreShort, all_fit, fits}

both : (x y : Bool) → (x && y) ≡ true → (x ≡ true) × (y ≡ true)
both true y e = (refl, e)
both false y e = absurd (cc e)

-- all bytes may stand in a line
abbrev pub Stand : List ℕ → Type 0
Stand [] = Unit {0}
Stand (b ∷ bs) = (may_stand b ≡ true) × Stand bs

abbrev pub EachStands : List (List ℕ) → Type 0
EachStands [] = Unit {0}
EachStands (l ∷ ls) = Stand l × EachStands ls

stands_onto : (b : ℕ) (ls : List (List ℕ)) → may_stand b ≡ true → EachStands ls → EachStands (onto_first b ls)
stands_onto b [] h s = ((h, tt), tt)
stands_onto b (l ∷ ls) h s = ((h, s.0), s.1)

lines_stand : (text : List ℕ) → all_fit text ≡ true → EachStands (lines text)
lines_stand [] h = tt
lines_stand (b ∷ bs) h =
    let p = both (fits b) (all_fit bs) h in
    elim (cases_Bool (is_line_end b)) [
      | inl e ↦ rw e (tt, lines_stand bs p.1)
      | inr e ↦ rw e (stands_onto b (lines bs) (rw e at p.0) (lines_stand bs p.1))
    ]

none_bad : (l : List ℕ) → Stand l → prefix_len (λ b. not (not (may_stand b))) l ≡ length l
none_bad [] s = refl
none_bad (b ∷ bs) s = rw (s.0, none_bad bs s.1) (one-add (length bs))

no_position : (l : List ℕ) → Stand l → position (λ b. not (may_stand b)) l ≡ None
no_position l s = rw (none_bad l s, le-ltb (length l) (length l) (omega arith)) refl

line_clean : (number : ℕ) (l : List ℕ) → length l ≤ 200 → Stand l → line_fault number l ≡ None
line_clean number l h s = rw (le-ltb 200 (length l) (omega (arith, h)), no_position l s) refl

lines_clean : (number : ℕ) (ls : List (List ℕ)) → AreShort ls → EachStands ls → fault_from number ls ≡ None
lines_clean number [] h s = refl
lines_clean number (l ∷ ls) h s = rw (line_clean number l h.0 s.0) (lines_clean (number + 1) ls h.1 s.1)

pub text_clean : (text : List ℕ) → all_fit text ≡ true → AreShort (lines text) → first_fault text ≡ None
text_clean text h s = lines_clean 1 (lines text) s (lines_stand text h)

-- the first line has at most n bytes, and the others are short
abbrev pub Leads : ℕ → List (List ℕ) → Type 0
Leads n [] = Unit {0}
Leads n (l ∷ ls) = (length l ≤ n) × AreShort ls

leads_short : (n : ℕ) (ls : List (List ℕ)) → n ≤ 200 → Leads n ls → AreShort ls
leads_short n [] h p = tt
leads_short n (l ∷ ls) h p = (omega (arith, h, p.0), p.1)

leads_onto : (n b : ℕ) (ls : List (List ℕ)) → Leads n ls → Leads (suc n) (onto_first b ls)
leads_onto n b [] p = (omega arith, tt)
leads_onto n b (l ∷ ls) p = (omega (arith, p.0), p.1)

leads : (text : List ℕ) → length text ≤ 200 → Leads (length text) (lines text)
leads [] h = tt
leads (b ∷ bs) h =
    elim (cases_Bool (is_line_end b)) [
      | inl e ↦ rw e (omega arith, leads_short (length bs) (lines bs) (omega (arith, h)) (leads bs (omega (arith, h))))
      | inr e ↦ rw e (leads_onto (length bs) b (lines bs) (leads bs (omega (arith, h))))
    ]

pub short_text : (text : List ℕ) → length text ≤ 200 → AreShort (lines text)
short_text text h = leads_short (length text) (lines text) h (leads text h)

leap : (n : ℕ) (text : List ℕ) → n ≤ 200 → n < length text → is_line_end (get_or text n 0) ≡ true → AreShort (lines (drop (suc n) text)) → Leads n (lines text)
leap n [] h w e s = tt
leap zero (b ∷ bs) h w e s = rw e (omega arith, s)
leap (suc n) (b ∷ bs) h w e s =
    elim (cases_Bool (is_line_end b)) [
      | inl f ↦ rw f (omega arith, leads_short n (lines bs) (omega (arith, h)) (leap n bs (omega (arith, h)) (omega (arith, w)) e s))
      | inr f ↦ rw f (leads_onto n b (lines bs) (leap n bs (omega (arith, h)) (omega (arith, w)) e s))
    ]

-- behind a line end among the first 201 bytes the lines may be looked at alone
pub short_behind : (text : List ℕ) (n : ℕ) → (n ≤ 200) × (n < length text) × (is_line_end (get_or text n 0) ≡ true)
    → AreShort (lines (drop (n + 1) text)) → AreShort (lines text)
short_behind text n h s =
    let s2 : AreShort (lines (drop (suc n) text)) = rw add-one at s in
    leads_short n (lines text) h.0 (leap n text h.0 h.1 h.2 s2)
