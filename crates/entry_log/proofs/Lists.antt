-- One deed more in a list, and one less.
use Rattle.std.proofs.Common.{◌≡◌, ◌+◌, ◌-◌, ◌≤◌, ℕ, suc, Some, slice_get, List, [], ◌∷◌, ◌++◌, length, take, drop, refl, sym, ap, ◌∙◌, length-append, length-drop, arith}
use Rattle.std.specs.List.{sum_by}
use Rattle.std.proofs.lemmas.List.{take-append-le, drop-append-le, take-append-drop, length-take-le, take_all, take_at, take_more, length_push, get_or_push}
use Rattle.std.proofs.lemmas.List.Sums.{sum_by-cons, sum_by_push}
use Rattle.std.proofs.lemmas.Option.{slice_get_within, slice_get_read, get_or_from_slice_get}
use Rattle.pic_machine.specs.declared.entry.Call.{Call}
use Rattle.pic_machine.specs.declared.entry.Reply.{Reply}
use Rattle.entry_log.specs.declared.kind.Deed.{Deed}
use Rattle.entry_log.specs.declared.kind.Kind.{Kind}
use Rattle.entry_log.specs.Packing.{all_wholes, kind_of, numbers_of, total, whole_of, wholes, width}
use Rattle.entry_log.specs.Reading.{deed_of, deeds_of}
use Rattle.entry_log.proofs.Laws.{deed_law}

-- behind the first one's part of a list stand the parts of the others
later : {A X : Type 0} (part : X → ℕ) (k : X) (ks : List X) (xs : List A) → length xs ≡ sum_by part (k ∷ ks)
    → (part k ≤ length xs) × (length (drop (part k) xs) ≡ sum_by part ks)
later part k ks xs fit =
    let sum = sum_by-cons part k ks in let left = length-drop (part k) xs in
    (omega (arith, fit, sum), omega (arith, fit, sum, left))

-- behind the deeds of two lists stands one more, where its parts are put behind theirs
deeds-append : (ks : List Kind) (k : Kind) (ns more : List ℕ) (ds one : List Deed)
    → length ns ≡ total ks → length ds ≡ all_wholes ks → length more ≡ width k → length one ≡ wholes k
    → deeds_of (ks ++ k ∷ []) (ns ++ more) (ds ++ one) ≡ deeds_of ks ns ds ++ deed_of k more one ∷ []
deeds-append [] k [] more [] one fit kept wide whole =
    rw (take_all (width k) more (omega (arith, wide)), take_all (wholes k) one (omega (arith, whole))) refl
deeds-append [] k (n ∷ ns) more ds one fit kept wide whole = let none : suc (length ns) ≡ 0 = fit in absurd cc
deeds-append [] k [] more (d ∷ ds) one fit kept wide whole = let none : suc (length ds) ≡ 0 = kept in absurd cc
deeds-append (j ∷ ks) k ns more ds one fit kept wide whole =
    let numbers = later width j ks ns fit in let deeds = later wholes j ks ds kept in
    rw (
      take-append-le (width j) ns more numbers.0,
      drop-append-le (width j) ns more numbers.0,
      take-append-le (wholes j) ds one deeds.0,
      drop-append-le (wholes j) ds one deeds.0,
    )
    (ap (λ (others : List Deed). deed_of j (take (width j) ns) (take (wholes j) ds) ∷ others)
    (deeds-append ks k (drop (width j) ns) more (drop (wholes j) ds) one numbers.1 deeds.1 wide whole))

-- a deed that was put is the last one
pub deeds-put : (ks : List Kind) (ns : List ℕ) (ds : List Deed) (c : Call) (r : Reply) → length ns ≡ total ks → length ds ≡ all_wholes ks
    → deeds_of (ks ++ kind_of c r ∷ []) (ns ++ numbers_of c r) (ds ++ whole_of c r) ≡ deeds_of ks ns ds ++ record { call = c; reply = r } ∷ []
deeds-put ks ns ds c r fit kept =
    let law = deed_law c r in
    deeds-append ks (kind_of c r) ns (numbers_of c r) ds (whole_of c r) fit kept law.numbers law.whole
    ∙ ap (λ (d : Deed). deeds_of ks ns ds ++ d ∷ []) law.back

-- and the lists still fit the kinds
pub put_fits : (ks : List Kind) (ns : List ℕ) (ds : List Deed) (c : Call) (r : Reply) → length ns ≡ total ks → length ds ≡ all_wholes ks
    → (length (ns ++ numbers_of c r) ≡ total (ks ++ kind_of c r ∷ [])) × (length (ds ++ whole_of c r) ≡ all_wholes (ks ++ kind_of c r ∷ []))
put_fits ks ns ds c r fit kept =
    let law = deed_law c r in
    let sum = sum_by_push width ks (kind_of c r) in let count = sum_by_push wholes ks (kind_of c r) in
    let numbers = length-append ns (numbers_of c r) in let deeds = length-append ds (whole_of c r) in
    (numbers ∙ (rw (law.numbers, fit) (sym sum)), deeds ∙ (rw (law.whole, kept) (sym count)))

-- the last deed, and those before it
pub deeds-split : (all ks : List Kind) (k : Kind) (ns : List ℕ) (ds : List Deed) → all ≡ ks ++ k ∷ [] → length ns ≡ total all → length ds ≡ all_wholes all
    → deeds_of all ns ds
    ≡ deeds_of ks (take (length ns - width k) ns) (take (length ds - wholes k) ds) ++ deed_of k (drop (length ns - width k) ns) (drop (length ds - wholes k) ds) ∷ []
deeds-split all ks k ns ds is fit kept =
    let i = length ns - width k in let j = length ds - wholes k in
    let sum : total all ≡ total ks + width k = ap (λ (xs : List Kind). total xs) is ∙ sum_by_push width ks k in
    let count : all_wholes all ≡ all_wholes ks + wholes k = ap (λ (xs : List Kind). all_wholes xs) is ∙ sum_by_push wholes ks k in
    let before = length-take-le i ns (omega arith) in let after = length-drop i ns in
    let before_whole = length-take-le j ds (omega arith) in let after_whole = length-drop j ds in
    ap (λ (xs : List Kind). deeds_of xs ns ds) is
    ∙ (ap (λ (xs : List ℕ). deeds_of (ks ++ k ∷ []) xs ds) (sym (take-append-drop i ns))
    ∙ (ap (λ (xs : List Deed). deeds_of (ks ++ k ∷ []) (take i ns ++ drop i ns) xs) (sym (take-append-drop j ds))
    ∙ deeds-append ks k (take i ns) (drop i ns) (take j ds) (drop j ds)
    (omega (arith, fit, sum, before)) (omega (arith, kept, count, before_whole))
    (omega (arith, fit, sum, after)) (omega (arith, kept, count, after_whole))))

pub length-deeds_of : (ks : List Kind) (ns : List ℕ) (ds : List Deed) → length (deeds_of ks ns ds) ≡ length ks
length-deeds_of [] ns ds = refl
length-deeds_of (k ∷ ks) ns ds = ap (λ (n : ℕ). suc n) (length-deeds_of ks (drop (width k) ns) (drop (wholes k) ds))

-- ---- any list, and its last element

pub take_push : {A : Type 0} (xs : List A) (x : A) → take (length (xs ++ x ∷ []) - 1) (xs ++ x ∷ []) ≡ xs
take_push xs x = let long = length-append xs (x ∷ []) in take_at xs (x ∷ []) (length (xs ++ x ∷ []) - 1) (omega (arith, long))

pub get_push : {A : Type 0} (xs : List A) (x : A) → slice_get (xs ++ x ∷ []) (length (xs ++ x ∷ []) - 1) ≡ Some x
get_push xs x =
    let i = length (xs ++ x ∷ []) - 1 in let long = length_push xs x in
    slice_get_read (xs ++ x ∷ []) (length (xs ++ x ∷ [])) i x refl (omega (arith, long)) (sym (get_or_push xs x x i (omega (arith, long))))

pub last_split : {A : Type 0} (xs : List A) (x : A) → slice_get xs (length xs - 1) ≡ Some x → xs ≡ take (length xs - 1) xs ++ x ∷ []
last_split {A = A} xs x is =
    let i = length xs - 1 in let within = slice_get_within xs i x is in
    sym (take_all (i + 1) xs (omega (arith, within)))
    ∙ (take_more xs i x within ∙ ap (λ (y : A). take i xs ++ y ∷ []) (get_or_from_slice_get xs i x x is))
