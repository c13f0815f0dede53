-- What a pass over entries finds of how computations were completed.
use Rattle.std.proofs.Common.{◌≡◌, ◌≢◌, ℕ, ◌+◌, ◌<◌, ◌≤◌, ◌==◌, cond, Bool, true, false, Option, Some, None, List, [], ◌∷◌, ◌++◌, length, drop, get_or, replicate, refl, sym, ap, subst, ◌∙◌, arith}
use Rattle.std.specs.List.{flat_map}
use Rattle.std.proofs.lemmas.List.{drop_more, drop_all, length-set, length-replicate, get_or-replicate, get_or-set_same, get_or-set_other}
use Rattle.std.proofs.lemmas.Bool.Decides.{nat_tests}
use Rattle.pic_machine.specs.declared.entry.Entry.{Entry}
use Rattle.pic_machine.specs.declared.state.Completion.{Completion}
use Rattle.pic_machine.specs.Completing.{completion, completion_at, first_of}
use Rattle.pic_report.specs.declared.view.FiberView.{FiberView}
use Rattle.pic_report.specs.Lines.{IsNoted, noted, noted_if}

-- what was found of a computation so far, and what is told by the entries that are left, are what was
-- found before and what all entries tell
pub record IsFound (old new : List (Option Completion)) (es left : List Entry) : Type 0 where
  pub size : length new ≡ length old
  pub each : (c : ℕ) → c < length old
      → first_of (get_or new c None) (completion left c) ≡ first_of (get_or old c None) (completion es c)

pub found_none : (old : List (Option Completion)) (es : List Entry) → IsFound old old es es
found_none old es = record { size = refl; each = λ c within. refl }

first_nothing : (o : Option Completion) → first_of o None ≡ o
first_nothing None = refl
first_nothing (Some x) = refl

first_assoc : (a b c : Option Completion) → first_of (first_of a b) c ≡ first_of a (first_of b c)
first_assoc None b c = refl
first_assoc (Some x) b c = refl

pub found_all : (old new : List (Option Completion)) (es left : List Entry) → IsFound old new es left → left ≡ [] → IsNoted old new es
found_all old new es left found end = record {
  size = found.size;
  each = λ c within. sym (first_nothing (get_or new c None)) ∙ (ap (λ (w : List Entry). first_of (get_or new c None) (completion w c)) (sym end) ∙ found.each c within);
}

noted_size : (found : List (Option Completion)) (place : ℕ) (k : Completion) (here : Option Completion) → length (noted_if found place k here) ≡ length found
noted_size found place k None = length-set found place (Some k)
noted_size found place k (Some j) = refl

noted_same : (found : List (Option Completion)) (place : ℕ) (k : Completion) (here : Option Completion) → place < length found → get_or found place None ≡ here → get_or (noted_if found place k here) place None ≡ first_of here (Some k)
noted_same found place k None within is = get_or-set_same found place (Some k) None within
noted_same found place k (Some j) within is = is

noted_other : (found : List (Option Completion)) (place : ℕ) (k : Completion) (c : ℕ) (here : Option Completion) → c ≢ place → get_or (noted_if found place k here) c None ≡ get_or found c None
noted_other found place k c None other = get_or-set_other found place c (Some k) None other
noted_other found place k c (Some j) other = refl

module _ (old new : List (Option Completion)) (es left later : List Entry) (e : Entry) (found : IsFound old new es left) (is : left ≡ e ∷ later) where
  opened : (c : ℕ) → c < length old → first_of (get_or new c None) (first_of (completion_at c e.fiber e.call e.reply) (completion later c)) ≡ first_of (get_or old c None) (completion es c)
  opened c small = ap (λ (w : List Entry). first_of (get_or new c None) (completion w c)) (sym is) ∙ found.each c small

  -- the entry completed nothing
  pub found_pass : ((c : ℕ) → completion_at c e.fiber e.call e.reply ≡ None) → IsFound old new es later
  found_pass none = record { size = found.size; each = λ c small. ap (λ (k : Option Completion). first_of (get_or new c None) (first_of k (completion later c))) (sym (none c)) ∙ opened c small }

  by_place : (place : ℕ) (k : Completion) (c : ℕ) (b : Bool) → (place == c) ≡ b → c < length old → completion_at c e.fiber e.call e.reply ≡ cond b (Some k) None
      → first_of (get_or (noted new place k) c None) (completion later c) ≡ first_of (get_or old c None) (completion es c)
  by_place place k c true here small told =
      let same : place ≡ c = grind (arith, nat_tests, here) in
      let at : get_or (noted new place k) c None ≡ first_of (get_or new c None) (Some k) =
      subst (λ (n : ℕ). get_or (noted new place k) n None ≡ first_of (get_or new n None) (Some k)) same (noted_same new place k (get_or new place None) (omega (arith, found.size, same, small)) refl) in
      ap (λ (o : Option Completion). first_of o (completion later c)) at
      ∙ (first_assoc (get_or new c None) (Some k) (completion later c)
      ∙ (ap (λ (o : Option Completion). first_of (get_or new c None) (first_of o (completion later c))) (sym told) ∙ opened c small))
  by_place place k c false here small told =
      let other : c ≢ place = grind (arith, nat_tests, here) in
      ap (λ (o : Option Completion). first_of o (completion later c)) (noted_other new place k c (get_or new place None) other)
      ∙ (ap (λ (o : Option Completion). first_of (get_or new c None) (first_of o (completion later c))) (sym told) ∙ opened c small)

  -- the entry completed a computation
  pub found_note : (place : ℕ) (k : Completion) → ((c : ℕ) → completion_at c e.fiber e.call e.reply ≡ cond (place == c) (Some k) None) → IsFound old (noted new place k) es later
  found_note place k told = record {
    size = noted_size new place k (get_or new place None) ∙ found.size;
    each = λ c small. by_place place k c (place == c) refl small (told c);
  }

-- ---- over all fibers

-- what two lists of entries tell, one behind the other
pub completion-append : (xs ys : List Entry) (c : ℕ) → completion (xs ++ ys) c ≡ first_of (completion xs c) (completion ys c)
completion-append [] ys c = refl
completion-append (x ∷ xs) ys c =
    ap (first_of (completion_at c x.fiber x.call x.reply)) (completion-append xs ys c)
    ∙ sym (first_assoc (completion_at c x.fiber x.call x.reply) (completion xs c) (completion ys c))

-- the entries of the fibers
abbrev pub of_fibers : List FiberView → List Entry
of_fibers views = flat_map (λ (fiber : FiberView). fiber.entries.entries) views

-- what was found so far, and what the fibers from place i on tell, is what all fibers tell
pub record IsPassed (found : List (Option Completion)) (count : ℕ) (views : List FiberView) (i : ℕ) : Type 0 where
  pub size : length found ≡ count
  pub each : (c : ℕ) → c < count → first_of (get_or found c None) (completion (of_fibers (drop i views)) c) ≡ completion (of_fibers views) c

pub passed_none : (count : ℕ) (views : List FiberView) → IsPassed (replicate count None) count views 0
passed_none count views = record {
  size = length-replicate count None;
  each = λ c within. ap (λ (o : Option Completion). first_of o (completion (of_fibers views) c)) (get_or-replicate count c None None within);
}

pub passed_more : (old new : List (Option Completion)) (count : ℕ) (views : List FiberView) (i : ℕ) (view : FiberView) → IsPassed old count views i → i < length views → view ≡ get_or views i view → IsNoted old new view.entries.entries
    → IsPassed new count views (i + 1)
passed_more old new count views i view passed within is notes = record {
  size = notes.size ∙ passed.size;
  each = λ c small.
      let behind = completion (of_fibers (drop (i + 1) views)) c in
      let here = completion view.entries.entries c in
      let rest : drop i views ≡ view ∷ drop (i + 1) views = drop_more views i view within ∙ ap (λ (x : FiberView). x ∷ drop (i + 1) views) (sym is) in
      let both : completion (of_fibers (drop i views)) c ≡ first_of here behind = ap (λ (w : List FiberView). completion (of_fibers w) c) rest ∙ completion-append view.entries.entries (of_fibers (drop (i + 1) views)) c in
      ap (λ (o : Option Completion). first_of o behind) (notes.each c (omega (arith, passed.size, small)))
      ∙ (first_assoc (get_or old c None) here behind ∙ (ap (first_of (get_or old c None)) (sym both) ∙ passed.each c small));
}

-- and what the clock tells
pub passed_all : (old new : List (Option Completion)) (count : ℕ) (views : List FiberView) (i : ℕ) (clock : List Entry) → IsPassed old count views i → length views ≤ i → IsNoted old new clock
    → (c : ℕ) → c < count → get_or new c None ≡ completion (of_fibers views ++ clock) c
passed_all old new count views i clock passed end notes c small =
    let none : get_or old c None ≡ completion (of_fibers views) c =
    sym (first_nothing (get_or old c None)) ∙ (ap (λ (w : List FiberView). first_of (get_or old c None) (completion (of_fibers w) c)) (sym (drop_all i views end)) ∙ passed.each c small) in
    notes.each c (omega (arith, passed.size, small)) ∙ (ap (λ (o : Option Completion). first_of o (completion clock c)) none ∙ sym (completion-append (of_fibers views) clock c))
