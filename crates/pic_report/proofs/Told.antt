-- What the logs of all fibers and the clock tell of the computations is what the history tells.
use Rattle.std.proofs.Common.{◌≡◌, ◌≢◌, ℕ, suc, ◌+◌, ◌<◌, ◌≤◌, ◌==◌, Bool, true, false, Option, Some, None, List, [], ◌∷◌, ◌++◌, length, slice_get, refl, ap, ◌∙◌, arith}
use Rattle.std.proofs.lemmas.Bool.Decides.{nat_tests}
use Rattle.pic_machine.specs.declared.entry.Entry.{Entry}
use Rattle.pic_machine.specs.Happened.{Happened}
use Rattle.pic_machine.specs.declared.state.Completion.{Completion}
use Rattle.pic_machine.specs.Completing.{completion, first_of}
use Rattle.pic_machine.specs.Log.{entries, log, visible}
use Rattle.pic_machine.proofs.Completions.{IsOnce, completion_logged, made_by}
use Rattle.pic_report.specs.declared.view.FiberView.{FiberView}
use Rattle.pic_report.proofs.Found.{completion-append, of_fibers}

-- the views of the fibers from number f on have these fibers' logs
abbrev pub HaveLogs : List Happened → ℕ → List FiberView → Type 0
HaveLogs hs f views = (i : ℕ) (view : FiberView) → slice_get views i ≡ Some view → view.entries.entries ≡ visible (log hs (f + i))

logs_behind : (hs : List Happened) (f : ℕ) (view : FiberView) (views : List FiberView) → HaveLogs hs f (view ∷ views) → HaveLogs hs (f + 1) views
logs_behind hs f view views have = λ i seen is. have (suc i) seen is ∙ ap (λ (k : ℕ). visible (log hs k)) (let same : f + suc i ≡ (f + 1) + i = omega arith in same)

module _ (c : ℕ) (hs : List Happened) (once : IsOnce c hs) where
  log_tells : (f : ℕ) (k : Option Completion) → completion (entries hs) c ≡ k → completion (visible (log hs f)) c ≡ made_by f k
  log_tells f k is = completion_logged c f hs once ∙ ap (made_by f) is

  first_tells : (f : ℕ) (view : FiberView) (views : List FiberView) (k : Option Completion) → HaveLogs hs f (view ∷ views) → completion (entries hs) c ≡ k
      → completion (of_fibers (view ∷ views)) c ≡ first_of (made_by f k) (completion (of_fibers views) c)
  first_tells f view views k have is =
      let here : view.entries.entries ≡ visible (log hs f) = have 0 view refl ∙ ap (λ (n : ℕ). visible (log hs n)) (let same : f + 0 ≡ f = omega arith in same) in
      completion-append view.entries.entries (of_fibers views) c
      ∙ ap (λ (j : Option Completion). first_of j (completion (of_fibers views) c)) (ap (λ (es : List Entry). completion es c) here ∙ log_tells f k is)

  -- nobody completed it
  none_tell : (f : ℕ) (views : List FiberView) → HaveLogs hs f views → completion (entries hs) c ≡ None → completion (of_fibers views) c ≡ None
  none_tell f [] have is = refl
  none_tell f (view ∷ views) have is = first_tells f view views None have is ∙ none_tell (f + 1) views (logs_behind hs f view views have) is

  -- a fiber before them did
  before_tell : (f : ℕ) (views : List FiberView) (k : Completion) → HaveLogs hs f views → completion (entries hs) c ≡ Some k → k.fiber < f → completion (of_fibers views) c ≡ None
  before_tell f [] k have is before = refl
  before_tell f (view ∷ views) k have is before =
      let other : (k.fiber == f) ≡ false = grind (arith, nat_tests, before) in
      first_tells f view views (Some k) have is ∙ (rw other (before_tell (f + 1) views k (logs_behind hs f view views have) is (omega (arith, before))))

  -- one of them did
  one_tells : (f : ℕ) (views : List FiberView) (k : Completion) → HaveLogs hs f views → completion (entries hs) c ≡ Some k → f ≤ k.fiber → k.fiber < f + length views → completion (of_fibers views) c ≡ Some k
  one_tells f [] k have is from to = absurd (omega (arith, from, to))
  one_tells f (view ∷ views) k have is from to = first_tells f view views (Some k) have is ∙ by_number (k.fiber == f) refl (λ later. one_tells (f + 1) views k (logs_behind hs f view views have) is later (omega (arith, to))) where
    by_number : (b : Bool) → (k.fiber == f) ≡ b → (f + 1 ≤ k.fiber → completion (of_fibers views) c ≡ Some k) → first_of (made_by f (Some k)) (completion (of_fibers views) c) ≡ Some k
    by_number true mine rest = rw mine refl
    by_number false other rest = rw other (rest (let apart : k.fiber ≢ f = grind (arith, nat_tests, other) in omega (arith, from, apart)))

  module _ (views : List FiberView) (clock : List Entry) (have : HaveLogs hs 1 views) (ticked : clock ≡ visible (log hs 0)) where
    clock_tells : (k : Option Completion) → completion (entries hs) c ≡ k → completion clock c ≡ made_by 0 k
    clock_tells k is = ap (λ (es : List Entry). completion es c) ticked ∙ log_tells 0 k is

    by_completer : (k : Option Completion) → completion (entries hs) c ≡ k → ((x : Completion) → k ≡ Some x → x.fiber ≤ length views) → completion (of_fibers views ++ clock) c ≡ k
    by_completer None is made = completion-append (of_fibers views) clock c ∙ (rw (none_tell 1 views have is) (clock_tells None is))
    by_completer (Some k) is made = completion-append (of_fibers views) clock c ∙ by_fiber (k.fiber == 0) refl where
      by_fiber : (b : Bool) → (k.fiber == 0) ≡ b → first_of (completion (of_fibers views) c) (completion clock c) ≡ Some k
      by_fiber true ticks =
          let zero_is : k.fiber ≡ 0 = grind (arith, nat_tests, ticks) in
          rw (before_tell 1 views k have is (omega (arith, zero_is))) (clock_tells (Some k) is ∙ rw ticks refl)
      by_fiber false other =
          let some : k.fiber ≢ 0 = grind (arith, nat_tests, other) in
          rw (one_tells 1 views k have is (omega (arith, some)) (omega (arith, made k refl))) refl

    -- all of them tell what the history tells
    pub all_tell : ((x : Completion) → completion (entries hs) c ≡ Some x → x.fiber ≤ length views) → completion (of_fibers views ++ clock) c ≡ completion (entries hs) c
    all_tell made = by_completer (completion (entries hs) c) refl made
