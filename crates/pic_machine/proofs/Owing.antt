-- What is owed and what is attached, as the code keeps them.
use Rattle.std.proofs.Common.{◌≡◌, ℕ, ◌+◌, ◌<◌, Some, List, [], ◌∷◌, ◌++◌, length, map, reverse, take, slice_get, slice_set, slice_index_or, refl, sym, ap, ◌∙◌, arith}
use Rattle.std.proofs.lemmas.List.{reverse-append, set-get_or, take_all, take_more}
use Rattle.std.proofs.lemmas.Option.{get_or_from_slice_get}
use Rattle.pic_base.specs.declared.duty.Duty.{Duty}
use Rattle.pic_base.specs.declared.duty.Duty.TheVariants.{Signal}
use Rattle.pic_base.specs.declared.outcome.Outcome.{Outcome}
use Rattle.pic_machine.specs.declared.state.CompState.{CompState}
use Rattle.pic_machine.specs.declared.state.CompState.TheVariants.{Running, Done}
use Rattle.pic_machine.specs.Step.{with_attached}

-- one more signal is owed, where the first duty stands last
pub signal_more : (duties new owed : List Duty) (triggers : List ℕ) (i d : ℕ) → i < length triggers → reverse duties ≡ map Signal (reverse (take i triggers)) ++ owed
    → new ≡ duties ++ Signal (slice_index_or triggers i d) ∷ [] → reverse new ≡ map Signal (reverse (take (i + 1) triggers)) ++ owed
signal_more duties new owed triggers i d within before is =
    let last : ℕ = slice_index_or triggers i d in
    let mine : reverse new ≡ Signal last ∷ reverse duties = ap (λ (ds : List Duty). reverse ds) is ∙ reverse-append duties (Signal last ∷ []) in
    let theirs : reverse (take (i + 1) triggers) ≡ last ∷ reverse (take i triggers) = ap (λ (ts : List ℕ). reverse ts) (take_more triggers i d within) ∙ reverse-append (take i triggers) (last ∷ []) in
    mine ∙ (ap (λ (ds : List Duty). Signal last ∷ ds) before ∙ ap (λ (ts : List ℕ). map Signal ts ++ owed) (sym theirs))

pub signal_all : (duties owed : List Duty) (triggers : List ℕ) (i : ℕ) → i ≡ length triggers → reverse duties ≡ map Signal (reverse (take i triggers)) ++ owed
    → reverse duties ≡ map Signal (reverse triggers) ++ owed
signal_all duties owed triggers i all before =
    before ∙ ap (λ (ts : List ℕ). map Signal (reverse ts) ++ owed) (take_all i triggers (omega (arith, all)))

-- a running computation gets one more trigger
pub attached_more : (comps : List CompState) (c t : ℕ) (before now : List ℕ) → slice_get comps c ≡ Some (Running before) → now ≡ before ++ t ∷ []
    → slice_set comps c (Running now) ≡ with_attached comps c t (slice_get comps c)
attached_more comps c t before now is more = rw (is, more) refl

-- a completed one is as it was
pub attached_none : (comps : List CompState) (c t : ℕ) (o : Outcome) → slice_get comps c ≡ Some (Done o) → slice_set comps c (Done o) ≡ with_attached comps c t (slice_get comps c)
attached_none comps c t o is =
    let same : slice_set comps c (Done o) ≡ comps = ap (slice_set comps c) (sym (get_or_from_slice_get comps c (Done o) (Done o) is)) ∙ set-get_or comps c (Done o) in
    rw is same
