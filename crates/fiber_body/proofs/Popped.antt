-- The frame that is taken away is the innermost one.
use Rattle.std.proofs.Common.{◌≡◌, ℕ, Option, Some, None, List, [], ◌∷◌, ◌++◌, ◌+◌, length, reverse, append-nil, refl, sym, ap, subst, ◌∙◌}
use Rattle.std.specs.List.{AllByRecursion}
use Rattle.std.specs.Option.{IfSome, MatchOption, option_to_list}
use Rattle.std.proofs.lemmas.List.{reverse-append}
use Rattle.fiber_body.specs.declared.standing.Frame.{Frame}
use Rattle.fiber_body.specs.Shown.{IsPopped, Shown}

none_from_length : (frames : List Frame) → length frames ≡ 0 → frames ≡ []
none_from_length [] none = refl
none_from_length (frame ∷ frames) none = absurd cc

pub popped : (body : Shown) (before now : List Frame) (frame : Option Frame) (old new : ℕ) → before ≡ now ++ option_to_list frame
    → old ≡ length before → MatchOption frame ((old ≡ 0) × (new ≡ 0)) (λ _. new + 1 ≡ old)
    → IsPopped (record body { frames = reverse before }) (record body { frames = reverse now }) frame
popped body before now None old new is count none =
    let before_is : before ≡ [] = none_from_length before (sym count ∙ none.0) in
    let now_is : now ≡ [] = sym (append-nil now) ∙ (sym is ∙ before_is) in
    rw (before_is, now_is) (refl, refl)
popped body before now (Some frame) old new is count some = (reverse now, ap reverse is ∙ reverse-append now (frame ∷ []), refl)

-- what each frame keeps to, when one comes or goes
module _ (P : Frame → Type 0) where
  pub frames-push : (frames : List Frame) (frame : Frame) → AllByRecursion P frames → P frame → AllByRecursion P (frames ++ frame ∷ [])
  frames-push [] frame all is = (is, tt)
  frames-push (first ∷ frames) frame all is = (all.0, frames-push frames frame all.1 is)

  frames-pop : (frames back : List Frame) → AllByRecursion P (frames ++ back) → AllByRecursion P frames
  frames-pop [] back all = tt
  frames-pop (first ∷ frames) back all = (all.0, frames-pop frames back all.1)

  frames-last : (frames back : List Frame) → AllByRecursion P (frames ++ back) → AllByRecursion P back
  frames-last [] back all = all
  frames-last (first ∷ frames) back all = frames-last frames back all.1

  pub frames_left : (before now : List Frame) (frame : Option Frame) → before ≡ now ++ option_to_list frame → AllByRecursion P before → AllByRecursion P now
  frames_left before now frame is all = frames-pop now (option_to_list frame) (subst (AllByRecursion P) is all)

  pub popped_frame : (before now : List Frame) (frame : Option Frame) → before ≡ now ++ option_to_list frame → AllByRecursion P before → IfSome frame P
  popped_frame before now None is all = tt
  popped_frame before now (Some frame) is all = (frames-last now (frame ∷ []) (subst (AllByRecursion P) is all)).0
