-- What a view of a fiber has of its body. Only private contracts cite these words.
use Rattle.std.specs.Prelude.{◌≡◌, ℕ, List, Some, length, slice_get}
use Rattle.fiber_body.specs.Shown.{Shown as Body}
use Rattle.pic_report.specs.declared.view.FiberView.{FiberView}
use Rattle.pic_report.specs.Lines.{fate}

-- the view has the body's text and entries, and the state that these tell
pub record IsTakenFrom (body : Body) (view : FiberView) : Type 0 where
  pub text : view.text ≡ body.birth.text
  pub noted : view.entries.entries ≡ body.noted
  pub state : view.state ≡ fate body.noted

-- the views are those of the bodies, in order
pub record AreTakenFrom (bodies : List Body) (views : List FiberView) : Type 0 where
  pub count : length views ≡ length bodies
  pub each : (place : ℕ) (body : Body) (view : FiberView) → slice_get bodies place ≡ Some body
      → slice_get views place ≡ Some view → IsTakenFrom body view
