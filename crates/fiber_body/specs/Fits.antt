-- Where a body stands after a log of its fiber.
use Rattle.std.specs.Prelude.{◌≡◌, ◌≢◌, ℕ, Option, Some, None, List, [], ◌∷◌, ◌++◌, ⊤}
use Rattle.pic_machine.specs.declared.entry.Call.TheVariants.{End}
use Rattle.pic_machine.specs.declared.entry.Reply.TheVariants.{Plain}
use Rattle.pic_machine.specs.Happened.{Happened}
use Rattle.pic_machine.specs.History.{event}
use Rattle.pic_machine.specs.Log.{own, visible}
use Rattle.pic_base.specs.declared.outcome.Outcome.{Outcome}
use Rattle.script_tree.specs.Tree.{Tree}
use Rattle.fiber_body.specs.declared.standing.Standing.TheVariants.{Ended}
use Rattle.fiber_body.specs.Around.{Leads, around_of, place_of}
use Rattle.fiber_body.specs.Context.{Setting}
use Rattle.fiber_body.specs.Follows.{FollowsText, context_of}
use Rattle.fiber_body.specs.Owns.{Owns}
use Rattle.fiber_body.specs.Phases.{lives}
use Rattle.fiber_body.specs.Shown.{Shown}
use Rattle.fiber_body.specs.Texts.{block_in, script_in}

-- what doesn't change for fiber f, whose body this is
abbrev pub setting_of : Shown → ℕ → Setting
setting_of body f = record { fiber = f; script = script_in body.program }

-- this segment of fiber f's own log, from its birth on, leads to where the body stands
abbrev pub LeadsTo : Shown → ℕ → List Happened → Type 0
LeadsTo body f mine = Leads (setting_of body f) (lives (block_in body.program body.birth.text)) (context_of body.birth) mine
    (place_of body.context body.standing) (around_of body.standing body.frames) body.context

-- the log ends with the fiber's end
pub record IsOver (f : ℕ) (log : List Happened) : Type 0 where
  pub before : List Happened
  pub outcome : Outcome
  pub is : log ≡ before ++ event f (End outcome) Plain ∷ []

-- the body is that of fiber f, or may become it; the clock has no text
abbrev pub MayBeOf : Option ℕ → ℕ → Type 0
MayBeOf None f = ⊤
MayBeOf (Some number) f = (number ≡ f) × (f ≢ 0)

-- the body has the log's visible entries; the log follows the text of its fiber, and its own part leads to
-- where the body stands, and made what the body keeps there for itself; where the body says that the fiber has ended,
-- the log says so
pub record Fits (body : Shown) (log : List Happened) : Type 0 where
  pub noted : body.noted ≡ visible log
  pub follows : (script : Tree) (f : ℕ) → body.program ≡ Some script → MayBeOf body.number f
      → FollowsText script f body.birth log
  pub stands : (f : ℕ) → MayBeOf body.number f → LeadsTo body f (own log)
  pub owns : (f : ℕ) → MayBeOf body.number f → Owns (script_in body.program) f (own log) body.standing
  pub over : (f : ℕ) → MayBeOf body.number f → body.standing ≡ Ended → IsOver f log
