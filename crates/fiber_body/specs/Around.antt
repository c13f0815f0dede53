-- Where a fiber stands in its text, and what its log may still have from there on.
use Rattle.std.specs.Prelude.{◌≡◌, ℕ, ◌+◌, List, [], ◌∷◌, ◌++◌, drop, map}
use Rattle.pic_machine.specs.Happened.{Happened}
use Rattle.fiber_body.specs.declared.standing.Exit.{Exit}
use Rattle.fiber_body.specs.declared.standing.Exit.TheVariants.{Next}
use Rattle.fiber_body.specs.declared.standing.Frame.{Frame}
use Rattle.fiber_body.specs.declared.standing.Frame.TheVariants as frame
use Rattle.fiber_body.specs.declared.standing.Standing.{Standing}
use Rattle.fiber_body.specs.declared.standing.Standing.TheVariants as standing
use Rattle.fiber_body.specs.Context.{Context, Setting, block_at}
use Rattle.fiber_body.specs.Phases.{Phase, ending, ends}
use Rattle.fiber_body.specs.Segments.{Acts, Extent, Runs, cut, whole}
use Rattle.fiber_body.specs.Tables.{Work, catches, closing, ends_text, repeats, restores}
use Rattle.fiber_body.specs.Triggers.{phase_of}

-- at a statement of a block, within one, or where the innermost block has ended so
pub data Place : Type 0 where
  at_stmt : ℕ → ℕ → Place
  within : Phase → Place
  out : Exit → Place

-- what is around: the rest of a block, from a place on, or the exit of a block, where this is to be done
pub data Outer : Type 0 where
  rest : ℕ → ℕ → Outer
  work : Work → Outer

-- the same of a body: a fiber that has ended is where its last phase was left
abbrev pub place_of : Context → Standing → Place
place_of c (standing.At block place) = at_stmt block place
place_of c (standing.Within block place way) = within (phase_of c way)
place_of c (standing.Out exit) = out exit
place_of c (standing.Ending outcome) = within (ending outcome ends)
place_of c standing.Ended = out Next

abbrev pub outer_of : Frame → Outer
outer_of (frame.Rest block place) = rest block place
outer_of (frame.Repeats block) = work (repeats block)
outer_of (frame.Catches register handler) = work (catches register handler)
outer_of (frame.Restores u) = work (restores u)

-- the end of the text is the outermost thing to do, until the text is left; around a statement that is under way is the
-- rest of its block
abbrev pub around_of : Standing → List Frame → List Outer
around_of (standing.Within block place way) frames = rest block (place + 1) ∷ map outer_of frames ++ work ends_text ∷ []
around_of (standing.Ending outcome) frames = []
around_of standing.Ended frames = []
around_of _ frames = map outer_of frames ++ work ends_text ∷ []

-- two segments, one behind the other: the first one has an extent and a context, from which the second one
-- goes on
pub record Both (First : List Happened → Extent → Context → Type 0) (Second : Extent → Context → List Happened → Type 0) (all : List Happened) : Type 0 where
  pub front : List Happened
  pub back : List Happened
  pub extent : Extent
  pub context : Context
  pub first : First front extent context
  pub second : Second extent context back
  pub is : all ≡ front ++ back

-- what may come of what is around, once the innermost block has ended or was cut so: the rest of a block
-- where what was in it goes on, and what is to be done at an exit
abbrev pub Around : Setting → List Outer → Extent → Context → List Happened → Extent → Context → Type 0
Around s [] y c ys z d = (ys ≡ []) × (z ≡ y) × (d ≡ c)
Around s (rest b p ∷ fs) (whole Next) c ys z d = Both (Runs s (drop p (block_at s.script.blocks b)) c) (λ y e zs. Around s fs y e zs z d) ys
Around s (rest b p ∷ fs) y c ys z d = Around s fs y c ys z d
Around s (work k ∷ fs) (whole x) c ys z d = Both (Acts s (closing k x c) c) (λ y e zs. Around s fs y e zs z d) ys
Around s (work k ∷ fs) (cut stop) c ys z d = Around s fs (cut stop) c ys z d

abbrev pub From : Setting → Place → Context → List Happened → Extent → Context → Type 0
From s (at_stmt b p) c ys y d = Runs s (drop p (block_at s.script.blocks b)) c ys y d
From s (within p) c ys y d = Acts s p c ys y d
From s (out x) c ys y d = (ys ≡ []) × (y ≡ whole x) × (d ≡ c)

-- what may come of it all
abbrev pub Ahead : Setting → Place → List Outer → Context → List Happened → Extent → Context → Type 0
Ahead s place fs c ys y d = Both (From s place c) (λ z e zs. Around s fs z e zs y d) ys

-- whatever may come of the second place, may come of the first one
abbrev pub Turns : Setting → Place → List Outer → Context → Place → List Outer → Context → Type 0
Turns s one fs c two gs e = (tail : List Happened) (y : Extent) (d : Context) → Ahead s two gs e tail y d → Ahead s one fs c tail y d

-- the log leads there: whatever may come from there may come behind the log
abbrev pub Leads : Setting → Phase → Context → List Happened → Place → List Outer → Context → Type 0
Leads s begin start log place fs c =
    (tail : List Happened) (y : Extent) (d : Context) → Ahead s place fs c tail y d → Acts s begin start (log ++ tail) y d
