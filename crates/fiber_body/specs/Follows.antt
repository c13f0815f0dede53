-- Which logs a fiber may have: those that its text may leave, from its birth on.
use Rattle.std.specs.Prelude.{ℕ, true, List, ◌∷◌, replicate}
use Rattle.pic_base.specs.Steps.{most_steps}
use Rattle.pic_machine.specs.declared.birth.Birth.{Birth}
use Rattle.pic_machine.specs.Happened.{Happened}
use Rattle.pic_machine.specs.Log.{own}
use Rattle.script_tree.specs.Tree.{Tree}
use Rattle.fiber_body.specs.Context.{Context}
use Rattle.fiber_body.specs.Phases.{lives}
use Rattle.fiber_body.specs.Segments.{Acts, Extent}
use Rattle.fiber_body.specs.Texts.{block_of}

-- the registers and cells of a new fiber are 0, but the first register, which has the value handed over;
-- it has all its steps, and the current computation that it was made with, and is permitted
abbrev pub context_of : Birth → Context
context_of birth = record {
  registers = birth.value ∷ replicate 15 0;
  cells = replicate 16 0;
  steps = most_steps;
  current = birth.current;
  permitted = true;
}

-- the log of fiber f follows its text from its birth: its own log, which leaves out what the fiber owed, is
-- a segment of its text and its end
pub record FollowsText (script : Tree) (f : ℕ) (birth : Birth) (log : List Happened) : Type 0 where
  pub extent : Extent
  pub context : Context
  pub acts : Acts (record { fiber = f; script = script }) (lives (block_of script birth.text)) (context_of birth) (own log) extent context
