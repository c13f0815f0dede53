-- Where a statement stands, from one of its calls to the next one.
use Rattle.std.specs.Prelude.{ℕ, Option}
use Rattle.pic_base.specs.declared.outcome.Outcome.{Outcome}
use Rattle.pic_machine.specs.Following.{Following}
use Rattle.pic_machine.specs.declared.waits.Standing.{Standing}
use Rattle.pic_machine.specs.Waits.{Waiting}
use Rattle.script_tree.specs.declared.program.Stmt.{Stmt}
use Rattle.fiber_body.specs.declared.standing.Exit.{Exit}
use Rattle.fiber_body.specs.declared.standing.Exit.TheVariants.{Next, Raised}
use Rattle.fiber_body.specs.Context.{Context}

-- waiting for a trigger: it is to be looked at; a place is to be made for its attachment; the fiber waits; there was no
-- place
pub data Awaiting : Type 0 where
  looking : Awaiting
  placing : Awaiting
  suspending : Waiting → Awaiting
  unplaced : Awaiting

-- attaching a trigger: it is to be looked at; a place is to be made; it is to be attached there; the answer is known;
-- there was no place
pub data Attaching : Type 0 where
  looks : Attaching
  places : Attaching
  attaches : ℕ → Attaching
  answers : ℕ → Attaching
  finds_no_place : Attaching

-- the end of a fiber: it is to be told, or was
pub data Ending : Type 0 where
  ends : Ending
  gone : Ending

pub data Phase : Type 0 where
  -- it has one call, and the reply ends it
  calls : Stmt → Phase
  -- it waits for this trigger
  awaits_trigger : ℕ → Awaiting → Phase
  -- it gives a register the answer whether the computation got this trigger attached
  attaches_to : ℕ → ℕ → ℕ → Attaching → Phase
  -- it gives a register the value of the computation, for which it waits
  awaits_comp : ℕ → ℕ → Following → Phase
  -- one of two blocks was chosen, or none
  branches : Option ℕ → Phase
  -- the body of a loop ended so; a loop begins as if it had just gone on
  repeating : ℕ → Exit → Phase
  -- a block with a register and a handler for what it raises
  tries : ℕ → ℕ → ℕ → Phase
  -- such a block ended so
  catching : ℕ → ℕ → Exit → Phase
  -- a block that is run under this
  runs_under : Standing → ℕ → Phase
  -- a whole text, and the end of its fiber
  lives : ℕ → Phase
  ending : Outcome → Ending → Phase
  -- it has ended so, with this context
  ended : Exit → Context → Phase

abbrev pub goes_on : Context → Phase
goes_on c = ended Next c

abbrev pub raise : ℕ → Context → Phase
raise code c = ended (Raised code) c
