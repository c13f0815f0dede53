-- At each phase: which call is asked for, and where the reply leads; or, where none is, how the statement goes
-- on by itself. And what is to be done at the exit of a block.
use Rattle.std.specs.Prelude.{ℕ, nat_lt, cond, Option, Some, None}
use Rattle.std.specs.Option.{option_map}
use Rattle.pic_base.specs.declared.outcome.Outcome.{Outcome}
use Rattle.pic_base.specs.declared.outcome.Outcome.TheVariants.{Returned, Cancelled}
use Rattle.pic_machine.specs.declared.entry.Call.{Call}
use Rattle.pic_machine.specs.declared.entry.Call.TheVariants.{End}
use Rattle.pic_machine.specs.declared.entry.Reply.{Reply}
use Rattle.pic_machine.specs.Following.{finished, following_asks, following_leads, readying, refused, suspending as suspended}
use Rattle.pic_machine.specs.Waits.{full, over, taken, told, woken}
use Rattle.script_tree.specs.declared.program.Operand.TheVariants.{Reg}
use Rattle.fiber_body.specs.declared.standing.Exit.{Exit}
use Rattle.fiber_body.specs.declared.standing.Exit.TheVariants.{Next, Raised, Broke, Spent}
use Rattle.fiber_body.specs.Context.{Context, Setting, limit_met, no_step, numbering, stepped, taken_already, value, with_register, standing_under, under}
use Rattle.fiber_body.specs.Phases.{Phase, answers, attaches_to, awaits_comp, awaits_trigger, branches, calls, catching, ended, ending, ends, finds_no_place, gone, lives, repeating, suspending, tries, unplaced, runs_under}
use Rattle.pic_machine.specs.declared.waits.Standing.{Standing}
use Rattle.fiber_body.specs.Statements.{call_of, replied}
use Rattle.fiber_body.specs.Triggers.{attaching_asks, attaching_leads, awaiting_asks, awaiting_leads}

abbrev pub asks : Setting → Context → Phase → Option Call
asks s c (calls one) = call_of (numbering s.script.decls) c one
asks s c (awaits_trigger t p) = awaiting_asks (under c) s.fiber t p
asks s c (attaches_to r k t p) = attaching_asks k t p
asks s c (awaits_comp r k p) = following_asks (under c) s.fiber k p
asks s c (ending outcome ends) = Some (End outcome)
asks s c _ = None

abbrev pub leads : Context → Phase → Reply → Option Phase
leads c (calls one) reply = Some (replied c one reply)
leads c (awaits_trigger t p) reply = option_map (awaits_trigger t) (awaiting_leads (under c) p reply)
leads c (attaches_to r k t p) reply = option_map (attaches_to r k t) (attaching_leads p reply)
leads c (awaits_comp r k p) reply = option_map (awaits_comp r k) (following_leads (under c) p reply)
leads c (ending outcome ends) reply = Some (ending outcome gone)
leads c _ reply = None

-- what is to be done at the exit of a block: it is the body of a loop, or the block of a register and a handler for
-- what is raised, or one before which the fiber stood under this, or a whole text
pub data Work : Type 0 where
  repeats : ℕ → Work
  catches : ℕ → ℕ → Work
  restores : Standing → Work
  ends_text : Work

-- where no call is asked for
pub data Settled : Type 0 where
  -- it has ended
  ends_by : Exit → Context → Settled
  -- a block is all that is left of it
  goes_into : ℕ → Context → Settled
  -- a block is entered, and this is to be done at its exit
  encloses : Work → ℕ → Context → Settled

-- the body of a loop begins with a step
abbrev pub next_round : ℕ → Context → Settled
next_round block c = cond (nat_lt 0 c.steps) (encloses (repeats block) block (stepped c)) (ends_by Spent c)

abbrev pub settles : Context → Phase → Option Settled
settles c (awaits_trigger t (suspending (over woken))) = Some (ends_by Next c)
settles c (awaits_trigger t (suspending (over (told code)))) = Some (ends_by (Raised code) c)
settles c (awaits_trigger t (suspending (over taken))) = Some (ends_by (Raised taken_already) c)
settles c (awaits_trigger t unplaced) = Some (ends_by (Raised limit_met) c)
settles c (attaches_to r k t (answers n)) = Some (ends_by Next (with_register c r n))
settles c (attaches_to r k t finds_no_place) = Some (ends_by (Raised limit_met) c)
settles c (awaits_comp r k (finished (Returned v))) = Some (ends_by Next (with_register c r v))
settles c (awaits_comp r k (finished (Cancelled code))) = Some (ends_by (Raised code) c)
settles c (awaits_comp r k (refused code)) = Some (ends_by (Raised code) c)
settles c (awaits_comp r k (readying full)) = Some (ends_by (Raised limit_met) c)
settles c (awaits_comp r k (suspended t (over taken))) = Some (ends_by (Raised taken_already) c)
settles c (branches None) = Some (ends_by Next c)
settles c (branches (Some block)) = Some (goes_into block c)
settles c (repeating block Next) = Some (next_round block c)
settles c (repeating block Broke) = Some (ends_by Next c)
settles c (repeating block exit) = Some (ends_by exit c)
settles c (tries block register handler) = Some (encloses (catches register handler) block c)
settles c (catching register handler (Raised code)) = Some (goes_into handler (with_register c register code))
settles c (catching register handler exit) = Some (ends_by exit c)
settles c (runs_under u block) = Some (encloses (restores (under c)) block (standing_under u c))
settles c (lives block) = Some (encloses ends_text block c)
settles c (ending outcome gone) = Some (ends_by Next c)
settles c (ended exit d) = Some (ends_by exit d)
settles c _ = None

-- the outcome of a fiber whose text ended so: it returns r0, or is cancelled with the code that was raised
-- (no text of a script ends by a break, which stands in a loop)
abbrev pub outcome_of : Exit → Context → Outcome
outcome_of (Raised code) c = Cancelled code
outcome_of Spent c = Cancelled no_step
outcome_of _ c = Returned (value c (Reg 0))

-- the phase behind a block that ended so
abbrev pub closing : Work → Exit → Context → Phase
closing (repeats block) exit c = repeating block exit
closing (catches register handler) exit c = catching register handler exit
closing (restores u) exit c = ended exit (standing_under u c)
closing ends_text exit c = ending (outcome_of exit c) ends
