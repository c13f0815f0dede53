-- How statements begin: those that change registers and storage alone, or only leave their block, come to
-- their end at once; others have one call, or several, or a block. Statements that no run serves yet have no row: they
-- begin, and ask for nothing.
use Rattle.std.specs.Prelude.{ℕ, ◌+◌, ◌-◌, ◌*◌, nat_le, true, false, cond, List, Option, Some, None, slice_get, slice_index, slice_set}
use Rattle.pic_base.specs.declared.outcome.Outcome.{Outcome}
use Rattle.pic_base.specs.declared.outcome.Outcome.TheVariants.{Returned, Cancelled}
use Rattle.pic_machine.specs.Following.{peeking}
use Rattle.pic_machine.specs.declared.birth.Birth.{Birth}
use Rattle.pic_machine.specs.declared.entry.Call.{Call}
use Rattle.pic_machine.specs.declared.entry.Call.TheVariants as call
use Rattle.pic_machine.specs.declared.entry.CompleteReply.{CompleteReply}
use Rattle.pic_machine.specs.declared.entry.CompleteReply.TheVariants.{Won, Lost}
use Rattle.pic_machine.specs.declared.entry.Reply.{Reply}
use Rattle.pic_machine.specs.declared.entry.Reply.TheVariants.{Full, Completed, Peeked}
use Rattle.script_tree.specs.declared.program.Stmt.{Stmt}
use Rattle.script_tree.specs.declared.program.Stmt.TheVariants as stmt
use Rattle.fiber_body.specs.declared.standing.Exit.{Exit}
use Rattle.fiber_body.specs.declared.standing.Exit.TheVariants.{Next, Raised, Broke}
use Rattle.fiber_body.specs.Context.{Context, Numbering, comp_in, holds, limit_met, most, overflow, value, value_in, with_register, under}
use Rattle.fiber_body.specs.Phases.{Phase, attaches_to, awaits_comp, awaits_trigger, branches, calls, ended, goes_on, looking, looks, raise, repeating, tries, runs_under}

-- ---- statements without a call and without a block

-- the registers and the cells behind one, and how it ends
pub record Effect : Type 0 where
  pub registers : List ℕ
  pub cells : List ℕ
  pub exit : Exit

abbrev pub leaves : List ℕ → List ℕ → Exit → Effect
leaves registers cells exit = record { registers = registers; cells = cells; exit = exit }

-- the register gets the number
abbrev pub gets : List ℕ → List ℕ → ℕ → ℕ → Effect
gets registers cells r n = leaves (slice_set registers r n) cells Next

-- the same, where it is one of a script
abbrev pub gets_within : List ℕ → List ℕ → ℕ → ℕ → Effect
gets_within registers cells r n = record {
  registers = cond (nat_le n most) (slice_set registers r n) registers;
  cells = cells;
  exit = cond (nat_le n most) Next (Raised overflow);
}

-- the register gets what is left of it without the number, where it isn't less
abbrev pub gets_less : List ℕ → List ℕ → ℕ → ℕ → Effect
gets_less registers cells r n = record {
  registers = cond (nat_le n (slice_index registers r)) (slice_set registers r (slice_index registers r - n)) registers;
  cells = cells;
  exit = cond (nat_le n (slice_index registers r)) Next (Raised overflow);
}

abbrev pub result : List ℕ → List ℕ → Stmt → Option Effect
result registers cells (stmt.Set r v) = Some (gets registers cells r (value_in registers v))
result registers cells (stmt.Add r v) = Some (gets_within registers cells r (slice_index registers r + value_in registers v))
result registers cells (stmt.Sub r v) = Some (gets_less registers cells r (value_in registers v))
result registers cells (stmt.Mul r v) = Some (gets_within registers cells r (slice_index registers r * value_in registers v))
result registers cells (stmt.Put k v) = Some (leaves registers (slice_set cells k (value_in registers v)) Next)
result registers cells (stmt.Get r k) = Some (gets registers cells r (slice_index cells k))
result registers cells (stmt.Raise v) = Some (leaves registers cells (Raised (value_in registers v)))
result registers cells stmt.Break = Some (leaves registers cells Broke)
result registers cells _ = None

-- ---- statements of one call

abbrev pub on : Option ℕ → (ℕ → Call) → Option Call
on None call = None
on (Some number) call = Some (call number)

-- the call, where the declared things have these numbers
abbrev pub call_of : Numbering → Context → Stmt → Option Call
call_of numbers c (stmt.Say v) = Some (call.Say (value c v))
call_of numbers c stmt.Yield = Some call.Yield
call_of numbers c (stmt.Return r comp v) = on (comp_in numbers.comps comp) (λ k. call.Complete k (Returned (value c v)))
call_of numbers c (stmt.Cancel r comp v) = on (comp_in numbers.comps comp) (λ k. call.Complete k (Cancelled (value c v)))
call_of numbers c (stmt.Peek r q comp) = on (comp_in numbers.comps comp) (λ k. call.Peek k)
call_of numbers c stmt.Check = Some (call.Peek c.current)
call_of numbers c (stmt.Signal t) = on (slice_get numbers.triggers t) (λ n. call.Signal n)
call_of numbers c (stmt.Detach comp t) = on (slice_get numbers.triggers t) (λ n. call.Signal n)
call_of numbers c (stmt.Spawn text v) = Some (call.Fork text (value c v))
call_of numbers c _ = None

-- 1 where this call completed the computation
abbrev pub won : CompleteReply → ℕ
won Won = 1
won (Lost standing) = 0

-- 0 running, 1 returned, 2 cancelled
abbrev pub state_number : Option Outcome → ℕ
state_number None = 0
state_number (Some (Returned v)) = 1
state_number (Some (Cancelled k)) = 2

-- the value or code, or 0
abbrev pub outcome_number : Option Outcome → ℕ
outcome_number None = 0
outcome_number (Some (Returned v)) = v
outcome_number (Some (Cancelled k)) = k

-- what the reply makes of it: it goes on, but where this says otherwise
abbrev pub replied : Context → Stmt → Reply → Phase
replied c (stmt.Return r comp v) (Completed how) = goes_on (with_register c r (won how))
replied c (stmt.Cancel r comp v) (Completed how) = goes_on (with_register c r (won how))
replied c (stmt.Peek r q comp) (Peeked seen) = goes_on (with_register (with_register c r (state_number seen)) q (outcome_number seen))
replied c stmt.Check (Peeked (Some (Cancelled k))) = raise k c
replied c (stmt.Spawn text v) Full = raise limit_met c
replied c _ _ = goes_on c

-- the birth beside a fork: the child begins at the forker's current computation
abbrev pub born : Context → Call → Option Birth
born c (call.Fork text v) = Some (record { text = text; value = v; current = c.current })
born c _ = None

-- ---- how statements begin

-- one that names declared things begins so, where they have numbers
abbrev pub named : Option ℕ → Stmt → (ℕ → Phase) → Phase
named None one phase = calls one
named (Some number) one phase = phase number

abbrev pub first : Numbering → Context → Stmt → Phase
first numbers c (stmt.Await t) = named (slice_get numbers.triggers t) (stmt.Await t) (λ n. awaits_trigger n looking)
first numbers c (stmt.Attach r comp t) =
    named (comp_in numbers.comps comp) (stmt.Attach r comp t) (λ k. named (slice_get numbers.triggers t) (stmt.Attach r comp t) (λ n. attaches_to r k n looks))
first numbers c (stmt.Wait r comp) = named (comp_in numbers.comps comp) (stmt.Wait r comp) (λ k. awaits_comp r k peeking)
first numbers c (stmt.If a test b then other) = branches (cond (holds test (value c a) (value c b)) (Some then) other)
first numbers c (stmt.Loop block) = repeating block Next
first numbers c (stmt.Try block register handler) = tries block register handler
first numbers c (stmt.Forbid block) = runs_under (record (under c) { permitted = false }) block
first numbers c (stmt.Permit block) = runs_under (record (under c) { permitted = true }) block
first numbers c (stmt.Under comp block) = named (comp_in numbers.comps comp) (stmt.Under comp block) (λ k. runs_under (record (under c) { current = k }) block)
first numbers c stmt.Check = cond c.permitted (calls stmt.Check) (goes_on c)
first numbers c one = calls one

abbrev pub or_first : Numbering → Context → Stmt → Option Effect → Phase
or_first numbers c one None = first numbers c one
or_first numbers c one (Some e) = ended e.exit (record c { registers = e.registers; cells = e.cells })

abbrev pub begins : Numbering → Context → Stmt → Phase
begins numbers c one = or_first numbers c one (result c.registers c.cells one)
