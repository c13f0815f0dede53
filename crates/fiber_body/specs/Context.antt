-- What statements read and write, and what a fiber's script gives them.
use Rattle.std.specs.Prelude.{ℕ, ◌+◌, ◌-◌, ◌==◌, nat_lt, nat_le, cond, not, Bool, List, [], ◌∷◌, Option, Some, None, slice_get, slice_index, slice_index_or, slice_set}
use Rattle.pic_machine.specs.declared.waits.Standing.{Standing}
use Rattle.script_tree.specs.declared.program.CompRef.{CompRef}
use Rattle.script_tree.specs.declared.program.CompRef.TheVariants.{Root, Named, Promise}
use Rattle.script_tree.specs.declared.program.Decl.{Decl}
use Rattle.script_tree.specs.declared.program.Kind.{Kind}
use Rattle.script_tree.specs.declared.program.Operand.{Operand}
use Rattle.script_tree.specs.declared.program.Operand.TheVariants.{Reg, Num}
use Rattle.script_tree.specs.declared.program.Stmt.{Stmt}
use Rattle.script_tree.specs.declared.program.Test.{Test}
use Rattle.script_tree.specs.declared.program.Test.TheVariants as test
use Rattle.script_tree.specs.declared.thing.Sort.{Sort}
use Rattle.script_tree.specs.declared.thing.Sort.TheVariants as sort
use Rattle.script_tree.specs.Names.{sort_of, sort_number}
use Rattle.script_tree.specs.Tree.{Tree}
use Rattle.script_tree.specs.WellFormed.{how_many}

-- ---- what doesn't change while a fiber runs

-- the fiber, and the script that it runs
pub record Setting : Type 0 where
  pub fiber : ℕ
  pub script : Tree

-- the statements of the block at a place
abbrev pub block_at : List (List Stmt) → ℕ → List Stmt
block_at blocks place = slice_index_or blocks place []

-- ---- numbers of declared things

-- a declaration of the sort takes a number
abbrev pub behind_decl : Sort → ℕ → Kind → ℕ
behind_decl sort n kind = cond (sort_number (sort_of kind) == sort_number sort) (n + 1) n

-- beside each declaration the number of the thing of this sort that is declared there, or of the one that comes next
abbrev pub numbers_of : Sort → ℕ → List Decl → List ℕ
numbers_of sort n [] = []
numbers_of sort n (d ∷ ds) = n ∷ numbers_of sort (behind_decl sort n d.kind) ds

-- each sort of things is numbered by itself: triggers from 0, and computations from 1, since the root has 0
pub record Numbering : Type 0 where
  pub triggers : List ℕ
  pub comps : List ℕ

abbrev pub numbering : List Decl → Numbering
numbering decls = record { triggers = numbers_of sort.Trigger 0 decls; comps = numbers_of sort.Comp 1 decls }

-- how many of the sort are declared
abbrev pub count_of : Sort → List Decl → ℕ
count_of sort decls = how_many (λ s. s == sort_number sort) decls

-- the number of a computation, where those that are declared have these numbers; so far nothing stands in a promise register
abbrev pub comp_in : List ℕ → CompRef → Option ℕ
comp_in numbers Root = Some 0
comp_in numbers (Named place) = slice_get numbers place
comp_in numbers (Promise register) = None

-- ---- what changes

-- the registers, the cells of the fiber's storage, the steps that it has left, its current computation, and whether
-- the fiber is permitted to be told of the cancellation of that
pub record Context : Type 0 where
  pub registers : List ℕ
  pub cells : List ℕ
  pub steps : ℕ
  pub current : ℕ
  pub permitted : Bool

-- the value of an operand, where the registers stand so
abbrev pub value_in : List ℕ → Operand → ℕ
value_in registers (Reg r) = slice_index registers r
value_in registers (Num n) = n

abbrev pub value : Context → Operand → ℕ
value c v = value_in c.registers v

abbrev pub with_register : Context → ℕ → ℕ → Context
with_register c r v = record c { registers = slice_set c.registers r v }

-- under what the fiber stands: its current computation, and whether it is told of the cancellation of that
abbrev pub under : Context → Standing
under c = record { current = c.current; permitted = c.permitted }

abbrev pub standing_under : Standing → Context → Context
standing_under u c = record c { current = u.current; permitted = u.permitted }

-- a step is made
abbrev pub stepped : Context → Context
stepped c = record c { steps = c.steps - 1 }

-- ---- comparisons, and the numbers of scripts

-- the comparison holds
abbrev pub holds : Test → ℕ → ℕ → Bool
holds test.Eq a b = a == b
holds test.Ne a b = not (a == b)
holds test.Lt a b = nat_lt a b
holds test.Le a b = nat_le a b
holds test.Gt a b = nat_lt b a
holds test.Ge a b = nat_le b a

-- the greatest number that a script computes with
abbrev pub most : ℕ
most = 4294967295

-- ---- codes that are raised: no step is left, a result is no number of a script, a limit of the machine is met, the
-- trigger is another's

abbrev pub no_step : ℕ
no_step = 1

abbrev pub overflow : ℕ
overflow = 2

abbrev pub limit_met : ℕ
limit_met = 3

abbrev pub taken_already : ℕ
taken_already = 5
