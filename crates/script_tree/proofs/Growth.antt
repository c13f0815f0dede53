-- A line adds at most one declaration, text, block and event.
use Rattle.std.proofs.Common.{◌≡◌, ℕ, ◌+◌, ◌-◌, ◌≤◌, Option, Some, None, Result, Ok, Err, List, [], ◌∷◌, length, take, set, codes, subst, arith, length-append, length-set, length-take}
use Rattle.script_tree.specs.declared.cause.Cause.{Cause}
use Rattle.script_tree.specs.declared.line.Line.{Line}
use Rattle.script_tree.specs.declared.line.Line.TheVariants as line
use Rattle.script_tree.specs.declared.opener.Opener.{Opener}
use Rattle.script_tree.specs.declared.opener.Opener.TheVariants as opener
use Rattle.script_tree.specs.declared.program.EventTree.{EventTree}
use Rattle.script_tree.specs.declared.program.Operand.{Operand}
use Rattle.script_tree.specs.declared.program.Test.{Test}
use Rattle.script_tree.specs.declared.program.Stmt.{Stmt}
use Rattle.script_tree.specs.Grammar.{step, stepped, admitted, line_read}
use Rattle.script_tree.specs.Reading.{State, Frame, after, closed, opened, else_begun, else_closed, part_begun, text_begun, left, limit_broken}
use Rattle.script_tree.specs.Stand.{IsSmall}

pub record Grows (s t : State) : Type 0 where
  pub decls : length t.decls ≤ length s.decls + 1
  pub texts : length t.texts ≤ length s.texts + 1
  pub blocks : length t.blocks ≤ length s.blocks + 1
  pub events : length t.events ≤ length s.events + 1

-- what was read fits what is left of `all` words
pub record Fits (s : State) (rest all : ℕ) : Type 0 where
  pub decls : length s.decls + rest ≤ all
  pub texts : length s.texts + rest ≤ all
  pub blocks : length s.blocks + rest ≤ all
  pub events : length s.events + rest ≤ all

pub small : {s : State} {rest all : ℕ} → Fits s rest all → all ≤ 16777217 → IsSmall s
small f h = record { decls = omega (arith, f.decls); texts = omega (arith, f.texts); blocks = omega (arith, f.blocks); events = omega (arith, f.events) }

pub fits_on : {s t : State} {rest more all : ℕ} → Fits s rest all → Grows s t → more + 1 ≤ rest → Fits t more all
fits_on f g h = record {
  decls = omega (arith, f.decls, g.decls);
  texts = omega (arith, f.texts, g.texts);
  blocks = omega (arith, f.blocks, g.blocks);
  events = omega (arith, f.events, g.events);
}

same : (s : State) → Grows s s
same s = record { decls = omega arith; texts = omega arith; blocks = omega arith; events = omega arith }

left_grows : (s : State) (blocks : List (List Stmt)) (events : List EventTree) (change : Frame → Frame) (fs : List Frame)
    → length blocks ≤ length s.blocks + 1 → length events ≤ length s.events + 1 → Grows s (left s blocks events change fs)
left_grows s blocks events change [] b e = same s
left_grows s blocks events change (f ∷ fs) b e = record { decls = omega arith; texts = omega arith; blocks = b; events = e }

set_block : (s : State) (place : ℕ) (x : List Stmt) → length (set s.blocks place x) ≤ length s.blocks + 1
set_block s place x = rw length-set (omega arith)

set_event : (s : State) (place : ℕ) (x : EventTree) → length (set s.events place x) ≤ length s.events + 1
set_event s place x = rw length-set (omega arith)

block_closed_grows : (s : State) (change : Frame → Frame) → Grows s (left s (set s.blocks s.top.place s.top.stmts) s.events change s.outer)
block_closed_grows s change = left_grows s (set s.blocks s.top.place s.top.stmts) s.events change s.outer (set_block s s.top.place s.top.stmts) (omega arith)

group_closed_grows : (s : State) (e : EventTree) (change : Frame → Frame) → Grows s (left s s.blocks (set s.events s.top.place e) change s.outer)
group_closed_grows s e change = left_grows s s.blocks (set s.events s.top.place e) change s.outer (omega arith) (set_event s s.top.place e)

else_closed_grows : (s : State) (l : Operand) (t : Test) (r : Operand) (then_place : ℕ) (xs : List Stmt) → Grows s (else_closed s l t r then_place xs)
else_closed_grows s l t r then_place [] =
    left_grows s (take (length s.blocks - 1) s.blocks) s.events _ s.outer (rw length-take (omega arith)) (omega arith)
else_closed_grows s l t r then_place (x ∷ xs) = block_closed_grows s _

closed_grows : (s : State) (o : Opener) → Grows s (closed s o)
closed_grows s opener.Head = same s
closed_grows s opener.Between = same s
closed_grows s opener.Over = same s
closed_grows s opener.Try = same s
closed_grows s (opener.Otherwise l t r then_place) = else_closed_grows s l t r then_place s.top.stmts
closed_grows s (opener.Select number value) = left_grows s s.blocks s.events _ s.outer (omega arith) (omega arith)
closed_grows s opener.Choose = group_closed_grows s _ _
closed_grows s (opener.Wrap o) = group_closed_grows s _ _
closed_grows s (opener.Guard l t r) = group_closed_grows s _ _
closed_grows s _ = block_closed_grows s _

opened_grows : (s : State) (o : Opener) → Grows s (opened s o)
opened_grows s (opener.Select n v) = record { decls = omega arith; texts = omega arith; blocks = omega arith; events = omega arith }
opened_grows s opener.Choose = record { decls = omega arith; texts = omega arith; blocks = omega arith; events = simp length-append (omega arith) }
opened_grows s (opener.Wrap o) = record { decls = omega arith; texts = omega arith; blocks = omega arith; events = simp length-append (omega arith) }
opened_grows s (opener.Guard l t r) = record { decls = omega arith; texts = omega arith; blocks = omega arith; events = simp length-append (omega arith) }
opened_grows s _ = record { decls = omega arith; texts = omega arith; blocks = simp length-append (omega arith); events = omega arith }

part_begun_grows : (s : State) (o : Opener) → Grows s (part_begun s o)
part_begun_grows s o = record { decls = omega arith; texts = omega arith; blocks = simp (length-append, length-set) (omega arith); events = omega arith }

else_begun_grows : (s : State) (o : Opener) → Grows s (else_begun s o)
else_begun_grows s (opener.Then l t r) = part_begun_grows s (opener.Otherwise l t r s.top.place)
else_begun_grows s _ = same s

text_begun_grows : (s : State) (o : Opener) (name : List ℕ) → Grows s (text_begun s o name)
text_begun_grows s o name = record {
  decls = omega arith;
  texts = simp length-append (omega arith);
  blocks = simp length-append (omega arith);
  events = omega arith;
}

after_grows : (s : State) (l : Line) → Grows s (after s l)
after_grows s (line.Declare k name) = record { decls = simp length-append (omega arith); texts = omega arith; blocks = omega arith; events = omega arith }
after_grows s (line.Fiber name) = record {
  decls = omega arith;
  texts = simp length-append (omega arith);
  blocks = simp length-append (omega arith);
  events = omega arith;
}
after_grows s line.Main = text_begun_grows s opener.Main (codes "main")
after_grows s line.End = closed_grows s s.top.what
after_grows s line.Else = else_begun_grows s s.top.what
after_grows s (line.Catch register) = part_begun_grows s (opener.Catch s.top.place register)
after_grows s (line.Plain x) = record { decls = omega arith; texts = omega arith; blocks = omega arith; events = omega arith }
after_grows s (line.Open o) = opened_grows s o
after_grows s (line.Leaf e) = record { decls = omega arith; texts = omega arith; blocks = omega arith; events = simp length-append (omega arith) }

admitted_grows : (s t : State) (l : Line) (o : Option Cause) → admitted s l o ≡ Ok t → Grows s t
admitted_grows s t l (Some c) h = cc
admitted_grows s t l None h = let e : after s l ≡ t = cc in subst (λ u. Grows s u) e (after_grows s l)

stepped_grows : (s t : State) (r : Result Line Cause) → stepped s r ≡ Ok t → Grows s t
stepped_grows s t (Err c) h = cc
stepped_grows s t (Ok l) h = admitted_grows s t l (limit_broken s l) h

pub step_grows : (s t : State) (words : List (List ℕ)) → step s words ≡ Ok t → Grows s t
step_grows s t words h = stepped_grows s t (line_read s s.top.what words) h
