-- The walk over a text that seeks its first fault, line by line.
use Rattle.std.proofs.Common.{◌≡◌, ℕ, ◌+◌, ◌<◌, ◌≤◌, List, ◌∷◌, length, Some, None, sym, arith, length-drop}
use Rattle.std.specs.List.{before_first, after_first}
use Rattle.script_text.specs.Faults.{first_fault, fault_from, line_fault}
use Rattle.script_text.specs.Lines.{is_line_end, lines}
use Rattle.script_text.specs.declared.token.TokenRefusal.{TokenRefusal}
use Rattle.script_text.proofs.Cuts.{lines_first}

-- `rest` is left of the text, and `number` lines in front of it have no fault
pub record IsScanned (text rest : List ℕ) (number : ℕ) : Type 0 where
  pub fault : fault_from (number + 1) (lines rest) ≡ first_fault text
  pub numbered : number + length rest ≤ length text

module _ (text rest line below : List ℕ) (number : ℕ) (now : IsScanned text rest number) (some : 0 < length rest)
    (line_is : line ≡ before_first is_line_end rest) (below_is : below ≡ after_first is_line_end rest) where
  split : lines rest ≡ line ∷ lines below
  split = rw (line_is, below_is) (lines_first rest some)

  -- the line's fault is the first one
  pub fault_here : (fault : TokenRefusal) → line_fault (number + 1) line ≡ Some fault → first_fault text ≡ Some fault
  fault_here fault is =
      let was = rw split at now.fault in
      sym (rw is at was)

  fault_more : line_fault (number + 1) line ≡ None → fault_from (number + 1 + 1) (lines below) ≡ first_fault text
  fault_more clean =
      let was = rw split at now.fault in
      rw clean at was

  -- one line more
  pub scan_more : line_fault (number + 1) line ≡ None → IsScanned text below (number + 1)
  scan_more clean = record {
    fault = fault_more clean;
    numbered = rw below_is (simp length-drop (omega (arith, now.numbered, some)));
  }
