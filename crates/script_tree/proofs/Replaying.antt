-- Reading the rows of a path leads to the path's end.
use Rattle.std.proofs.Common.{◌≡◌, ℕ, ◌+◌, Ok, List, [], ◌∷◌, ◌++◌, length, refl, sym, ap, ◌∙◌, arith}
use Rattle.script_text.specs.Lines.{Row}
use Rattle.script_tree.specs.declared.line.Line.{Line}
use Rattle.script_tree.specs.Grammar.{step, stepped, admitted, rows_read}
use Rattle.script_tree.specs.Reading.{State, start}
use Rattle.script_tree.proofs.Goings.{go_on}
use Rattle.script_tree.proofs.Paths.{Path, begin, more, Takes}
use Rattle.script_tree.proofs.Placed.{numbered}

takes_step : (s t : State) (words : List (List ℕ)) (l : Line) → Takes s words l t → step s words ≡ Ok t
takes_step s t words l takes =
    ap (λ r. stepped s r) takes.read ∙ (ap (λ o. admitted s l o) takes.within ∙ ap (λ u. Ok u) (sym takes.is))

-- one row more, and others behind it
numbered_push : (number : ℕ) (lines : List (List (List ℕ))) (words : List (List ℕ)) (rest : List Row)
    → numbered number (lines ++ words ∷ []) ++ rest ≡ numbered number lines ++ (record { number = number + length lines; words = words } ∷ rest)
numbered_push number [] words rest = ap (λ n. record { number = n; words = words } ∷ rest) (omega arith)
numbered_push number (l ∷ ls) words rest =
    let count : number + 1 + length ls ≡ number + length (l ∷ ls) = omega arith in
    ap (λ rs. record { number = number; words = l } ∷ rs)
    (numbered_push (number + 1) ls words rest ∙ ap (λ n. numbered (number + 1) ls ++ (record { number = n; words = words } ∷ rest)) count)

pub path_read : (s : State) (lines : List (List (List ℕ))) (number end : ℕ) (rest : List Row) → Path s lines
    → rows_read start (numbered number lines ++ rest) end ≡ rows_read s rest end
path_read s lines number end rest begin = refl
path_read s lines number end rest (more {s = before} {lines = front} {words = words} l path takes some) =
    ap (λ rs. rows_read start rs end) (numbered_push number front words rest)
    ∙ (path_read before front number end (record { number = number + length front; words = words } ∷ rest) path
    ∙ go_on before s (number + length front) end words rest (takes_step before s words l takes))
