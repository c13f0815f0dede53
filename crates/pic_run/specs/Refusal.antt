-- What a text that is refused was refused for, and what is written of it.
use Rattle.std.specs.Prelude.{◌≡◌, ℕ, Bool, IsTrue, IsFalse, List, Ok, Err, ◌++◌, codes, decimal}
use Rattle.script_tree.specs.declared.refusal.Refused.{Refused}
use Rattle.script_tree.specs.Grammar.{grammar}
use Rattle.script_tree.specs.Tree.{Tree}
use Rattle.pic_run.specs.Request.{Command, run, check, show}
use Rattle.fiber_poll.specs.Built.{is_built}

-- the line, and the number of the cause
abbrev pub refusal_text : Refused → List ℕ
refusal_text r =
    codes "refused line " ++ (decimal r.line ++ (codes " cause " ++ (decimal r.cause ++ codes "\n")))

-- a script is refused so that a run doesn't serve yet
abbrev pub unserved : Refused
unserved = record { line = 0; cause = 0 }

-- The bytes are not what the command asks for, and are refused so: they are no script, which is told by
-- the grammar's first fault, or they are one that a run doesn't serve yet.
pub data IsRefused (bytes : List ℕ) : Command → Refused → Type 0 where
  no_script : {command : Command} {r : Refused} → grammar bytes ≡ Err r → IsRefused bytes command r
  not_served : {script input : List ℕ} {traced logged : Bool} (tree : Tree) → grammar bytes ≡ Ok tree → IsFalse (is_built tree)
      → IsRefused bytes (run script input traced logged) unserved

-- the command can be done with this script
abbrev pub Accepts : Command → Tree → Type 0
Accepts (run script input traced logged) tree = IsTrue (is_built tree)
Accepts (check script) tree = Unit {0}
Accepts (show script) tree = Unit {0}

-- the bytes are what the command asks for
pub record IsServed (command : Command) (bytes : List ℕ) : Type 0 where
  pub tree : Tree
  pub reads : grammar bytes ≡ Ok tree
  pub accepts : Accepts command tree
