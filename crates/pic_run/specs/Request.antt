-- What the words of a command line ask for.
use Rattle.std.specs.Prelude.{ℕ, Bool, true, false, ◌==◌, ◌&&◌, not, if◌then◌else◌, Option, Some, None, List, [], ◌∷◌, codes}
use Rattle.std.specs.Str.{bytes_eq}
use Rattle.std.specs.String.{string_bytes}
use Rattle.pic_run.specs.declared.flags.Flags.{Flags}
use Rattle.pic_run.specs.declared.request.Request.{Request}
use Rattle.pic_run.specs.declared.request.Mode.{Mode}
use Rattle.pic_run.specs.declared.request.Mode.TheVariants as mode

-- run the script of this file on the input of that file, and report it with the trace and the fibers'
-- logs where they are asked for; tell whether the text of this file is a
-- script; write its canonical text
pub data Command : Type 0 where
  run : (script input : List ℕ) (traced logged : Bool) → Command
  check : (script : List ℕ) → Command
  show : (script : List ℕ) → Command

-- the name of the script's file
abbrev pub script_of : Command → List ℕ
script_of (run script input traced logged) = script
script_of (check script) = script
script_of (show script) = script

-- what a request holds
abbrev pub command_of_mode : Mode → Bool → Bool → Command
command_of_mode (mode.Run script input) traced logged = run (string_bytes script) (string_bytes input) traced logged
command_of_mode (mode.Check script) traced logged = check (string_bytes script)
command_of_mode (mode.Show script) traced logged = show (string_bytes script)

abbrev pub command_of : Request → Command
command_of request = command_of_mode request.mode request.trace request.log

-- a word that begins with `-` names no file
abbrev pub is_option : List ℕ → Bool
is_option [] = false
is_option (b ∷ bs) = b == 45

-- what a word and the name of a script ask for
abbrev pub of_script : List ℕ → List ℕ → Option Command
of_script word script =
    if is_option script then None
    else (if bytes_eq word (codes "check") then Some (check script)
    else (if bytes_eq word (codes "show") then Some (show script) else None))

-- the flags with the one that the word sets: each is set once
abbrev pub with_flag : Flags → List ℕ → Option Flags
with_flag flags word =
    if bytes_eq word (codes "--log") && not flags.log then Some (record { log = true; trace = flags.trace })
    else (if bytes_eq word (codes "--trace") && not flags.trace then Some (record { log = flags.log; trace = true })
    else None)

-- the flags with those that the words set, in any order
abbrev pub with_flags : Option Flags → List (List ℕ) → Option Flags
with_flags None words = None
with_flags (Some flags) [] = Some flags
with_flags (Some flags) (word ∷ words) = with_flags (with_flag flags word) words

abbrev pub no_flags : Flags
no_flags = record { log = false; trace = false }

-- a run with these flags
abbrev pub run_with : List ℕ → List ℕ → Option Flags → Option Command
run_with script input None = None
run_with script input (Some flags) = Some (run script input flags.trace flags.log)

abbrev pub of_run : List ℕ → List ℕ → List ℕ → List (List ℕ) → Option Command
of_run word script input flags =
    if bytes_eq word (codes "run") && not (is_option script) && not (is_option input)
    then run_with script input (with_flags (Some no_flags) flags) else None

-- `run` with two names and then flags, `check` or `show` with one name, and no other words ask for
-- anything
abbrev pub request : List (List ℕ) → Option Command
request (word ∷ (script ∷ [])) = of_script word script
request (word ∷ (script ∷ (input ∷ flags))) = of_run word script input flags
request _ = None
