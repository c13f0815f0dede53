-- What stands in what: texts in the file, blocks in texts and blocks, groups of events in selects and groups.
use Rattle.std.proofs.Common.{◌≡◌, Bool, true, false, List, [], ◌∷◌}
use Rattle.script_tree.specs.declared.opener.Opener.{Opener}
use Rattle.script_tree.specs.declared.opener.Opener.TheVariants as opener
use Rattle.script_tree.specs.Reading.{State, Frame, holds_statements, holds_events}

-- the file itself
abbrev pub is_file : Opener → Bool
is_file opener.Head = true
is_file opener.Between = true
is_file opener.Over = true
is_file _ = false

-- a text may begin in the file that isn't over
abbrev pub takes_texts : Opener → Bool
takes_texts opener.Head = true
takes_texts opener.Between = true
takes_texts _ = false

-- what may be open around something
abbrev pub stands_in : Opener → Opener → Bool
stands_in opener.Head around = false
stands_in opener.Between around = false
stands_in opener.Over around = false
stands_in opener.Text around = takes_texts around
stands_in opener.Main around = takes_texts around
stands_in opener.Choose around = holds_events around
stands_in (opener.Wrap o) around = holds_events around
stands_in (opener.Guard l t r) around = holds_events around
stands_in _ around = holds_statements around

-- from the inside out each thing stands in what may be around it, and the file around all
abbrev pub Nested : Opener → List Frame → Type 0
Nested o [] = is_file o ≡ true
Nested o (f ∷ fs) = (stands_in o f.what ≡ true) × Nested f.what fs

abbrev pub IsNested : State → Type 0
IsNested s = Nested s.top.what s.outer
