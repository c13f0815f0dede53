-- The names of a script and what they stand for.
use Rattle.std.specs.Prelude.{ℕ, Option, Some, None, List, [], ◌∷◌, bytes_eq, codes, if◌then◌else◌}
use Rattle.script_tree.specs.declared.program.Kind.{Kind}
use Rattle.script_tree.specs.declared.program.Kind.TheVariants as kind
use Rattle.script_tree.specs.declared.thing.Sort.{Sort}
use Rattle.script_tree.specs.declared.thing.Sort.TheVariants as sort
use Rattle.script_tree.specs.declared.thing.Thing.{Thing}
use Rattle.script_tree.specs.declared.thing.Thing.TheVariants as thing

-- a name, and what it stands for
pub record Named : Type 0 where
  pub bytes : List ℕ
  pub thing : Thing

-- what a word stands for among these names
abbrev pub thing_of : List Named → List ℕ → Option Thing
thing_of [] word = None
thing_of (n ∷ ns) word = if bytes_eq word n.bytes then Some n.thing else thing_of ns word

-- the names that every script has: `root` is a computation, `main` no form wants
abbrev pub first_names : List Named
first_names = record { bytes = codes "root"; thing = thing.Root } ∷ (record { bytes = codes "main"; thing = thing.Main } ∷ [])

-- the sort of a declared thing
abbrev pub sort_of : Kind → Sort
sort_of kind.Trigger = sort.Trigger
sort_of kind.Comp = sort.Comp
sort_of kind.Mutex = sort.Mutex
sort_of kind.Cond = sort.Cond
sort_of (kind.Sem n) = sort.Sem
sort_of (kind.Latch n) = sort.Latch
sort_of kind.Ivar = sort.Ivar
sort_of kind.Stream = sort.Stream

-- sorts are told apart by their numbers
abbrev pub sort_number : Sort → ℕ
sort_number sort.Trigger = 0
sort_number sort.Comp = 1
sort_number sort.Mutex = 2
sort_number sort.Cond = 3
sort_number sort.Sem = 4
sort_number sort.Latch = 5
sort_number sort.Ivar = 6
sort_number sort.Stream = 7
sort_number sort.Text = 8
