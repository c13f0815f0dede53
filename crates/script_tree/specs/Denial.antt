-- What a refusal of a text says of it.
use Rattle.std.specs.Prelude.{◌≡◌, Result, Err}
use Rattle.script_tree.specs.declared.refusal.ParseRefusal.{ParseRefusal}
use Rattle.script_tree.specs.declared.refusal.ParseRefusal.TheVariants.{Memory, Refused as Told}
use Rattle.script_tree.specs.declared.refusal.Refused.{Refused}

-- the text is refused as the grammar refuses it, or memory was wanted
abbrev pub Denies : {A : Type 0} → ParseRefusal → Result A Refused → Type 0
Denies (Told r) x = x ≡ Err r
Denies Memory x = Unit {0}
