-- The limits of the machine that scripts run on, and of a script's length.
use Rattle.std.specs.Prelude.{ℕ}
use Rattle.pic_base.specs.declared.limits.Limits.{Limits}

abbrev pub limits : Limits
limits = record { fibers = 128; triggers = 262144; places = 262144; comps = 65536 }

-- how many bytes a script may have
abbrev pub most_bytes : ℕ
most_bytes = 16777216
