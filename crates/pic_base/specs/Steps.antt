-- How many steps a fiber may make.
use Rattle.std.specs.Prelude.{ℕ}

-- each statement that a fiber begins is one
abbrev pub most_steps : ℕ
most_steps = 200000
