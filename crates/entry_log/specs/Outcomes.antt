-- What calls and replies with an outcome have in common. How a list keeps its entries is its own matter:
-- only views and the contracts inside this crate cite this file.
use Rattle.std.specs.Prelude.{ℕ}
use Rattle.pic_base.specs.declared.outcome.Outcome.{Outcome}
use Rattle.pic_base.specs.declared.outcome.Outcome.TheVariants.{Returned, Cancelled}

-- its value or its code
abbrev pub outcome_number : Outcome → ℕ
outcome_number (Returned v) = v
outcome_number (Cancelled k) = k

-- the one or the other, by how it came about
abbrev pub by_outcome : {K : Type 0} → Outcome → K → K → K
by_outcome (Returned v) returned cancelled = returned
by_outcome (Cancelled k) returned cancelled = cancelled
