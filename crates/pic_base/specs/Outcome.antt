-- What an outcome prints, for every report that names one.
use Rattle.std.specs.Prelude.{ℕ, List, ◌++◌, codes}
use Rattle.std.specs.Fmt.{decimal}
use Rattle.pic_base.specs.declared.outcome.Outcome.{Outcome}
use Rattle.pic_base.specs.declared.outcome.Outcome.TheVariants.{Returned, Cancelled}

-- `returned V` or `cancelled K`
abbrev pub outcome_text : Outcome → List ℕ
outcome_text (Returned value) = codes "returned " ++ decimal value
outcome_text (Cancelled code) = codes "cancelled " ++ decimal code
