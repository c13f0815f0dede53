-- What was put is what is read: each deed has as many numbers, and is kept whole as often, as its kind
-- says, and these give it back.
use Rattle.std.proofs.Common.{◌≡◌, Some, length, refl}
use Rattle.pic_base.specs.declared.outcome.Outcome.TheVariants.{Returned, Cancelled}
use Rattle.pic_machine.specs.declared.entry.Call.{Call}
use Rattle.pic_machine.specs.declared.entry.Call.TheVariants as asked
use Rattle.pic_machine.specs.declared.entry.CompleteReply.TheVariants.{Lost}
use Rattle.pic_machine.specs.declared.entry.Reply.{Reply}
use Rattle.pic_machine.specs.declared.entry.Reply.TheVariants.{Plain, Completed, Peeked}
use Rattle.entry_log.specs.Packing.{kind_of, numbers_of, whole_of, wholes, width}
use Rattle.entry_log.specs.Reading.{deed_of}

-- what is put of a deed gives it back
pub record IsKept (c : Call) (r : Reply) : Type 0 where
  pub numbers : length (numbers_of c r) ≡ width (kind_of c r)
  pub whole : length (whole_of c r) ≡ wholes (kind_of c r)
  pub back : deed_of (kind_of c r) (numbers_of c r) (whole_of c r) ≡ record { call = c; reply = r }

pub deed_law : (c : Call) (r : Reply) → IsKept c r
deed_law asked.Turn Plain = record { numbers = refl; whole = refl; back = refl }
deed_law asked.Yield Plain = record { numbers = refl; whole = refl; back = refl }
deed_law (asked.Say v) Plain = record { numbers = refl; whole = refl; back = refl }
deed_law (asked.Peek c) (Peeked (Some (Returned v))) = record { numbers = refl; whole = refl; back = refl }
deed_law (asked.Complete c (Returned v)) (Completed (Lost (Returned x))) = record { numbers = refl; whole = refl; back = refl }
deed_law (asked.Complete c (Cancelled k)) (Completed (Lost (Returned x))) = record { numbers = refl; whole = refl; back = refl }
deed_law _ _ = record { numbers = refl; whole = refl; back = refl }
