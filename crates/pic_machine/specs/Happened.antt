-- What histories are made of.
use Rattle.std.specs.Prelude.{Bool, Option}
use Rattle.pic_machine.specs.declared.birth.Birth.{Birth}
use Rattle.pic_machine.specs.declared.entry.Entry.{Entry}

-- an entry as it stands in a history: beside the entry that made a fiber stands the birth of that fiber,
-- and beside any other entry none; and its mark, whether its fiber owed something when it made the entry,
-- which a turn never has
pub record Happened : Type 0 where
  pub entry : Entry
  pub birth : Option Birth
  pub owing : Bool
