-- The numbers of the causes for which a script is refused.
use Rattle.std.specs.Prelude.{ℕ}
use Rattle.script_tree.specs.declared.cause.Cause.{Cause}
use Rattle.script_tree.specs.declared.cause.Cause.TheVariants.{Header, Word, TextOpen, Unknown, Taken, OtherKind, LargeNumber, LargeRegister, TooMany, TooDeep, NoMain, AfterMain, BadByte, LongLine}

abbrev pub number_of : Cause → ℕ
number_of Header = 1
number_of Word = 2
number_of TextOpen = 3
number_of Unknown = 4
number_of Taken = 5
number_of OtherKind = 6
number_of LargeNumber = 7
number_of LargeRegister = 8
number_of TooMany = 9
number_of TooDeep = 10
number_of NoMain = 11
number_of AfterMain = 12
number_of BadByte = 13
number_of LongLine = 14
