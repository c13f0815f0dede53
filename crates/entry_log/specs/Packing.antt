-- Deeds as kinds and numbers, or whole. How a list keeps its entries is its own matter: only views and
-- the contracts inside this crate cite this file.
use Rattle.std.specs.Prelude.{ℕ, Option, Some, None, List, [], ◌∷◌, take}
use Rattle.std.specs.List.{sum_by}
use Rattle.pic_base.specs.declared.outcome.Outcome.{Outcome}
use Rattle.pic_machine.specs.declared.entry.Call.{Call}
use Rattle.pic_machine.specs.declared.entry.Call.TheVariants as asked
use Rattle.pic_machine.specs.declared.entry.CompleteReply.{CompleteReply}
use Rattle.pic_machine.specs.declared.entry.CompleteReply.TheVariants.{Won, Lost}
use Rattle.pic_machine.specs.declared.entry.Reply.{Reply}
use Rattle.pic_machine.specs.declared.entry.Reply.TheVariants.{Plain, Completed, Peeked}
use Rattle.entry_log.specs.declared.kind.Deed.{Deed}
use Rattle.entry_log.specs.declared.kind.Kind.{Kind}
use Rattle.entry_log.specs.declared.kind.Kind.TheVariants as kind
use Rattle.entry_log.specs.Outcomes.{by_outcome, outcome_number}

-- ---- kinds

abbrev pub peek_kind : Option Outcome → Kind
peek_kind None = kind.PeekedRunning
peek_kind (Some o) = by_outcome o kind.PeekedReturned kind.PeekedCancelled

abbrev pub complete_kind : Outcome → CompleteReply → Kind
complete_kind o Won = by_outcome o kind.ReturnWon kind.CancelWon
complete_kind o (Lost x) = by_outcome o
    (by_outcome x kind.ReturnLostReturned kind.ReturnLostCancelled)
    (by_outcome x kind.CancelLostReturned kind.CancelLostCancelled)

-- a call that is named here with its reply is packed, and any other is kept whole
abbrev pub kind_of : Call → Reply → Kind
kind_of asked.Turn Plain = kind.Turn
kind_of asked.Yield Plain = kind.Yield
kind_of (asked.Say v) Plain = kind.Say
kind_of (asked.Peek c) (Peeked seen) = peek_kind seen
kind_of (asked.Complete c o) (Completed how) = complete_kind o how
kind_of c r = kind.Whole

-- ---- what is put into the list of numbers

abbrev pub peek_numbers : ℕ → Option Outcome → List ℕ
peek_numbers c None = c ∷ []
peek_numbers c (Some o) = c ∷ outcome_number o ∷ []

abbrev pub complete_numbers : ℕ → Outcome → CompleteReply → List ℕ
complete_numbers c o Won = c ∷ outcome_number o ∷ []
complete_numbers c o (Lost x) = c ∷ outcome_number o ∷ outcome_number x ∷ []

abbrev pub numbers_of : Call → Reply → List ℕ
numbers_of (asked.Say v) Plain = v ∷ []
numbers_of (asked.Peek c) (Peeked seen) = peek_numbers c seen
numbers_of (asked.Complete c o) (Completed how) = complete_numbers c o how
numbers_of c r = []

-- how many numbers a deed of this kind has
abbrev pub width : Kind → ℕ
width kind.Say = 1
width kind.PeekedRunning = 1
width kind.PeekedReturned = 2
width kind.PeekedCancelled = 2
width kind.ReturnWon = 2
width kind.ReturnLostReturned = 3
width kind.ReturnLostCancelled = 3
width kind.CancelWon = 2
width kind.CancelLostReturned = 3
width kind.CancelLostCancelled = 3
width _ = 0

-- ---- what is put into the list of those that are kept whole

-- how many deeds are kept whole for one of this kind
abbrev pub wholes : Kind → ℕ
wholes kind.Whole = 1
wholes _ = 0

abbrev pub whole_of : Call → Reply → List Deed
whole_of c r = take (wholes (kind_of c r)) (record { call = c; reply = r } ∷ [])

-- ---- many

-- how many numbers deeds of these kinds have
abbrev pub total : List Kind → ℕ
total ks = sum_by width ks

-- how many of them are kept whole
abbrev pub all_wholes : List Kind → ℕ
all_wholes ks = sum_by wholes ks
