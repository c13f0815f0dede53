-- Deeds from kinds and numbers. How a list keeps its entries is its own matter: only views and the
-- contracts inside this crate cite this file.
use Rattle.std.specs.Prelude.{ℕ, Some, None, List, [], ◌∷◌, take, drop, slice_index}
use Rattle.pic_base.specs.declared.outcome.Outcome.TheVariants.{Returned, Cancelled}
use Rattle.pic_machine.specs.declared.entry.Call.{Call}
use Rattle.pic_machine.specs.declared.entry.Call.TheVariants as asked
use Rattle.pic_machine.specs.declared.entry.CompleteReply.TheVariants.{Won, Lost}
use Rattle.pic_machine.specs.declared.entry.Reply.{Reply}
use Rattle.pic_machine.specs.declared.entry.Reply.TheVariants.{Plain, Completed, Peeked}
use Rattle.entry_log.specs.declared.kind.Deed.{Deed}
use Rattle.entry_log.specs.declared.kind.Kind.{Kind}
use Rattle.entry_log.specs.declared.kind.Kind.TheVariants as kind
use Rattle.entry_log.specs.Packing.{width, wholes}

-- ---- one deed

abbrev pub call_of : Kind → List ℕ → Call
call_of kind.Turn ns = asked.Turn
call_of kind.Yield ns = asked.Yield
call_of kind.Say ns = asked.Say (slice_index ns 0)
call_of kind.PeekedRunning ns = asked.Peek (slice_index ns 0)
call_of kind.PeekedReturned ns = asked.Peek (slice_index ns 0)
call_of kind.PeekedCancelled ns = asked.Peek (slice_index ns 0)
call_of kind.ReturnWon ns = asked.Complete (slice_index ns 0) (Returned (slice_index ns 1))
call_of kind.ReturnLostReturned ns = asked.Complete (slice_index ns 0) (Returned (slice_index ns 1))
call_of kind.ReturnLostCancelled ns = asked.Complete (slice_index ns 0) (Returned (slice_index ns 1))
call_of kind.CancelWon ns = asked.Complete (slice_index ns 0) (Cancelled (slice_index ns 1))
call_of kind.CancelLostReturned ns = asked.Complete (slice_index ns 0) (Cancelled (slice_index ns 1))
call_of kind.CancelLostCancelled ns = asked.Complete (slice_index ns 0) (Cancelled (slice_index ns 1))
call_of kind.Whole ns = asked.Turn

abbrev pub reply_of : Kind → List ℕ → Reply
reply_of kind.PeekedRunning ns = Peeked None
reply_of kind.PeekedReturned ns = Peeked (Some (Returned (slice_index ns 1)))
reply_of kind.PeekedCancelled ns = Peeked (Some (Cancelled (slice_index ns 1)))
reply_of kind.ReturnWon ns = Completed Won
reply_of kind.ReturnLostReturned ns = Completed (Lost (Returned (slice_index ns 2)))
reply_of kind.ReturnLostCancelled ns = Completed (Lost (Cancelled (slice_index ns 2)))
reply_of kind.CancelWon ns = Completed Won
reply_of kind.CancelLostReturned ns = Completed (Lost (Returned (slice_index ns 2)))
reply_of kind.CancelLostCancelled ns = Completed (Lost (Cancelled (slice_index ns 2)))
reply_of _ ns = Plain

-- the deed of this kind with these numbers, or that is kept whole
abbrev pub deed_of : Kind → List ℕ → List Deed → Deed
deed_of k ns (d ∷ ds) = d
deed_of k ns [] = record { call = call_of k ns; reply = reply_of k ns }

-- ---- many

-- the deeds of these kinds; their numbers, and those that are kept whole, stand one behind the other
abbrev pub deeds_of : List Kind → List ℕ → List Deed → List Deed
deeds_of [] ns ds = []
deeds_of (k ∷ ks) ns ds = deed_of k (take (width k) ns) (take (wholes k) ds)
    ∷ deeds_of ks (drop (width k) ns) (drop (wholes k) ds)
