-- Each fiber has a list of duties, and the clock has one: so it stays, and each call finds its caller's.
use Rattle.std.proofs.Common.{◌≡◌, ℕ, ◌+◌, ◌<◌, Bool, true, false, List, [], ◌∷◌, ◌++◌, length, slice_get, ap, ◌∙◌, arith}
use Rattle.std.proofs.lemmas.List.{length-append, length-set}
use Rattle.pic_base.specs.declared.duty.Duty.{Duty}
use Rattle.pic_machine.specs.declared.entry.Call.{Call}
use Rattle.pic_machine.specs.declared.entry.Call.TheVariants as call
use Rattle.pic_machine.specs.declared.entry.Call.TheVariants.{Complete, Peek, Fork}
use Rattle.pic_machine.specs.declared.state.FiberState.{FiberState}
use Rattle.pic_machine.specs.declared.state.FiberState.TheVariants.{Live}
use Rattle.pic_machine.specs.Happened.{Happened}
use Rattle.pic_machine.specs.State.{IsStart, State, owed_of}
use Rattle.pic_machine.specs.Duty.{fulfilled, followed}
use Rattle.pic_machine.specs.Step.{after, grown, has_room, with_signals}
use Rattle.pic_machine.specs.History.{Follows, Origin, world, world_from}
use Rattle.pic_machine.proofs.Callers.{caller_owes}
use Rattle.pic_machine.proofs.Histories.{world-push}
use Rattle.pic_machine.proofs.Steps.{length-fibers, owed_own, owes_then}

abbrev pub IsCounted : State → Type 0
IsCounted w = length w.owed ≡ length w.fibers + 1

both_more : (room : Bool) (ds : List (List Duty)) (fs : List FiberState) → length ds ≡ length fs + 1 → length (grown room ds []) ≡ length (grown room fs Live) + 1
both_more true ds fs counts = omega (arith, counts, length-append ds ([] ∷ []), length-append fs (Live ∷ []))
both_more false ds fs counts = counts

pub counts_after : (w : State) (f : ℕ) (call : Call) → IsCounted w → IsCounted (after w f call)
counts_after w f (call.Signal t) counts = omega (arith, counts, length-set w.owed f (fulfilled (owed_of w f)), length-fibers w f (call.Signal t) tt)
counts_after w f (Complete c o) counts = omega (arith, counts, length-set w.owed f (with_signals (slice_get w.comps c) (fulfilled (owed_of w f))))
counts_after w f (Peek c) counts = omega (arith, counts, length-set w.owed f (followed (owed_of w f) (slice_get w.comps c)))
counts_after w f (Fork text value) counts = both_more (has_room w) w.owed w.fibers counts
counts_after w f call counts = omega (arith, counts, length-fibers w f call tt)

pub counts_from : (w : State) (hs : List Happened) → IsCounted w → IsCounted (world_from w hs)
counts_from w [] counts = counts
counts_from w (h ∷ hs) counts = counts_from (after w h.entry.fiber h.entry.call) hs (counts_after w h.entry.fiber h.entry.call counts)

pub counts_start : (w : State) → IsStart w → IsCounted w
counts_start w start = rw start.is (omega arith)

-- what the caller owes behind an entry of a history
pub owed_push : (origin : Origin) (hs : List Happened) (h : Happened) → IsCounted origin.world → Follows origin hs h
    → owed_of (world origin (hs ++ h ∷ [])) h.entry.fiber ≡ owes_then (world origin hs) h.entry.fiber h.entry.call
owed_push origin hs h counts follows =
    let w = world origin hs in
    let f = h.entry.fiber in
    let within : f < length w.owed = caller_owes w f (counts_from origin.world hs counts) follows.may.allowed.caller in
    ap (λ (v : State). owed_of v f) (world-push origin hs h) ∙ owed_own w f h.entry.call within
