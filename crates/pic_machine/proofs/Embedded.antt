-- Routines stand in one another as they are: what the inner one comes by, the outer one comes by.
use Rattle.std.proofs.Common.{◌≡◌, ℕ, Some, None, List, ap}
use Rattle.std.specs.Option.{option_map}
use Rattle.pic_machine.specs.declared.entry.Call.{Call}
use Rattle.pic_machine.specs.declared.entry.Reply.{Reply}
use Rattle.pic_machine.specs.declared.waits.Standing.{Standing}
use Rattle.pic_machine.specs.Following.{following, following_asks, following_leads, readying, suspending}
use Rattle.pic_machine.specs.Happened.{Happened}
use Rattle.pic_machine.specs.Routine.{Goes, Routine, Within, goes, stays}
use Rattle.pic_machine.specs.Waits.{Making, Waiting, arming, attaching, checking, full, made, making, making_asks, making_leads, over, place, trigger, waiting, waiting_asks, waiting_leads}

pub goes_within : {Inner : Type 0} {Outer : Type 0} {inner : Routine Inner} {outer : Routine Outer} {up : Inner → Outer} (f : ℕ) {p q : Inner} {hs : List Happened}
    → Within inner outer up → Goes inner f p hs q → Goes outer f (up p) hs (up q)
goes_within f w stays = stays
goes_within f w (goes {p = p} {m = m} call reply asked led rest) = goes call reply (w.asks p call asked) (w.leads p m reply led) (goes_within f w rest)

none_is : {A : Type 0} {B : Type 0} (q : A) → None ≡ Some q → B
none_is q is = absurd cc

-- ---- making ready and waiting stand in waiting for a computation

module _ (s : Standing) (f c : ℕ) where
  ready_asks : (p : Making) (call : Call) → making_asks p ≡ Some call → following_asks s f c (readying p) ≡ Some call
  ready_asks trigger call is = is
  ready_asks (place t) call is = is
  ready_asks (made t a) call is = none_is call is
  ready_asks full call is = none_is call is

  ready_leads : (p q : Making) (r : Reply) → making_leads s p r ≡ Some q → following_leads s (readying p) r ≡ Some (readying q)
  ready_leads trigger q r is = ap (option_map readying) is
  ready_leads (place t) q r is = ap (option_map readying) is
  ready_leads (made t a) q r is = none_is q is
  ready_leads full q r is = none_is q is

  pub readies : Within (making s) (following s f c) readying
  readies = record { asks = ready_asks; leads = ready_leads }

  wait_asks : (t : ℕ) (p : Waiting) (call : Call) → waiting_asks s f t p ≡ Some call → following_asks s f c (suspending t p) ≡ Some call
  wait_asks t (attaching a) call is = is
  wait_asks t arming call is = is
  wait_asks t checking call is = is
  wait_asks t (over how) call is = none_is call is

  wait_leads : (t : ℕ) (p q : Waiting) (r : Reply) → waiting_leads s p r ≡ Some q → following_leads s (suspending t p) r ≡ Some (suspending t q)
  wait_leads t (attaching a) q r is = ap (option_map (suspending t)) is
  wait_leads t arming q r is = ap (option_map (suspending t)) is
  wait_leads t checking q r is = ap (option_map (suspending t)) is
  wait_leads t (over how) q r is = none_is q is

  pub waits_within : (t : ℕ) → Within (waiting s f t) (following s f c) (suspending t)
  waits_within t = record { asks = wait_asks t; leads = wait_leads t }
