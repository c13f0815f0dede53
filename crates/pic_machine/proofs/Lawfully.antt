-- A legal history from a start on keeps all the laws.
use Rattle.std.proofs.Common.{◌≡◌, ℕ, zero, suc, ◌-◌, ◌<◌, ◌≤◌, Some, List, [], ◌∷◌, ◌++◌, length, replicate, slice_get, slice_index_or, refl, sym, subst, arith}
use Rattle.std.proofs.lemmas.List.{length-replicate}
use Rattle.std.proofs.lemmas.Option.{slice_get-get_or, slice_get_within}
use Rattle.pic_base.specs.declared.outcome.Outcome.{Outcome}
use Rattle.pic_machine.specs.declared.birth.Birth.{Birth}
use Rattle.pic_machine.specs.declared.state.CompState.{CompState}
use Rattle.pic_machine.specs.declared.state.CompState.TheVariants.{Running}
use Rattle.pic_machine.specs.declared.state.FiberState.{FiberState}
use Rattle.pic_machine.specs.declared.state.FiberState.TheVariants.{Ended, Live, Suspended}
use Rattle.pic_machine.specs.declared.world.Start.{Start}
use Rattle.pic_machine.specs.Final.{IsAtRest, IsFinal}
use Rattle.pic_machine.specs.Happened.{Happened}
use Rattle.pic_machine.specs.History.{IsLegal, Origin, origin_of, world}
use Rattle.pic_machine.specs.Laws.{HasStopped, Lawful}
use Rattle.pic_machine.specs.Laws.HasStopped.{ended, waits}
use Rattle.pic_machine.specs.Once.{Wins}
use Rattle.pic_machine.specs.Signalling.{SignalsAll, attachments, calls_of}
use Rattle.pic_machine.specs.State.{IsStart, State, world_at}
use Rattle.pic_machine.proofs.Asleep.{ends_asleep}
use Rattle.pic_machine.proofs.Attachments.{attached_all}
use Rattle.pic_machine.proofs.CompletedOnce.{completes_once, won_before}
use Rattle.pic_machine.proofs.Comps.{comps_stay}
use Rattle.pic_machine.proofs.Fates.{steps}
use Rattle.pic_machine.proofs.Finals.{stands_at_rest}
use Rattle.pic_machine.proofs.Keeping.{kept_all}
use Rattle.pic_machine.proofs.Rests.{final_unless_live}
use Rattle.pic_machine.proofs.SignalledOnce.{signals_once}
use Rattle.pic_machine.proofs.Signallings.{signals_made}
use Rattle.pic_machine.proofs.Stillness.{none_allowed}
use Rattle.pic_machine.proofs.Suspensions.{always_tied, none_waits, start_tied}

-- at a start each computation runs with nothing attached
runs_first : (n c : ℕ) → c < n → slice_get (replicate n (Running [])) c ≡ Some (Running [])
runs_first zero c within = absurd (omega (arith, within))
runs_first (suc n) zero within = refl
runs_first (suc n) (suc c) within = runs_first n c (omega (arith, within))

ran_first : (start : Start) (main : Birth) (hs : List Happened) (c : ℕ) (state : CompState) → slice_get (world (origin_of start main) hs).comps c ≡ Some state
    → slice_get (world_at start).comps c ≡ Some (Running [])
ran_first start main hs c state is =
    let within = slice_get_within (world (origin_of start main) hs).comps c state is in
    runs_first start.comps c (omega (arith, within, comps_stay (origin_of start main) hs, length-replicate start.comps (Running [])))

discharged : (start : Start) (main : Birth) (hs front back : List Happened) (won : Happened) (c : ℕ) (o : Outcome) → IsLegal (origin_of start main) hs → hs ≡ front ++ won ∷ back → Wins c o won
    → SignalsAll (world (origin_of start main) hs) won.entry.fiber (attachments front c) (calls_of won.entry.fiber back)
discharged start main hs front back won c o legal is wins =
    let origin : Origin = origin_of start main in
    let ran = won_before origin front won c o (legal.each front back won is) wins in
    let whole = signals_made origin front back won c o refl (subst (IsLegal origin) is legal) (ran_first start main front c (Running ran.0) ran.1) wins in
    subst (λ (zs : List Happened). SignalsAll (world origin zs) won.entry.fiber (attachments front c) (calls_of won.entry.fiber back)) (sym is) whole

-- where all is over a fiber has stopped
stops_so : (w : State) (f : ℕ) (s : FiberState) → 0 < f → slice_get w.fibers (f - 1) ≡ Some s → IsAtRest w.triggers s → HasStopped w f
stops_so w f Live made is rests = absurd rests
stops_so w f (Suspended t) made is rests = waits t (record { made = made; state = is }) rests
stops_so w f (Ended o) made is rests = ended o is

has_stopped : (w : State) (f : ℕ) → IsFinal w → 0 < f → f ≤ length w.fibers → HasStopped w f
has_stopped w f final made within =
    let there = slice_get-get_or w.fibers (f - 1) Live (omega (arith, made, within)) in
    stops_so w f (slice_index_or w.fibers (f - 1) Live) made there (stands_at_rest w (f - 1) (slice_index_or w.fibers (f - 1) Live) final there)

pub starts_lawful : (start : Start) (main : Birth) (hs : List Happened) → IsLegal (origin_of start main) hs → Lawful (origin_of start main) hs
starts_lawful start main hs legal =
    let origin : Origin = origin_of start main in
    record {
      completes = λ c. completes_once origin hs c legal;
      signals = λ t. signals_once origin hs t legal;
      attached = λ c triggers is. attached_all origin hs c triggers legal (ran_first start main hs c (Running triggers) is) is;
      discharged = λ front back won c o is wins. discharged start main hs front back won c o legal is wins;
      kept = λ c t has. kept_all origin.world hs c t (steps origin hs legal) refl has;
      tied = always_tied origin hs (start_tied start) legal;
      asleep = λ f t waits. ends_asleep origin hs f t (λ u was. none_waits start f u was) legal waits;
      over = λ none. final_unless_live origin hs (record { start = start; is = refl }) legal none;
      still = λ final f call allowed. none_allowed (world origin hs) f call final allowed;
      stopped = λ final f made within. has_stopped (world origin hs) f final made within;
    }

-- the same of any origin whose world is one at a start
pub lawful : (origin : Origin) (hs : List Happened) → IsStart origin.world → IsLegal origin hs → Lawful origin hs
lawful origin hs start =
    subst (λ (w : State). IsLegal (record { world = w; main = origin.main }) hs → Lawful (record { world = w; main = origin.main }) hs) (sym start.is) (starts_lawful start.start origin.main hs)
