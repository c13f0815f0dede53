-- How a poll's answer is put together: a part of a turn, and what the rest of it answers.
use Rattle.std.proofs.Common.{◌≡◌, ◌≢◌, ℕ, Option, List, [], ◌∷◌, ◌++◌, refl, sym, subst, ap, ◌∙◌, append_assoc}
use Rattle.pic_machine.specs.Happened.{Happened}
use Rattle.pic_machine.specs.declared.poller.Turn.{Turn}
use Rattle.pic_machine.specs.declared.poller.Turn.TheVariants.{Ended, Yielded, Parked, Again, Memory}
use Rattle.pic_machine.specs.declared.port.PortFault.{PortFault}
use Rattle.pic_machine.specs.declared.port.PortFault.TheVariants as fault
use Rattle.pic_machine.specs.Log.{log}
use Rattle.pic_machine.specs.Order.{GoesOn, readied}
use Rattle.pic_machine.specs.Sight.{Carry, Sight, Holds, IsSame, fiber_of}
use Rattle.pic_machine.specs.Lending.{Calm, Kept, Refuses, Spared}
use Rattle.pic_machine.specs.Turning.{Adds, EndsSo, Grew, ParksSo, Polled, Stopped, Went, YieldsSo}
use Rattle.pic_machine.proofs.Lists.{each-append}
use Rattle.pic_machine.proofs.Onward.{later_same, spared}
use Rattle.pic_machine.proofs.Staying.{log_stays}
use Rattle.pic_machine.proofs.Turns.{Adds-trans, Grew-trans, Went-trans, readied-append, rose_from, same_fiber, went_spared}

-- a body that got room, and to which nothing happened
pub went_same : {S : Type 0} (p : Sight S) (a b : Carry S) (line : Option (List ℕ)) → Holds p a → IsSame a b → b.owes ≡ a.owes → Went p p a b line line
went_same p a b line holds same owes =
    let kept : Kept p p = record { grown = record { others = []; none = λ alone. refl; later = later_same p; legal = holds.legal }; out = refl } in
    went_spared p p a b line (spared p p a b kept tt holds same owes)

-- a call that was refused left the log as it was
pub log_spared : {S : Type 0} (p q : Sight S) (a b : Carry S) → Spared p q a b → log q.front (fiber_of a) ≡ log p.front (fiber_of a)
log_spared p q a b spared =
    ap (λ (zs : List Happened). log zs (fiber_of a)) spared.kept.grown.later.front ∙ log_stays p.front spared.kept.grown.others (fiber_of a) spared.not_mine

module _ {S : Type 0} (p q r : Sight S) (a b : Carry S) (start now later : Option (List ℕ)) (How : Happened → Type 0) (before : Went p q a b start now) where
  -- the rest of the turn is over
  pub stopped_after : Stopped q r (fiber_of b) now later How → Stopped p r (fiber_of a) start later How
  stopped_after rest =
      let f = fiber_of a in
      let own = rest.going ++ rest.final ∷ [] in
      let grew : Grew q r f own = subst (λ (n : ℕ). Grew q r n own) (same_fiber a b before.number) rest.grew in
      let assoc : before.going ++ own ≡ (before.going ++ rest.going) ++ rest.final ∷ [] = sym (append_assoc before.going rest.going (rest.final ∷ [])) in
      record {
        going = before.going ++ rest.going;
        final = rest.final;
        grew = subst (Grew p r f) assoc (Grew-trans p q r f before.going own before.grew grew);
        on = each-append GoesOn before.going rest.going before.on rest.on;
        last = rest.last;
        is = rest.is;
        line = subst (λ (es : List Happened). Adds start later (readied es)) assoc
            (subst (Adds start later) (sym (readied-append before.going own)) (Adds-trans start now later (readied before.going) (readied own) before.line rest.line));
        out = rest.out;
        legal = rest.legal;
      }

module _ {B S : Type 0} (seen : B → Carry S) (fits : B → List Happened → Type 0) (p q r : Sight S) (a : Carry S) (start now later : Option (List ℕ)) where
  -- the rest of the turn answers so
  pub polled_after : (answer : Turn B) (b : Carry S) → Went p q a b start now → Calm p q → Polled answer seen fits q r b now later → Polled answer seen fits p r a start later
  polled_after Ended b before calm rest = stopped_after p q r a b start now later (λ h. EndsSo h.entry.call) before rest
  polled_after Yielded b before calm rest = stopped_after p q r a b start now later (λ h. YieldsSo h.entry.call) before rest
  polled_after Parked b before calm rest = stopped_after p q r a b start now later (λ h. ParksSo h.entry.call) before rest
  polled_after (Again back) b before calm rest = (
    Went-trans p q r a b (seen back) start now later before rest.0,
    subst (λ (n : ℕ). fits back (log r.front n)) (same_fiber a b before.number) rest.1,
    rose_from p.contention q.contention r.contention before.grew.later.steady rest.2,
  )
  polled_after (Memory back) b before calm rest = (
    Went-trans p q r a b (seen back) start now later before rest.0,
    subst (λ (n : ℕ). fits back (log r.front n)) (same_fiber a b before.number) rest.1,
    rest.2 ∙ calm,
  )

module _ {B S : Type 0} (seen : B → Carry S) (fits : B → List Happened → Type 0) (p q : Sight S) (a : Carry S) (line : Option (List ℕ)) (back : B) where
  -- the call that was to end the turn was refused, and the body goes back
  pub polled_refused : (why : PortFault) (answer : Turn B) → Refuses why p q a (seen back) → (why ≡ fault.Again → answer ≡ Again back) → (why ≢ fault.Again → answer ≡ Memory back)
      → fits back (log q.front (fiber_of a)) → Polled answer seen fits p q a line line
  polled_refused fault.Full answer refused again memory fitting = absurd refused.1
  polled_refused fault.Again answer refused again memory fitting =
      subst (λ (t : Turn B). Polled t seen fits p q a line line) (sym (again refl)) (went_spared p q a (seen back) line refused.0, fitting, refused.1)
  polled_refused fault.Memory answer refused again memory fitting =
      subst (λ (t : Turn B). Polled t seen fits p q a line line) (sym (memory (λ same. cc))) (went_spared p q a (seen back) line refused.0, fitting, refused.1)
