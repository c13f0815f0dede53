-- How a turn goes on, part by part.
use Rattle.std.proofs.Common.{◌≡◌, ◌≢◌, ℕ, ◌<◌, ◌≤◌, false, Option, Some, List, [], ◌∷◌, ◌++◌, OnErr, Result, Ok, Err, refl, sym, ap, subst, ◌∙◌, append-nil}
use Rattle.pic_base.specs.declared.duty.Duty.{Duty}
use Rattle.pic_machine.specs.declared.birth.Birth.{Birth}
use Rattle.pic_machine.specs.declared.entry.Call.{Call}
use Rattle.pic_machine.specs.Happened.{Happened}
use Rattle.pic_machine.specs.declared.port.PortFault.{PortFault}
use Rattle.pic_machine.specs.declared.port.PortFault.TheVariants.{Full, Again, Memory}
use Rattle.pic_machine.specs.State.{owed_of}
use Rattle.pic_machine.specs.Duty.{DutiesAllow}
use Rattle.pic_machine.specs.Step.{ArmsOwn, NamesStand}
use Rattle.pic_machine.specs.History.{MayMake, NumbersFit, world}
use Rattle.pic_machine.specs.Log.{is_turn, log, own}
use Rattle.pic_machine.specs.Order.{GoesOn, readied}
use Rattle.pic_machine.specs.Sight.{CanMake, Carry, Holds, Notes, Sight, fiber_of}
use Rattle.pic_machine.specs.Lending.{Calm, Faulted, Lent, Refuses, Spared}
use Rattle.pic_machine.specs.Turning.{Adds, Went}
use Rattle.pic_machine.proofs.Owns.{own-push}
use Rattle.pic_machine.proofs.Turns.{Went-trans, grew_made, grew_others, rose_from, went_lent, went_none, went_spared}
use Rattle.fiber_await.specs.Discharging.{Discharged}
use Rattle.script_tree.specs.Tree.{Tree}
use Rattle.fiber_body.specs.declared.standing.Standing.{Standing}
use Rattle.fiber_body.specs.declared.standing.Standing.TheVariants.{Within, Ended}
use Rattle.fiber_body.specs.Fits.{LeadsTo}
use Rattle.fiber_body.specs.Owns.{Owns}
use Rattle.fiber_body.specs.Shown.{IsSameRest, Shown, carry_of}
use Rattle.fiber_body.specs.Texts.{script_in}
use Rattle.fiber_poll.specs.Laws.{port_later}
use Rattle.fiber_poll.specs.Moving.{Goes, IsBetween}
use Rattle.fiber_poll.specs.Polls.{IsPortOf}
use Rattle.fiber_poll.specs.UnderWay.{IsOn, IsUp}

-- ---- calls that may be made

allowed_free : (duties : List Duty) (call : Call) → duties ≡ [] → DutiesAllow duties call
allowed_free duties call none = subst (λ (ds : List Duty). DutiesAllow ds call) (sym none) tt

-- a fiber that owes nothing may make whatever names what stands, and what it may use
pub may_make : {port : Sight (Option Tree)} {body : Shown} {call : Call} → IsUp port body → body.owes ≡ [] → NamesStand (world port.origin port.front) call → ArmsOwn (fiber_of (carry_of body)) call
    → NumbersFit port.origin port.front (fiber_of (carry_of body)) call → MayMake port.origin port.front (fiber_of (carry_of body)) call
may_make {port} {body} {call} up free names own numbers = record {
  allowed = record {
    caller = up.holds.acts;
    clock = λ clock. absurd (up.fiber clock);
    duties = allowed_free (owed_of (world port.origin port.front) (fiber_of (carry_of body))) call (sym up.holds.owes ∙ free);
    names = names;
    own = own;
  };
  numbers = numbers;
}

pub can_make : {port : Sight (Option Tree)} {body : Shown} {call : Call} → IsUp port body → body.owes ≡ [] → 0 < body.room → NamesStand (world port.origin port.front) call
    → ArmsOwn (fiber_of (carry_of body)) call → NumbersFit port.origin port.front (fiber_of (carry_of body)) call → CanMake port (carry_of body) call
can_make up free room names own numbers = record { holds = up.holds; may = may_make up free names own numbers; room = room }

-- ---- bodies that are up

-- the body's program is the poller's
pub program_up : (script : Tree) (port : Sight (Option Tree)) (body : Shown) → IsPortOf script port → IsUp port body → body.program ≡ Some script
program_up script port body of up = up.holds.share up.fiber ∙ of.share

pub same_number : (a b : Shown) → b.number ≡ a.number → fiber_of (carry_of b) ≡ fiber_of (carry_of a)
same_number a b same = ap (λ (n : Option ℕ). fiber_of (carry_of (record a { number = n }))) same

-- a body is where another one is that has the same rest
pub leads_same : (a b : Shown) (f : ℕ) (mine : List Happened) → IsSameRest a b → b.birth ≡ a.birth → b.program ≡ a.program → LeadsTo a f mine → LeadsTo b f mine
leads_same a b f mine rest birth program leads =
    let is : b ≡ record a { number = b.number; noted = b.noted; room = b.room; owes = b.owes } = rw (rest.context, rest.standing, rest.frames, birth, program) refl in
    subst (λ (x : Shown). LeadsTo x f mine) (sym is) leads

-- or goes to from there
leads_gone : (a b : Shown) (f : ℕ) (mine : List Happened) → Goes a b → LeadsTo a f mine → LeadsTo b f mine
leads_gone a b f mine goes leads =
    let birth : b.birth ≡ a.birth = ap (λ (c : Carry (Option Tree)). c.birth) goes.same in
    let program : b.program ≡ a.program = ap (λ (c : Carry (Option Tree)). c.share) goes.same in
    let there : LeadsTo (record b { birth = a.birth; program = a.program }) f mine = λ tail y d ahead. leads tail y d (goes.turns f tail y d ahead) in
    subst (λ (x : Birth). LeadsTo (record b { birth = x }) f mine) (sym birth) (subst (λ (p : Option Tree). LeadsTo (record b { birth = a.birth; program = p }) f mine) (sym program) there)

-- between two calls nothing is kept for oneself
pub owns_between : (script : Tree) (f : ℕ) (mine : List Happened) (there : Standing) → IsBetween there → Owns script f mine there
owns_between script f mine (Within block place way) between = absurd between
owns_between script f mine _ between = tt

pub between_live : (there : Standing) → IsBetween there → there ≢ Ended
between_live Ended between is = absurd between
between_live _ between is = cc

pub owns_same : (a b : Shown) (f : ℕ) (mine : List Happened) → IsSameRest a b → b.program ≡ a.program → Owns (script_in a.program) f mine a.standing → Owns (script_in b.program) f mine b.standing
owns_same a b f mine rest program owns = rw (program, rest.standing) owns

-- it is up where its fiber's own log leads to it
pub up_led : (p : Sight (Option Tree)) (b : Shown) (f : ℕ) → Holds p (carry_of b) → fiber_of (carry_of b) ≡ f → f ≢ 0 → LeadsTo b f (own (log p.front f)) → Owns (script_in b.program) f (own (log p.front f)) b.standing → b.standing ≢ Ended
    → IsUp p b
up_led p b f holds mine fiber leads owns live = record {
  holds = holds;
  fiber = subst (λ (n : ℕ). n ≢ 0) (sym mine) fiber;
  leads = subst (λ (n : ℕ). LeadsTo b n (own (log p.front n))) (sym mine) leads;
  owns = subst (λ (n : ℕ). Owns (script_in b.program) n (own (log p.front n)) b.standing) (sym mine) owns;
  live = live;
}

-- a body that moved owes what it owed
pub free_gone : {a b : Shown} → Goes a b → a.owes ≡ [] → b.owes ≡ []
free_gone goes free = ap (λ (c : Carry (Option Tree)). c.owes) goes.same ∙ free

pub still_live : (a b : Shown) → IsSameRest a b → a.standing ≢ Ended → b.standing ≢ Ended
still_live a b rest live ended = live (sym rest.standing ∙ ended)

-- ---- parts of a turn

-- one part after another
pub on_trans : {p q r : Sight (Option Tree)} {a b c : Shown} {start now later : Option (List ℕ)} → IsOn p q a b start now → IsOn q r b c now later → IsOn p r a c start later
on_trans {p} {q} {r} {a} {b} {c} {start} {now} {later} one two = record {
  went = Went-trans p q r (carry_of a) (carry_of b) (carry_of c) start now later one.went two.went;
  up = two.up;
}

-- the part begins
pub on_none : {p : Sight (Option Tree)} {a : Shown} {told : Option (List ℕ)} → IsUp p a → IsOn p p a a told told
on_none {p} {a} {told} up = record { went = went_none p (carry_of a) told up.holds; up = up }

-- the port runs the program still
pub port_stays : {p q : Sight (Option Tree)} {a b : Shown} {start now : Option (List ℕ)} {script : Tree} → IsPortOf script p → IsOn p q a b start now → IsPortOf script q
port_stays {p} {q} {script = script} of on = port_later script p q of on.went.grew.later.origin on.went.grew.later.share

-- a body in which nothing was noted is held as before
holds_noted : {S : Type 0} (p : Sight S) (a b : Carry S) → Holds p a → Notes a b [] → Holds p b
holds_noted {S} p a b holds notes =
    let same : fiber_of b ≡ fiber_of a = ap (λ (n : Option ℕ). fiber_of (record a { number = n })) notes.number in
    record {
      legal = holds.legal;
      out = holds.out ∙ ap Some (sym same);
      number = notes.number ∙ (holds.number ∙ ap Some (sym same));
      noted = rw same (notes.noted ∙ (append-nil a.noted ∙ holds.noted));
      owes = rw same (notes.owes ∙ holds.owes);
      acts = rw same holds.acts;
      birth = rw same (λ fiber. holds.birth fiber ∙ ap Some (sym notes.birth));
      share = rw same (λ fiber. notes.share ∙ holds.share fiber);
    }

module _ {p : Sight (Option Tree)} {a b : Shown} {told : Option (List ℕ)} where
  on_noted : IsUp p a → Notes (carry_of a) (carry_of b) [] → LeadsTo b (fiber_of (carry_of a)) (own (log p.front (fiber_of (carry_of a))))
      → Owns (script_in b.program) (fiber_of (carry_of a)) (own (log p.front (fiber_of (carry_of a)))) b.standing → b.standing ≢ Ended → IsOn p p a b told told
  on_noted up notes leads owns live =
      let holds : Holds p (carry_of b) = holds_noted p (carry_of a) (carry_of b) up.holds notes in
      let none : Went p p (carry_of a) (carry_of a) told told = went_none p (carry_of a) told up.holds in
      record {
        went = record { going = none.going; grew = none.grew; on = none.on; line = none.line; holds = holds; number = notes.number };
        up = up_led p b (fiber_of (carry_of a)) holds (same_number a b notes.number) up.fiber leads owns live;
      }

  -- room was made, or wanted
  pub on_reserved : IsUp p a → Notes (carry_of a) (carry_of b) [] → IsSameRest a b → IsOn p p a b told told
  on_reserved up notes rest =
      let f = fiber_of (carry_of a) in
      let mine = own (log p.front f) in
      on_noted up notes (leads_same a b f mine rest notes.birth notes.share up.leads) (owns_same a b f mine rest notes.share up.owns) (still_live a b rest up.live)

  -- the body went on without a call
  pub on_gone : IsUp p a → Goes a b → IsOn p p a b told told
  on_gone up goes =
      let f = fiber_of (carry_of a) in
      let notes : Notes (carry_of a) (carry_of b) [] = record {
        birth = ap (λ (c : Carry (Option Tree)). c.birth) goes.same;
        number = ap (λ (c : Carry (Option Tree)). c.number) goes.same;
        noted = ap (λ (c : Carry (Option Tree)). c.noted) goes.same ∙ sym (append-nil a.noted);
        owes = ap (λ (c : Carry (Option Tree)). c.owes) goes.same;
        share = ap (λ (c : Carry (Option Tree)). c.share) goes.same;
      } in
      let mine = own (log p.front f) in
      on_noted up notes (leads_gone a b f mine goes up.leads) (owns_between (script_in b.program) f mine b.standing goes.between) (between_live b.standing goes.between)

module _ {p q : Sight (Option Tree)} {a b : Shown} {told : Option (List ℕ)} where
  -- a call was refused
  pub on_spared : IsUp p a → Spared p q (carry_of a) (carry_of b) → IsSameRest a b → IsOn p q a b told told
  on_spared up spared rest =
      let f = fiber_of (carry_of a) in
      let logs : log q.front f ≡ log p.front f = (grew_others p q f spared.kept.grown spared.not_mine).log ∙ append-nil (log p.front f) in
      let leads = leads_same a b f (own (log p.front f)) rest spared.same.birth spared.same.share up.leads in
      record {
        went = went_spared p q (carry_of a) (carry_of b) told spared;
        up = up_led q b f spared.holds (same_number a b spared.same.number) up.fiber (subst (λ (hs : List Happened). LeadsTo b f (own hs)) (sym logs) leads)
            (subst (λ (hs : List Happened). Owns (script_in b.program) f (own hs) b.standing) (sym logs) (owns_same a b f (own (log p.front f)) rest spared.same.share up.owns)) (still_live a b rest up.live);
      }

  pub on_refused : (fault : PortFault) → IsUp p a → Refuses fault p q (carry_of a) (carry_of b) → IsSameRest a b → IsOn p q a b told told
  on_refused fault up refused rest = on_spared up refused.0 rest

-- a call was made, and its log leads the body on
pub on_lent : (p q : Sight (Option Tree)) (a d : Shown) (before now : Option (List ℕ)) (h : Happened) → IsUp p a → Lent p q (carry_of a) (carry_of d) h → h.entry.fiber ≡ fiber_of (carry_of a) → is_turn h.entry.call ≡ false → h.owing ≡ false → GoesOn h
    → Adds before now (readied (h ∷ [])) → LeadsTo d (fiber_of (carry_of a)) (own (log p.front (fiber_of (carry_of a))) ++ h ∷ [])
    → Owns (script_in d.program) (fiber_of (carry_of a)) (own (log p.front (fiber_of (carry_of a))) ++ h ∷ []) d.standing → d.standing ≢ Ended → IsOn p q a d before now
on_lent p q a d before now h up lent mine within free on line leads owns live =
    let f = fiber_of (carry_of a) in
    let logs : own (log q.front f) ≡ own (log p.front f) ++ h ∷ [] = ap own (grew_made p q f h lent.made mine within).log ∙ own-push (log p.front f) h free in
    record {
      went = went_lent p q (carry_of a) (carry_of d) before now h lent mine within on line;
      up = up_led q d f lent.holds (same_number a d lent.number) up.fiber (subst (LeadsTo d f) (sym logs) leads) (subst (λ (xs : List Happened). Owns (script_in d.program) f xs d.standing) (sym logs) owns) live;
    }

-- what a fiber owed was fulfilled: its own log is as before, and leads where it led
pub on_discharged : {p q : Sight (Option Tree)} {a d : Shown} {before now : Option (List ℕ)} → IsUp p a → Discharged p q (carry_of a) (carry_of d) before now
    → own (log q.front (fiber_of (carry_of a))) ≡ own (log p.front (fiber_of (carry_of a))) → IsSameRest a d → IsOn p q a d before now
on_discharged {p} {q} {a} {d} up done same rest =
    let f = fiber_of (carry_of a) in
    record {
      went = done.went;
      up = up_led q d f done.went.holds (same_number a d done.went.number) up.fiber
          (subst (LeadsTo d f) (sym same) (leads_same a d f (own (log p.front f)) rest done.birth done.share up.leads))
          (subst (λ (xs : List Happened). Owns (script_in d.program) f xs d.standing) (sym same) (owns_same a d f (own (log p.front f)) rest done.share up.owns)) (still_live a d rest up.live);
    }

-- a fault behind a part in which nobody was in the way
pub gave_up_after : (p q r : Sight (Option Tree)) (fault : PortFault) → p.contention ≤ q.contention → Calm p q → Faulted fault q r → Faulted fault p r
gave_up_after p q r Full steady calm why = why
gave_up_after p q r Again steady calm why = rose_from p.contention q.contention r.contention steady why
gave_up_after p q r Memory steady calm why = why ∙ calm

-- what holds behind any error
pub on_err : {A E : Type 0} (r : Result A E) (P : Type 0) → P → OnErr r P
on_err (Ok a) P p = tt
on_err (Err e) P p = p
