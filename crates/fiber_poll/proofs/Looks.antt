-- Statements that look at a trigger first: where the look leads.
use Rattle.std.proofs.Common.{◌≡◌, ◌≢◌, ℕ, ◌-◌, inl, Bool, true, false, cond, Option, Some, None, List, [], ◌∷◌, ◌++◌, slice_get, refl, sym, ap, subst, ◌∙◌}
use Rattle.std.specs.Option.{option_map}
use Rattle.pic_machine.specs.declared.entry.Call.TheVariants as asked
use Rattle.pic_machine.specs.declared.entry.Reply.TheVariants as reply
use Rattle.pic_machine.specs.declared.state.TrigState.{TrigState}
use Rattle.pic_machine.specs.declared.state.TrigState.TheVariants as trig
use Rattle.pic_machine.specs.declared.waits.Standing.{Standing as Under}
use Rattle.pic_machine.specs.Happened.{Happened}
use Rattle.pic_machine.specs.History.{event}
use Rattle.pic_machine.specs.Log.{log, own}
use Rattle.pic_machine.specs.Sight.{Sight, fiber_of}
use Rattle.pic_machine.specs.Waits.{over, taken, waits, woken}
use Rattle.fiber_await.specs.Doing.{Did}
use Rattle.script_tree.specs.declared.program.CompRef.{CompRef}
use Rattle.script_tree.specs.declared.program.Stmt.{Stmt}
use Rattle.script_tree.specs.declared.program.Stmt.TheVariants as stmt
use Rattle.script_tree.specs.Tree.{Tree}
use Rattle.fiber_body.specs.declared.standing.Exit.TheVariants.{Next, Raised}
use Rattle.fiber_body.specs.declared.standing.Standing.{Standing}
use Rattle.fiber_body.specs.declared.standing.Standing.TheVariants.{Within}
use Rattle.fiber_body.specs.declared.under_way.UnderWay.TheVariants.{Attaches}
use Rattle.fiber_body.specs.Context.{Context, comp_in, numbering, stepped, taken_already, under, with_register}
use Rattle.fiber_body.specs.Owns.{IsDeclared, OwnsAttachment, OwnsParts}
use Rattle.fiber_body.specs.Phases.{Attaching, Awaiting, Phase, answers, attaches_to, awaits_trigger, looking, looks, places, placing, suspending}
use Rattle.fiber_body.specs.Shown.{IsSameRest, Shown, carry_of, stood}
use Rattle.fiber_body.specs.Statements.{begins, named}
use Rattle.fiber_body.specs.Texts.{script_in}
use Rattle.fiber_body.specs.Triggers.{attaching_leads, awaiting_leads, phase_of}
use Rattle.fiber_poll.specs.declared.spot.Spot.{Spot}
use Rattle.fiber_poll.specs.Moving.{IsBefore, behind_at, first_of_wait, seen_by_wait}
use Rattle.fiber_poll.specs.UnderWay.{IsOn, IsUp}
use Rattle.fiber_poll.proofs.Amid.{Reached, ends, stands}
use Rattle.fiber_poll.proofs.Stages.{KeptBehind, on_begun, stepped_there}

-- ---- await: its trigger is looked at

abbrev seen_phase : Bool → TrigState → Awaiting
seen_phase permitted trig.Initial = cond permitted placing (suspending (waits None))
seen_phase permitted trig.Signalled = suspending (over woken)
seen_phase permitted (trig.Awaiting action) = suspending (over taken)

seen_leads : (u : Under) (state : TrigState) → awaiting_leads u looking (reply.Seen state) ≡ Some (seen_phase u.permitted state)
seen_leads u trig.Initial = refl
seen_leads u trig.Signalled = refl
seen_leads u (trig.Awaiting action) = refl

first_phase : (permitted : Bool) (t : ℕ) (c : Context) → phase_of c (first_of_wait permitted t) ≡ awaits_trigger t (cond permitted placing (suspending (waits None)))
first_phase true t c = refl
first_phase false t c = refl

first_kept : (permitted : Bool) (t : ℕ) (tree : Tree) (f : ℕ) (mine : List Happened) → IsDeclared tree t → OwnsParts tree f mine (first_of_wait permitted t)
first_kept true t tree f mine declared = declared
first_kept false t tree f mine declared = record { known = λ none. cc; trigger = declared; at = inl refl; place = λ two. tt }

seen_reached : (tree : Tree) (f : ℕ) (mine : List Happened) (b : Shown) (spot : Spot) (c : Context) (t : ℕ) (state : TrigState) → IsDeclared tree t
    → Reached (OwnsParts tree f mine) b spot c (awaits_trigger t (seen_phase c.permitted state)) (record b { standing = seen_by_wait spot c.permitted t state; context = c })
seen_reached tree f mine b spot c t trig.Initial declared = stands (first_of_wait c.permitted t) (first_phase c.permitted t c) (first_kept c.permitted t tree f mine declared) refl
seen_reached tree f mine b spot c t trig.Signalled declared = ends Next c refl refl
seen_reached tree f mine b spot c t (trig.Awaiting action) declared = ends (Raised taken_already) c refl refl

pub on_seen : {p q : Sight (Option Tree)} (a b : Shown) {d : Shown} (told : Option (List ℕ)) (spot : Spot) (place t : ℕ) (state : TrigState) (there : Standing) (steps : ℕ) → IsUp p a → IsBefore a spot (stmt.Await place)
    → slice_get (numbering (script_in a.program).decls).triggers place ≡ Some t → IsDeclared (script_in a.program) t → Did p q (carry_of a) (carry_of b) (event (fiber_of (carry_of a)) (asked.Look t) (reply.Seen state) ∷ []) → IsSameRest a b
    → there ≡ seen_by_wait spot a.context.permitted t state → steps ≡ b.context.steps → d ≡ stood b there (steps - 1) → IsOn p q a d told told
on_seen {p} a b told spot place t state there steps up before number declared did same there_is left is =
    let f = fiber_of (carry_of a) in
    let c : Context = stepped a.context in
    let h : Happened = event f (asked.Look t) (reply.Seen state) in
    let next : Phase = awaits_trigger t (seen_phase c.permitted state) in
    on_begun a b told spot (stmt.Await place) (asked.Look t) (reply.Seen state) (awaits_trigger t looking) next up before tt
    (ap (λ (o : Option ℕ). named o (stmt.Await place) (λ n. awaits_trigger n looking)) number) refl refl (ap (λ (o : Option Awaiting). option_map (awaits_trigger t) o) (seen_leads (under c) state)) did same
    (subst (Reached (KeptBehind p a h) b spot c next) (sym (stepped_there same there_is left is)) (seen_reached (script_in a.program) f (own (log p.front f) ++ h ∷ []) b spot c t state declared))

-- ---- attach: its trigger is looked at

-- the statement names this computation and this trigger
abbrev pub NamesBoth : Shown → CompRef → ℕ → ℕ → ℕ → Type 0
NamesBoth a comp place k t = (comp_in (numbering (script_in a.program).decls).comps comp ≡ Some k) × (slice_get (numbering (script_in a.program).decls).triggers place ≡ Some t)

attach_begins : (a : Shown) (r : ℕ) (comp : CompRef) (place k t : ℕ) → NamesBoth a comp place k t → begins (numbering (script_in a.program).decls) (stepped a.context) (stmt.Attach r comp place) ≡ attaches_to r k t looks
attach_begins a r comp place k t numbers =
    let one : Stmt = stmt.Attach r comp place in
    let triggers = (numbering (script_in a.program).decls).triggers in
    ap (λ (o : Option ℕ). named o one (λ m. named (slice_get triggers place) one (λ n. attaches_to r m n looks))) numbers.0 ∙ ap (λ (o : Option ℕ). named o one (λ n. attaches_to r k n looks)) numbers.1

pub on_signalled : {p q : Sight (Option Tree)} (a b : Shown) {d : Shown} (told : Option (List ℕ)) (spot : Spot) (r : ℕ) (comp : CompRef) (place k t : ℕ) (steps : ℕ) (there : Standing) (e : Shown) → IsUp p a → IsBefore a spot (stmt.Attach r comp place)
    → NamesBoth a comp place k t → Did p q (carry_of a) (carry_of b) (event (fiber_of (carry_of a)) (asked.Look t) (reply.Seen trig.Signalled) ∷ []) → IsSameRest a b → steps ≡ b.context.steps
    → e ≡ record b { context = with_register b.context r 0 } → there ≡ behind_at spot Next → d ≡ stood e there (steps - 1) → IsOn p q a d told told
on_signalled {p} a b {d} told spot r comp place k t steps there e up before numbers did same left set there_is is =
    let c : Context = stepped a.context in
    let there_so : d ≡ record b { standing = behind_at spot Next; context = with_register c r 0 } =
    is ∙ (ap (λ (z : Shown). stood z there (steps - 1)) set ∙ (ap (λ (st : Standing). record b { standing = st; context = record (with_register b.context r 0) { steps = steps - 1 } }) there_is
    ∙ (ap (λ (n : ℕ). record b { standing = behind_at spot Next; context = record (with_register b.context r 0) { steps = n - 1 } }) left
    ∙ ap (λ (x : Context). record b { standing = behind_at spot Next; context = with_register (stepped x) r 0 }) same.context))) in
    on_begun a b told spot (stmt.Attach r comp place) (asked.Look t) (reply.Seen trig.Signalled) (attaches_to r k t looks) (attaches_to r k t (answers 0)) up before tt
    (attach_begins a r comp place k t numbers) refl refl refl did same (ends Next (with_register c r 0) refl there_so)

looks_on : (state : TrigState) → state ≢ trig.Signalled → attaching_leads looks (reply.Seen state) ≡ Some places
looks_on trig.Initial other = refl
looks_on trig.Signalled other = absurd (other refl)
looks_on (trig.Awaiting action) other = refl

pub on_looked : {p q : Sight (Option Tree)} (a b : Shown) {d : Shown} (told : Option (List ℕ)) (spot : Spot) (r : ℕ) (comp : CompRef) (place k t : ℕ) (state : TrigState) (steps : ℕ) (there : Standing) → IsUp p a → IsBefore a spot (stmt.Attach r comp place)
    → NamesBoth a comp place k t → OwnsAttachment (script_in a.program) r k t → state ≢ trig.Signalled → Did p q (carry_of a) (carry_of b) (event (fiber_of (carry_of a)) (asked.Look t) (reply.Seen state) ∷ []) → IsSameRest a b
    → there ≡ Within spot.block spot.place (Attaches r k t None) → steps ≡ b.context.steps → d ≡ stood b there (steps - 1) → IsOn p q a d told told
on_looked a b told spot r comp place k t state steps there up before numbers owned other did same there_is left is =
    on_begun a b told spot (stmt.Attach r comp place) (asked.Look t) (reply.Seen state) (attaches_to r k t looks) (attaches_to r k t places) up before tt
    (attach_begins a r comp place k t numbers) refl refl (ap (λ (o : Option Attaching). option_map (attaches_to r k t) o) (looks_on state other)) did same
    (stands (Attaches r k t None) refl (owned, tt) (stepped_there same there_is left is))
