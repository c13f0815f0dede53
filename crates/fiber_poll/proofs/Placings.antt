-- Statements that look at a trigger first: where their further calls lead.
use Rattle.std.proofs.Common.{◌≡◌, ◌≢◌, ℕ, ◌⊎◌, inl, Option, Some, None, List, [], ◌∷◌, ◌++◌, not, refl, sym, ap, subst, ◌∙◌}
use Rattle.std.specs.List.{AllByRecursion}
use Rattle.std.specs.Option.{IfSome, option_map}
use Rattle.std.specs.Prelude.{Ok}
use Rattle.pic_machine.specs.declared.entry.AttachReply.{AttachReply}
use Rattle.pic_machine.specs.declared.entry.Call.TheVariants as asked
use Rattle.pic_machine.specs.declared.entry.Reply.TheVariants as reply
use Rattle.pic_machine.specs.declared.waits.Parts.{Parts}
use Rattle.pic_machine.specs.declared.waits.Standing.{Standing as Under}
use Rattle.pic_machine.specs.Happened.{Happened}
use Rattle.pic_machine.specs.History.{NumbersFit, Takes, event}
use Rattle.pic_machine.specs.Log.{is_due, is_logged, log, own}
use Rattle.pic_machine.specs.Sight.{Carry, Sight, fiber_of}
use Rattle.pic_machine.specs.Waits.{Waiting, arming, awake, over, told, waiting, waiting_at, waits}
use Rattle.pic_machine.proofs.NumbersByLog.{each_kept}
use Rattle.fiber_await.specs.declared.ahead.Ahead.{Ahead}
use Rattle.fiber_await.specs.declared.ahead.Ahead.TheVariants as ahead
use Rattle.fiber_await.specs.Doing.{Did, Ran}
use Rattle.fiber_await.specs.Phases.{trigger_of, unsuspended_at}
use Rattle.fiber_await.proofs.Running.{goes_own}
use Rattle.script_tree.specs.Tree.{Tree}
use Rattle.fiber_body.specs.declared.standing.Exit.TheVariants.{Next, Raised}
use Rattle.fiber_body.specs.declared.standing.Standing.{Standing}
use Rattle.fiber_body.specs.declared.standing.Standing.TheVariants.{Within}
use Rattle.fiber_body.specs.declared.under_way.UnderWay.{UnderWay}
use Rattle.fiber_body.specs.declared.under_way.UnderWay.TheVariants.{Places, Awaits, Awake, Attaches}
use Rattle.fiber_body.specs.Context.{Context, limit_met, under, with_register}
use Rattle.fiber_body.specs.Owns.{OwnsAttachment, OwnsParts, OwnsPlace}
use Rattle.fiber_body.specs.Phases.{Attaching, Awaiting, Phase, answers, attaches, attaches_to, awaits_trigger, finds_no_place, placing, places, suspending, unplaced}
use Rattle.fiber_body.specs.Shown.{IsSameRest, Shown, carry_of, stood}
use Rattle.fiber_body.specs.Tables.{ends_by, settles}
use Rattle.fiber_body.specs.Texts.{script_in}
use Rattle.fiber_body.specs.Triggers.{attached_number, attaching_leads, awaiting_leads, phase_of, trigger_in}
use Rattle.fiber_poll.specs.declared.spot.Spot.{Spot}
use Rattle.fiber_poll.specs.Moving.{behind_at, exit_of, placed, placed_for_attachment, placed_for_wait}
use Rattle.fiber_poll.specs.UnderWay.{IsOn, IsUp}
use Rattle.fiber_poll.proofs.Amid.{LeadsAmid, Reached, amid_rides, amid_standing, ends, on_amid, own_did, stands}
use Rattle.fiber_poll.proofs.Stages.{KeptBehind, on_within, stands_there, within_up}

-- ---- places

-- a place that was just made is the fiber's own
abbrev pub MayTake : Sight (Option Tree) → ℕ → ℕ → Type 0
MayTake port f place = (comp trigger : ℕ) → NumbersFit port.origin port.front f (asked.Attach place comp trigger)

owns_placed : (p q : Sight (Option Tree)) (a b : Carry (Option Tree)) (n : ℕ) → Did p q a b (event (fiber_of a) asked.NewPlace (reply.Made n) ∷ []) → MayTake q (fiber_of a) n
    → OwnsPlace (fiber_of a) (own (log p.front (fiber_of a)) ++ event (fiber_of a) asked.NewPlace (reply.Made n) ∷ []) n
owns_placed p q a b n did free =
    let f = fiber_of a in
    let h : Happened = event f asked.NewPlace (reply.Made n) in
    let Apart : Happened → Type 0 = λ x. Takes n x → ⊥ in (
      record { front = own (log p.front f); back = []; is = refl },
      subst (AllByRecursion Apart) (own_did p q a b (h ∷ []) refl did)
          (each_kept (λ (x : Happened). not (is_due x)) Apart (log q.front f) (each_kept (is_logged f) Apart q.front (free 0 0).1)),
    )

abbrev placed_phase : Option ℕ → Awaiting
placed_phase (Some n) = suspending (waits (Some n))
placed_phase None = unplaced

placed_leads : (u : Under) (place : Option ℕ) → awaiting_leads u placing (placed place) ≡ Some (placed_phase place)
placed_leads u (Some n) = refl
placed_leads u None = refl

placed_reached : (tree : Tree) (f t : ℕ) (mine : List Happened) (b : Shown) (spot : Spot) (c : Context) (place : Option ℕ) → OwnsParts tree f mine (Places t) → IfSome place (OwnsPlace f mine)
    → Reached (OwnsParts tree f mine) b spot c (awaits_trigger t (placed_phase place)) (record b { standing = placed_for_wait spot t place; context = c })
placed_reached tree f t mine b spot c (Some n) declared own_place =
    stands (Awaits (record { trigger = Some t; place = Some n; second = None; at = 2 })) refl (record { known = λ none. cc; trigger = declared; at = inl refl; place = λ two. own_place }) refl
placed_reached tree f t mine b spot c None declared own_place = ends (Raised limit_met) c refl refl

abbrev placed_there : Option ℕ → Attaching
placed_there (Some n) = attaches n
placed_there None = finds_no_place

there_leads : (place : Option ℕ) → attaching_leads places (placed place) ≡ Some (placed_there place)
there_leads (Some n) = refl
there_leads None = refl

there_reached : (tree : Tree) (f r k t : ℕ) (mine : List Happened) (b : Shown) (spot : Spot) (c : Context) (place : Option ℕ) → OwnsAttachment tree r k t → IfSome place (OwnsPlace f mine)
    → Reached (OwnsParts tree f mine) b spot c (attaches_to r k t (placed_there place)) (record b { standing = placed_for_attachment spot r k t place; context = c })
there_reached tree f r k t mine b spot c (Some n) owned own_place = stands (Attaches r k t (Some n)) refl (owned, own_place) refl
there_reached tree f r k t mine b spot c None owned own_place = ends (Raised limit_met) c refl refl

-- what is had of the place, whether one was made or not
if_placed : (p q : Sight (Option Tree)) (a b : Carry (Option Tree)) (place : Option ℕ) → Did p q a b (event (fiber_of a) asked.NewPlace (placed place) ∷ []) → IfSome place (MayTake q (fiber_of a))
    → IfSome place (OwnsPlace (fiber_of a) (own (log p.front (fiber_of a)) ++ event (fiber_of a) asked.NewPlace (placed place) ∷ []))
if_placed p q a b (Some n) did free = owns_placed p q a b n did free
if_placed p q a b None did free = tt

pub on_placed : {p q : Sight (Option Tree)} (a b : Shown) {d : Shown} (line : Option (List ℕ)) (spot : Spot) (t : ℕ) (place : Option ℕ) (there : Standing) (steps : ℕ) → IsUp p a → a.standing ≡ Within spot.block spot.place (Places t)
    → Did p q (carry_of a) (carry_of b) (event (fiber_of (carry_of a)) asked.NewPlace (placed place) ∷ []) → IfSome place (MayTake q (fiber_of (carry_of a))) → IsSameRest a b
    → there ≡ placed_for_wait spot t place → steps ≡ b.context.steps → d ≡ stood b there steps → IsOn p q a d line line
on_placed {p} {q} a b line spot t place there steps up at did free same there_is left is =
    let f = fiber_of (carry_of a) in
    let h : Happened = event f asked.NewPlace (placed place) in
    let mine = own (log p.front f) ++ h ∷ [] in
    let declared = (within_up spot (Places t) up at).1 in
    on_within a b line spot (Places t) asked.NewPlace (placed place) (awaits_trigger t (placed_phase place)) up at refl refl
    (ap (λ (o : Option Awaiting). option_map (awaits_trigger t) o) (placed_leads (under a.context) place)) did same
    (subst (Reached (KeptBehind p a h) b spot a.context (awaits_trigger t (placed_phase place))) (sym (stands_there same there_is left is))
    (placed_reached (script_in a.program) f t mine b spot a.context place declared (if_placed p q (carry_of a) (carry_of b) place did free)))

pub on_placed_there : {p q : Sight (Option Tree)} (a b : Shown) {d : Shown} (line : Option (List ℕ)) (spot : Spot) (r k t : ℕ) (place : Option ℕ) (there : Standing) (steps : ℕ) → IsUp p a → a.standing ≡ Within spot.block spot.place (Attaches r k t None)
    → Did p q (carry_of a) (carry_of b) (event (fiber_of (carry_of a)) asked.NewPlace (placed place) ∷ []) → IfSome place (MayTake q (fiber_of (carry_of a))) → IsSameRest a b
    → there ≡ placed_for_attachment spot r k t place → steps ≡ b.context.steps → d ≡ stood b there steps → IsOn p q a d line line
on_placed_there {p} {q} a b line spot r k t place there steps up at did free same there_is left is =
    let f = fiber_of (carry_of a) in
    let h : Happened = event f asked.NewPlace (placed place) in
    let mine = own (log p.front f) ++ h ∷ [] in
    let owned = (within_up spot (Attaches r k t None) up at).1 in
    on_within a b line spot (Attaches r k t None) asked.NewPlace (placed place) (attaches_to r k t (placed_there place)) up at refl refl
    (ap (λ (o : Option Attaching). option_map (attaches_to r k t) o) (there_leads place)) did same
    (subst (Reached (KeptBehind p a h) b spot a.context (attaches_to r k t (placed_there place))) (sym (stands_there same there_is left is))
    (there_reached (script_in a.program) f r k t mine b spot a.context place owned.0 (if_placed p q (carry_of a) (carry_of b) place did free)))

-- ---- the trigger is attached

pub on_attached : {p q : Sight (Option Tree)} (a b : Shown) {d : Shown} (line : Option (List ℕ)) (spot : Spot) (r k t place : ℕ) (how : AttachReply) (n : ℕ) (e : Shown) (there : Standing) (steps : ℕ) → IsUp p a → a.standing ≡ Within spot.block spot.place (Attaches r k t (Some place))
    → Did p q (carry_of a) (carry_of b) (event (fiber_of (carry_of a)) (asked.Attach place k t) (reply.Attached how) ∷ []) → IsSameRest a b
    → n ≡ attached_number how → e ≡ record b { context = with_register b.context r n } → there ≡ behind_at spot Next → steps ≡ e.context.steps → d ≡ stood e there steps → IsOn p q a d line line
on_attached a b {d} line spot r k t place how n e there steps up at did same number set there_is left is =
    let there_so : d ≡ record b { standing = behind_at spot Next; context = with_register a.context r (attached_number how) } =
    is ∙ (ap (λ (st : Standing). stood e st steps) there_is ∙ (ap (λ (m : ℕ). stood e (behind_at spot Next) m) left
    ∙ (ap (λ (z : Shown). record z { standing = behind_at spot Next }) set ∙ (ap (λ (m : ℕ). record b { standing = behind_at spot Next; context = with_register b.context r m }) number
    ∙ ap (λ (x : Context). record b { standing = behind_at spot Next; context = with_register x r (attached_number how) }) same.context)))) in
    on_within a b line spot (Attaches r k t (Some place)) (asked.Attach place k t) (reply.Attached how) (attaches_to r k t (answers (attached_number how))) up at refl refl refl did same
    (ends Next (with_register a.context r (attached_number how)) refl there_so)

-- ---- a wait goes by its routine

rides : {p q : Sight (Option Tree)} (a b : Shown) {d : Shown} (line : Option (List ℕ)) (spot : Spot) (way : UnderWay) (t : ℕ) (x y : Waiting) → IsUp p a → a.standing ≡ Within spot.block spot.place way → phase_of a.context way ≡ awaits_trigger t (suspending x)
    → IsSameRest a b → (ran : Ran (waiting (under a.context) (fiber_of (carry_of a)) t) p q (carry_of a) (carry_of b) x y)
    → Reached (OwnsParts (script_in a.program) (fiber_of (carry_of a)) (own (log p.front (fiber_of (carry_of a))) ++ ran.es)) b spot a.context (awaits_trigger t (suspending y)) d → IsOn p q a d line line
rides {p} a b line spot way t x y up at phase same ran reached =
    let f = fiber_of (carry_of a) in
    let mine = own (log p.front f) in
    on_amid line spot a.context (awaits_trigger t (suspending y)) ran.es up ran.did same.frames (goes_own (waiting (under a.context) f t) f ran.goes) (within_up spot way up at).0
    (amid_rides a f spot a.context t mine ran.goes (subst (λ (ph : Phase). LeadsAmid a f spot mine ph a.context) phase (amid_standing a f spot mine way at up.leads))) reached

-- the same, of what the fiber waits under
pub ran_under : {p q : Sight (Option Tree)} {a b : Carry (Option Tree)} {f t : ℕ} {u v : Under} (x y : Under → Waiting) → u ≡ v → Ran (waiting u f t) p q a b (x u) (y u) → Ran (waiting v f t) p q a b (x v) (y v)
ran_under {p} {q} {a} {b} {f} {t} x y same ran = subst (λ (w : Under). Ran (waiting w f t) p q a b (x w) (y w)) same ran

-- and of a phase that is known better
pub ran_to : {p q : Sight (Option Tree)} {a b : Carry (Option Tree)} (u : Under) (f t : ℕ) {x y : Waiting} (z : Waiting) → y ≡ z → Ran (waiting u f t) p q a b x y → Ran (waiting u f t) p q a b x z
ran_to {p} {q} {a} {b} u f t {x} z same ran = subst (Ran (waiting u f t) p q a b x) same ran

-- its first half, up to the arming
by_place : (P : ℕ → Type 0) (place : Option ℕ) → waits place ≡ arming → IfSome place P
by_place P (Some n) is = absurd cc
by_place P None is = tt

keeps_no_place : (u : Under) (parts : Parts) (P : ℕ → Type 0) → waiting_at u parts.at parts ≡ arming → parts.at ≡ 2 → IfSome parts.place P
keeps_no_place u parts P go two = by_place P parts.place (subst (λ (n : ℕ). waiting_at u n parts ≡ arming) two go)

pub on_ready : {p q : Sight (Option Tree)} (a b : Shown) {d : Shown} (line : Option (List ℕ)) (spot : Spot) (parts later : Parts) (there : Standing) (steps : ℕ) → IsUp p a → a.standing ≡ Within spot.block spot.place (Awaits parts) → IsSameRest a b
    → Ran (waiting (under a.context) (fiber_of (carry_of a)) (trigger_of parts)) p q (carry_of a) (carry_of b) (waiting_at (under a.context) parts.at parts) (waiting_at (under a.context) later.at later) → waiting_at (under a.context) later.at later ≡ arming
    → later ≡ record parts { at = later.at } → (later.at ≡ 2) ⊎ (later.at ≡ 3) → there ≡ Within spot.block spot.place (Awaits later) → steps ≡ b.context.steps → d ≡ stood b there steps → IsOn p q a d line line
on_ready {p} a b line spot parts later there steps up at same ran go so stage there_is left is =
    let f = fiber_of (carry_of a) in
    let kept = (within_up spot (Awaits parts) up at).1 in
    let trigger : later.trigger ≡ parts.trigger = ap (λ (x : Parts). x.trigger) so in
    let x = waiting_at (under a.context) later.at later in
    rides a b line spot (Awaits parts) (trigger_of parts) (waiting_at (under a.context) parts.at parts) x up at refl same ran
    (stands (Awaits later) (ap (λ (o : Option ℕ). awaits_trigger (trigger_in (record later { trigger = o })) (suspending x)) trigger)
    (record { known = subst (λ (o : Option ℕ). o ≢ None) (sym trigger) kept.known; trigger = rw trigger kept.trigger; at = stage; place = keeps_no_place (under a.context) later (OwnsPlace f (own (log p.front f) ++ ran.es)) go })
    (stands_there same there_is left is))

-- where it was told of the cancellation
pub on_told : {p q : Sight (Option Tree)} (a b : Shown) {d : Shown} (line : Option (List ℕ)) (spot : Spot) (parts : Parts) (code : ℕ) (there : Standing) (steps : ℕ) → IsUp p a → a.standing ≡ Within spot.block spot.place (Awaits parts) → IsSameRest a b
    → Ran (waiting (under a.context) (fiber_of (carry_of a)) (trigger_of parts)) p q (carry_of a) (carry_of b) (waiting_at (under a.context) parts.at parts) (over (told code))
    → there ≡ behind_at spot (Raised code) → steps ≡ b.context.steps → d ≡ stood b there steps → IsOn p q a d line line
on_told a b line spot parts code there steps up at same ran there_is left is =
    rides a b line spot (Awaits parts) (trigger_of parts) (waiting_at (under a.context) parts.at parts) (over (told code)) up at refl same ran (ends (Raised code) a.context refl (stands_there same there_is left is))

-- its second half
woken_row : (c : Context) (t : ℕ) (how : Ahead) → settles c (awaits_trigger t (suspending (unsuspended_at (under c) (Ok how)))) ≡ Some (ends_by (exit_of how) c)
woken_row c t ahead.Go = refl
woken_row c t (ahead.Cancelled code) = refl

pub on_woken : {p q : Sight (Option Tree)} (a b : Shown) {d : Shown} (line : Option (List ℕ)) (spot : Spot) (t : ℕ) (how : Ahead) (there : Standing) (steps : ℕ) → IsUp p a → a.standing ≡ Within spot.block spot.place (Awake t) → IsSameRest a b
    → Ran (waiting (under a.context) (fiber_of (carry_of a)) t) p q (carry_of a) (carry_of b) (awake (under a.context)) (unsuspended_at (under a.context) (Ok how))
    → there ≡ behind_at spot (exit_of how) → steps ≡ b.context.steps → d ≡ stood b there steps → IsOn p q a d line line
on_woken a b line spot t how there steps up at same ran there_is left is =
    rides a b line spot (Awake t) t (awake (under a.context)) (unsuspended_at (under a.context) (Ok how)) up at refl same ran
    (ends (exit_of how) a.context (woken_row a.context t how) (stands_there same there_is left is))
