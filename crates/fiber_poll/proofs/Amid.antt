-- Statements of more than one call: where their calls lead, and where the body stands then.
use Rattle.std.proofs.Common.{◌≡◌, ◌≢◌, ℕ, ◌+◌, ◌^◌, ◌<◌, Option, Some, None, List, [], ◌∷◌, ◌++◌, refl, sym, ap, subst, ◌∙◌, append_assoc, append-nil}
use Rattle.std.specs.Option.{option_map}
use Rattle.pic_base.specs.declared.action.Action.TheVariants.{Resume}
use Rattle.pic_machine.specs.declared.entry.Call.{Call}
use Rattle.pic_machine.specs.declared.entry.Call.TheVariants as asked
use Rattle.pic_machine.specs.declared.entry.Reply.{Reply}
use Rattle.pic_machine.specs.Happened.{Happened}
use Rattle.pic_machine.specs.History.{event}
use Rattle.pic_machine.specs.Log.{log, own}
use Rattle.pic_machine.specs.Following.{Following, finished as done, following, following_asks, peeking, placing as placed, readying, refused, suspending as suspended}
use Rattle.pic_machine.specs.Routine.{Goes as GoesBy, Routine, goes, stays}
use Rattle.pic_machine.specs.Sight.{Carry, Sight, fiber_of}
use Rattle.pic_machine.specs.Turning.{Went}
use Rattle.pic_machine.specs.Waits.{Waiting, arming, attaching, checking, full, made, over, place as making_place, taken, told, trigger as making_trigger, waiting, waiting_asks, woken}
use Rattle.pic_machine.proofs.Owns.{own-append}
use Rattle.fiber_await.specs.Doing.{Did}
use Rattle.fiber_await.proofs.Running.{did_went}
use Rattle.script_tree.specs.declared.program.Stmt.{Stmt}
use Rattle.script_tree.specs.Tree.{Tree}
use Rattle.fiber_body.specs.declared.standing.Exit.{Exit}
use Rattle.fiber_body.specs.declared.standing.Standing.{Standing}
use Rattle.fiber_body.specs.declared.standing.Standing.TheVariants.{At, Within, Ended}
use Rattle.fiber_body.specs.declared.under_way.UnderWay.{UnderWay}
use Rattle.fiber_body.specs.Around.{Leads, Outer, at_stmt, rest, within}
use Rattle.fiber_body.specs.Context.{Context, Setting, numbering, stepped, under}
use Rattle.fiber_body.specs.Fits.{LeadsTo, setting_of}
use Rattle.fiber_body.specs.Follows.{context_of}
use Rattle.fiber_body.specs.Framing.{ends_ahead, leads_entry}
use Rattle.fiber_body.specs.Owns.{Owns, OwnsParts}
use Rattle.fiber_body.specs.Phases.{Phase, awaits_comp, awaits_trigger, lives, suspending}
use Rattle.fiber_body.specs.Segments.{happens}
use Rattle.fiber_body.specs.Shown.{IsSameRest, Shown, carry_of}
use Rattle.fiber_body.specs.Statements.{begins, born}
use Rattle.fiber_body.specs.Tables.{asks, ends_by, leads, settles}
use Rattle.fiber_body.specs.Texts.{block_in, script_in}
use Rattle.fiber_body.specs.Triggers.{phase_of}
use Rattle.fiber_poll.specs.declared.spot.Spot.{Spot}
use Rattle.fiber_poll.specs.Moving.{CostsStep, IsBefore, IsBetween, behind_at}
use Rattle.fiber_poll.specs.UnderWay.{IsOn, IsUp}
use Rattle.fiber_poll.proofs.Going.{between_live, leads_same, owns_between, owns_same, same_number, still_live, up_led}
use Rattle.fiber_poll.proofs.Moves.{behind, behind_between, costly, framed, stands_at}

-- ---- the log leads to a phase of the statement at a place

module _ (a : Shown) (f : ℕ) (spot : Spot) where
  abbrev s : Setting
  s = setting_of a f

  abbrev outer : List Outer
  outer = rest spot.block (spot.place + 1) ∷ framed a.frames

  abbrev pub LeadsAmid : List Happened → Phase → Context → Type 0
  LeadsAmid mine p c = Leads s (lives (block_in a.program a.birth.text)) (context_of a.birth) mine (within p) outer c

  -- it begins there
  pub amid_begun : (mine : List Happened) (one : Stmt) (p : Phase) → IsBefore a spot one → CostsStep one → begins (numbering (script_in a.program).decls) (stepped a.context) one ≡ p → LeadsTo a f mine → LeadsAmid mine p (stepped a.context)
  amid_begun mine one p before costs is leads =
      let there : Leads s (lives (block_in a.program a.birth.text)) (context_of a.birth) mine (at_stmt spot.block spot.place) (framed a.frames) a.context =
      subst (λ (x : Shown). LeadsTo x f mine) (stands_at a (At spot.block spot.place) before.here.at) leads in
      subst (λ (q : Phase). LeadsAmid mine q (stepped a.context)) is
      (λ tail y e ahead. there tail y e (costly s spot a.frames one a.context costs before.here.is before.steps tail y e ahead))

  -- the body stands there
  pub amid_standing : (mine : List Happened) (way : UnderWay) → a.standing ≡ Within spot.block spot.place way → LeadsTo a f mine → LeadsAmid mine (phase_of a.context way) a.context
  amid_standing mine way is leads = subst (λ (x : Shown). LeadsTo x f mine) (stands_at a (Within spot.block spot.place way) is) leads

  -- a call leads on from there
  pub amid_entry : (mine : List Happened) (p q : Phase) (c : Context) (call : Call) (reply : Reply) → born c call ≡ None → asks s c p ≡ Some call → leads c p reply ≡ Some q
      → LeadsAmid mine p c → LeadsAmid (mine ++ event f call reply ∷ []) q c
  amid_entry mine p q c call reply none asked led before =
      let h : Happened = happens f call reply (born c call) in
      let same : h ≡ event f call reply = ap (happens f call reply) none in
      subst (λ (x : Happened). LeadsAmid (mine ++ x ∷ []) q c) same (leads_entry s (lives (block_in a.program a.birth.text)) (context_of a.birth) mine outer call reply asked led before)

-- the calls of a wait make no fiber
no_birth : (c : Context) (f t : ℕ) (p : Waiting) (call : Call) → waiting_asks (under c) f t p ≡ Some call → born c call ≡ None
no_birth c f t (attaching place) call is = let same : asked.Attach place c.current t ≡ call = cc in subst (λ (k : Call). born c k ≡ None) same refl
no_birth c f t arming call is = let same : asked.Arm t (Resume f) ≡ call = cc in subst (λ (k : Call). born c k ≡ None) same refl
no_birth c f t checking call is = let same : asked.Peek c.current ≡ call = cc in subst (λ (k : Call). born c k ≡ None) same refl
no_birth c f t (over how) call is = absurd cc

no_birth_looked : (c : Context) (k : ℕ) (call : Call) → asked.Peek k ≡ call → born c call ≡ None
no_birth_looked c k call is = subst (λ (x : Call). born c x ≡ None) is refl

no_birth_either : (c : Context) (f k : ℕ) (p : Following) (call : Call) → following_asks (under c) f k p ≡ Some call → born c call ≡ None
no_birth_either c f k peeking call is = no_birth_looked c k call cc
no_birth_either c f k (readying making_trigger) call is = let same : asked.NewTrigger ≡ call = cc in subst (λ (x : Call). born c x ≡ None) same refl
no_birth_either c f k (readying (making_place t)) call is = let same : asked.NewPlace ≡ call = cc in subst (λ (x : Call). born c x ≡ None) same refl
no_birth_either c f k (readying (made t a)) call is = let same : asked.NewPlace ≡ call = cc in subst (λ (x : Call). born c x ≡ None) same refl
no_birth_either c f k (readying full) call is = absurd cc
no_birth_either c f k (placed t a b) call is = let same : asked.Attach b k t ≡ call = cc in subst (λ (x : Call). born c x ≡ None) same refl
no_birth_either c f k (suspended t (over woken)) call is = no_birth_looked c k call cc
no_birth_either c f k (suspended t (over (told code))) call is = let same : asked.Signal t ≡ call = cc in subst (λ (x : Call). born c x ≡ None) same refl
no_birth_either c f k (suspended t (over taken)) call is = absurd cc
no_birth_either c f k (suspended t (attaching place)) call is = no_birth c f t (attaching place) call is
no_birth_either c f k (suspended t arming) call is = no_birth c f t arming call is
no_birth_either c f k (suspended t checking) call is = no_birth c f t checking call is
no_birth_either c f k (done o) call is = absurd cc
no_birth_either c f k (refused code) call is = absurd cc

-- a statement leads on as a routine goes whose rows are its own
module _ {X : Type 0} (a : Shown) (f : ℕ) (spot : Spot) (c : Context) (r : Routine X) (up : X → Phase) (asks_so : (p : X) (call : Call) → r.asks p ≡ Some call → (asks (setting_of a f) c (up p) ≡ Some call) × (born c call ≡ None))
    (leads_so : (p q : X) (reply : Reply) → r.leads p reply ≡ Some q → leads c (up p) reply ≡ Some (up q)) where
  amid_goes : (mine : List Happened) {x y : X} {es : List Happened} → GoesBy r f x es y → LeadsAmid a f spot mine (up x) c → LeadsAmid a f spot (mine ++ es) (up y) c
  amid_goes mine {x} stays before = subst (λ (zs : List Happened). LeadsAmid a f spot zs (up x) c) (sym (append-nil mine)) before
  amid_goes mine {y = y} (goes {p} {m} {hs = hs} call reply asked led later) before =
      let h : Happened = event f call reply in
      let row = asks_so p call asked in
      let next = amid_entry a f spot mine (up p) (up m) c call reply row.1 row.0 (leads_so p m reply led) before in
      subst (λ (zs : List Happened). LeadsAmid a f spot zs (up y) c) (append_assoc mine (h ∷ []) hs) (amid_goes (mine ++ h ∷ []) later next)

module _ (a : Shown) (f : ℕ) (spot : Spot) (c : Context) where
  -- a wait for a trigger
  pub amid_rides : (t : ℕ) (mine : List Happened) {x y : Waiting} {es : List Happened} → GoesBy (waiting (under c) f t) f x es y → LeadsAmid a f spot mine (awaits_trigger t (suspending x)) c
      → LeadsAmid a f spot (mine ++ es) (awaits_trigger t (suspending y)) c
  amid_rides t mine rides =
      amid_goes a f spot c (waiting (under c) f t) (λ x. awaits_trigger t (suspending x)) (λ p call is. (is, no_birth c f t p call is))
      (λ p q reply is. ap (λ (o : Option Waiting). option_map (awaits_trigger t) (option_map suspending o)) is) mine rides

  -- a wait for a computation
  pub amid_follows : (r k : ℕ) (mine : List Happened) {x y : Following} {es : List Happened} → GoesBy (following (under c) f k) f x es y → LeadsAmid a f spot mine (awaits_comp r k x) c
      → LeadsAmid a f spot (mine ++ es) (awaits_comp r k y) c
  amid_follows r k mine follows =
      amid_goes a f spot c (following (under c) f k) (awaits_comp r k) (λ p call is. (is, no_birth_either c f k p call is))
      (λ p q reply is. ap (λ (o : Option Following). option_map (awaits_comp r k) o) is) mine follows

-- ---- the body stands where the statement came to

-- the phase is an end of the statement, which was made, or the body stands there with what it keeps
pub data Reached (Owned : UnderWay → Type 0) (body : Shown) (spot : Spot) (c : Context) (p : Phase) (new : Shown) : Type 0 where
  ends : (x : Exit) (d : Context) → settles c p ≡ Some (ends_by x d) → new ≡ record body { standing = behind_at spot x; context = d } → Reached Owned body spot c p new
  stands : (way : UnderWay) → phase_of c way ≡ p → Owned way → new ≡ record body { standing = Within spot.block spot.place way; context = c } → Reached Owned body spot c p new

carry_reached : {Owned : UnderWay → Type 0} (b : Shown) (spot : Spot) (c : Context) (p : Phase) (d : Shown) → Reached Owned b spot c p d → carry_of d ≡ carry_of b
carry_reached b spot c p d (ends x e row is) = ap carry_of is
carry_reached b spot c p d (stands way phase owned is) = ap carry_of is

module _ (a b : Shown) (f : ℕ) (spot : Spot) (c : Context) (p : Phase) (mine : List Happened) (d : Shown) (frames : b.frames ≡ a.frames) (birth : b.birth ≡ a.birth) (program : b.program ≡ a.program) where
  -- the body but for its place and context
  same_but : (there : Standing) (e : Context) → record b { standing = there; context = e } ≡ record a { number = b.number; standing = there; context = e; noted = b.noted; room = b.room; owes = b.owes }
  same_but there e = rw (frames, birth, program) refl

  abbrev Owned : UnderWay → Type 0
  Owned = OwnsParts (script_in a.program) f mine

  leads_reached : LeadsAmid a f spot mine p c → Reached Owned b spot c p d → LeadsTo d f mine
  leads_reached led (ends x e row is) =
      let s = setting_of a f in
      subst (λ (z : Shown). LeadsTo z f mine) (sym (is ∙ same_but (behind_at spot x) e))
      (λ tail y g ahead. led tail y g (ends_ahead s (rest spot.block (spot.place + 1) ∷ framed a.frames) row tail y g (behind s spot a.frames x e tail y g ahead)))
  leads_reached led (stands way phase owned is) =
      subst (λ (z : Shown). LeadsTo z f mine) (sym (is ∙ same_but (Within spot.block spot.place way) c)) (subst (λ (r : Phase). LeadsAmid a f spot mine r c) (sym phase) led)

  owns_reached : spot.place + 1 < 2 ^ 32 → Reached Owned b spot c p d → Owns (script_in d.program) f mine d.standing
  owns_reached room (ends x e row is) = owns_between (script_in d.program) f mine d.standing (subst IsBetween (sym (ap (λ (z : Shown). z.standing) is)) (behind_between spot x))
  owns_reached room (stands way phase owned is) =
      subst (λ (z : Shown). Owns (script_in z.program) f mine z.standing) (sym is)
      (subst (λ (tree : Option Tree). Owns (script_in tree) f mine (Within spot.block spot.place way)) (sym program) (room, owned))

  live_reached : Reached Owned b spot c p d → d.standing ≢ Ended
  live_reached (ends x e row is) = between_live d.standing (subst IsBetween (sym (ap (λ (z : Shown). z.standing) is)) (behind_between spot x))
  live_reached (stands way phase owned is) = λ ended. (let both : Within spot.block spot.place way ≡ Ended = sym (ap (λ (z : Shown). z.standing) is) ∙ ended in cc)

-- the fiber's own log grew by these entries
pub own_did : (p q : Sight (Option Tree)) (a b : Carry (Option Tree)) (es : List Happened) → own es ≡ es → Did p q a b es → own (log q.front (fiber_of a)) ≡ own (log p.front (fiber_of a)) ++ es
own_did p q a b es free did =
    ap own did.grew.log ∙ (own-append (log p.front (fiber_of a)) es ∙ ap (λ (zs : List Happened). own (log p.front (fiber_of a)) ++ zs) free)

-- a part of the turn went, and its entries lead the statement on
pub on_amid_went : {p q : Sight (Option Tree)} {a b d : Shown} {before now : Option (List ℕ)} (spot : Spot) (c : Context) (ph : Phase) (es : List Happened) → IsUp p a → Went p q (carry_of a) (carry_of b) before now → b.birth ≡ a.birth → b.program ≡ a.program
    → own (log q.front (fiber_of (carry_of a))) ≡ own (log p.front (fiber_of (carry_of a))) ++ es → b.frames ≡ a.frames → spot.place + 1 < 2 ^ 32
    → LeadsAmid a (fiber_of (carry_of a)) spot (own (log p.front (fiber_of (carry_of a))) ++ es) ph c
    → Reached (OwnsParts (script_in a.program) (fiber_of (carry_of a)) (own (log p.front (fiber_of (carry_of a))) ++ es)) b spot c ph d → IsOn p q a d before now
on_amid_went {p} {q} {a} {b} {d} {before} {now} spot c ph es up gone birth program logs frames room led reached =
    let f = fiber_of (carry_of a) in
    let mine = own (log p.front f) ++ es in
    let went : Went p q (carry_of a) (carry_of d) before now = subst (λ (z : Carry (Option Tree)). Went p q (carry_of a) z before now) (sym (carry_reached b spot c ph d reached)) gone in
    record {
      went = went;
      up = up_led q d f went.holds (same_number a d went.number) up.fiber
          (subst (LeadsTo d f) (sym logs) (leads_reached a b f spot c ph mine d frames birth program led reached))
          (subst (λ (xs : List Happened). Owns (script_in d.program) f xs d.standing) (sym logs) (owns_reached a b f spot c ph mine d frames birth program room reached))
          (live_reached a b f spot c ph mine d frames birth program reached);
    }

pub on_amid : {p q : Sight (Option Tree)} {a b d : Shown} (line : Option (List ℕ)) (spot : Spot) (c : Context) (ph : Phase) (es : List Happened) → IsUp p a → Did p q (carry_of a) (carry_of b) es → b.frames ≡ a.frames → own es ≡ es → spot.place + 1 < 2 ^ 32
    → LeadsAmid a (fiber_of (carry_of a)) spot (own (log p.front (fiber_of (carry_of a))) ++ es) ph c
    → Reached (OwnsParts (script_in a.program) (fiber_of (carry_of a)) (own (log p.front (fiber_of (carry_of a))) ++ es)) b spot c ph d → IsOn p q a d line line
on_amid {p} {q} {a} {b} {d} line spot c ph es up did frames free room led reached =
    on_amid_went spot c ph es up (did_went p q (carry_of a) (carry_of b) es line did) did.birth did.share (own_did p q (carry_of a) (carry_of b) es free did) frames room led reached

-- a call was refused, and the body stands where it stood
pub on_refusal : {p q : Sight (Option Tree)} {a d : Shown} (line : Option (List ℕ)) → IsUp p a → Did p q (carry_of a) (carry_of d) [] → IsSameRest a d → IsOn p q a d line line
on_refusal {p} {q} {a} {d} line up did same =
    let f = fiber_of (carry_of a) in
    let mine = own (log p.front f) in
    let logs : own (log q.front f) ≡ mine = own_did p q (carry_of a) (carry_of d) [] refl did ∙ append-nil mine in
    let went : Went p q (carry_of a) (carry_of d) line line = did_went p q (carry_of a) (carry_of d) [] line did in
    record {
      went = went;
      up = up_led q d f went.holds (same_number a d went.number) up.fiber
          (subst (LeadsTo d f) (sym logs) (leads_same a d f mine same did.birth did.share up.leads))
          (subst (λ (xs : List Happened). Owns (script_in d.program) f xs d.standing) (sym logs) (owns_same a d f mine same did.share up.owns))
          (still_live a d same up.live);
    }
