-- What each row of the tables makes of where a fiber stands, once for all statements: whatever may come of the
-- place behind it, may come of the place before it.
use Rattle.std.proofs.Common.{◌≡◌, ◌≢◌, ℕ, ◌+◌, List, [], ◌∷◌, ◌++◌, Some, drop, refl, sym, ap, subst, ◌∙◌, append_assoc, append-nil}
use Rattle.pic_machine.specs.declared.entry.Call.{Call}
use Rattle.pic_machine.specs.declared.entry.Reply.{Reply}
use Rattle.pic_machine.specs.Happened.{Happened}
use Rattle.script_tree.specs.declared.program.Stmt.{Stmt}
use Rattle.fiber_body.specs.declared.standing.Exit.{Exit}
use Rattle.fiber_body.specs.declared.standing.Exit.TheVariants.{Next, Spent}
use Rattle.fiber_body.specs.Around.{Ahead, Around, From, Leads, Outer, Place, Turns, at_stmt, out, rest, within, work}
use Rattle.fiber_body.specs.Context.{Context, Setting, block_at}
use Rattle.fiber_body.specs.Phases.{Phase, lives}
use Rattle.fiber_body.specs.Segments.{Acts, CanBegin, Extent, IsSpent, Runs, Stop, and_more, and_out, at, beginning, begun, between, cut, ends_so, finished, goes, happens, leaves_it, makes, no_step_left, rests, stops, stops_inside, whole}
use Rattle.fiber_body.specs.Statements.{born}
use Rattle.fiber_body.specs.Tables.{Work, asks, closing, encloses, ends_by, ends_text, goes_into, leads, settles}

module _ (s : Setting) where
  -- ---- a phase

  -- an entry more
  makes_ahead : {p q : Phase} {c : Context} (fs : List Outer) (call : Call) (reply : Reply) → asks s c p ≡ Some call → leads c p reply ≡ Some q
      → (tail : List Happened) (y : Extent) (d : Context) → Ahead s (within q) fs c tail y d → Ahead s (within p) fs c (happens s.fiber call reply (born c call) ∷ tail) y d
  makes_ahead {c = c} fs call reply asked led tail y d ahead =
      let h = happens s.fiber call reply (born c call) in
      record { front = h ∷ ahead.front; back = ahead.back; extent = ahead.extent; context = ahead.context; first = makes call reply asked led ahead.first; second = ahead.second; is = ap (λ (zs : List Happened). h ∷ zs) ahead.is }

  -- what has ended without an entry
  from_out : (place : Place) (c : Context) {e : Context} (fs : List Outer) (x : Exit) → From s place c [] (whole x) e → Turns s place fs c (out x) fs e
  from_out place c {e = e} fs x one tail y d ahead = record {
    front = [];
    back = ahead.back;
    extent = whole x;
    context = e;
    first = one;
    second = subst (λ (g : Context). Around s fs (whole x) g ahead.back y d) ahead.first.2
        (subst (λ (z : Extent). Around s fs z ahead.context ahead.back y d) ahead.first.1 ahead.second);
    is = ahead.is ∙ ap (λ (zs : List Happened). zs ++ ahead.back) ahead.first.0;
  }

  pub ends_ahead : {p : Phase} {c e : Context} {x : Exit} (fs : List Outer) → settles c p ≡ Some (ends_by x e) → Turns s (within p) fs c (out x) fs e
  ends_ahead {p = p} {c = c} {x = x} fs row = from_out (within p) c fs x (ends_so row)

  -- a block is all that is left of it
  pub goes_ahead : {p : Phase} {c e : Context} {b : ℕ} (fs : List Outer) → settles c p ≡ Some (goes_into b e) → Turns s (within p) fs c (at_stmt b 0) fs e
  goes_ahead fs row tail y d ahead = record { front = ahead.front; back = ahead.back; extent = ahead.extent; context = ahead.context; first = goes row ahead.first; second = ahead.second; is = ahead.is }

  -- its block is entered
  enters_by : {p : Phase} {c e : Context} {k : Work} {b : ℕ} (fs : List Outer) → settles c p ≡ Some (encloses k b e)
      → (y : Extent) (d : Context) (front back : List Happened) (z : Extent) (g : Context)
      → Runs s (block_at s.script.blocks b) e front z g → Around s (work k ∷ fs) z g back y d → Ahead s (within p) fs c (front ++ back) y d
  enters_by fs row y d front back (cut stop) g runs around = record { front = front; back = back; extent = cut stop; context = g; first = stops_inside row runs; second = around; is = refl }
  enters_by fs row y d front back (whole x) g runs around = record {
    front = front ++ around.front;
    back = around.back;
    extent = around.extent;
    context = around.context;
    first = leaves_it row runs around.first;
    second = around.second;
    is = ap (λ (zs : List Happened). front ++ zs) around.is ∙ sym (append_assoc front around.front around.back);
  }

  pub enters_ahead : {p : Phase} {c e : Context} {k : Work} {b : ℕ} (fs : List Outer) → settles c p ≡ Some (encloses k b e) → Turns s (within p) fs c (at_stmt b 0) (work k ∷ fs) e
  enters_ahead {p = p} {c = c} fs row tail y d ahead = subst (λ (zs : List Happened). Ahead s (within p) fs c zs y d) (sym ahead.is)
      (enters_by fs row y d ahead.front ahead.back ahead.extent ahead.context ahead.first ahead.second)

  -- ---- the end of a block

  -- what it has to do at its exit begins
  pub closes_ahead : (k : Work) (fs : List Outer) (x : Exit) (c : Context) → Turns s (out x) (work k ∷ fs) c (within (closing k x c)) fs c
  closes_ahead k fs x c tail y d ahead = record { front = []; back = tail; extent = whole x; context = c; first = (refl, refl, refl); second = ahead; is = refl }

  -- the block around goes on
  pub rest_ahead : (b p : ℕ) (fs : List Outer) (c : Context) → Turns s (out Next) (rest b p ∷ fs) c (at_stmt b p) fs c
  rest_ahead b p fs c tail y d ahead = record { front = []; back = tail; extent = whole Next; context = c; first = (refl, refl, refl); second = ahead; is = refl }

  -- what may come of other things around, may come of these
  around_ahead : (place : Place) (fs gs : List Outer) (c : Context) → ((front : List Happened) (z : Extent) (g : Context) → From s place c front z g
      → (back : List Happened) (y : Extent) (d : Context) → Around s gs z g back y d → Around s fs z g back y d) → Turns s place fs c place gs c
  around_ahead place fs gs c turns tail y d ahead = record {
    front = ahead.front;
    back = ahead.back;
    extent = ahead.extent;
    context = ahead.context;
    first = ahead.first;
    second = turns ahead.front ahead.extent ahead.context ahead.first ahead.back y d ahead.second;
    is = ahead.is;
  }

  -- any other exit passes the rest of a block
  passes : (b p : ℕ) (fs : List Outer) (z : Extent) (c : Context) (back : List Happened) (y : Extent) (d : Context)
      → z ≢ whole Next → Around s fs z c back y d → Around s (rest b p ∷ fs) z c back y d
  passes b p fs (whole Next) c back y d apart around = absurd (apart refl)
  passes b p fs z c back y d apart around = around

  pub passes_ahead : (b p : ℕ) (fs : List Outer) (x : Exit) (c : Context) → x ≢ Next → Turns s (out x) (rest b p ∷ fs) c (out x) fs c
  passes_ahead b p fs x c apart = around_ahead (out x) (rest b p ∷ fs) fs c
      (λ front z g first back y d around. passes b p fs z g back y d (λ e. let same : whole x ≡ whole Next = sym first.1 ∙ e in apart cc) around)

  -- where nothing is left of a block, it need not stand around
  nothing_left : (b p : ℕ) (fs : List Outer) → drop p (block_at s.script.blocks b) ≡ [] → (z : Extent) (c : Context) (back : List Happened) (y : Extent) (d : Context)
      → Around s fs z c back y d → Around s (rest b p ∷ fs) z c back y d
  nothing_left b p fs none (whole Next) c back y d around =
      record { front = []; back = back; extent = whole Next; context = c; first = subst (λ (ss : List Stmt). Runs s ss c [] (whole Next) c) (sym none) finished; second = around; is = refl }
  nothing_left b p fs none z c back y d around = around

  pub nothing_ahead : (place : Place) (b p : ℕ) (fs : List Outer) (c : Context) → drop p (block_at s.script.blocks b) ≡ [] → Turns s place (rest b p ∷ fs) c place fs c
  nothing_ahead place b p fs c none = around_ahead place (rest b p ∷ fs) fs c (λ front z g first back y d around. nothing_left b p fs none z g back y d around)

  -- ---- a statement of a block

  begins_by : (one : Stmt) (b p : ℕ) (fs : List Outer) (c : Context) (y : Extent) (d : Context) (front back : List Happened) (z : Extent) (g : Context)
      → drop p (block_at s.script.blocks b) ≡ one ∷ drop (p + 1) (block_at s.script.blocks b) → CanBegin one c → Acts s (beginning s c one) (begun one c) front z g
      → Around s (rest b (p + 1) ∷ fs) z g back y d → Ahead s (at_stmt b p) fs c (front ++ back) y d
  begins_by one b p fs c y d front back (whole Next) g is can acts around = record {
    front = front ++ around.front;
    back = around.back;
    extent = around.extent;
    context = around.context;
    first = subst (λ (ss : List Stmt). Runs s ss c (front ++ around.front) around.extent around.context) (sym is) (and_more can acts around.first);
    second = around.second;
    is = ap (λ (zs : List Happened). front ++ zs) around.is ∙ sym (append_assoc front around.front around.back);
  }
  begins_by one b p fs c y d front back z g is can acts around = record {
    front = front;
    back = back;
    extent = z;
    context = g;
    first = subst (λ (ss : List Stmt). Runs s ss c front z g) (sym is) (and_out can acts (λ q. cc));
    second = around;
    is = refl;
  }

  -- it begins
  pub begins_ahead : (one : Stmt) (b p : ℕ) (fs : List Outer) (c : Context) → drop p (block_at s.script.blocks b) ≡ one ∷ drop (p + 1) (block_at s.script.blocks b) → CanBegin one c
      → Turns s (at_stmt b p) fs c (within (beginning s c one)) (rest b (p + 1) ∷ fs) (begun one c)
  begins_ahead one b p fs c is can tail y d ahead = subst (λ (zs : List Happened). Ahead s (at_stmt b p) fs c zs y d) (sym ahead.is)
      (begins_by one b p fs c y d ahead.front ahead.back ahead.extent ahead.context is can ahead.first ahead.second)

  -- there is no step for it
  pub spent_ahead : (one : Stmt) (b p : ℕ) (fs : List Outer) (c : Context) → drop p (block_at s.script.blocks b) ≡ one ∷ drop (p + 1) (block_at s.script.blocks b) → IsSpent one c
      → Turns s (at_stmt b p) fs c (out Spent) fs c
  spent_ahead one b p fs c is gone = from_out (at_stmt b p) c fs Spent (subst (λ (ss : List Stmt). Runs s ss c [] (whole Spent) c) (sym is) (no_step_left gone))

  -- there is none left
  pub end_ahead : (b p : ℕ) (fs : List Outer) (c : Context) → drop p (block_at s.script.blocks b) ≡ [] → Turns s (at_stmt b p) fs c (out Next) fs c
  end_ahead b p fs c is = from_out (at_stmt b p) c fs Next (subst (λ (ss : List Stmt). Runs s ss c [] (whole Next) c) (sym is) finished)

  -- ---- wherever a fiber stands, a log may stop there

  cut_around : (fs : List Outer) (stop : Stop) (c : Context) → Around s fs (cut stop) c [] (cut stop) c
  cut_around [] stop c = (refl, refl, refl)
  cut_around (rest b p ∷ fs) stop c = cut_around fs stop c
  cut_around (work k ∷ fs) stop c = cut_around fs stop c

  record Somewhere (A : List Happened → Extent → Context → Type 0) : Type 0 where
    pub extent : Extent
    pub context : Context
    pub there : A [] extent context

  stopped : (place : Place) (fs : List Outer) (c : Context) (stop : Stop) → From s place c [] (cut stop) c → Somewhere (λ ys y d. Ahead s place fs c ys y d)
  stopped place fs c stop one = record { extent = cut stop; context = c; there = record { front = []; back = []; extent = cut stop; context = c; first = one; second = cut_around fs stop c; is = refl } }

  stops_around : (fs : List Outer) (x : Exit) (c : Context) → Somewhere (λ ys y d. Around s fs (whole x) c ys y d)
  stops_around [] x c = record { extent = whole x; context = c; there = (refl, refl, refl) }
  stops_around (work k ∷ fs) x c = let inner = stopped (within (closing k x c)) fs c (at (closing k x c)) stops in record { extent = inner.extent; context = inner.context; there = inner.there }
  stops_around (rest b p ∷ fs) Next c = let inner = stopped (at_stmt b p) fs c between rests in record { extent = inner.extent; context = inner.context; there = inner.there }
  stops_around (rest b p ∷ fs) x c =
      let outer = stops_around fs x c in
      record { extent = outer.extent; context = outer.context; there = passes b p fs (whole x) c [] outer.extent outer.context (λ q. cc) outer.there }

  stops_ahead : (place : Place) (fs : List Outer) (c : Context) → Somewhere (λ ys y d. Ahead s place fs c ys y d)
  stops_ahead (at_stmt b p) fs c = stopped (at_stmt b p) fs c between rests
  stops_ahead (within p) fs c = stopped (within p) fs c (at p) stops
  stops_ahead (out x) fs c =
      let outer = stops_around fs x c in
      record { extent = outer.extent; context = outer.context; there = record { front = []; back = []; extent = whole x; context = c; first = (refl, refl, refl); second = outer.there; is = refl } }

  -- ---- where logs lead

  module _ (begin : Phase) (start : Context) where
    pub leads_entry : (log : List Happened) (fs : List Outer) {p q : Phase} {c : Context} (call : Call) (reply : Reply)
        → asks s c p ≡ Some call → leads c p reply ≡ Some q → Leads s begin start log (within p) fs c
        → Leads s begin start (log ++ happens s.fiber call reply (born c call) ∷ []) (within q) fs c
    leads_entry log fs {c = c} call reply asked led before tail y d ahead =
        let h = happens s.fiber call reply (born c call) in
        subst (λ (zs : List Happened). Acts s begin start zs y d) (sym (append_assoc log (h ∷ []) tail)) (before (h ∷ tail) y d (makes_ahead fs call reply asked led tail y d ahead))

    -- a log that leads somewhere is a segment of the whole
    pub record IsSegment (log : List Happened) : Type 0 where
      pub extent : Extent
      pub context : Context
      pub acts : Acts s begin start log extent context

    pub leads_segment : (log : List Happened) (place : Place) (fs : List Outer) (c : Context) → Leads s begin start log place fs c → IsSegment log
    leads_segment log place fs c led =
        let there = stops_ahead place fs c in
        record { extent = there.extent; context = there.context; acts = subst (λ (zs : List Happened). Acts s begin start zs there.extent there.context) (append-nil log) (led [] there.extent there.context there.there) }

  -- a new fiber stands at the beginning of its text
  all_of : (p : Phase) (c : Context) (tail : List Happened) (y : Extent) (d : Context) → Ahead s (within p) [] c tail y d → Acts s p c tail y d
  all_of p c tail y d ahead = rw (ahead.is, ahead.second.0, append-nil ahead.front, ahead.second.1, ahead.second.2) ahead.first

  pub leads_new : (block : ℕ) (start : Context) → Leads s (lives block) start [] (at_stmt block 0) (work ends_text ∷ []) start
  leads_new block start tail y d ahead = all_of (lives block) start tail y d (enters_ahead [] refl tail y d ahead)
