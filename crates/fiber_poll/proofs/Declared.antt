-- What statements name that look at a trigger first is declared, and stands.
use Rattle.std.proofs.Common.{◌≡◌, ◌≢◌, ℕ, ◌-◌, ◌<◌, ◌≤◌, Option, Some, None, List, [], ◌∷◌, slice_get, refl, sym, ap, subst, ◌∙◌, arith, Bool, cond}
use Rattle.pic_machine.specs.declared.entry.Call.TheVariants as asked
use Rattle.pic_machine.specs.declared.entry.Reply.TheVariants as reply
use Rattle.pic_machine.specs.declared.state.TrigState.{TrigState}
use Rattle.pic_machine.specs.declared.state.TrigState.TheVariants as trig
use Rattle.std.specs.Prelude.{IfSome}
use Rattle.pic_machine.specs.Happened.{Happened}
use Rattle.pic_machine.specs.History.{event}
use Rattle.pic_machine.specs.Log.{log, own}
use Rattle.pic_machine.specs.Sight.{Sight, fiber_of}
use Rattle.fiber_await.specs.Doing.{Did}
use Rattle.script_tree.specs.declared.program.CompRef.{CompRef}
use Rattle.script_tree.specs.declared.program.Stmt.{Stmt}
use Rattle.script_tree.specs.declared.program.Stmt.TheVariants as stmt
use Rattle.script_tree.specs.declared.thing.Sort.TheVariants as sort
use Rattle.script_tree.specs.Tree.{Tree}
use Rattle.script_tree.specs.WellFormed.{IsComp}
use Rattle.std.specs.Prelude.{IsTrue}
use Rattle.fiber_poll.specs.Built.{is_built_comp}
use Rattle.fiber_body.specs.declared.standing.Standing.{Standing}
use Rattle.fiber_body.specs.declared.standing.Standing.TheVariants.{At, Within}
use Rattle.fiber_body.specs.declared.under_way.UnderWay.TheVariants.{Attaches, Follows}
use Rattle.fiber_body.specs.Context.{Context, Numbering, comp_in, count_of, numbering, with_register}
use Rattle.fiber_body.specs.Owns.{IsDeclared, OwnsAttachment, OwnsFollowing}
use Rattle.fiber_body.specs.Phases.{calls, goes_on}
use Rattle.fiber_body.specs.Statements.{first}
use Rattle.fiber_body.specs.Shown.{IsSameRest, Shown, carry_of, stood}
use Rattle.fiber_body.specs.Texts.{script_in}
use Rattle.fiber_poll.specs.declared.spot.Spot.{Spot}
use Rattle.fiber_poll.specs.Moving.{HasCall, IsBefore, behind_at, seen_by_wait, unmade, weight, weight_at, IsWaiting}
use Rattle.fiber_poll.specs.Polls.{IsPortOf}
use Rattle.fiber_poll.specs.UnderWay.{CanRun, IsOn, IsUp}
use Rattle.fiber_body.specs.declared.standing.Exit.TheVariants.{Next}
use Rattle.fiber_poll.proofs.Asking.{comp_there, numbered}
use Rattle.fiber_poll.proofs.Followed.{on_wait_begun}
use Rattle.fiber_poll.proofs.Going.{program_up}
use Rattle.fiber_poll.proofs.Looks.{NamesBoth, on_looked, on_seen, on_signalled}

-- what is counted at a place isn't none
pub is_numbered : {numbers counted : Numbering} (place : ℕ) {found : Option ℕ} (t : ℕ) → numbers ≡ counted → found ≡ slice_get numbers.triggers place → slice_get counted.triggers place ≡ Some t → found ≢ None
is_numbered place t same found_is number none =
    let both : Some t ≡ None = sym number ∙ (sym (ap (λ (ns : Numbering). slice_get ns.triggers place) same) ∙ (sym found_is ∙ none)) in cc

pub is_numbered_comp : {numbers counted : Numbering} (comp : CompRef) {found : Option ℕ} (k : ℕ) → numbers ≡ counted → found ≡ comp_in numbers.comps comp → comp_in counted.comps comp ≡ Some k → found ≢ None
is_numbered_comp comp k same found_is number none =
    let both : Some k ≡ None = sym number ∙ (sym (ap (λ (ns : Numbering). comp_in ns.comps comp) same) ∙ (sym found_is ∙ none)) in cc

-- a statement that waits and has no block has a call
pub has_call : (c : Context) (one : Stmt) → IsWaiting c one → ((block : ℕ) → one ≢ stmt.Loop block) → ((block register handler : ℕ) → one ≢ stmt.Try block register handler) → ((block : ℕ) → one ≢ stmt.Forbid block)
    → ((block : ℕ) → one ≢ stmt.Permit block) → ((comp : CompRef) (block : ℕ) → one ≢ stmt.Under comp block) → HasCall c one
has_call c (stmt.If left test right then other) waits no_loop no_try no_forbid no_permit no_under = absurd waits.no_test
has_call c (stmt.Loop block) waits no_loop no_try no_forbid no_permit no_under = absurd (no_loop block refl)
has_call c (stmt.Try block register handler) waits no_loop no_try no_forbid no_permit no_under = absurd (no_try block register handler refl)
has_call c (stmt.Forbid block) waits no_loop no_try no_forbid no_permit no_under = absurd (no_forbid block refl)
has_call c (stmt.Permit block) waits no_loop no_try no_forbid no_permit no_under = absurd (no_permit block refl)
has_call c (stmt.Under comp block) waits no_loop no_try no_forbid no_permit no_under = absurd (no_under comp block refl)
has_call c stmt.Check waits no_loop no_try no_forbid no_permit no_under = λ numbers. ap (λ (told : Bool). cond told (calls stmt.Check) (goes_on c)) waits.told
has_call c (stmt.Await trigger) waits no_loop no_try no_forbid no_permit no_under = tt
has_call c (stmt.Attach register comp trigger) waits no_loop no_try no_forbid no_permit no_under = tt
has_call c (stmt.Wait register comp) waits no_loop no_try no_forbid no_permit no_under = tt
has_call c _ waits no_loop no_try no_forbid no_permit no_under = λ numbers. refl

-- any other statement with a call has one
pub calls_else : (numbers : Numbering) (c : Context) (one : Stmt) → HasCall c one → ((t : ℕ) → one ≢ stmt.Await t) → ((r : ℕ) (comp : CompRef) (t : ℕ) → one ≢ stmt.Attach r comp t) → ((r : ℕ) (comp : CompRef) → one ≢ stmt.Wait r comp) → first numbers c one ≡ calls one
calls_else numbers c (stmt.Await t) has no_await no_attach no_wait = absurd (no_await t refl)
calls_else numbers c (stmt.Attach r comp t) has no_await no_attach no_wait = absurd (no_attach r comp t refl)
calls_else numbers c (stmt.Wait r comp) has no_await no_attach no_wait = absurd (no_wait r comp refl)
calls_else numbers c _ has no_await no_attach no_wait = has numbers

module _ (tree : Tree) where
  -- ---- under

  pub declared_comp : (comp : CompRef) (k : ℕ) → IsComp tree comp → IsTrue (is_built_comp comp) → comp_in (numbering tree.decls).comps comp ≡ Some k → k ≤ count_of sort.Comp tree.decls
  declared_comp comp k declared built is =
      let found = comp_there tree comp declared built in
      let both : Some found.0 ≡ Some k = sym found.1 ∙ is in
      let same : found.0 ≡ k = cc in
      subst (λ (n : ℕ). n ≤ count_of sort.Comp tree.decls) same found.2

  -- ---- await

  pub await_number : (place : ℕ) → CanRun tree (stmt.Await place) → (t : ℕ) × (slice_get (numbering tree.decls).triggers place ≡ Some t) × IsDeclared tree t
  await_number place can = let found = numbered sort.Trigger 0 tree.decls place can.fits.0 in (found.0, found.1, omega (arith, found.2))

  pub await_declared : (place t : ℕ) → CanRun tree (stmt.Await place) → slice_get (numbering tree.decls).triggers place ≡ Some t → IsDeclared tree t
  await_declared place t can is =
      let found = await_number place can in
      let same : Some found.0 ≡ Some t = sym found.1 ∙ is in
      let number : found.0 ≡ t = cc in
      subst (IsDeclared tree) number found.2

  -- ---- attach

  pub attach_trigger : (r : ℕ) (comp : CompRef) (place : ℕ) → CanRun tree (stmt.Attach r comp place) → (t : ℕ) × (slice_get (numbering tree.decls).triggers place ≡ Some t) × IsDeclared tree t
  attach_trigger r comp place can = let found = numbered sort.Trigger 0 tree.decls place can.fits.1.1.0 in (found.0, found.1, omega (arith, found.2))

  pub attach_comp : (r : ℕ) (comp : CompRef) (place : ℕ) → CanRun tree (stmt.Attach r comp place) → (k : ℕ) × (comp_in (numbering tree.decls).comps comp ≡ Some k) × (k ≤ count_of sort.Comp tree.decls)
  attach_comp r comp place can = comp_there tree comp can.fits.1.0 can.built

  pub attach_owned : (r : ℕ) (comp : CompRef) (place k t : ℕ) → CanRun tree (stmt.Attach r comp place) → comp_in (numbering tree.decls).comps comp ≡ Some k → slice_get (numbering tree.decls).triggers place ≡ Some t → OwnsAttachment tree r k t
  attach_owned r comp place k t can comp_is trigger_is =
      let first = attach_comp r comp place can in
      let other = attach_trigger r comp place can in
      let comps : Some first.0 ≡ Some k = sym first.1 ∙ comp_is in
      let triggers : Some other.0 ≡ Some t = sym other.1 ∙ trigger_is in
      let one : first.0 ≡ k = cc in
      let two : other.0 ≡ t = cc in
      record { register = can.fits.0; comp = subst (λ (n : ℕ). n ≤ count_of sort.Comp tree.decls) one first.2; trigger = subst (IsDeclared tree) two other.2 }

  module _ {p : Sight (Option Tree)} (a : Shown) (of : IsPortOf tree p) (up : IsUp p a) where
    program_is : script_in a.program ≡ tree
    program_is = ap script_in (program_up tree p a of up)

    names_both : (comp : CompRef) (place k t : ℕ) → comp_in (numbering tree.decls).comps comp ≡ Some k → slice_get (numbering tree.decls).triggers place ≡ Some t → NamesBoth a comp place k t
    names_both comp place k t comp_is trigger_is =
        subst (λ (tr : Tree). (comp_in (numbering tr.decls).comps comp ≡ Some k) × (slice_get (numbering tr.decls).triggers place ≡ Some t)) (sym program_is) (comp_is, trigger_is)

  module _ {p q : Sight (Option Tree)} (a b : Shown) {d : Shown} (line : Option (List ℕ)) (spot : Spot) (of : IsPortOf tree p) (up : IsUp p a) where
    pub await_seen : (place t : ℕ) (state : TrigState) (there : Standing) (steps : ℕ) → CanRun tree (stmt.Await place) → IsBefore a spot (stmt.Await place) → slice_get (numbering tree.decls).triggers place ≡ Some t
        → Did p q (carry_of a) (carry_of b) (event (fiber_of (carry_of a)) (asked.Look t) (reply.Seen state) ∷ []) → IsSameRest a b → there ≡ seen_by_wait spot a.context.permitted t state → steps ≡ b.context.steps → d ≡ stood b there (steps - 1) → IsOn p q a d line line
    await_seen place t state there steps can before number did same there_is left is =
        on_seen a b line spot place t state there steps up before (subst (λ (tr : Tree). slice_get (numbering tr.decls).triggers place ≡ Some t) (sym (program_is a of up)) number)
        (subst (λ (tr : Tree). IsDeclared tr t) (sym (program_is a of up)) (await_declared place t can number)) did same there_is left is

    pub attach_signalled : (r : ℕ) (comp : CompRef) (place k t : ℕ) (state : TrigState) (steps : ℕ) (there : Standing) (e : Shown) → IsBefore a spot (stmt.Attach r comp place) → comp_in (numbering tree.decls).comps comp ≡ Some k → slice_get (numbering tree.decls).triggers place ≡ Some t
        → state ≡ trig.Signalled → Did p q (carry_of a) (carry_of b) (event (fiber_of (carry_of a)) (asked.Look t) (reply.Seen state) ∷ []) → IsSameRest a b → steps ≡ b.context.steps
        → e ≡ record b { context = with_register b.context r 0 } → there ≡ behind_at spot Next → d ≡ stood e there (steps - 1) → IsOn p q a d line line
    attach_signalled r comp place k t state steps there e before comp_is trigger_is so did same left set there_is is =
        on_signalled a b line spot r comp place k t steps there e up before (names_both a of up comp place k t comp_is trigger_is)
        (subst (λ (x : TrigState). Did p q (carry_of a) (carry_of b) (event (fiber_of (carry_of a)) (asked.Look t) (reply.Seen x) ∷ [])) so did) same left set there_is is

    pub attach_looked : (r : ℕ) (comp : CompRef) (place k t : ℕ) (state : TrigState) (steps : ℕ) (there : Standing) → CanRun tree (stmt.Attach r comp place) → IsBefore a spot (stmt.Attach r comp place) → comp_in (numbering tree.decls).comps comp ≡ Some k → slice_get (numbering tree.decls).triggers place ≡ Some t
        → state ≢ trig.Signalled → Did p q (carry_of a) (carry_of b) (event (fiber_of (carry_of a)) (asked.Look t) (reply.Seen state) ∷ []) → IsSameRest a b
        → there ≡ Within spot.block spot.place (Attaches r k t None) → steps ≡ b.context.steps → d ≡ stood b there (steps - 1) → IsOn p q a d line line
    attach_looked r comp place k t state steps there can before comp_is trigger_is other did same there_is left is =
        on_looked a b line spot r comp place k t state steps there up before (names_both a of up comp place k t comp_is trigger_is)
        (subst (λ (tr : Tree). OwnsAttachment tr r k t) (sym (program_is a of up)) (attach_owned r comp place k t can comp_is trigger_is)) other did same there_is left is

  -- ---- wait

  pub wait_comp : (r : ℕ) (comp : CompRef) → CanRun tree (stmt.Wait r comp) → (k : ℕ) × (comp_in (numbering tree.decls).comps comp ≡ Some k) × (k ≤ count_of sort.Comp tree.decls)
  wait_comp r comp can = comp_there tree comp can.fits.1.0 can.built

  -- a wait of which nothing is made
  nothing_made : (f r k : ℕ) (mine : List Happened) → r < 16 → k ≤ count_of sort.Comp tree.decls → OwnsFollowing tree f mine r k unmade
  nothing_made f r k mine register comp = record { register = register; comp = comp; on = record { at = omega arith; going = λ is. cc; has = tt } }

  pub wait_begun : {p : Sight (Option Tree)} (a : Shown) {d : Shown} (line : Option (List ℕ)) (spot : Spot) (r : ℕ) (comp : CompRef) → IsPortOf tree p → IsUp p a → CanRun tree (stmt.Wait r comp) → IsBefore a spot (stmt.Wait r comp)
      → IfSome (comp_in (numbering tree.decls).comps comp) (λ k. d ≡ stood a (Within spot.block spot.place (Follows r k unmade)) (a.context.steps - 1)) → IsOn p p a d line line
  wait_begun {p} a {d} line spot r comp of up can before begun =
      let found = wait_comp r comp can in
      let k = found.0 in
      let f = fiber_of (carry_of a) in
      let program = sym (program_is a of up) in
      on_wait_begun a line spot r comp k up before (subst (λ (tr : Tree). comp_in (numbering tr.decls).comps comp ≡ Some k) program found.1)
      (subst (λ (tr : Tree). OwnsFollowing tr f (own (log p.front f)) r k unmade) program (nothing_made f r k (own (log p.front f)) can.fits.0 found.2))
      (subst (λ (o : Option ℕ). IfSome o (λ n. d ≡ stood a (Within spot.block spot.place (Follows r n unmade)) (a.context.steps - 1))) found.1 begun)

  -- it begins so, with less to do, and owes what it owed
  begun_so : (a d : Shown) (spot : Spot) (r : ℕ) (comp : CompRef) → CanRun tree (stmt.Wait r comp) → IfSome (comp_in (numbering tree.decls).comps comp) (λ k. d ≡ stood a (Within spot.block spot.place (Follows r k unmade)) (a.context.steps - 1))
      → (k : ℕ) × (d ≡ stood a (Within spot.block spot.place (Follows r k unmade)) (a.context.steps - 1))
  begun_so a d spot r comp can begun =
      let found = wait_comp r comp can in
      (found.0, subst (λ (o : Option ℕ). IfSome o (λ n. d ≡ stood a (Within spot.block spot.place (Follows r n unmade)) (a.context.steps - 1))) found.1 begun)

  pub wait_lighter : (a d : Shown) (spot : Spot) (r : ℕ) (comp : CompRef) → CanRun tree (stmt.Wait r comp) → a.standing ≡ At spot.block spot.place → 0 < a.context.steps
      → IfSome (comp_in (numbering tree.decls).comps comp) (λ k. d ≡ stood a (Within spot.block spot.place (Follows r k unmade)) (a.context.steps - 1)) → weight d < weight a
  wait_lighter a d spot r comp can at some begun =
      let so = begun_so a d spot r comp can begun in
      let there : weight d ≡ weight (stood a (Within spot.block spot.place (Follows r so.0 unmade)) (a.context.steps - 1)) = ap weight so.1 in
      let was : weight_at a.standing ≡ 2 = ap weight_at at in
      omega (arith, there, was, some)

  pub wait_owes : (a d : Shown) (spot : Spot) (r : ℕ) (comp : CompRef) → CanRun tree (stmt.Wait r comp)
      → IfSome (comp_in (numbering tree.decls).comps comp) (λ k. d ≡ stood a (Within spot.block spot.place (Follows r k unmade)) (a.context.steps - 1)) → d.owes ≡ a.owes
  wait_owes a d spot r comp can begun = ap (λ (z : Shown). z.owes) (begun_so a d spot r comp can begun).1
