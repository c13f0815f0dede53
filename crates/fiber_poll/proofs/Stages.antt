-- The stages of statements of more than one call, each by one call of the port.
use Rattle.std.proofs.Common.{◌≡◌, ℕ, ◌+◌, ◌-◌, ◌^◌, ◌<◌, Option, Some, None, List, [], ◌∷◌, ◌++◌, refl, ap, subst, ◌∙◌}
use Rattle.pic_machine.specs.declared.entry.Call.{Call}
use Rattle.pic_machine.specs.declared.entry.Reply.{Reply}
use Rattle.pic_machine.specs.Happened.{Happened}
use Rattle.pic_machine.specs.History.{event}
use Rattle.pic_machine.specs.Log.{log, own}
use Rattle.pic_machine.specs.Sight.{Sight, fiber_of}
use Rattle.fiber_await.specs.Doing.{Did}
use Rattle.script_tree.specs.declared.program.Stmt.{Stmt}
use Rattle.script_tree.specs.Tree.{Tree}
use Rattle.fiber_body.specs.declared.standing.Standing.{Standing}
use Rattle.fiber_body.specs.declared.standing.Standing.TheVariants.{Within}
use Rattle.fiber_body.specs.declared.under_way.UnderWay.{UnderWay}
use Rattle.fiber_body.specs.Context.{Context, numbering, stepped}
use Rattle.fiber_body.specs.Fits.{setting_of}
use Rattle.fiber_body.specs.Owns.{Owns, OwnsParts}
use Rattle.fiber_body.specs.Phases.{Phase}
use Rattle.fiber_body.specs.Shown.{IsSameRest, Shown, carry_of, stood}
use Rattle.fiber_body.specs.Statements.{begins, born}
use Rattle.fiber_body.specs.Tables.{asks, leads}
use Rattle.fiber_body.specs.Texts.{script_in}
use Rattle.fiber_body.specs.Triggers.{phase_of}
use Rattle.fiber_poll.specs.declared.spot.Spot.{Spot}
use Rattle.fiber_poll.specs.Moving.{CostsStep, IsBefore}
use Rattle.fiber_poll.specs.UnderWay.{IsOn, IsUp}
use Rattle.fiber_poll.proofs.Amid.{Reached, amid_begun, amid_entry, amid_standing, on_amid}

-- ---- one call of a statement

-- what the body may keep behind an entry
abbrev pub KeptBehind : Sight (Option Tree) → Shown → Happened → UnderWay → Type 0
KeptBehind p a h = OwnsParts (script_in a.program) (fiber_of (carry_of a)) (own (log p.front (fiber_of (carry_of a))) ++ h ∷ [])

-- the first one, for which the step is made
pub on_begun : {p q : Sight (Option Tree)} (a b : Shown) {d : Shown} (told : Option (List ℕ)) (spot : Spot) (one : Stmt) (call : Call) (re : Reply) (first next : Phase) → IsUp p a → IsBefore a spot one → CostsStep one
    → begins (numbering (script_in a.program).decls) (stepped a.context) one ≡ first → born (stepped a.context) call ≡ None → asks (setting_of a (fiber_of (carry_of a))) (stepped a.context) first ≡ Some call → leads (stepped a.context) first re ≡ Some next
    → Did p q (carry_of a) (carry_of b) (event (fiber_of (carry_of a)) call re ∷ []) → IsSameRest a b → Reached (KeptBehind p a (event (fiber_of (carry_of a)) call re)) b spot (stepped a.context) next d → IsOn p q a d told told
on_begun {p} a b told spot one call re first next up before costs begins_so none asked led did same reached =
    let f = fiber_of (carry_of a) in
    let mine = own (log p.front f) in
    on_amid told spot (stepped a.context) next (event f call re ∷ []) up did same.frames refl before.here.within
    (amid_entry a f spot mine first next (stepped a.context) call re none asked led (amid_begun a f spot mine one first before costs begins_so up.leads)) reached

-- what a body keeps that stands within a statement, behind which there is a place
pub within_up : {p : Sight (Option Tree)} {a : Shown} (spot : Spot) (way : UnderWay) → IsUp p a → a.standing ≡ Within spot.block spot.place way
    → (spot.place + 1 < 2 ^ 32) × OwnsParts (script_in a.program) (fiber_of (carry_of a)) (own (log p.front (fiber_of (carry_of a)))) way
within_up {p} {a} spot way up at = subst (Owns (script_in a.program) (fiber_of (carry_of a)) (own (log p.front (fiber_of (carry_of a))))) at up.owns

-- a further one
pub on_within : {p q : Sight (Option Tree)} (a b : Shown) {d : Shown} (told : Option (List ℕ)) (spot : Spot) (way : UnderWay) (call : Call) (re : Reply) (next : Phase) → IsUp p a → a.standing ≡ Within spot.block spot.place way → born a.context call ≡ None
    → asks (setting_of a (fiber_of (carry_of a))) a.context (phase_of a.context way) ≡ Some call → leads a.context (phase_of a.context way) re ≡ Some next → Did p q (carry_of a) (carry_of b) (event (fiber_of (carry_of a)) call re ∷ []) → IsSameRest a b
    → Reached (KeptBehind p a (event (fiber_of (carry_of a)) call re)) b spot a.context next d → IsOn p q a d told told
on_within {p} a b told spot way call re next up at none asked led did same reached =
    let f = fiber_of (carry_of a) in
    let mine = own (log p.front f) in
    on_amid told spot a.context next (event f call re ∷ []) up did same.frames refl (within_up spot way up at).0
    (amid_entry a f spot mine (phase_of a.context way) next a.context call re none asked led (amid_standing a f spot mine way at up.leads)) reached

-- ---- where the body stands then

-- with a step fewer
pub stepped_there : {a b d : Shown} {there standing : Standing} {steps : ℕ} → IsSameRest a b → there ≡ standing → steps ≡ b.context.steps → d ≡ stood b there (steps - 1) → d ≡ record b { standing = standing; context = stepped a.context }
stepped_there {a} {b} {standing = standing} {steps = steps} rest there_is left is =
    is ∙ (ap (λ (st : Standing). stood b st (steps - 1)) there_is ∙ (ap (λ (n : ℕ). stood b standing (n - 1)) left ∙ ap (λ (c : Context). record b { standing = standing; context = stepped c }) rest.context))

-- with as many steps
pub stands_there : {a b d : Shown} {there standing : Standing} {steps : ℕ} → IsSameRest a b → there ≡ standing → steps ≡ b.context.steps → d ≡ stood b there steps → d ≡ record b { standing = standing; context = a.context }
stands_there {a} {b} {standing = standing} {steps = steps} rest there_is left is =
    is ∙ (ap (λ (st : Standing). stood b st steps) there_is ∙ (ap (λ (n : ℕ). stood b standing n) left ∙ ap (λ (c : Context). record b { standing = standing; context = c }) rest.context))
