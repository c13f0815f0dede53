-- What stands between two statements of a turn.
use Rattle.std.proofs.Common.{◌≡◌, ◌≢◌, inl, inr, refl, ℕ, ◌≤◌, Option, Some, List, length, slice_get, sym, ap, subst, ◌∙◌}
use Rattle.std.specs.Prelude.{IsTrue}
use Rattle.pic_machine.specs.History.{IsLegal, world}
use Rattle.pic_machine.specs.Log.{log}
use Rattle.pic_machine.specs.Sight.{Holds, Sight, fiber_of}
use Rattle.pic_machine.specs.State.{IsStart}
use Rattle.pic_machine.specs.Step.{MayAct}
use Rattle.pic_machine.specs.Suspending.{IsTied}
use Rattle.pic_machine.proofs.Ends.{no_end}
use Rattle.pic_machine.proofs.Suspensions.{starts_tied}
use Rattle.script_tree.specs.declared.program.Stmt.{Stmt}
use Rattle.script_tree.specs.Tree.{Tree}
use Rattle.fiber_body.specs.declared.standing.Standing.TheVariants.{At}
use Rattle.fiber_body.specs.Context.{block_at}
use Rattle.fiber_body.specs.Fits.{Fits, IsOver, MayBeOf}
use Rattle.fiber_body.specs.Shown.{Shown, carry_of}
use Rattle.fiber_body.specs.Texts.{EachFits, script_in}
use Rattle.fiber_poll.specs.Built.{is_built}
use Rattle.fiber_poll.specs.Moving.{Goes, IsAt}
use Rattle.fiber_poll.specs.Polls.{IsPortOf}
use Rattle.fiber_poll.specs.UnderWay.{CanRun, IsOn, IsUp}
use Rattle.fiber_poll.proofs.Going.{on_gone, on_trans, program_up}
use Rattle.fiber_poll.proofs.Moves.{behind_within}
use Rattle.fiber_poll.proofs.Ranges.{can_run}

-- the block's statements are the body's
pub block_up : {script tree : Tree} {port : Sight (Option Tree)} {body : Shown} {ss : List Stmt} (block : ℕ) → IsPortOf script port → IsUp port body → tree ≡ script → ss ≡ block_at tree.blocks block
    → ss ≡ block_at (script_in body.program).blocks block
block_up {script} {tree} {port} {body} {ss} block of up same stmts =
    stmts ∙ (ap (λ (t : Tree). block_at t.blocks block) same ∙ ap (λ (p : Option Tree). block_at (script_in p).blocks block) (sym (program_up script port body of up)))

-- the body stands before the statement that was found
pub at_found : {script tree : Tree} {port : Sight (Option Tree)} {body : Shown} {ss : List Stmt} {block place : ℕ} {s : Stmt} → IsPortOf script port → IsUp port body → tree ≡ script → ss ≡ block_at tree.blocks block
    → length ss ≤ 10000 → body.standing ≡ At block place → slice_get ss place ≡ Some s → IsAt body (record { block = block; place = place }) s
at_found {ss = ss} {block = block} {place = place} {s = s} of up same stmts few at is = record {
  at = at;
  is = subst (λ (xs : List Stmt). slice_get xs place ≡ Some s) (block_up block of up same stmts) is;
  within = behind_within ss place s is few;
}

-- and that one can be run
pub can_found : {script tree : Tree} {ss : List Stmt} (block place : ℕ) {s : Stmt} → tree ≡ script → ss ≡ block_at tree.blocks block → EachFits tree block ss → IsTrue (is_built script) → slice_get ss place ≡ Some s
    → CanRun script s
can_found {script} {tree} {ss} block place {s} same stmts fit built there =
    subst (λ (t : Tree). CanRun t s) same
    (can_run tree block place ss s (subst (λ (t : Tree). IsTrue (is_built t)) (sym same) built) stmts fit there)

-- the body went on without a call
pub on_with : {p q : Sight (Option Tree)} {a b d : Shown} {start now : Option (List ℕ)} → IsOn p q a b start now → Goes b d → IsOn p q a d start now
on_with on goes = on_trans on (on_gone on.up goes)

-- a fiber that may act hasn't ended
not_ended : (port : Sight (Option Tree)) (f : ℕ) → IsTied port.origin.world → IsLegal port.origin port.front → MayAct (world port.origin port.front) f → f ≢ 0 → IsOver f (log port.front f) → ⊥
not_ended port f tied legal (inl clock) fiber over = fiber clock
not_ended port f tied legal (inr live) fiber over = no_end port.origin port.front f over.before over.outcome tied legal live over.is

-- a body that fits its fiber's log is up
pub up_fit : {port : Sight (Option Tree)} {body : Shown} → IsStart port.origin.world → Holds port (carry_of body) → fiber_of (carry_of body) ≢ 0 → Fits body (log port.front (fiber_of (carry_of body))) → IsUp port body
up_fit {port} {body} start holds fiber fits =
    let f = fiber_of (carry_of body) in
    let mine : MayBeOf body.number f = subst (λ (n : Option ℕ). MayBeOf n f) (sym holds.number) (refl, fiber) in
    record {
      holds = holds;
      fiber = fiber;
      leads = fits.stands f mine;
      owns = fits.owns f mine;
      live = λ ended. not_ended port f (starts_tied port.origin.world start) holds.legal holds.acts fiber (fits.over f mine ended);
    }
