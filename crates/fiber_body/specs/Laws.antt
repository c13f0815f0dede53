-- What ports rest on: a body's fitting doesn't depend on its room and on what its fiber owes, nor, before the
-- first entry, on its number, and of the clock's body nothing is asked but its entries.
use Rattle.std.proofs.Common.{◌≡◌, ℕ, Option, Some, None, List, [], refl, sym, subst, ◌∙◌}
use Rattle.pic_base.specs.declared.duty.Duty.{Duty}
use Rattle.pic_machine.specs.declared.entry.Entry.{Entry}
use Rattle.pic_machine.specs.Happened.{Happened}
use Rattle.pic_machine.specs.Log.{own, visible}
use Rattle.pic_machine.specs.Sight.{IsSame}
use Rattle.script_tree.specs.Tree.{Tree}
use Rattle.fiber_body.specs.declared.standing.Standing.TheVariants.{Ended}
use Rattle.fiber_body.specs.Follows.{FollowsText, context_of}
use Rattle.fiber_body.specs.Framing.{leads_segment}
use Rattle.fiber_body.specs.Around.{around_of, place_of}
use Rattle.fiber_body.specs.Phases.{lives}
use Rattle.fiber_body.specs.Segments.{Acts}
use Rattle.fiber_body.specs.Shown.{IsSameRest, Shown, carry_of}
use Rattle.fiber_body.specs.Texts.{block_in, script_in}
use Rattle.fiber_body.specs.Fits.{Fits, IsOver, LeadsTo, MayBeOf, setting_of}
use Rattle.fiber_body.specs.Owns.{Owns}

-- ---- a body fits where the log leads to it

-- a log whose own part leads somewhere follows its text
pub led_follows : (body : Shown) (log : List Happened) (script : Tree) (f : ℕ) → body.program ≡ Some script → LeadsTo body f (own log) → FollowsText script f body.birth log
led_follows body log script f program leads =
    let start = context_of body.birth in
    let there = leads_segment (setting_of body f) (lives (block_in body.program body.birth.text)) start (own log) (place_of body.context body.standing) (around_of body.standing body.frames) body.context leads in
    record {
      extent = there.extent;
      context = there.context;
      acts = subst (λ (p : Option Tree). Acts (record { fiber = f; script = script_in p }) (lives (block_in p body.birth.text)) start (own log) there.extent there.context) program there.acts;
    }

pub fits_led : (body : Shown) (log : List Happened) → body.noted ≡ visible log → ((f : ℕ) → MayBeOf body.number f → LeadsTo body f (own log))
    → ((f : ℕ) → MayBeOf body.number f → Owns (script_in body.program) f (own log) body.standing) → ((f : ℕ) → MayBeOf body.number f → body.standing ≡ Ended → IsOver f log) → Fits body log
fits_led body log noted leads owns over = record {
  noted = noted;
  follows = λ script f program mine. led_follows body log script f program (leads f mine);
  stands = leads;
  owns = owns;
  over = over;
}

-- ---- what a body stands for doesn't depend on what else differs

-- the body with another number, entries, room and duties: it stands where it stood
abbrev pub moved : Shown → Option ℕ → List Entry → ℕ → List Duty → Shown
moved body number noted room owes = record body { number = number; noted = noted; room = room; owes = owes }

-- two bodies with one birth, one share and one rest differ in no more
same_but : (old new : Shown) → IsSameRest old new → new.birth ≡ old.birth → new.program ≡ old.program
    → new ≡ moved old new.number new.noted new.room new.owes
same_but old new rest birth program = rw (rest.context, rest.standing, rest.frames, birth, program) refl

fits_moved : (body : Shown) (number : Option ℕ) (noted : List Entry) (room : ℕ) (owes : List Duty) (log : List Happened)
    → Fits body log → noted ≡ body.noted → ((f : ℕ) → MayBeOf number f → MayBeOf body.number f)
    → Fits (moved body number noted room owes) log
fits_moved body number noted room owes log fits same may = record {
  noted = same ∙ fits.noted;
  follows = λ script f program mine. fits.follows script f program (may f mine);
  stands = λ f mine. fits.stands f (may f mine);
  owns = λ f mine. fits.owns f (may f mine);
  over = λ f mine ended. fits.over f (may f mine) ended;
}

pub fits_same : (old new : Shown) (log : List Happened) → Fits old log → IsSameRest old new
    → IsSame (carry_of old) (carry_of new) → Fits new log
fits_same old new log fits rest same =
    subst (λ (body : Shown). Fits body log) (sym (same_but old new rest same.birth same.share))
    (fits_moved old new.number new.noted new.room new.owes log fits same.noted
    (λ f mine. subst (λ (n : Option ℕ). MayBeOf n f) same.number mine))

pub fits_fresh : (old new : Shown) → Fits old [] → old.number ≡ None → IsSameRest old new
    → new.birth ≡ old.birth → new.noted ≡ old.noted → new.program ≡ old.program → Fits new []
fits_fresh old new fits none rest birth noted program =
    subst (λ (body : Shown). Fits body []) (sym (same_but old new rest birth program))
    (fits_moved old new.number new.noted new.room new.owes [] fits noted
    (λ f mine. subst (λ (n : Option ℕ). MayBeOf n f) (sym none) tt))

-- the clock's is no fiber's
no_fiber : (A : Type 0) (number : Option ℕ) (f : ℕ) → number ≡ Some 0 → MayBeOf number f → A
no_fiber A number f clock mine =
    let here : MayBeOf (Some 0) f = subst (λ (n : Option ℕ). MayBeOf n f) clock mine in
    absurd (here.1 (sym here.0))

pub clock_fits : (body : Shown) (log : List Happened) → body.number ≡ Some 0 → body.noted ≡ visible log → Fits body log
clock_fits body log number noted = record {
  noted = noted;
  follows = λ script f program mine. no_fiber (FollowsText script f body.birth log) body.number f number mine;
  stands = λ f mine. no_fiber (LeadsTo body f (own log)) body.number f number mine;
  owns = λ f mine. no_fiber (Owns (script_in body.program) f (own log) body.standing) body.number f number mine;
  over = λ f mine ended. no_fiber (IsOver f log) body.number f number mine;
}
