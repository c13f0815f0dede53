use Rattle.std.proofs.Common.{◌≡◌, ◌<◌, Bool, true, false, Option, Some, [], refl, sym, ap, subst, ◌∙◌, arith}
use Rattle.std.specs.Bool.{OnFalse}
use Rattle.pic_machine.specs.declared.birth.Birth.{Birth}
use Rattle.pic_machine.specs.declared.entry.Call.{Call}
use Rattle.pic_machine.specs.Duty.{BringsNone}
use Rattle.pic_machine.specs.Sight.{Sight, fiber_of}
use Rattle.pic_machine.proofs.Freeing.{lent_free}
use Rattle.script_tree.specs.declared.program.Stmt.{Stmt}
use Rattle.script_tree.specs.declared.program.Stmt.TheVariants.{Check}
use Rattle.script_tree.specs.Tree.{Tree}
use Rattle.fiber_body.specs.Segments.{happens}
use Rattle.fiber_body.specs.Context.{Context, Numbering, numbering, stepped}
use Rattle.fiber_body.specs.Statements.{born, call_of, replied}
use Rattle.fiber_body.specs.Shown.{MayBeCurrent, Shown, carry_of}
use Rattle.fiber_poll.specs.Moving.{taken, weight}
use Rattle.fiber_poll.specs.Polls.{IsPortOf}
use Rattle.fiber_poll.specs.UnderWay.{CanAsk, IsOn, IsUp}
use Rattle.fiber_poll.proofs.Asking.{ChecksThere, asks_some, can_ask, on_called, taken_lighter, taken_owes}
use Rattle.fiber_poll.proofs.Going.{on_reserved, program_up}
use Rattle.fiber_poll.proofs.stmts.ask.Goals as goal

-- what a check peeks at may be current for a fiber of the poller's program
checks_there : {tree : Tree} {port : Sight (Option Tree)} {body : Shown} {one : Stmt} → IsPortOf tree port → IsUp port body → (one ≡ Check → MayBeCurrent body.program body.birth body.context.current) → ChecksThere tree body.birth body.context one
checks_there {tree} {port} {body} of up may is = subst (λ (p : Option Tree). MayBeCurrent p body.birth body.context.current) (program_up tree port body of up) (may is)

pub unreachable-requires : goal.unreachable-requires
unreachable-requires g c =
    let counted : c.poller.inside.numbers ≡ numbering c.args.poller.now.decls = subst (λ (t : Tree). c.poller.inside.numbers ≡ numbering t.decls) c.poller.view_is c.poller.invariant in
    asks_some c.args.poller.now c.args.body.now.birth c.args.body.now.context c.poller.inside.numbers counted c.args.stmt.now c.requires.can c.requires.not_done c.requires.calls c.requires.no_yield
    (checks_there c.requires.port_of c.requires.up c.call_of.ensures.may) (sym c.call_of.ensures.is ∙ c.in_default.is)

pub returns-then-is_err-clause-on : goal.returns-then-is_err-clause-on
returns-then-is_err-clause-on g c = on_reserved c.requires.up c.reserve.ensures.notes c.reserve.ensures.rest

pub make-requires-clause-up : goal.make-requires-clause-up
make-requires-clause-up g c = (on_reserved {told = g.R.ReadyLine.told c.args.line.now} c.requires.up c.reserve.ensures.notes c.reserve.ensures.rest).up

pub make-requires-clause-can : goal.make-requires-clause-can
make-requires-clause-can g c =
    let counted : c.poller.inside.numbers ≡ numbering c.args.poller.now.decls = subst (λ (t : Tree). c.poller.inside.numbers ≡ numbering t.decls) c.poller.view_is c.poller.invariant in
    subst (λ (birth : Birth). CanAsk c.args.poller.now birth c.in-Some.call) (sym c.reserve.ensures.notes.birth)
    (can_ask c.args.poller.now c.args.body.now.birth c.args.body.now.context c.poller.inside.numbers counted c.args.stmt.now c.requires.can c.requires.not_done c.requires.calls c.requires.no_yield
    (checks_there c.requires.port_of c.requires.up c.call_of.ensures.may) c.in-Some.call (sym c.call_of.ensures.is ∙ c.in-Some.is))

pub returns-clause-on : goal.returns-clause-on
returns-clause-on g c =
    let tree = c.args.poller.now in
    let b : Shown = c.args.body.now in
    let numbers : Numbering = c.poller.inside.numbers in
    let counted : numbers ≡ numbering tree.decls = subst (λ (t : Tree). numbers ≡ numbering t.decls) c.poller.view_is c.poller.invariant in
    let asks : call_of numbers (stepped b.context) c.args.stmt.now ≡ Some c.in-Some.call = sym c.call_of.ensures.is ∙ c.in-Some.is in
    let can = can_ask tree b.birth b.context numbers counted c.args.stmt.now c.requires.can c.requires.not_done c.requires.calls c.requires.no_yield (checks_there c.requires.port_of c.requires.up c.call_of.ensures.may) c.in-Some.call asks in
    subst (λ (d : Shown). IsOn (g.P.Port.sight c.args.port.now) (g.P.Port.sight c.make.new.port) b d (g.R.ReadyLine.told c.args.line.now) (g.R.ReadyLine.told c.make.new.line)) (sym c.take.ensures)
    (on_called (g.P.Port.sight c.args.port.now) (g.P.Port.sight c.make.new.port) (g.R.ReadyLine.told c.args.line.now) (g.R.ReadyLine.told c.make.new.line) tree c.args.spot c.args.stmt.now c.in-Some.call c.in_ok-reply.reply b.birth can
    b c.reserve.new.self c.make.new.body numbers counted c.requires.port_of c.requires.up c.requires.before c.requires.not_done c.requires.calls asks c.reserve.ensures.notes c.reserve.ensures.rest c.in_ok-reply.ensures.made)

pub returns-clause-lighter : goal.returns-clause-lighter
returns-clause-lighter g c =
    let b : Shown = c.args.body.now in
    let d : Shown = c.make.new.body in
    let same : d.context ≡ b.context = c.in_ok-reply.ensures.made.rest.context ∙ c.reserve.ensures.rest.context in
    let at = c.in_ok-reply.ensures.made.rest.standing ∙ (c.reserve.ensures.rest.standing ∙ c.requires.before.here.at) in
    let there : weight c.take.new.body ≡ weight (taken d c.args.spot (replied (stepped d.context) c.args.stmt.now c.in_ok-reply.reply)) = ap weight c.take.ensures in
    let frames = c.in_ok-reply.ensures.made.rest.frames ∙ c.reserve.ensures.rest.frames in
    let standing = c.in_ok-reply.ensures.made.rest.standing ∙ c.reserve.ensures.rest.standing in
    let light : weight d ≡ weight b = rw (same, frames, standing) refl in
    let less = taken_lighter d c.args.spot c.args.stmt.now c.in_ok-reply.reply at (subst (λ (x : Context). 0 < x.steps) (sym same) c.requires.before.steps) in
    omega (arith, there, light, less)

on_false : (b : Bool) (P Q : Type 0) → (P → Q) → OnFalse b P → OnFalse b Q
on_false true P Q so is = tt
on_false false P Q so is = so is

pub returns-clause-free : goal.returns-clause-free
returns-clause-free g c =
    let p = g.P.Port.sight c.args.port.now in
    let q = g.P.Port.sight c.make.new.port in
    let b : Shown = c.reserve.new.self in
    let d : Shown = c.make.new.body in
    let call : Call = c.in-Some.call in
    let up = (on_reserved {told = g.R.ReadyLine.told c.args.line.now} c.requires.up c.reserve.ensures.notes c.reserve.ensures.rest).up in
    let free : b.owes ≡ [] = c.reserve.ensures.notes.owes ∙ c.requires.free in
    let there : c.take.new.body.owes ≡ d.owes = ap (λ (z : Shown). z.owes) c.take.ensures ∙ taken_owes d c.args.spot (replied (stepped d.context) c.args.stmt.now c.in_ok-reply.reply) in
    on_false c.brings_duties.result (BringsNone call) (c.take.new.body.owes ≡ [])
    (λ brings. there ∙ lent_free p q (carry_of b) (carry_of d) (happens (fiber_of (carry_of b)) call c.in_ok-reply.reply (born b.context call)) c.in_ok-reply.ensures.made.lent up.holds refl brings free)
    c.brings_duties.ensures
