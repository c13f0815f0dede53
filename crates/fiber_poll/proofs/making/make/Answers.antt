use Rattle.std.proofs.Common.{subst}
use Rattle.pic_machine.specs.declared.entry.Call.TheVariants.{Complete, Peek, Signal}
use Rattle.fiber_poll.specs.UnderWay.{CanAsk}
use Rattle.fiber_poll.proofs.Giving.{names_stand}
use Rattle.fiber_poll.proofs.Going.{can_make, on_err, on_refused}
use Rattle.fiber_poll.proofs.making.make.Goals as goal

pub returns-in_err-say-in-Say-clause-refused : goal.returns-in_err-say-in-Say-clause-refused
returns-in_err-say-in-Say-clause-refused g c = on_err c.from_residual.result (_) (on_refused c.in_err-say-in-Say.field-0.0 c.requires.up c.in_err-say-in-Say.ensures.none c.say.ensures.rest)

pub peek-requires : goal.peek-requires
peek-requires g c =
    can_make c.requires.up c.requires.free c.requires.room (names_stand c.requires.port_of c.requires.up (Peek c.in-Peek.comp) (subst (CanAsk c.args.poller.now c.args.body.now.birth) c.in-Peek.is c.requires.can)) tt tt

pub returns-in_err-peek-in-Peek-clause-refused : goal.returns-in_err-peek-in-Peek-clause-refused
returns-in_err-peek-in-Peek-clause-refused g c = on_err c.from_residual-in_err-peek-in-Peek.result (_) (on_refused c.in_err-peek-in-Peek.field-0.0 c.requires.up c.in_err-peek-in-Peek.ensures.none c.peek.ensures.rest)

pub complete-requires : goal.complete-requires
complete-requires g c =
    can_make c.requires.up c.requires.free c.requires.room (names_stand c.requires.port_of c.requires.up (Complete c.in-Complete.comp c.in-Complete.outcome) (subst (CanAsk c.args.poller.now c.args.body.now.birth) c.in-Complete.is c.requires.can)) tt tt

pub returns-in_err-complete-in-Complete-clause-refused : goal.returns-in_err-complete-in-Complete-clause-refused
returns-in_err-complete-in-Complete-clause-refused g c = on_err c.from_residual-in_err-complete-in-Complete.result (_) (on_refused c.in_err-complete-in-Complete.field-0.0 c.requires.up c.in_err-complete-in-Complete.ensures.none c.complete.ensures.rest)

pub signal-requires-clause-can : goal.signal-requires-clause-can
signal-requires-clause-can g c =
    can_make c.requires.up c.requires.free c.requires.room (names_stand c.requires.port_of c.requires.up (Signal c.in-Signal.trigger) (subst (CanAsk c.args.poller.now c.args.body.now.birth) c.in-Signal.is c.requires.can)) tt tt
