use Rattle.std.proofs.Common.{Some, None, subst}
use Rattle.pic_machine.specs.declared.entry.Call.TheVariants.{Fork}
use Rattle.pic_machine.specs.declared.port.PortFault.{PortFault}
use Rattle.pic_machine.specs.declared.port.PortFault.TheVariants.{Again, Memory}
use Rattle.pic_machine.specs.Lending.{RefusesMaking}
use Rattle.script_tree.specs.Tree.{Tree}
use Rattle.fiber_body.specs.New.{IsNew}
use Rattle.fiber_body.specs.Shown.{carry_of}
use Rattle.fiber_poll.proofs.Giving.{is_child}
use Rattle.fiber_poll.proofs.Going.{on_none, on_refused}
use Rattle.fiber_poll.proofs.making.fork.Goals as goal

pub returns-in_default-clause-refused : goal.returns-in_default-clause-refused
returns-in_default-clause-refused g c = on_none c.requires.up

pub fork-requires-clause-child : goal.fork-requires-clause-child
fork-requires-clause-child g c =
    is_child c.requires.port_of (record { text = c.args.text; value = c.args.value; current = c.current.result }) c.requires.up c.current.ensures.may
    (subst (λ (tree : Tree). IsNew c.in-Ok.child (Some tree) (record { text = c.args.text; value = c.args.value; current = c.current.result }) None) c.poller.view_is c.in-Ok.ensures)

pub returns-in-Err-default-Again-clause-refused : goal.returns-in-Err-default-Again-clause-refused
returns-in-Err-default-Again-clause-refused g c =
    on_refused Again c.requires.up
    (subst (λ (x : PortFault). RefusesMaking x (g.P.Port.sight c.args.port.now) (g.P.Port.sight c.fork.new.self) (carry_of c.args.body.now) (carry_of c.fork.new.body) (Fork c.args.text c.args.value)) c.in-Err-default-Again.field-0-1-is c.in-Err-default-Again.ensures.none)
    c.fork.ensures.rest

pub returns-clause-refused : goal.returns-clause-refused
returns-clause-refused g c =
    on_refused Memory c.requires.up
    (subst (λ (x : PortFault). RefusesMaking x (g.P.Port.sight c.args.port.now) (g.P.Port.sight c.fork.new.self) (carry_of c.args.body.now) (carry_of c.fork.new.body) (Fork c.args.text c.args.value)) c.in-Err-default-Memory.field-0-1-is c.in-Err-default-Memory.ensures.none)
    c.fork.ensures.rest
