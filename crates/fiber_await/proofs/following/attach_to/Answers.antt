use Rattle.std.proofs.Common.{refl}
use Rattle.std.proofs.lemmas.Result.{err_from_is_err_and}
use Rattle.pic_machine.specs.declared.entry.AttachReply.TheVariants.{Attached, Completed}
use Rattle.pic_machine.specs.declared.entry.Reply.TheVariants as reply
use Rattle.fiber_await.proofs.Owning.{attaches, owns_attached}
use Rattle.fiber_await.proofs.Running.{did_none}
use Rattle.fiber_await.proofs.Stages.{attached_to, following_still}
use Rattle.fiber_await.proofs.following.attach_to.Goals as goal

pub returns-then-parts-ne-PLACING-clause-ran : goal.returns-then-parts-ne-PLACING-clause-ran
returns-then-parts-ne-PLACING-clause-ran g c s = following_still _ _ _ _ s c.args.comp refl (did_none _ _ c.requires.free)

pub attach-requires-clause-may : goal.attach-requires-clause-may
attach-requires-clause-may g c =
    attaches (g.P.Port.sight c.args.port.now) (g.P.Body.Carried.seen c.args.body.now) c.args.parts.now c.args.comp c.in-Some-Some.trigger c.in-Some-Some.place c.requires.free c.requires.comp c.if-parts-ne-PLACING.false
    c.in-Some-Some.is-0 c.in-Some-Some.is-1 c.requires.own

pub returns-in_err-attach-clause-ran : goal.returns-in_err-attach-clause-ran
returns-in_err-attach-clause-ran g c s =
    let p = err_from_is_err_and c.from_residual.result c.from_residual.ensures.1 in
    following_still _ _ _ _ s c.args.comp (rw p.1 refl) c.in_err-attach.ensures.refused.0

pub returns-in-Attached-clause-ran : goal.returns-in-Attached-clause-ran
returns-in-Attached-clause-ran g c s =
    attached_to _ _ _ _ s c.args.comp c.args.parts.now c.in-Some-Some.trigger c.in-Some-Some.place c.in_ok-attach.field-0 Attached _ c.if-parts-ne-PLACING.false c.in-Some-Some.is-0 c.in-Some-Some.is-1 c.in-Attached.is refl
    c.in_ok-attach.ensures.did

pub returns-in-Attached-clause-own : goal.returns-in-Attached-clause-own
returns-in-Attached-clause-own g c =
    owns_attached (g.P.Port.sight c.args.port.now) (g.P.Port.sight c.attach.new.port) (g.P.Body.Carried.seen c.args.body.now) (g.P.Body.Carried.seen c.attach.new.body) c.args.parts.now c.in-Some-Some.place c.args.comp
    c.in-Some-Some.trigger (reply.Attached c.in_ok-attach.field-0) c.if-parts-ne-PLACING.false c.in-Some-Some.is-1 c.in_ok-attach.ensures.did c.requires.own

pub returns-in-Completed-clause-ran : goal.returns-in-Completed-clause-ran
returns-in-Completed-clause-ran g c s =
    attached_to _ _ _ _ s c.args.comp c.args.parts.now c.in-Some-Some.trigger c.in-Some-Some.place c.in_ok-attach.field-0 (Completed c.in-Completed.outcome) _ c.if-parts-ne-PLACING.false c.in-Some-Some.is-0 c.in-Some-Some.is-1
    c.in-Completed.is refl c.in_ok-attach.ensures.did
