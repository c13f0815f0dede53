use Rattle.std.proofs.Common.{subst}
use Rattle.std.specs.Box.{with_value}
use Rattle.fiber_body.specs.declared.body.Content.{Content}
use Rattle.fiber_body.specs.Shown.{IsPopped, Shown}
use Rattle.fiber_body.proofs.Popped.{popped}
use Rattle.fiber_body.specs.contracts.body.Body.{the_view}
use Rattle.fiber_body.proofs.body.Body.pop_frame.Goals as goal

pub returns-clause-popped : goal.returns-clause-popped
returns-clause-popped c =
    let shown : Content → Shown = λ x. the_view (record { content = with_value c.self.inside.content x }) in
    let opened : Content = c.deref_mut.result.now in
    let now : Shown = shown (record opened { frames = c.pop.new.self }) in
    subst (λ (q : Shown). IsPopped q now c.pop.result) c.self.view_is
    (subst (λ (x : Content). IsPopped (shown x) now c.pop.result) c.deref_mut.ensures.value
    (popped (shown opened) opened.frames.items c.pop.new.self.items c.pop.result opened.frames.len c.pop.new.self.len
    c.pop.ensures.items opened.frames.ok.0 c.pop.ensures.cases))
