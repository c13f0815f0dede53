use Rattle.std.proofs.Common.{reverse, ap, ◌∙◌}
use Rattle.std.specs.Option.{option_map}
use Rattle.std.specs.Arc.{arc_value}
use Rattle.fiber_body.specs.contracts.body.Body.{the_view}
use Rattle.fiber_body.specs.declared.body.Content.{Content}
use Rattle.fiber_body.specs.Context.{Context}
use Rattle.fiber_body.proofs.Newborn.{is_new}
use Rattle.fiber_body.proofs.body.Body.unused.Goals as goal

pub returns : goal.returns
returns c =
    let made = c.in_ok-new.ensures.ok in
    let context : Content → Context = λ x. record { registers = x.registers; cells = x.cells; steps = x.steps; current = x.current; permitted = x.permitted } in
    is_new (the_view (record { content = c.in_ok-new.field-0 })) (option_map arc_value c.args.program) c.args.birth c.args.number c.args.block
    (ap (λ (x : Content). option_map arc_value x.program) made) (ap (λ (x : Content). x.birth) made) (ap (λ (x : Content). x.number) made) (ap context made) (ap (λ (x : Content). x.standing) made) c.requires
    (ap (λ (x : Content). reverse x.frames.items) made ∙ ap reverse c.new.ensures.items) (ap (λ (x : Content). x.noted.entries) made ∙ c.new-2.ensures.entries)
    (ap (λ (x : Content). x.owed.value) made ∙ (c.of-2.ensures ∙ c.none.ensures))
