use Rattle.std.proofs.Common.{◌≡◌, ◌<◌, ◌∙◌, List, Some, length, slice_get, refl, sym, ap, subst}
use Rattle.std.proofs.lemmas.Option.{slice_get_read}
use Rattle.pic_machine.specs.contracts.world.World.{the_view}
use Rattle.pic_machine.specs.declared.state.CompState.{CompState}
use Rattle.pic_machine.specs.declared.world.World.TheInside.{Inside}
use Rattle.pic_machine.specs.State.{State}
use Rattle.pic_machine.proofs.Owing.{attached_more, attached_none}
use Rattle.pic_machine.proofs.world.World.attach.Goals as goal
use Rattle.pic_machine.proofs.world.World.attach.Goals.{in-Running+in_ok-push-in-Running, in-Done}

-- the world with these computations
abbrev changed : Inside → List CompState → State
changed world comps = record (the_view world) { comps = comps }

pub returns-clause-after : goal.returns-clause-after
returns-clause-after c =
    let within : c.args.comp < length c.self.inside.comps.items = subst (λ (w : State). c.args.comp < length w.comps) (sym c.self.view_is) c.requires in
    let there : slice_get c.self.inside.comps.items c.args.comp ≡ Some c.index_mut.result.now = slice_get_read c.self.inside.comps.items _ c.args.comp _ refl within c.index_mut.ensures.value in
    elim c.match-index_mut.branch [
      | in-Running+in_ok-push-in-Running w ↦
          rw (w.result-is, w.self-inside-is, sym c.self.view_is) (ap (changed c.self.inside) (attached_more c.self.inside.comps.items c.args.comp c.args.trigger _ _ (there ∙ ap Some w.in-Running.is) w.in_ok-push-in-Running.ensures.attached))
      | in-Done w ↦ rw (w.result-is, w.self-inside-is, sym c.self.view_is) (ap (changed c.self.inside) (attached_none c.self.inside.comps.items c.args.comp c.args.trigger _ (there ∙ ap Some w.in-Done.is)))
    ]
