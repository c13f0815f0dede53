use Rattle.std.proofs.Common.{refl}
use Rattle.std.proofs.lemmas.Result.{err_from_is_err_and}
use Rattle.fiber_await.proofs.Owning.{stands_still}
use Rattle.fiber_await.proofs.Stages.{found_done, found_running, ran_named, ran_next, telling_as, telling_next}
use Rattle.fiber_await.proofs.following.await_comp.Goals as goal

pub returns-in_err-wake-clause-ran : goal.returns-in_err-wake-clause-ran
returns-in_err-wake-clause-ran g c =
    let p = err_from_is_err_and c.from_residual.result c.from_residual.ensures.1 in
    telling_as _ _ _ _ _ (rw p.1 refl) (c.wake.ensures.ran c.args.comp)

pub look_at-requires-clause-free : goal.look_at-requires-clause-free
look_at-requires-clause-free g c = (c.wake.ensures.ran 0).did.free

pub look_at-requires-clause-comp : goal.look_at-requires-clause-comp
look_at-requires-clause-comp g c = stands_still _ _ _ _ _ (c.wake.ensures.ran 0).did c.args.comp c.requires.comp

pub returns-in_err-outcome-clause-ran : goal.returns-in_err-outcome-clause-ran
returns-in_err-outcome-clause-ran g c =
    let p = err_from_is_err_and c.from_residual-in_err-outcome.result c.from_residual-in_err-outcome.ensures.1 in
    telling_as _ _ _ _ _ (rw p.1 refl) (ran_next _ _ _ _ _ _ c.args.s.now c.args.comp (c.wake.ensures.ran c.args.comp) (c.in_err-outcome.ensures.ran c.args.s.now))

pub returns-in-Some-clause-ran : goal.returns-in-Some-clause-ran
returns-in-Some-clause-ran g c = telling_as _ _ _ _ _ refl (ran_next _ _ _ _ _ _ c.args.s.now c.args.comp (c.wake.ensures.ran c.args.comp) (ran_named _ _ _ _ _ refl (found_done c.args.s.now c.in_ok-outcome.field-0 c.in-Some.outcome c.look_at.new.parts c.in-Some.is) (c.in_ok-outcome.ensures.ran c.args.s.now)))

pub get_ready-requires-clause-free : goal.get_ready-requires-clause-free
get_ready-requires-clause-free g c = (c.look_at.ensures.ran c.args.s.now).did.free

pub returns-in_err-get_ready-clause-ran : goal.returns-in_err-get_ready-clause-ran
returns-in_err-get_ready-clause-ran g c =
    let p = err_from_is_err_and c.from_residual-in_err-get_ready.result c.from_residual-in_err-get_ready.ensures.1 in
    telling_as _ _ _ _ _ (rw p.1 refl) (ran_next _ _ _ _ _ _ c.args.s.now c.args.comp (ran_next _ _ _ _ _ _ c.args.s.now c.args.comp (c.wake.ensures.ran c.args.comp) (ran_named _ _ _ _ _ refl (found_running c.args.s.now c.in_ok-outcome.field-0 c.look_at.new.parts c.in_default.is) (c.in_ok-outcome.ensures.ran c.args.s.now))) (c.get_ready.ensures.ran c.args.comp))

pub attach_to-requires-clause-free : goal.attach_to-requires-clause-free
attach_to-requires-clause-free g c = (c.get_ready.ensures.ran 0).did.free

pub attach_to-requires-clause-comp : goal.attach_to-requires-clause-comp
attach_to-requires-clause-comp g c = stands_still _ _ _ _ _ (c.get_ready.ensures.ran 0).did c.args.comp (stands_still _ _ _ _ _ (c.look_at.ensures.ran c.args.s.now).did c.args.comp (stands_still _ _ _ _ _ (c.wake.ensures.ran 0).did c.args.comp c.requires.comp))

pub returns-in_err-outcome-2-clause-ran : goal.returns-in_err-outcome-2-clause-ran
returns-in_err-outcome-2-clause-ran g c =
    let p = err_from_is_err_and c.from_residual-in_err-outcome-2.result c.from_residual-in_err-outcome-2.ensures.1 in
    telling_as _ _ _ _ _ (rw p.1 refl) (ran_next _ _ _ _ _ _ c.args.s.now c.args.comp (ran_next _ _ _ _ _ _ c.args.s.now c.args.comp (ran_next _ _ _ _ _ _ c.args.s.now c.args.comp (c.wake.ensures.ran c.args.comp) (ran_named _ _ _ _ _ refl (found_running c.args.s.now c.in_ok-outcome.field-0 c.look_at.new.parts c.in_default.is) (c.in_ok-outcome.ensures.ran c.args.s.now))) (c.get_ready.ensures.ran c.args.comp)) (c.in_err-outcome-2.ensures.ran c.args.s.now))

pub returns-in-Some-2-clause-ran : goal.returns-in-Some-2-clause-ran
returns-in-Some-2-clause-ran g c = telling_as _ _ _ _ _ refl (ran_next _ _ _ _ _ _ c.args.s.now c.args.comp (ran_next _ _ _ _ _ _ c.args.s.now c.args.comp (ran_next _ _ _ _ _ _ c.args.s.now c.args.comp (c.wake.ensures.ran c.args.comp) (ran_named _ _ _ _ _ refl (found_running c.args.s.now c.in_ok-outcome.field-0 c.look_at.new.parts c.in_default.is) (c.in_ok-outcome.ensures.ran c.args.s.now))) (c.get_ready.ensures.ran c.args.comp)) (ran_named _ _ _ _ _ refl (found_done c.args.s.now c.in_ok-outcome-2.field-0 c.in-Some-2.outcome c.attach_to.new.parts c.in-Some-2.is) (c.in_ok-outcome-2.ensures.ran c.args.s.now)))

pub fall_asleep-requires-clause-free : goal.fall_asleep-requires-clause-free
fall_asleep-requires-clause-free g c = (c.attach_to.ensures.ran c.args.s.now).did.free

pub fall_asleep-requires-clause-current : goal.fall_asleep-requires-clause-current
fall_asleep-requires-clause-current g c = stands_still _ _ _ _ _ (c.attach_to.ensures.ran c.args.s.now).did c.args.s.now.current (stands_still _ _ _ _ _ (c.get_ready.ensures.ran 0).did c.args.s.now.current (stands_still _ _ _ _ _ (c.look_at.ensures.ran c.args.s.now).did c.args.s.now.current (stands_still _ _ _ _ _ (c.wake.ensures.ran 0).did c.args.s.now.current c.requires.current)))

pub returns-in_err-fall_asleep-clause-ran : goal.returns-in_err-fall_asleep-clause-ran
returns-in_err-fall_asleep-clause-ran g c =
    let p = err_from_is_err_and c.from_residual-in_err-fall_asleep.result c.from_residual-in_err-fall_asleep.ensures.1 in
    telling_as _ _ _ _ _ (rw p.1 refl) (ran_next _ _ _ _ _ _ c.args.s.now c.args.comp (ran_next _ _ _ _ _ _ c.args.s.now c.args.comp (ran_next _ _ _ _ _ _ c.args.s.now c.args.comp (ran_next _ _ _ _ _ _ c.args.s.now c.args.comp (c.wake.ensures.ran c.args.comp) (ran_named _ _ _ _ _ refl (found_running c.args.s.now c.in_ok-outcome.field-0 c.look_at.new.parts c.in_default.is) (c.in_ok-outcome.ensures.ran c.args.s.now))) (c.get_ready.ensures.ran c.args.comp)) (ran_named _ _ _ _ _ refl (found_running c.args.s.now c.in_ok-outcome-2.field-0 c.attach_to.new.parts c.in_default-2.is) (c.in_ok-outcome-2.ensures.ran c.args.s.now))) (c.fall_asleep.ensures.ran c.args.comp))

pub returns-then-parts-eq-ARMING-clause-ran : goal.returns-then-parts-eq-ARMING-clause-ran
returns-then-parts-eq-ARMING-clause-ran g c = telling_as _ _ _ _ _ refl (ran_next _ _ _ _ _ _ c.args.s.now c.args.comp (ran_next _ _ _ _ _ _ c.args.s.now c.args.comp (ran_next _ _ _ _ _ _ c.args.s.now c.args.comp (ran_next _ _ _ _ _ _ c.args.s.now c.args.comp (c.wake.ensures.ran c.args.comp) (ran_named _ _ _ _ _ refl (found_running c.args.s.now c.in_ok-outcome.field-0 c.look_at.new.parts c.in_default.is) (c.in_ok-outcome.ensures.ran c.args.s.now))) (c.get_ready.ensures.ran c.args.comp)) (ran_named _ _ _ _ _ refl (found_running c.args.s.now c.in_ok-outcome-2.field-0 c.attach_to.new.parts c.in_default-2.is) (c.in_ok-outcome-2.ensures.ran c.args.s.now))) (c.fall_asleep.ensures.ran c.args.comp))

pub give_up-requires-clause-free : goal.give_up-requires-clause-free
give_up-requires-clause-free g c = (c.fall_asleep.ensures.ran 0).did.free

pub returns-clause-ran : goal.returns-clause-ran
returns-clause-ran g c = telling_next _ _ _ _ _ _ c.args.s.now c.args.comp _ _ (ran_next _ _ _ _ _ _ c.args.s.now c.args.comp (ran_next _ _ _ _ _ _ c.args.s.now c.args.comp (ran_next _ _ _ _ _ _ c.args.s.now c.args.comp (ran_next _ _ _ _ _ _ c.args.s.now c.args.comp (c.wake.ensures.ran c.args.comp) (ran_named _ _ _ _ _ refl (found_running c.args.s.now c.in_ok-outcome.field-0 c.look_at.new.parts c.in_default.is) (c.in_ok-outcome.ensures.ran c.args.s.now))) (c.get_ready.ensures.ran c.args.comp)) (ran_named _ _ _ _ _ refl (found_running c.args.s.now c.in_ok-outcome-2.field-0 c.attach_to.new.parts c.in_default-2.is) (c.in_ok-outcome-2.ensures.ran c.args.s.now))) (c.fall_asleep.ensures.ran c.args.comp)) (c.give_up.ensures.ran c.args.s.now c.args.comp)
