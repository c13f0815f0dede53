-- What a fiber that owes nothing did between two points of its turn.
use Rattle.std.specs.Prelude.{◌≡◌, ◌≢◌, ℕ, Option, List, []}
use Rattle.std.specs.List.{AllByRecursion}
use Rattle.pic_machine.specs.Happened.{Happened}
use Rattle.pic_machine.specs.Order.{GoesOn, readied}
use Rattle.pic_machine.specs.Routine.{Goes, Routine}
use Rattle.pic_machine.specs.Sight.{Carry, Sight, Holds, fiber_of}
use Rattle.pic_machine.specs.Turning.{Grew, Went}

-- the body is out, it isn't the clock's, and its fiber owes nothing
pub record IsFree {S : Type 0} (port : Sight S) (body : Carry S) : Type 0 where
  pub holds : Holds port body
  pub fiber : fiber_of body ≢ 0
  pub owes : body.owes ≡ []

-- the fiber made these entries, which leave its turn under way and make nobody ready, and still owes nothing
pub record Did {S : Type 0} (old new : Sight S) (before now : Carry S) (es : List Happened) : Type 0 where
  pub grew : Grew old new (fiber_of before) es
  pub on : AllByRecursion GoesOn es
  pub none : readied es ≡ []
  pub free : IsFree new now
  pub number : now.number ≡ before.number
  pub birth : now.birth ≡ before.birth
  pub share : now.share ≡ before.share

-- the same by a routine, from one of its phases to another one
pub record Ran {S Phase : Type 0} (r : Routine Phase) (old new : Sight S) (before now : Carry S) (p q : Phase) : Type 0 where
  pub es : List Happened
  pub did : Did old new before now es
  pub goes : Goes r (fiber_of before) p es q

-- the same by one whose calls may make fibers ready, of which the ready line is told
pub record RanTelling {S Phase : Type 0} (r : Routine Phase) (old new : Sight S) (before now : Carry S) (line later : Option (List ℕ)) (p q : Phase) : Type 0 where
  pub went : Went old new before now line later
  pub goes : Goes r (fiber_of before) p went.going q
  pub free : IsFree new now
  pub birth : now.birth ≡ before.birth
  pub share : now.share ≡ before.share
