-- What contracts see of a fiber's body.
use Rattle.std.specs.Prelude.{◌≡◌, ℕ, ◌<◌, ◌≤◌, ◌⊎◌, Option, Some, None, List, [], ◌∷◌, ⊤}
use Rattle.entry_log.specs.Logged.{Logged}
use Rattle.pic_base.specs.declared.duty.Duty.{Duty}
use Rattle.pic_machine.specs.declared.birth.Birth.{Birth}
use Rattle.pic_machine.specs.declared.entry.Entry.{Entry}
use Rattle.pic_machine.specs.Sight.{Carry}
use Rattle.script_tree.specs.declared.thing.Sort.TheVariants as sort
use Rattle.script_tree.specs.Tree.{Tree}
use Rattle.fiber_body.specs.declared.standing.Exit.{Exit}
use Rattle.fiber_body.specs.declared.standing.Standing.{Standing}
use Rattle.fiber_body.specs.declared.standing.Frame.{Frame}
use Rattle.fiber_body.specs.declared.standing.Frame.TheVariants as frame
use Rattle.fiber_body.specs.Context.{Context, count_of}
use Rattle.fiber_body.specs.Statements.{Effect}
use Rattle.fiber_body.specs.Texts.{script_in}

-- the program that it shares, which the clock's body has not; what its fiber was made with, and the
-- fiber's number once it has one; what its statements read and write; where it stands in its text, and what
-- is around that, the innermost first; the entries that were noted, for how many more there is room, and what
-- the fiber owes
pub record Shown : Type 0 where
  pub program : Option Tree
  pub birth : Birth
  pub number : Option ℕ
  pub context : Context
  pub standing : Standing
  pub frames : List Frame
  pub noted : List Entry
  pub room : ℕ
  pub owes : List Duty

-- the body as every port sees it
abbrev pub carry_of : Shown → Carry (Option Tree)
carry_of body = record {
  birth = body.birth;
  number = body.number;
  noted = body.noted;
  room = body.room;
  owes = body.owes;
  share = body.program;
}

-- the body where it stands there, with so many steps left
abbrev pub stood : Shown → Standing → ℕ → Shown
stood body standing steps = record body { standing = standing; context = record body.context { steps = steps } }

-- the log of a body with this number is that of its fiber; without a number it has no entry
abbrev pub KeepsLog : Option ℕ → Logged → Type 0
KeepsLog None log = log.entries ≡ []
KeepsLog (Some fiber) log = log.fiber ≡ fiber

-- two bodies have the same rest: what their statements read and write, and where they stand
pub record IsSameRest (old new : Shown) : Type 0 where
  pub context : new.context ≡ old.context
  pub standing : new.standing ≡ old.standing
  pub frames : new.frames ≡ old.frames

-- the innermost frame is taken away, if there is one
abbrev pub IsPopped : Shown → Shown → Option Frame → Type 0
IsPopped old new None = (old.frames ≡ []) × (new ≡ old)
IsPopped old new (Some frame) = (outer : List Frame) × (old.frames ≡ frame ∷ outer) × (new ≡ record old { frames = outer })

-- a computation that may be current for a fiber of the program: that of its birth, the root or a declared one
abbrev pub MayBeCurrent : Option Tree → Birth → ℕ → Type 0
MayBeCurrent program birth comp = (comp ≡ birth.current) ⊎ (comp ≤ count_of sort.Comp (script_in program).decls)

-- the register that a frame names is one, and the computation may be current
abbrev pub IsFrame : Option Tree → Birth → Frame → Type 0
IsFrame program birth (frame.Catches register handler) = register < 16
IsFrame program birth (frame.Restores u) = MayBeCurrent program birth u.current
IsFrame program birth _ = ⊤

-- the registers and cells are as a statement leaves them that changes these alone, and the answer says how
-- it ends; of another statement nothing is changed
abbrev pub IsChanged : Option Effect → Shown → Shown → Option Exit → Type 0
IsChanged None old new answer = (answer ≡ None) × (new ≡ old)
IsChanged (Some effect) old new answer =
    (answer ≡ Some effect.exit) × (new ≡ record old { context = record old.context { registers = effect.registers; cells = effect.cells } })
