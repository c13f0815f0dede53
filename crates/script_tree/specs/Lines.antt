-- A line of a script: its form, the parts that stand behind the word that tells it, and back.
use Rattle.std.specs.Prelude.{ℕ, Option, Some, None, List, [], ◌∷◌, slice_index_or}
use Rattle.script_tree.specs.declared.form.Form.{Form}
use Rattle.script_tree.specs.declared.form.Form.TheVariants as form
use Rattle.script_tree.specs.declared.form.DeclForm.{DeclForm}
use Rattle.script_tree.specs.declared.form.DeclForm.TheVariants as decl_form
use Rattle.script_tree.specs.declared.form.BasicForm.{BasicForm}
use Rattle.script_tree.specs.declared.form.BasicForm.TheVariants as basic_form
use Rattle.script_tree.specs.declared.form.CompForm.{CompForm}
use Rattle.script_tree.specs.declared.form.CompForm.TheVariants as comp_form
use Rattle.script_tree.specs.declared.form.ObjectForm.{ObjectForm}
use Rattle.script_tree.specs.declared.form.ObjectForm.TheVariants as object_form
use Rattle.script_tree.specs.declared.form.FiberForm.{FiberForm}
use Rattle.script_tree.specs.declared.form.FiberForm.TheVariants as fiber_form
use Rattle.script_tree.specs.declared.form.BlockForm.{BlockForm}
use Rattle.script_tree.specs.declared.form.BlockForm.TheVariants as block_form
use Rattle.script_tree.specs.declared.form.EventForm.{EventForm}
use Rattle.script_tree.specs.declared.form.EventForm.TheVariants as event_form
use Rattle.script_tree.specs.declared.form.GroupForm.{GroupForm}
use Rattle.script_tree.specs.declared.form.GroupForm.TheVariants as group_form
use Rattle.script_tree.specs.declared.line.Line.{Line}
use Rattle.script_tree.specs.declared.line.Line.TheVariants as line
use Rattle.script_tree.specs.declared.opener.Opener.{Opener}
use Rattle.script_tree.specs.declared.opener.Opener.TheVariants as opener
use Rattle.script_tree.specs.declared.program.CompRef.{CompRef}
use Rattle.script_tree.specs.declared.program.CompRef.TheVariants as comp
use Rattle.script_tree.specs.declared.program.EventTree.{EventTree}
use Rattle.script_tree.specs.declared.program.EventTree.TheVariants as event
use Rattle.script_tree.specs.declared.program.Kind.{Kind}
use Rattle.script_tree.specs.declared.program.Kind.TheVariants as kind
use Rattle.script_tree.specs.declared.program.Operand.{Operand}
use Rattle.script_tree.specs.declared.program.Operand.TheVariants as operand
use Rattle.script_tree.specs.declared.program.Stmt.{Stmt}
use Rattle.script_tree.specs.declared.program.Stmt.TheVariants as stmt
use Rattle.script_tree.specs.declared.program.Test.{Test}
use Rattle.script_tree.specs.declared.program.Test.TheVariants as test
use Rattle.script_tree.specs.Parts.{Part, number_part, operand_part, comp_part, test_part, name_part}

-- the part at a place, and what stands in it
abbrev pub part_at : List Part → ℕ → Part
part_at parts i = slice_index_or parts i (number_part 0)

abbrev pub number_in : Part → ℕ
number_in (number_part n) = n
number_in _ = 0

abbrev pub operand_in : Part → Operand
operand_in (operand_part o) = o
operand_in _ = operand.Num 0

abbrev pub comp_in : Part → CompRef
comp_in (comp_part c) = c
comp_in _ = comp.Root

abbrev pub test_in : Part → Test
test_in (test_part t) = t
test_in _ = test.Eq

abbrev pub name_in : Part → List ℕ
name_in (name_part w) = w
name_in _ = []

-- what a form makes of its parts
abbrev pub basic_form_made : BasicForm → List Part → Stmt
basic_form_made basic_form.Set ps = stmt.Set (number_in (part_at ps 0)) (operand_in (part_at ps 1))
basic_form_made basic_form.Add ps = stmt.Add (number_in (part_at ps 0)) (operand_in (part_at ps 1))
basic_form_made basic_form.Sub ps = stmt.Sub (number_in (part_at ps 0)) (operand_in (part_at ps 1))
basic_form_made basic_form.Mul ps = stmt.Mul (number_in (part_at ps 0)) (operand_in (part_at ps 1))
basic_form_made basic_form.Words ps = stmt.Words (number_in (part_at ps 0)) (operand_in (part_at ps 1))
basic_form_made basic_form.Len ps = stmt.Len (number_in (part_at ps 0)) (operand_in (part_at ps 1))
basic_form_made basic_form.Put ps = stmt.Put (number_in (part_at ps 0)) (operand_in (part_at ps 1))
basic_form_made basic_form.Get ps = stmt.Get (number_in (part_at ps 0)) (number_in (part_at ps 1))
basic_form_made basic_form.Say ps = stmt.Say (operand_in (part_at ps 0))
basic_form_made basic_form.Raise ps = stmt.Raise (operand_in (part_at ps 0))
basic_form_made basic_form.Break ps = stmt.Break
basic_form_made basic_form.Yield ps = stmt.Yield
basic_form_made basic_form.Check ps = stmt.Check

abbrev pub comp_form_made : CompForm → List Part → Stmt
comp_form_made comp_form.Signal ps = stmt.Signal (number_in (part_at ps 0))
comp_form_made comp_form.Await ps = stmt.Await (number_in (part_at ps 0))
comp_form_made comp_form.Attach ps = stmt.Attach (number_in (part_at ps 0)) (comp_in (part_at ps 1)) (number_in (part_at ps 2))
comp_form_made comp_form.Detach ps = stmt.Detach (comp_in (part_at ps 0)) (number_in (part_at ps 1))
comp_form_made comp_form.Return ps = stmt.Return (number_in (part_at ps 0)) (comp_in (part_at ps 1)) (operand_in (part_at ps 2))
comp_form_made comp_form.Cancel ps = stmt.Cancel (number_in (part_at ps 0)) (comp_in (part_at ps 1)) (operand_in (part_at ps 2))
comp_form_made comp_form.Peek ps = stmt.Peek (number_in (part_at ps 0)) (number_in (part_at ps 1)) (comp_in (part_at ps 2))
comp_form_made comp_form.Wait ps = stmt.Wait (number_in (part_at ps 0)) (comp_in (part_at ps 1))
comp_form_made comp_form.After ps = stmt.After (operand_in (part_at ps 0)) (comp_in (part_at ps 1)) (operand_in (part_at ps 2))

abbrev pub object_form_made : ObjectForm → List Part → Stmt
object_form_made object_form.Lock ps = stmt.Lock (number_in (part_at ps 0))
object_form_made object_form.TryLock ps = stmt.TryLock (number_in (part_at ps 0)) (number_in (part_at ps 1))
object_form_made object_form.Unlock ps = stmt.Unlock (number_in (part_at ps 0))
object_form_made object_form.WaitCond ps = stmt.WaitCond (number_in (part_at ps 0)) (number_in (part_at ps 1))
object_form_made object_form.Notify ps = stmt.Notify (number_in (part_at ps 0))
object_form_made object_form.Broadcast ps = stmt.Broadcast (number_in (part_at ps 0))
object_form_made object_form.Acquire ps = stmt.Acquire (number_in (part_at ps 0))
object_form_made object_form.TryAcquire ps = stmt.TryAcquire (number_in (part_at ps 0)) (number_in (part_at ps 1))
object_form_made object_form.Release ps = stmt.Release (number_in (part_at ps 0))
object_form_made object_form.Decr ps = stmt.Decr (number_in (part_at ps 0))
object_form_made object_form.Incr ps = stmt.Incr (number_in (part_at ps 0)) (number_in (part_at ps 1))
object_form_made object_form.AwaitLatch ps = stmt.AwaitLatch (number_in (part_at ps 0))
object_form_made object_form.Fill ps = stmt.Fill (number_in (part_at ps 0)) (number_in (part_at ps 1)) (operand_in (part_at ps 2))
object_form_made object_form.Poison ps = stmt.Poison (number_in (part_at ps 0)) (number_in (part_at ps 1)) (operand_in (part_at ps 2))
object_form_made object_form.Read ps = stmt.Read (number_in (part_at ps 0)) (number_in (part_at ps 1))
object_form_made object_form.Push ps = stmt.Push (number_in (part_at ps 0)) (operand_in (part_at ps 1))
object_form_made object_form.Tap ps = stmt.Tap (number_in (part_at ps 0)) (number_in (part_at ps 1))
object_form_made object_form.Next ps = stmt.Next (number_in (part_at ps 0)) (number_in (part_at ps 1)) (number_in (part_at ps 2))
object_form_made object_form.Line ps = stmt.Line (number_in (part_at ps 0))

abbrev pub fiber_form_made : FiberForm → List Part → Stmt
fiber_form_made fiber_form.Spawn ps = stmt.Spawn (number_in (part_at ps 0)) (operand_in (part_at ps 1))
fiber_form_made fiber_form.Fork ps = stmt.Fork (number_in (part_at ps 0)) (operand_in (part_at ps 1))
fiber_form_made fiber_form.Promise ps = stmt.Promise (number_in (part_at ps 0)) (number_in (part_at ps 1)) (operand_in (part_at ps 2))
fiber_form_made fiber_form.Terminate ps = stmt.Terminate
fiber_form_made fiber_form.Error ps = stmt.Error (operand_in (part_at ps 0))

abbrev pub block_form_made : BlockForm → List Part → Opener
block_form_made block_form.If ps = opener.Then (operand_in (part_at ps 0)) (test_in (part_at ps 1)) (operand_in (part_at ps 2))
block_form_made block_form.Loop ps = opener.Loop
block_form_made block_form.Try ps = opener.Try
block_form_made block_form.Forbid ps = opener.Forbid
block_form_made block_form.Permit ps = opener.Permit
block_form_made block_form.Under ps = opener.Under (comp_in (part_at ps 0))
block_form_made block_form.Link ps = opener.Link (comp_in (part_at ps 0)) (comp_in (part_at ps 1))
block_form_made block_form.Protect ps = opener.Protect (number_in (part_at ps 0))
block_form_made block_form.Bundle ps = opener.Bundle
block_form_made block_form.Flock ps = opener.Flock
block_form_made block_form.Select ps = opener.Select (number_in (part_at ps 0)) (number_in (part_at ps 1))

abbrev pub group_form_made : GroupForm → List Part → Opener
group_form_made group_form.Choose ps = opener.Choose
group_form_made group_form.Wrap ps = opener.Wrap (operand_in (part_at ps 0))
group_form_made group_form.Guard ps = opener.Guard (operand_in (part_at ps 0)) (test_in (part_at ps 1)) (operand_in (part_at ps 2))

abbrev pub event_form_made : EventForm → List Part → EventTree
event_form_made event_form.Ivar ps = event.OnIvar (number_in (part_at ps 0))
event_form_made event_form.Latch ps = event.OnLatch (number_in (part_at ps 0))
event_form_made event_form.Stream ps = event.OnStream (number_in (part_at ps 0)) (number_in (part_at ps 1))
event_form_made event_form.Done ps = event.OnDone (comp_in (part_at ps 0))
event_form_made event_form.Always ps = event.OnAlways (operand_in (part_at ps 0))

abbrev pub kind_made : DeclForm → List Part → Kind
kind_made decl_form.Trigger ps = kind.Trigger
kind_made decl_form.Comp ps = kind.Comp
kind_made decl_form.Mutex ps = kind.Mutex
kind_made decl_form.Cond ps = kind.Cond
kind_made decl_form.Sem ps = kind.Sem (number_in (part_at ps 1))
kind_made decl_form.Latch ps = kind.Latch (number_in (part_at ps 1))
kind_made decl_form.Ivar ps = kind.Ivar
kind_made decl_form.Stream ps = kind.Stream

-- the line that a form makes of its parts
abbrev pub line_made : Form → List Part → Line
line_made (form.Declare f) ps = line.Declare (kind_made f ps) (name_in (part_at ps 0))
line_made form.Fiber ps = line.Fiber (name_in (part_at ps 0))
line_made form.Main ps = line.Main
line_made form.End ps = line.End
line_made form.Else ps = line.Else
line_made form.Catch ps = line.Catch (number_in (part_at ps 0))
line_made (form.Basic f) ps = line.Plain (basic_form_made f ps)
line_made (form.Comp f) ps = line.Plain (comp_form_made f ps)
line_made (form.Object f) ps = line.Plain (object_form_made f ps)
line_made (form.Fork f) ps = line.Plain (fiber_form_made f ps)
line_made (form.Block f) ps = line.Open (block_form_made f ps)
line_made (form.Event f) ps = line.Leaf (event_form_made f ps)
line_made (form.Group f) ps = line.Open (group_form_made f ps)

-- the form of a statement, and its parts
abbrev pub stmt_form : Stmt → Option Form
stmt_form (stmt.Set a b) = Some (form.Basic basic_form.Set)
stmt_form (stmt.Add a b) = Some (form.Basic basic_form.Add)
stmt_form (stmt.Sub a b) = Some (form.Basic basic_form.Sub)
stmt_form (stmt.Mul a b) = Some (form.Basic basic_form.Mul)
stmt_form (stmt.Words a b) = Some (form.Basic basic_form.Words)
stmt_form (stmt.Len a b) = Some (form.Basic basic_form.Len)
stmt_form (stmt.Put a b) = Some (form.Basic basic_form.Put)
stmt_form (stmt.Get a b) = Some (form.Basic basic_form.Get)
stmt_form (stmt.Say a) = Some (form.Basic basic_form.Say)
stmt_form (stmt.Raise a) = Some (form.Basic basic_form.Raise)
stmt_form stmt.Break = Some (form.Basic basic_form.Break)
stmt_form stmt.Yield = Some (form.Basic basic_form.Yield)
stmt_form stmt.Check = Some (form.Basic basic_form.Check)
stmt_form (stmt.Signal a) = Some (form.Comp comp_form.Signal)
stmt_form (stmt.Await a) = Some (form.Comp comp_form.Await)
stmt_form (stmt.Attach a b c) = Some (form.Comp comp_form.Attach)
stmt_form (stmt.Detach a b) = Some (form.Comp comp_form.Detach)
stmt_form (stmt.Return a b c) = Some (form.Comp comp_form.Return)
stmt_form (stmt.Cancel a b c) = Some (form.Comp comp_form.Cancel)
stmt_form (stmt.Peek a b c) = Some (form.Comp comp_form.Peek)
stmt_form (stmt.Wait a b) = Some (form.Comp comp_form.Wait)
stmt_form (stmt.After a b c) = Some (form.Comp comp_form.After)
stmt_form (stmt.Lock a) = Some (form.Object object_form.Lock)
stmt_form (stmt.TryLock a b) = Some (form.Object object_form.TryLock)
stmt_form (stmt.Unlock a) = Some (form.Object object_form.Unlock)
stmt_form (stmt.WaitCond a b) = Some (form.Object object_form.WaitCond)
stmt_form (stmt.Notify a) = Some (form.Object object_form.Notify)
stmt_form (stmt.Broadcast a) = Some (form.Object object_form.Broadcast)
stmt_form (stmt.Acquire a) = Some (form.Object object_form.Acquire)
stmt_form (stmt.TryAcquire a b) = Some (form.Object object_form.TryAcquire)
stmt_form (stmt.Release a) = Some (form.Object object_form.Release)
stmt_form (stmt.Decr a) = Some (form.Object object_form.Decr)
stmt_form (stmt.Incr a b) = Some (form.Object object_form.Incr)
stmt_form (stmt.AwaitLatch a) = Some (form.Object object_form.AwaitLatch)
stmt_form (stmt.Fill a b c) = Some (form.Object object_form.Fill)
stmt_form (stmt.Poison a b c) = Some (form.Object object_form.Poison)
stmt_form (stmt.Read a b) = Some (form.Object object_form.Read)
stmt_form (stmt.Push a b) = Some (form.Object object_form.Push)
stmt_form (stmt.Tap a b) = Some (form.Object object_form.Tap)
stmt_form (stmt.Next a b c) = Some (form.Object object_form.Next)
stmt_form (stmt.Line a) = Some (form.Object object_form.Line)
stmt_form (stmt.Spawn a b) = Some (form.Fork fiber_form.Spawn)
stmt_form (stmt.Fork a b) = Some (form.Fork fiber_form.Fork)
stmt_form (stmt.Promise a b c) = Some (form.Fork fiber_form.Promise)
stmt_form stmt.Terminate = Some (form.Fork fiber_form.Terminate)
stmt_form (stmt.Error a) = Some (form.Fork fiber_form.Error)
stmt_form _ = None

abbrev pub stmt_parts : Stmt → List Part
stmt_parts (stmt.Set a b) = number_part a ∷ (operand_part b ∷ [])
stmt_parts (stmt.Add a b) = number_part a ∷ (operand_part b ∷ [])
stmt_parts (stmt.Sub a b) = number_part a ∷ (operand_part b ∷ [])
stmt_parts (stmt.Mul a b) = number_part a ∷ (operand_part b ∷ [])
stmt_parts (stmt.Words a b) = number_part a ∷ (operand_part b ∷ [])
stmt_parts (stmt.Len a b) = number_part a ∷ (operand_part b ∷ [])
stmt_parts (stmt.Put a b) = number_part a ∷ (operand_part b ∷ [])
stmt_parts (stmt.Get a b) = number_part a ∷ (number_part b ∷ [])
stmt_parts (stmt.Say a) = operand_part a ∷ []
stmt_parts (stmt.Raise a) = operand_part a ∷ []
stmt_parts stmt.Break = []
stmt_parts stmt.Yield = []
stmt_parts stmt.Check = []
stmt_parts (stmt.Signal a) = number_part a ∷ []
stmt_parts (stmt.Await a) = number_part a ∷ []
stmt_parts (stmt.Attach a b c) = number_part a ∷ (comp_part b ∷ (number_part c ∷ []))
stmt_parts (stmt.Detach a b) = comp_part a ∷ (number_part b ∷ [])
stmt_parts (stmt.Return a b c) = number_part a ∷ (comp_part b ∷ (operand_part c ∷ []))
stmt_parts (stmt.Cancel a b c) = number_part a ∷ (comp_part b ∷ (operand_part c ∷ []))
stmt_parts (stmt.Peek a b c) = number_part a ∷ (number_part b ∷ (comp_part c ∷ []))
stmt_parts (stmt.Wait a b) = number_part a ∷ (comp_part b ∷ [])
stmt_parts (stmt.After a b c) = operand_part a ∷ (comp_part b ∷ (operand_part c ∷ []))
stmt_parts (stmt.Lock a) = number_part a ∷ []
stmt_parts (stmt.TryLock a b) = number_part a ∷ (number_part b ∷ [])
stmt_parts (stmt.Unlock a) = number_part a ∷ []
stmt_parts (stmt.WaitCond a b) = number_part a ∷ (number_part b ∷ [])
stmt_parts (stmt.Notify a) = number_part a ∷ []
stmt_parts (stmt.Broadcast a) = number_part a ∷ []
stmt_parts (stmt.Acquire a) = number_part a ∷ []
stmt_parts (stmt.TryAcquire a b) = number_part a ∷ (number_part b ∷ [])
stmt_parts (stmt.Release a) = number_part a ∷ []
stmt_parts (stmt.Decr a) = number_part a ∷ []
stmt_parts (stmt.Incr a b) = number_part a ∷ (number_part b ∷ [])
stmt_parts (stmt.AwaitLatch a) = number_part a ∷ []
stmt_parts (stmt.Fill a b c) = number_part a ∷ (number_part b ∷ (operand_part c ∷ []))
stmt_parts (stmt.Poison a b c) = number_part a ∷ (number_part b ∷ (operand_part c ∷ []))
stmt_parts (stmt.Read a b) = number_part a ∷ (number_part b ∷ [])
stmt_parts (stmt.Push a b) = number_part a ∷ (operand_part b ∷ [])
stmt_parts (stmt.Tap a b) = number_part a ∷ (number_part b ∷ [])
stmt_parts (stmt.Next a b c) = number_part a ∷ (number_part b ∷ (number_part c ∷ []))
stmt_parts (stmt.Line a) = number_part a ∷ []
stmt_parts (stmt.Spawn a b) = number_part a ∷ (operand_part b ∷ [])
stmt_parts (stmt.Fork a b) = number_part a ∷ (operand_part b ∷ [])
stmt_parts (stmt.Promise a b c) = number_part a ∷ (number_part b ∷ (operand_part c ∷ []))
stmt_parts stmt.Terminate = []
stmt_parts (stmt.Error a) = operand_part a ∷ []
stmt_parts _ = []

-- the form of an opener, and its parts
abbrev pub opener_form : Opener → Option Form
opener_form (opener.Then a b c) = Some (form.Block block_form.If)
opener_form opener.Loop = Some (form.Block block_form.Loop)
opener_form opener.Try = Some (form.Block block_form.Try)
opener_form opener.Forbid = Some (form.Block block_form.Forbid)
opener_form opener.Permit = Some (form.Block block_form.Permit)
opener_form (opener.Under a) = Some (form.Block block_form.Under)
opener_form (opener.Link a b) = Some (form.Block block_form.Link)
opener_form (opener.Protect a) = Some (form.Block block_form.Protect)
opener_form opener.Bundle = Some (form.Block block_form.Bundle)
opener_form opener.Flock = Some (form.Block block_form.Flock)
opener_form (opener.Select a b) = Some (form.Block block_form.Select)
opener_form opener.Choose = Some (form.Group group_form.Choose)
opener_form (opener.Wrap a) = Some (form.Group group_form.Wrap)
opener_form (opener.Guard a b c) = Some (form.Group group_form.Guard)
opener_form _ = None

abbrev pub opener_parts : Opener → List Part
opener_parts (opener.Then a b c) = operand_part a ∷ (test_part b ∷ (operand_part c ∷ []))
opener_parts opener.Loop = []
opener_parts opener.Try = []
opener_parts opener.Forbid = []
opener_parts opener.Permit = []
opener_parts (opener.Under a) = comp_part a ∷ []
opener_parts (opener.Link a b) = comp_part a ∷ (comp_part b ∷ [])
opener_parts (opener.Protect a) = number_part a ∷ []
opener_parts opener.Bundle = []
opener_parts opener.Flock = []
opener_parts (opener.Select a b) = number_part a ∷ (number_part b ∷ [])
opener_parts opener.Choose = []
opener_parts (opener.Wrap a) = operand_part a ∷ []
opener_parts (opener.Guard a b c) = operand_part a ∷ (test_part b ∷ (operand_part c ∷ []))
opener_parts _ = []

-- the form of an event, and its parts
abbrev pub tree_form : EventTree → Option Form
tree_form (event.OnIvar a) = Some (form.Event event_form.Ivar)
tree_form (event.OnLatch a) = Some (form.Event event_form.Latch)
tree_form (event.OnStream a b) = Some (form.Event event_form.Stream)
tree_form (event.OnDone a) = Some (form.Event event_form.Done)
tree_form (event.OnAlways a) = Some (form.Event event_form.Always)
tree_form _ = None

abbrev pub event_parts : EventTree → List Part
event_parts (event.OnIvar a) = number_part a ∷ []
event_parts (event.OnLatch a) = number_part a ∷ []
event_parts (event.OnStream a b) = number_part a ∷ (number_part b ∷ [])
event_parts (event.OnDone a) = comp_part a ∷ []
event_parts (event.OnAlways a) = operand_part a ∷ []
event_parts _ = []

abbrev pub kind_form : Kind → DeclForm
kind_form kind.Trigger = decl_form.Trigger
kind_form kind.Comp = decl_form.Comp
kind_form kind.Mutex = decl_form.Mutex
kind_form kind.Cond = decl_form.Cond
kind_form (kind.Sem n) = decl_form.Sem
kind_form (kind.Latch n) = decl_form.Latch
kind_form kind.Ivar = decl_form.Ivar
kind_form kind.Stream = decl_form.Stream

abbrev pub kind_parts : Kind → List Part
kind_parts kind.Trigger = []
kind_parts kind.Comp = []
kind_parts kind.Mutex = []
kind_parts kind.Cond = []
kind_parts (kind.Sem n) = number_part n ∷ []
kind_parts (kind.Latch n) = number_part n ∷ []
kind_parts kind.Ivar = []
kind_parts kind.Stream = []

-- the form of a line, and its parts
abbrev pub line_form : Line → Option Form
line_form (line.Declare k w) = Some (form.Declare (kind_form k))
line_form (line.Fiber w) = Some form.Fiber
line_form line.Main = Some form.Main
line_form line.End = Some form.End
line_form line.Else = Some form.Else
line_form (line.Catch r) = Some form.Catch
line_form (line.Plain x) = stmt_form x
line_form (line.Open o) = opener_form o
line_form (line.Leaf x) = tree_form x

abbrev pub line_parts : Line → List Part
line_parts (line.Declare k w) = name_part w ∷ kind_parts k
line_parts (line.Fiber w) = name_part w ∷ []
line_parts line.Main = []
line_parts line.End = []
line_parts line.Else = []
line_parts (line.Catch r) = number_part r ∷ []
line_parts (line.Plain x) = stmt_parts x
line_parts (line.Open o) = opener_parts o
line_parts (line.Leaf x) = event_parts x
