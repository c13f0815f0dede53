-- The line forms: how each is told, and what it wants behind that word.
use Rattle.std.specs.Prelude.{ℕ, Option, Some, None, List, [], ◌∷◌, ◌++◌, map, codes, bytes_eq, if◌then◌else◌}
use Rattle.script_tree.specs.declared.form.Form.{Form}
use Rattle.script_tree.specs.declared.form.Form.TheVariants as form
use Rattle.script_tree.specs.declared.form.DeclForm.{DeclForm}
use Rattle.script_tree.specs.declared.form.DeclForm.TheVariants as decl_form
use Rattle.script_tree.specs.declared.form.BasicForm.{BasicForm}
use Rattle.script_tree.specs.declared.form.BasicForm.TheVariants as basic_form
use Rattle.script_tree.specs.declared.form.CompForm.{CompForm}
use Rattle.script_tree.specs.declared.form.CompForm.TheVariants as comp_form
use Rattle.script_tree.specs.declared.form.ObjectForm.{ObjectForm}
use Rattle.script_tree.specs.declared.form.ObjectForm.TheVariants as object_form
use Rattle.script_tree.specs.declared.form.FiberForm.{FiberForm}
use Rattle.script_tree.specs.declared.form.FiberForm.TheVariants as fiber_form
use Rattle.script_tree.specs.declared.form.BlockForm.{BlockForm}
use Rattle.script_tree.specs.declared.form.BlockForm.TheVariants as block_form
use Rattle.script_tree.specs.declared.form.EventForm.{EventForm}
use Rattle.script_tree.specs.declared.form.EventForm.TheVariants as event_form
use Rattle.script_tree.specs.declared.form.GroupForm.{GroupForm}
use Rattle.script_tree.specs.declared.form.GroupForm.TheVariants as group_form
use Rattle.script_tree.specs.declared.thing.Sort.TheVariants as sort
use Rattle.script_tree.specs.Parts.{Shape, a_register, a_value, a_number, a_key, a_promise, a_comp, a_test, a_new_name, a_fillable, a_place}

abbrev pub decl_form_keyword : DeclForm → List ℕ
decl_form_keyword decl_form.Trigger = codes "trigger"
decl_form_keyword decl_form.Comp = codes "comp"
decl_form_keyword decl_form.Mutex = codes "mutex"
decl_form_keyword decl_form.Cond = codes "cond"
decl_form_keyword decl_form.Sem = codes "sem"
decl_form_keyword decl_form.Latch = codes "latch"
decl_form_keyword decl_form.Ivar = codes "ivar"
decl_form_keyword decl_form.Stream = codes "stream"

abbrev pub basic_form_keyword : BasicForm → List ℕ
basic_form_keyword basic_form.Set = codes "set"
basic_form_keyword basic_form.Add = codes "add"
basic_form_keyword basic_form.Sub = codes "sub"
basic_form_keyword basic_form.Mul = codes "mul"
basic_form_keyword basic_form.Words = codes "words"
basic_form_keyword basic_form.Len = codes "len"
basic_form_keyword basic_form.Put = codes "put"
basic_form_keyword basic_form.Get = codes "get"
basic_form_keyword basic_form.Say = codes "say"
basic_form_keyword basic_form.Raise = codes "raise"
basic_form_keyword basic_form.Break = codes "break"
basic_form_keyword basic_form.Yield = codes "yield"
basic_form_keyword basic_form.Check = codes "check"

abbrev pub comp_form_keyword : CompForm → List ℕ
comp_form_keyword comp_form.Signal = codes "signal"
comp_form_keyword comp_form.Await = codes "await"
comp_form_keyword comp_form.Attach = codes "attach"
comp_form_keyword comp_form.Detach = codes "detach"
comp_form_keyword comp_form.Return = codes "return"
comp_form_keyword comp_form.Cancel = codes "cancel"
comp_form_keyword comp_form.Peek = codes "peek"
comp_form_keyword comp_form.Wait = codes "wait"
comp_form_keyword comp_form.After = codes "after"

abbrev pub object_form_keyword : ObjectForm → List ℕ
object_form_keyword object_form.Lock = codes "lock"
object_form_keyword object_form.TryLock = codes "try_lock"
object_form_keyword object_form.Unlock = codes "unlock"
object_form_keyword object_form.WaitCond = codes "wait_cond"
object_form_keyword object_form.Notify = codes "notify"
object_form_keyword object_form.Broadcast = codes "broadcast"
object_form_keyword object_form.Acquire = codes "acquire"
object_form_keyword object_form.TryAcquire = codes "try_acquire"
object_form_keyword object_form.Release = codes "release"
object_form_keyword object_form.Decr = codes "decr"
object_form_keyword object_form.Incr = codes "incr"
object_form_keyword object_form.AwaitLatch = codes "await_latch"
object_form_keyword object_form.Fill = codes "fill"
object_form_keyword object_form.Poison = codes "poison"
object_form_keyword object_form.Read = codes "read"
object_form_keyword object_form.Push = codes "push"
object_form_keyword object_form.Tap = codes "tap"
object_form_keyword object_form.Next = codes "next"
object_form_keyword object_form.Line = codes "line"

abbrev pub fiber_form_keyword : FiberForm → List ℕ
fiber_form_keyword fiber_form.Spawn = codes "spawn"
fiber_form_keyword fiber_form.Fork = codes "fork"
fiber_form_keyword fiber_form.Promise = codes "promise"
fiber_form_keyword fiber_form.Terminate = codes "terminate"
fiber_form_keyword fiber_form.Error = codes "error"

abbrev pub block_form_keyword : BlockForm → List ℕ
block_form_keyword block_form.If = codes "if"
block_form_keyword block_form.Loop = codes "loop"
block_form_keyword block_form.Try = codes "try"
block_form_keyword block_form.Forbid = codes "forbid"
block_form_keyword block_form.Permit = codes "permit"
block_form_keyword block_form.Under = codes "under"
block_form_keyword block_form.Link = codes "link"
block_form_keyword block_form.Protect = codes "protect"
block_form_keyword block_form.Bundle = codes "bundle"
block_form_keyword block_form.Flock = codes "flock"
block_form_keyword block_form.Select = codes "select"

abbrev pub event_form_keyword : EventForm → List ℕ
event_form_keyword event_form.Ivar = codes "ivar"
event_form_keyword event_form.Latch = codes "latch"
event_form_keyword event_form.Stream = codes "stream"
event_form_keyword event_form.Done = codes "done"
event_form_keyword event_form.Always = codes "always"

abbrev pub group_form_keyword : GroupForm → List ℕ
group_form_keyword group_form.Choose = codes "choose"
group_form_keyword group_form.Wrap = codes "wrap"
group_form_keyword group_form.Guard = codes "guard"

-- the word that tells a form: the first of its line, of an event the one behind `on`
unfoldable pub keyword : Form → List ℕ
keyword (form.Declare f) = decl_form_keyword f
keyword form.Fiber = codes "fiber"
keyword form.Main = codes "main"
keyword form.End = codes "end"
keyword form.Else = codes "else"
keyword form.Catch = codes "catch"
keyword (form.Basic f) = basic_form_keyword f
keyword (form.Comp f) = comp_form_keyword f
keyword (form.Object f) = object_form_keyword f
keyword (form.Fork f) = fiber_form_keyword f
keyword (form.Block f) = block_form_keyword f
keyword (form.Event f) = event_form_keyword f
keyword (form.Group f) = group_form_keyword f

-- what stands behind that word, in order
abbrev pub decl_form_shapes : DeclForm → List Shape
decl_form_shapes decl_form.Trigger = a_new_name ∷ []
decl_form_shapes decl_form.Comp = a_new_name ∷ []
decl_form_shapes decl_form.Mutex = a_new_name ∷ []
decl_form_shapes decl_form.Cond = a_new_name ∷ []
decl_form_shapes decl_form.Sem = a_new_name ∷ (a_number ∷ [])
decl_form_shapes decl_form.Latch = a_new_name ∷ (a_number ∷ [])
decl_form_shapes decl_form.Ivar = a_new_name ∷ []
decl_form_shapes decl_form.Stream = a_new_name ∷ []

abbrev pub basic_form_shapes : BasicForm → List Shape
basic_form_shapes basic_form.Set = a_register ∷ (a_value ∷ [])
basic_form_shapes basic_form.Add = a_register ∷ (a_value ∷ [])
basic_form_shapes basic_form.Sub = a_register ∷ (a_value ∷ [])
basic_form_shapes basic_form.Mul = a_register ∷ (a_value ∷ [])
basic_form_shapes basic_form.Words = a_register ∷ (a_value ∷ [])
basic_form_shapes basic_form.Len = a_register ∷ (a_value ∷ [])
basic_form_shapes basic_form.Put = a_key ∷ (a_value ∷ [])
basic_form_shapes basic_form.Get = a_register ∷ (a_key ∷ [])
basic_form_shapes basic_form.Say = a_value ∷ []
basic_form_shapes basic_form.Raise = a_value ∷ []
basic_form_shapes basic_form.Break = []
basic_form_shapes basic_form.Yield = []
basic_form_shapes basic_form.Check = []

abbrev pub comp_form_shapes : CompForm → List Shape
comp_form_shapes comp_form.Signal = a_place sort.Trigger ∷ []
comp_form_shapes comp_form.Await = a_place sort.Trigger ∷ []
comp_form_shapes comp_form.Attach = a_register ∷ (a_comp ∷ (a_place sort.Trigger ∷ []))
comp_form_shapes comp_form.Detach = a_comp ∷ (a_place sort.Trigger ∷ [])
comp_form_shapes comp_form.Return = a_register ∷ (a_comp ∷ (a_value ∷ []))
comp_form_shapes comp_form.Cancel = a_register ∷ (a_comp ∷ (a_value ∷ []))
comp_form_shapes comp_form.Peek = a_register ∷ (a_register ∷ (a_comp ∷ []))
comp_form_shapes comp_form.Wait = a_register ∷ (a_comp ∷ [])
comp_form_shapes comp_form.After = a_value ∷ (a_comp ∷ (a_value ∷ []))

abbrev pub object_form_shapes : ObjectForm → List Shape
object_form_shapes object_form.Lock = a_place sort.Mutex ∷ []
object_form_shapes object_form.TryLock = a_register ∷ (a_place sort.Mutex ∷ [])
object_form_shapes object_form.Unlock = a_place sort.Mutex ∷ []
object_form_shapes object_form.WaitCond = a_place sort.Cond ∷ (a_place sort.Mutex ∷ [])
object_form_shapes object_form.Notify = a_place sort.Cond ∷ []
object_form_shapes object_form.Broadcast = a_place sort.Cond ∷ []
object_form_shapes object_form.Acquire = a_place sort.Sem ∷ []
object_form_shapes object_form.TryAcquire = a_register ∷ (a_place sort.Sem ∷ [])
object_form_shapes object_form.Release = a_place sort.Sem ∷ []
object_form_shapes object_form.Decr = a_place sort.Latch ∷ []
object_form_shapes object_form.Incr = a_register ∷ (a_place sort.Latch ∷ [])
object_form_shapes object_form.AwaitLatch = a_place sort.Latch ∷ []
object_form_shapes object_form.Fill = a_register ∷ (a_place sort.Ivar ∷ (a_value ∷ []))
object_form_shapes object_form.Poison = a_register ∷ (a_fillable ∷ (a_value ∷ []))
object_form_shapes object_form.Read = a_register ∷ (a_place sort.Ivar ∷ [])
object_form_shapes object_form.Push = a_place sort.Stream ∷ (a_value ∷ [])
object_form_shapes object_form.Tap = a_register ∷ (a_place sort.Stream ∷ [])
object_form_shapes object_form.Next = a_register ∷ (a_register ∷ (a_place sort.Stream ∷ []))
object_form_shapes object_form.Line = a_register ∷ []

abbrev pub fiber_form_shapes : FiberForm → List Shape
fiber_form_shapes fiber_form.Spawn = a_place sort.Text ∷ (a_value ∷ [])
fiber_form_shapes fiber_form.Fork = a_place sort.Text ∷ (a_value ∷ [])
fiber_form_shapes fiber_form.Promise = a_promise ∷ (a_place sort.Text ∷ (a_value ∷ []))
fiber_form_shapes fiber_form.Terminate = []
fiber_form_shapes fiber_form.Error = a_value ∷ []

abbrev pub block_form_shapes : BlockForm → List Shape
block_form_shapes block_form.If = a_value ∷ (a_test ∷ (a_value ∷ []))
block_form_shapes block_form.Loop = []
block_form_shapes block_form.Try = []
block_form_shapes block_form.Forbid = []
block_form_shapes block_form.Permit = []
block_form_shapes block_form.Under = a_comp ∷ []
block_form_shapes block_form.Link = a_comp ∷ (a_comp ∷ [])
block_form_shapes block_form.Protect = a_place sort.Mutex ∷ []
block_form_shapes block_form.Bundle = []
block_form_shapes block_form.Flock = []
block_form_shapes block_form.Select = a_register ∷ (a_register ∷ [])

abbrev pub event_form_shapes : EventForm → List Shape
event_form_shapes event_form.Ivar = a_place sort.Ivar ∷ []
event_form_shapes event_form.Latch = a_place sort.Latch ∷ []
event_form_shapes event_form.Stream = a_place sort.Stream ∷ (a_register ∷ [])
event_form_shapes event_form.Done = a_comp ∷ []
event_form_shapes event_form.Always = a_value ∷ []

abbrev pub group_form_shapes : GroupForm → List Shape
group_form_shapes group_form.Choose = []
group_form_shapes group_form.Wrap = a_value ∷ []
group_form_shapes group_form.Guard = a_value ∷ (a_test ∷ (a_value ∷ []))

abbrev pub shapes : Form → List Shape
shapes (form.Declare f) = decl_form_shapes f
shapes form.Fiber = a_new_name ∷ []
shapes form.Main = []
shapes form.End = []
shapes form.Else = []
shapes form.Catch = a_register ∷ []
shapes (form.Basic f) = basic_form_shapes f
shapes (form.Comp f) = comp_form_shapes f
shapes (form.Object f) = object_form_shapes f
shapes (form.Fork f) = fiber_form_shapes f
shapes (form.Block f) = block_form_shapes f
shapes (form.Event f) = event_form_shapes f
shapes (form.Group f) = group_form_shapes f

-- ---- which forms there are

abbrev pub decl_forms : List DeclForm
decl_forms =
    decl_form.Trigger ∷ decl_form.Comp ∷ decl_form.Mutex ∷ decl_form.Cond ∷ decl_form.Sem ∷
    decl_form.Latch ∷ decl_form.Ivar ∷ decl_form.Stream ∷ []

abbrev pub basic_forms : List BasicForm
basic_forms =
    basic_form.Set ∷ basic_form.Add ∷ basic_form.Sub ∷ basic_form.Mul ∷ basic_form.Words ∷ basic_form.Len ∷
    basic_form.Put ∷ basic_form.Get ∷ basic_form.Say ∷ basic_form.Raise ∷ basic_form.Break ∷
    basic_form.Yield ∷ basic_form.Check ∷ []

abbrev pub comp_forms : List CompForm
comp_forms =
    comp_form.Signal ∷ comp_form.Await ∷ comp_form.Attach ∷ comp_form.Detach ∷ comp_form.Return ∷
    comp_form.Cancel ∷ comp_form.Peek ∷ comp_form.Wait ∷ comp_form.After ∷ []

abbrev pub object_forms : List ObjectForm
object_forms =
    object_form.Lock ∷ object_form.TryLock ∷ object_form.Unlock ∷ object_form.WaitCond ∷
    object_form.Notify ∷ object_form.Broadcast ∷ object_form.Acquire ∷ object_form.TryAcquire ∷
    object_form.Release ∷ object_form.Decr ∷ object_form.Incr ∷ object_form.AwaitLatch ∷ object_form.Fill ∷
    object_form.Poison ∷ object_form.Read ∷ object_form.Push ∷ object_form.Tap ∷ object_form.Next ∷
    object_form.Line ∷ []

abbrev pub fiber_forms : List FiberForm
fiber_forms = fiber_form.Spawn ∷ fiber_form.Fork ∷ fiber_form.Promise ∷ fiber_form.Terminate ∷ fiber_form.Error ∷ []

abbrev pub block_forms : List BlockForm
block_forms =
    block_form.If ∷ block_form.Loop ∷ block_form.Try ∷ block_form.Forbid ∷ block_form.Permit ∷
    block_form.Under ∷ block_form.Link ∷ block_form.Protect ∷ block_form.Bundle ∷ block_form.Flock ∷
    block_form.Select ∷ []

abbrev pub group_forms : List GroupForm
group_forms = group_form.Choose ∷ group_form.Wrap ∷ group_form.Guard ∷ []

abbrev pub event_forms : List EventForm
event_forms = event_form.Ivar ∷ event_form.Latch ∷ event_form.Stream ∷ event_form.Done ∷ event_form.Always ∷ []

-- the forms that the first word of a line tells
abbrev pub line_forms : List Form
line_forms =
    map form.Declare decl_forms ++ (form.Fiber ∷ form.Main ∷ form.End ∷ form.Else ∷ form.Catch ∷ [])
    ++ map form.Basic basic_forms ++ map form.Comp comp_forms ++ map form.Object object_forms ++ map form.Fork fiber_forms
    ++ map form.Block block_forms ++ map form.Group group_forms

-- the forms that the word behind `on` tells
abbrev pub on_forms : List Form
on_forms = map form.Event event_forms

-- ---- how they are told

-- the first of some forms that a word tells
abbrev pub first_form : List Form → List ℕ → Option Form
first_form [] word = None
first_form (f ∷ fs) word = if bytes_eq (keyword f) word then Some f else first_form fs word

-- a form, and the words behind the one that tells it
pub record Seen : Type 0 where
  pub form : Form
  pub rest : List (List ℕ)

abbrev pub seen : Option Form → List (List ℕ) → Option Seen
seen None rest = None
seen (Some f) rest = Some (record { form = f; rest = rest })

-- the event that the words behind `on` tell
abbrev pub event_of : List (List ℕ) → Option Seen
event_of [] = None
event_of (w ∷ ws) = seen (first_form on_forms w) ws

-- the form that the words of a line tell
abbrev pub form_of : List (List ℕ) → Option Seen
form_of [] = None
form_of (w ∷ ws) = if bytes_eq w (codes "on") then event_of ws else seen (first_form line_forms w) ws
