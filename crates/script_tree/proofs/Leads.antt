-- The words that tell a form lead the line that it was seen in.
use Rattle.std.proofs.Common.{◌≡◌, ℕ, ◌≤◌, Bool, true, false, not, ◌&&◌, nat_le, Option, Some, None, List, [], ◌∷◌, ◌++◌, length, codes, bytes_eq, refl, sym, ap, ap₂, subst, ◌∙◌, ◌<◌, inl, inr, arith}
use Rattle.std.specs.List.{AllByRecursion}
use Rattle.std.proofs.lemmas.Bool.{cases_Bool, and_parts, leb-true}
use Rattle.script_tree.specs.declared.form.Form.{Form}
use Rattle.script_tree.specs.declared.form.Form.TheVariants as form
use Rattle.script_tree.specs.declared.form.DeclForm.{DeclForm}
use Rattle.script_tree.specs.declared.form.DeclForm.TheVariants as decl_form
use Rattle.script_tree.specs.declared.form.BasicForm.{BasicForm}
use Rattle.script_tree.specs.declared.form.BasicForm.TheVariants as basic_form
use Rattle.script_tree.specs.declared.form.CompForm.{CompForm}
use Rattle.script_tree.specs.declared.form.CompForm.TheVariants as comp_form
use Rattle.script_tree.specs.declared.form.ObjectForm.{ObjectForm}
use Rattle.script_tree.specs.declared.form.ObjectForm.TheVariants as object_form
use Rattle.script_tree.specs.declared.form.FiberForm.{FiberForm}
use Rattle.script_tree.specs.declared.form.FiberForm.TheVariants as fiber_form
use Rattle.script_tree.specs.declared.form.BlockForm.{BlockForm}
use Rattle.script_tree.specs.declared.form.BlockForm.TheVariants as block_form
use Rattle.script_tree.specs.declared.form.EventForm.{EventForm}
use Rattle.script_tree.specs.declared.form.EventForm.TheVariants as event_form
use Rattle.script_tree.specs.declared.form.GroupForm.{GroupForm}
use Rattle.script_tree.specs.declared.form.GroupForm.TheVariants as group_form
use Rattle.script_tree.specs.Forms.{keyword, decl_form_keyword, basic_form_keyword, comp_form_keyword, object_form_keyword, fiber_form_keyword, block_form_keyword, event_form_keyword, group_form_keyword, shapes, decl_form_shapes, basic_form_shapes, comp_form_shapes, object_form_shapes, fiber_form_shapes, block_form_shapes, event_form_shapes, group_form_shapes, line_forms, on_forms, first_form, Seen, seen, event_of, form_of}
use Rattle.script_tree.specs.Parts.{Shape}
use Rattle.script_tree.specs.Spelling.{lead}
use Rattle.script_tree.specs.Told.{EachFormIsTold, IsTold}
use Rattle.script_tree.proofs.Paths.{IsWord}
use Rattle.script_tree.proofs.Spelled.{bytes_same, word_test, tested}

-- the form of an event
abbrev pub is_event : Form → Bool
is_event (form.Event f) = true
is_event _ = false

-- all of some forms pass a test
abbrev pub all_pass : (Form → Bool) → List Form → Bool
all_pass test [] = true
all_pass test (f ∷ fs) = test f && all_pass test fs

-- the form that a word tells among some that pass a test
record Tells (test : Form → Bool) (word : List ℕ) (f : Form) : Type 0 where
  passes : test f ≡ true
  tells : keyword f ≡ word

first_tells : (test : Form → Bool) (fs : List Form) (word : List ℕ) (f : Form) → all_pass test fs ≡ true → first_form fs word ≡ Some f → Tells test word f
first_tells test [] word f a h = absurd (cc)
first_tells test (g ∷ gs) word f a h =
    let p = and_parts (test g) (all_pass test gs) a in
    elim (cases_Bool (bytes_eq (keyword g) word)) [
      | inl e ↦ here p.0 (bytes_same (keyword g) word e) (rw e at h)
      | inr e ↦ first_tells test gs word f p.1 (rw e at h)
    ]
  where
    here : test g ≡ true → keyword g ≡ word → Some g ≡ Some f → Tells test word f
    here t k i = let same : g ≡ f = cc in subst (λ x. Tells test word x) same (record { passes = t; tells = k })

lead_event : (f : Form) → is_event f ≡ true → lead f ≡ codes "on" ∷ (keyword f ∷ [])
lead_event (form.Event f) h = refl
lead_event _ h = absurd (cc)

lead_other : (f : Form) → not (is_event f) ≡ true → lead f ≡ keyword f ∷ []
lead_other (form.Event f) h = absurd (cc)
lead_other _ h = refl

-- the form and the rest that are seen
record Saw (o : Option Form) (rest : List (List ℕ)) (s : Seen) : Type 0 where
  form_is : o ≡ Some s.form
  rest_is : s.rest ≡ rest

saw : (o : Option Form) (rest : List (List ℕ)) (s : Seen) → seen o rest ≡ Some s → Saw o rest s
saw None rest s h = absurd (cc)
saw (Some f) rest s h =
    let e : record { form = f; rest = rest } ≡ s = some_same h in
    subst (λ x. Saw (Some f) rest x) e (record { form_is = refl; rest_is = refl })
  where
    some_same : {x y : Seen} → Some x ≡ Some y → x ≡ y
    some_same h = cc

event_lead : (words : List (List ℕ)) (s : Seen) → event_of words ≡ Some s → lead s.form ++ s.rest ≡ codes "on" ∷ words
event_lead [] s h = absurd (cc)
event_lead (w ∷ ws) s h =
    let x = saw (first_form on_forms w) ws s h in
    let t = first_tells is_event on_forms w s.form refl x.form_is in
    ap₂ (λ (xs ys : List (List ℕ)). xs ++ ys) (lead_event s.form t.passes) x.rest_is ∙ ap (λ (v : List ℕ). codes "on" ∷ (v ∷ ws)) t.tells

other_lead : (w : List ℕ) (ws : List (List ℕ)) (s : Seen) → seen (first_form line_forms w) ws ≡ Some s → lead s.form ++ s.rest ≡ w ∷ ws
other_lead w ws s h =
    let x = saw (first_form line_forms w) ws s h in
    let t = first_tells (λ f. not (is_event f)) line_forms w s.form refl x.form_is in
    ap₂ (λ (xs ys : List (List ℕ)). xs ++ ys) (lead_other s.form t.passes) x.rest_is ∙ ap (λ (v : List ℕ). v ∷ ws) t.tells

-- the words that tell a form stand before those behind it
pub lead_seen : (words : List (List ℕ)) (s : Seen) → form_of words ≡ Some s → lead s.form ++ s.rest ≡ words
lead_seen [] s h = absurd (cc)
lead_seen (w ∷ ws) s h =
    elim (cases_Bool (bytes_eq w (codes "on"))) [
      | inl e ↦ event_lead ws s (rw e at h) ∙ ap (λ (v : List ℕ). v ∷ ws) (sym (bytes_same w (codes "on") e))
      | inr e ↦ other_lead w ws s (rw e at h)
    ]

-- a keyword is a word, and at most three words stand behind it
abbrev pub is_small : List ℕ → List Shape → Bool
is_small word shapes = word_test word && nat_le (length shapes) 3

decl_small : (f : DeclForm) → is_small (decl_form_keyword f) (decl_form_shapes f) ≡ true
decl_small decl_form.Trigger = refl
decl_small _ = refl

basic_small : (f : BasicForm) → is_small (basic_form_keyword f) (basic_form_shapes f) ≡ true
basic_small basic_form.Set = refl
basic_small _ = refl

comp_small : (f : CompForm) → is_small (comp_form_keyword f) (comp_form_shapes f) ≡ true
comp_small comp_form.Signal = refl
comp_small _ = refl

object_small : (f : ObjectForm) → is_small (object_form_keyword f) (object_form_shapes f) ≡ true
object_small object_form.Lock = refl
object_small _ = refl

fiber_small : (f : FiberForm) → is_small (fiber_form_keyword f) (fiber_form_shapes f) ≡ true
fiber_small fiber_form.Spawn = refl
fiber_small _ = refl

block_small : (f : BlockForm) → is_small (block_form_keyword f) (block_form_shapes f) ≡ true
block_small block_form.If = refl
block_small _ = refl

event_small : (f : EventForm) → is_small (event_form_keyword f) (event_form_shapes f) ≡ true
event_small event_form.Ivar = refl
event_small _ = refl

group_small : (f : GroupForm) → is_small (group_form_keyword f) (group_form_shapes f) ≡ true
group_small group_form.Choose = refl
group_small _ = refl

form_small : (f : Form) → is_small (keyword f) (shapes f) ≡ true
unfolding keyword
form_small (form.Declare f) = decl_small f
form_small (form.Basic f) = basic_small f
form_small (form.Comp f) = comp_small f
form_small (form.Object f) = object_small f
form_small (form.Fork f) = fiber_small f
form_small (form.Block f) = block_small f
form_small (form.Event f) = event_small f
form_small (form.Group f) = group_small f
form_small _ = refl

keyword_word : (f : Form) → IsWord (keyword f)
keyword_word f = tested (keyword f) (and_parts (word_test (keyword f)) (nat_le (length (shapes f)) 3) (form_small f)).0

-- at most three words stand behind those that tell a form
pub few_shapes : (f : Form) → length (shapes f) ≤ 3
few_shapes f = leb-true (length (shapes f)) 3 (and_parts (word_test (keyword f)) (nat_le (length (shapes f)) 3) (form_small f)).1

-- the words that tell a form: one or two
pub record IsLead (words : List (List ℕ)) : Type 0 where
  pub some : 0 < length words
  pub few : length words ≤ 2
  pub each : AllByRecursion IsWord words

pub lead_words : (f : Form) → IsLead (lead f)
lead_words (form.Event f) = record { some = omega arith; few = omega arith; each = (tested _ refl, (keyword_word (form.Event f), tt)) }
lead_words f = record { some = omega arith; few = omega arith; each = (keyword_word f, tt) }

-- ---- each form is told by its words

decl_told : (f : DeclForm) → IsTold (form.Declare f)
unfolding keyword
decl_told decl_form.Trigger rest = refl
decl_told _ rest = refl

basic_told : (f : BasicForm) → IsTold (form.Basic f)
unfolding keyword
basic_told basic_form.Set rest = refl
basic_told _ rest = refl

comp_told : (f : CompForm) → IsTold (form.Comp f)
unfolding keyword
comp_told comp_form.Signal rest = refl
comp_told _ rest = refl

object_told : (f : ObjectForm) → IsTold (form.Object f)
unfolding keyword
object_told object_form.Lock rest = refl
object_told _ rest = refl

fiber_told : (f : FiberForm) → IsTold (form.Fork f)
unfolding keyword
fiber_told fiber_form.Spawn rest = refl
fiber_told _ rest = refl

block_told : (f : BlockForm) → IsTold (form.Block f)
unfolding keyword
block_told block_form.If rest = refl
block_told _ rest = refl

event_told : (f : EventForm) → IsTold (form.Event f)
unfolding keyword
event_told event_form.Ivar rest = refl
event_told _ rest = refl

group_told : (f : GroupForm) → IsTold (form.Group f)
unfolding keyword
group_told group_form.Choose rest = refl
group_told _ rest = refl

pub all_told : EachFormIsTold
unfolding keyword
all_told (form.Declare f) rest = decl_told f rest
all_told (form.Basic f) rest = basic_told f rest
all_told (form.Comp f) rest = comp_told f rest
all_told (form.Object f) rest = object_told f rest
all_told (form.Fork f) rest = fiber_told f rest
all_told (form.Block f) rest = block_told f rest
all_told (form.Event f) rest = event_told f rest
all_told (form.Group f) rest = group_told f rest
all_told _ rest = refl
