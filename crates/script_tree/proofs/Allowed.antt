-- Which lines may stand in what is open.
use Rattle.std.proofs.Common.{◌≡◌, ℕ, ◌<◌, Bool, true, false, cond, not, ◌&&◌, ◌||◌, nat_le, Some, None, Ok, List, ◌⊎◌, inl, inr, refl, subst}
use Rattle.std.proofs.lemmas.Bool.{leb-false}
use Rattle.script_tree.specs.declared.cause.Cause.TheVariants as cause
use Rattle.script_tree.specs.declared.form.Form.{Form}
use Rattle.script_tree.specs.declared.form.Form.TheVariants as form
use Rattle.script_tree.specs.declared.form.BasicForm.{BasicForm}
use Rattle.script_tree.specs.declared.form.BasicForm.TheVariants as basic_form
use Rattle.script_tree.specs.declared.form.BlockForm.{BlockForm}
use Rattle.script_tree.specs.declared.form.BlockForm.TheVariants as block_form
use Rattle.script_tree.specs.declared.form.GroupForm.{GroupForm}
use Rattle.script_tree.specs.declared.form.GroupForm.TheVariants as group_form
use Rattle.script_tree.specs.declared.line.Line.{Line}
use Rattle.script_tree.specs.declared.line.Line.TheVariants as line
use Rattle.script_tree.specs.declared.opener.Opener.{Opener}
use Rattle.script_tree.specs.declared.opener.Opener.TheVariants as opener
use Rattle.script_tree.specs.Grammar.{line_read}
use Rattle.script_tree.specs.Lines.{line_made, block_form_made, group_form_made}
use Rattle.script_tree.specs.Parts.{Part}
use Rattle.script_tree.specs.Reading.{State, fits, is_head, is_between, is_over, is_then, is_try, is_group, is_bundle, is_deep, is_full, limit_broken, holds_events, holds_statements}
use Rattle.script_tree.proofs.Readings.{is_read}

-- the line may stand in this
abbrev pub May : Opener → Line → Type 0
May o (line.Declare k w) = is_head o ≡ true
May o (line.Fiber w) = (is_head o || is_between o) ≡ true
May o line.Main = (is_head o || is_between o) ≡ true
May o line.End = (holds_events o || (holds_statements o && not (is_try o))) ≡ true
May o line.Else = is_then o ≡ true
May o (line.Catch r) = is_try o ≡ true
May o (line.Plain x) = holds_statements o ≡ true
May o (line.Open p) = cond (is_group p) (holds_events o) (holds_statements o) ≡ true
May o (line.Leaf e) = holds_events o ≡ true

left_of_and : (a b : Bool) → (a && b) ≡ true → a ≡ true
left_of_and true b h = refl
left_of_and false b h = h

basic_may : (o : Opener) (breaks : Bool) (f : BasicForm) → fits o breaks (form.Basic f) ≡ true → holds_statements o ≡ true
basic_may o breaks basic_form.Break h = left_of_and (holds_statements o) breaks h
basic_may o breaks _ h = h

block_may : (o : Opener) (f : BlockForm) (parts : List Part) → holds_statements o ≡ true → May o (line.Open (block_form_made f parts))
block_may o block_form.If parts h = h
block_may o _ parts h = h

group_may : (o : Opener) (f : GroupForm) (parts : List Part) → holds_events o ≡ true → May o (line.Open (group_form_made f parts))
group_may o group_form.Choose parts h = h
group_may o _ parts h = h

made_may : (o : Opener) (breaks : Bool) (f : Form) (parts : List Part) → fits o breaks f ≡ true → May o (line_made f parts)
made_may o breaks (form.Basic f) parts h = basic_may o breaks f h
made_may o breaks (form.Block f) parts h = block_may o f parts h
made_may o breaks (form.Group f) parts h = group_may o f parts h
made_may o breaks _ parts h = h

-- a line that was read may stand there
pub read_may : (s : State) (words : List (List ℕ)) (l : Line) → line_read s s.top.what words ≡ Ok l → May s.top.what l
read_may s words l e =
    let r = is_read s words l e in subst (λ k. May s.top.what k) r.is (made_may s.top.what s.top.level.breaks r.form r.parts r.fit)

-- ---- depth

left_of_or : (a b : Bool) → (a || b) ≡ false → a ≡ false
left_of_or true b h = h
left_of_or false b h = refl

no_limit : (deep full : Bool) → cond deep (Some cause.TooDeep) (cond full (Some cause.TooMany) None) ≡ None → deep ≡ false
no_limit true full h = cc
no_limit false full h = refl

-- less than 32 blocks are open around a block that is opened
pub opens_within : (s : State) (o : Opener) → limit_broken s (line.Open o) ≡ None → s.top.level.depth < 32
opens_within s o h =
    let shallow : is_deep s.top.level o ≡ false = no_limit (is_deep s.top.level o) (is_full s (line.Open o)) h in
    let less : nat_le 32 s.top.level.depth ≡ false = left_of_or (nat_le 32 s.top.level.depth) (is_bundle o && nat_le 8 s.top.level.bundles) shallow in
    leb-false 32 s.top.level.depth less

-- ---- what may be open

-- the file where texts may follow, the file behind the main text, a holder of events, a holder of statements
pub data Role : Type 0 where
  file : Role
  over : Role
  events : Role
  statements : Role

abbrev pub role : Opener → Role
role opener.Head = file
role opener.Between = file
role opener.Over = over
role (opener.Select n v) = events
role opener.Choose = events
role (opener.Wrap o) = events
role (opener.Guard l t r) = events
role _ = statements

pub role_file : (o : Opener) → (is_head o || is_between o) ≡ true → role o ≡ file
role_file opener.Head h = refl
role_file opener.Between h = refl
role_file _ h = cc

pub role_head : (o : Opener) → is_head o ≡ true → role o ≡ file
role_head opener.Head h = refl
role_head _ h = cc

pub role_over : (o : Opener) → is_over o ≡ true → role o ≡ over
role_over opener.Over h = refl
role_over _ h = cc

pub role_events : (o : Opener) → holds_events o ≡ true → role o ≡ events
role_events (opener.Select n v) h = refl
role_events opener.Choose h = refl
role_events (opener.Wrap o) h = refl
role_events (opener.Guard l t r) h = refl
role_events _ h = cc

pub role_statements : (o : Opener) → holds_statements o ≡ true → role o ≡ statements
role_statements opener.Head h = cc
role_statements opener.Between h = cc
role_statements opener.Over h = cc
role_statements (opener.Select n v) h = cc
role_statements opener.Choose h = cc
role_statements (opener.Wrap o) h = cc
role_statements (opener.Guard l t r) h = cc
role_statements _ h = refl

pub role_then : (o : Opener) → is_then o ≡ true → role o ≡ statements
role_then (opener.Then l t r) h = refl
role_then _ h = cc

pub role_try : (o : Opener) → is_try o ≡ true → role o ≡ statements
role_try opener.Try h = refl
role_try _ h = cc

-- behind the texts and before them nothing ends
pub nothing_ends : (o : Opener) → May o line.End → ((role o ≡ file) ⊎ (role o ≡ over)) → ⊥
nothing_ends opener.Head h r = cc
nothing_ends opener.Between h r = cc
nothing_ends opener.Over h r = cc
nothing_ends _ h r = elim r [ inl e ↦ cc | inr e ↦ cc ]
