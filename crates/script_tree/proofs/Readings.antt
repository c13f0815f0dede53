-- The line that words are read as is made by a form that may stand there, of the parts that its words are read as.
use Rattle.std.proofs.Common.{◌≡◌, ℕ, Bool, true, false, cond, Option, Some, None, Result, Ok, Err, List, refl}
use Rattle.script_tree.specs.declared.cause.Cause.{Cause}
use Rattle.script_tree.specs.declared.cause.Cause.TheVariants as cause
use Rattle.script_tree.specs.declared.form.Form.{Form}
use Rattle.script_tree.specs.declared.line.Line.{Line}
use Rattle.script_tree.specs.Forms.{Seen, form_of, shapes}
use Rattle.script_tree.specs.Grammar.{line_read, line_seen, line_of_parts}
use Rattle.script_tree.specs.Lines.{line_made}
use Rattle.script_tree.specs.Parts.{Part, words_read}
use Rattle.script_tree.specs.Reading.{State, fits, is_over}

-- these are the parts of a line of that form, under the names that are known
pub record ArePartsOf (s : State) (f : Form) (parts : List Part) : Type 0 where
  pub words : List (List ℕ)
  pub read : words_read s.names (shapes f) words ≡ Ok parts

pub record IsRead (s : State) (words : List (List ℕ)) (l : Line) : Type 0 where
  pub form : Form
  pub rest : List (List ℕ)
  pub told : form_of words ≡ Some (record { form = form; rest = rest })
  pub fit : fits s.top.what s.top.level.breaks form ≡ true
  pub parts : List Part
  pub read : words_read s.names (shapes form) rest ≡ Ok parts
  pub is : line_made form parts ≡ l

parts_seen : (s : State) (words : List (List ℕ)) (l : Line) (f : Form) (rest : List (List ℕ)) (r : Result (List Part) Cause)
    → form_of words ≡ Some (record { form = f; rest = rest }) → fits s.top.what s.top.level.breaks f ≡ true
    → words_read s.names (shapes f) rest ≡ r → line_of_parts f r ≡ Ok l → IsRead s words l
parts_seen s words l f rest (Err c) told fit read h = cc
parts_seen s words l f rest (Ok parts) told fit read h =
    record { form = f; rest = rest; told = told; fit = fit; parts = parts; read = read; is = cc }

form_seen : (s : State) (words : List (List ℕ)) (l : Line) (f : Form) (rest : List (List ℕ)) (b : Bool)
    → form_of words ≡ Some (record { form = f; rest = rest }) → fits s.top.what s.top.level.breaks f ≡ b
    → cond b (line_of_parts f (words_read s.names (shapes f) rest)) (Err cause.Word) ≡ Ok l → IsRead s words l
form_seen s words l f rest false told fit h = cc
form_seen s words l f rest true told fit h = parts_seen s words l f rest (words_read s.names (shapes f) rest) told fit refl h

words_seen : (s : State) (words : List (List ℕ)) (l : Line) (o : Option Seen) → form_of words ≡ o → line_seen s o ≡ Ok l → IsRead s words l
words_seen s words l None told h = cc
words_seen s words l (Some seen) told h = form_seen s words l seen.form seen.rest (fits s.top.what s.top.level.breaks seen.form) told refl h

before_over : (b : Bool) (x : Result Line Cause) (l : Line) → cond b (Err cause.AfterMain) x ≡ Ok l → x ≡ Ok l
before_over true x l h = cc
before_over false x l h = h

pub is_read : (s : State) (words : List (List ℕ)) (l : Line) → line_read s s.top.what words ≡ Ok l → IsRead s words l
is_read s words l h = words_seen s words l (form_of words) refl (before_over (is_over s.top.what) (line_seen s (form_of words)) l h)
