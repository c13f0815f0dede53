-- How the reader's own state is seen, and what a line needs to be taken.
use Rattle.std.specs.Prelude.{◌≡◌, ℕ, ◌<◌, Option, Some, None, Result, Ok, Err, MatchResult, List, map, reverse, length}
use Rattle.script_tree.specs.declared.cause.Cause.{Cause}
use Rattle.script_text.specs.declared.token.TokenRefusal.{TokenRefusal}
use Rattle.script_text.specs.declared.token.TokenRefusal.TheVariants as token_refusal
use Rattle.script_tree.specs.declared.cause.Cause.TheVariants as cause
use Rattle.script_tree.specs.declared.fault.Fault.{Fault}
use Rattle.script_tree.specs.declared.fault.Fault.TheVariants as fault
use Rattle.script_tree.specs.declared.form.Form.{Form}
use Rattle.script_tree.specs.declared.line.Line.{Line}
use Rattle.script_tree.specs.declared.line.Line.TheVariants as line
use Rattle.script_tree.specs.declared.open.Open.{Open}
use Rattle.script_tree.specs.declared.reading.Parts.{Parts}
use Rattle.script_tree.specs.declared.reading.Reading.{Reading}
use Rattle.script_tree.specs.declared.refusal.ParseRefusal.{ParseRefusal}
use Rattle.script_tree.specs.declared.refusal.ParseRefusal.TheVariants as parse_refusal
use Rattle.script_tree.specs.Forms.{shapes}
use Rattle.script_tree.specs.Grammar.{refused}
use Rattle.script_tree.specs.Names.{Named, thing_of}
use Rattle.script_tree.specs.Parts.{Part, words_read}
use Rattle.script_tree.specs.Reading.{Frame, State}
use Rattle.script_tree.specs.Tree.{Tree}

abbrev pub frame_of : Open → Frame
frame_of o = record {
  what = o.what;
  place = o.place;
  level = o.level;
  stmts = o.stmts.items;
  events = o.events.items;
}

abbrev pub state_of : Reading → State
state_of r = record {
  names = r.names;
  decls = r.decls.items;
  texts = r.texts.items;
  blocks = r.blocks.items;
  events = r.events.items;
  counts = r.counts;
  top = frame_of r.top;
  outer = reverse (map frame_of r.outer.items);
}

-- the numbers of what was read fit the places that name it
pub record IsSmall (s : State) : Type 0 where
  pub decls : length s.decls < 4294967295
  pub texts : length s.texts < 4294967295
  pub blocks : length s.blocks < 4294967295
  pub events : length s.events < 4294967295

-- what was made of a form's words has that form and the parts that they are, or the first wrong word is told
abbrev pub IsRead : {A : Type 0} → (A → Option Form) → (A → List Part) → Form → List Named → List (List ℕ) → Result A Cause → Type 0
IsRead form_in parts_in form names words result =
    MatchResult result (λ x. (words_read names (shapes form) words ≡ Ok (parts_in x)) × (form_in x ≡ Some form)) (λ c. words_read names (shapes form) words ≡ Err c)

-- a name that a line makes known isn't taken
abbrev pub IsFree : List Named → Line → Type 0
IsFree names (line.Declare k name) = thing_of names name ≡ None
IsFree names (line.Fiber name) = thing_of names name ≡ None
IsFree names _ = Unit {0}

-- a fault is the cause for which a line is refused, or want of memory
abbrev pub Refuses : {A : Type 0} → Fault → Result A Cause → Type 0
Refuses (fault.Cause c) r = r ≡ Err c
Refuses fault.Memory r = Unit {0}

-- the refusal for a fault of a line
abbrev pub refusal_for : ℕ → Fault → ParseRefusal
refusal_for number (fault.Cause c) = parse_refusal.Refused (refused number c)
refusal_for number fault.Memory = parse_refusal.Memory

-- the refusal for a line that no script may have
abbrev pub refusal_for_words : TokenRefusal → ParseRefusal
refusal_for_words (token_refusal.LongLine number) = parse_refusal.Refused (refused number cause.LongLine)
refusal_for_words (token_refusal.BadByte number place) = parse_refusal.Refused (refused number cause.BadByte)
refusal_for_words token_refusal.Memory = parse_refusal.Memory

-- what was read of a whole script
abbrev pub tree_of_parts : Parts → Tree
tree_of_parts p = record { decls = p.decls.items; texts = p.texts.items; blocks = p.blocks.items; events = p.events.items }
