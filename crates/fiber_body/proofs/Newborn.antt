-- A body to which nothing has happened stands at the beginning of its text.
use Rattle.std.proofs.Common.{◌≡◌, ℕ, Option, [], refl, sym, ap, subst, ◌∙◌}
use Rattle.pic_machine.specs.declared.birth.Birth.{Birth}
use Rattle.script_tree.specs.Tree.{Tree}
use Rattle.fiber_body.specs.declared.standing.Standing.{Standing}
use Rattle.fiber_body.specs.declared.standing.Standing.TheVariants.{At, Ended}
use Rattle.fiber_body.specs.Fits.{LeadsTo}
use Rattle.fiber_body.specs.Follows.{context_of}
use Rattle.fiber_body.specs.Framing.{leads_new}
use Rattle.fiber_body.specs.Laws.{fits_led}
use Rattle.fiber_body.specs.New.{IsNew}
use Rattle.fiber_body.specs.Owns.{Owns}
use Rattle.fiber_body.specs.Shown.{Shown}
use Rattle.fiber_body.specs.Texts.{block_in, script_in}

-- the body of a fiber that has not begun
abbrev fresh : Option Tree → Birth → Option ℕ → ℕ → Shown
fresh program birth number room = record {
  program = program;
  birth = birth;
  number = number;
  context = context_of birth;
  standing = At (block_in program birth.text) 0;
  frames = [];
  noted = [];
  room = room;
  owes = [];
}

pub is_new : (body : Shown) (program : Option Tree) (birth : Birth) (number : Option ℕ) (block : ℕ) → body.program ≡ program → body.birth ≡ birth → body.number ≡ number
    → body.context ≡ context_of birth → body.standing ≡ At block 0 → block ≡ block_in program birth.text → body.frames ≡ [] → body.noted ≡ []
    → body.owes ≡ [] → IsNew body program birth number
is_new body program birth number block program_is birth_is number_is context standing text frames noted owes =
    let at : body.standing ≡ At (block_in program birth.text) 0 = standing ∙ ap (λ (k : ℕ). At k 0) text in
    let is : body ≡ fresh program birth number body.room = rw (at, frames, context, program_is, birth_is, number_is, noted, owes) refl in
    let leads : (f : ℕ) → LeadsTo body f [] = λ f. subst (λ (b : Shown). LeadsTo b f []) (sym is) (leads_new (record { fiber = f; script = script_in program }) (block_in program birth.text) (context_of birth)) in
    record {
      program_is = program_is;
      birth_is = birth_is;
      number_is = number_is;
      context = context;
      standing = at;
      frames = frames;
      noted = noted;
      owes = owes;
      fits = fits_led body [] noted (λ f mine. leads f) (λ f mine. subst (λ (there : Standing). Owns (script_in body.program) f [] there) (sym at) tt) (λ f mine ended. let both : At block 0 ≡ Ended = sym standing ∙ ended in absurd cc);
    }
