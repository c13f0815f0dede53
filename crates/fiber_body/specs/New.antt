-- A body to which nothing has happened.
use Rattle.std.specs.Prelude.{◌≡◌, ℕ, Option, []}
use Rattle.pic_machine.specs.declared.birth.Birth.{Birth}
use Rattle.script_tree.specs.Tree.{Tree}
use Rattle.fiber_body.specs.declared.standing.Standing.TheVariants.{At}
use Rattle.fiber_body.specs.Texts.{block_in}
use Rattle.fiber_body.specs.Follows.{context_of}
use Rattle.fiber_body.specs.Shown.{Shown}
use Rattle.fiber_body.specs.Fits.{Fits}

-- it stands at the beginning of its text; a fiber's body has no number yet, the clock's has 0
pub record IsNew (body : Shown) (program : Option Tree) (birth : Birth) (number : Option ℕ) : Type 0 where
  pub program_is : body.program ≡ program
  pub birth_is : body.birth ≡ birth
  pub number_is : body.number ≡ number
  pub context : body.context ≡ context_of birth
  pub standing : body.standing ≡ At (block_in program birth.text) 0
  pub frames : body.frames ≡ []
  pub noted : body.noted ≡ []
  pub owes : body.owes ≡ []
  pub fits : Fits body []
