use Rattle.std.proofs.lemmas.Str.{IsUtf8-from_ascii}
use Rattle.script_tree.proofs.Numerals.{digits_ascii, numeral_digits, parsed}
use Rattle.script_tree.proofs.class.number_of.Goals as goal

pub returns-in-Ok : goal.returns-in-Ok
returns-in-Ok c =
    rw c.ok.ensures.value (parsed c.args.numeral.now c.in-Ok.text.now c.parse.result c.requires c.in-Ok.ensures.cases.0 c.parse.ensures.value.0)

pub returns-in-Err : goal.returns-in-Err
returns-in-Err c = λ _. c.in-Err.ensures.cases.0 (IsUtf8-from_ascii c.args.numeral.now (digits_ascii c.args.numeral.now (numeral_digits c.args.numeral.now c.requires)))
