use Rattle.std.proofs.Common.{length, refl}
use Rattle.std.proofs.lemmas.Option.{slice_get_read}
use Rattle.fiber_body.proofs.tests.changed.Goals as goal

-- the statement is one of the program's
pub change-requires : goal.change-requires
change-requires c =
    let stmts = c.block_at.result.now in
    let one = c.in-Some.stmt.now in
    let there = slice_get_read stmts (length stmts) c.args.place one refl c.in-Some.ensures.lookup.3.0 (c.in-Some.ensures.lookup.3.1 one) in
    (c.args.program.now, c.args.block, c.block_at.ensures.fit c.args.place one there)
