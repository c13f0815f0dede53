use Rattle.std.proofs.Common.{IsAscii, sym, subst}
use Rattle.std.proofs.lemmas.Str.{IsUtf8-from_ascii}
use Rattle.script_tree.proofs.program.Name.as_str.Goals as goal

pub unreachable-requires : goal.unreachable-requires
unreachable-requires c = c.in-Err.ensures.cases.0 (IsUtf8-from_ascii c.deref.result.now (subst IsAscii (sym c.deref.ensures.value) c.self.invariant))
