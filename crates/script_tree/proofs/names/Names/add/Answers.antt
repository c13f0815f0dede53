use Rattle.std.proofs.Common.{◌≡◌, None, refl, ◌∙◌}
use Rattle.script_tree.specs.Names.{thing_of}
use Rattle.script_tree.proofs.Naming.{names_of-insert}
use Rattle.script_tree.specs.Known.{names_of}
use Rattle.script_tree.proofs.names.Names.add.Goals as goal

pub returns-clause-ok : goal.returns-clause-ok
returns-clause-ok c =
    let named = c.in_ok-name.ensures.items in
    let free : thing_of (names_of c.self.inside.map.entries) c.in_ok-name.name.items ≡ None = rw (named, c.self.view_is) c.requires in
    rw c.in_ok-insert.ensures.entries (names_of-insert c.self.inside.map.entries c.in_ok-name.name c.args.thing free ∙ rw (named, c.self.view_is) refl)
