use Rattle.std.proofs.Common.{ap, ◌∙◌}
use Rattle.script_tree.specs.Names.{thing_of}
use Rattle.script_tree.proofs.Naming.{lookup_names}
use Rattle.script_tree.proofs.names.Names.get.Goals as goal

pub returns : goal.returns
returns c =
    c.copied.ensures ∙ c.get.ensures.value ∙ lookup_names c.self.inside.map.entries c.args.word.now ∙ ap (λ ns. thing_of ns c.args.word.now) c.self.view_is
