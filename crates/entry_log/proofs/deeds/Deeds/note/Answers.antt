use Rattle.std.proofs.Common.{◌≡◌, ◌++◌, ◌∷◌, [], ap, ◌∙◌}
use Rattle.entry_log.specs.Kept.{Kept}
use Rattle.entry_log.specs.Packing.{kind_of}
use Rattle.entry_log.proofs.Lists.{deeds-put, put_fits}
use Rattle.entry_log.proofs.deeds.Deeds.note.Goals as goal

pub invariant_of-self : goal.invariant_of-self
invariant_of-self c =
    let kinds : c.push_reserved.new.self.items ≡ c.self.inside.kinds.items ++ kind_of c.args.call c.args.reply ∷ [] = rw c.put-kind.ensures.kind at c.push_reserved.ensures.items in
    rw (kinds, c.put-kind.ensures.numbers, c.put-kind.ensures.kept)
    (put_fits c.self.inside.kinds.items c.self.inside.numbers.items c.self.inside.kept.items c.args.call c.args.reply c.self.invariant.0 c.self.invariant.1)

pub returns-clause-list : goal.returns-clause-list
returns-clause-list c =
    let kinds : c.push_reserved.new.self.items ≡ c.self.inside.kinds.items ++ kind_of c.args.call c.args.reply ∷ [] = rw c.put-kind.ensures.kind at c.push_reserved.ensures.items in
    rw (kinds, c.put-kind.ensures.numbers, c.put-kind.ensures.kept)
    (deeds-put c.self.inside.kinds.items c.self.inside.numbers.items c.self.inside.kept.items c.args.call c.args.reply c.self.invariant.0 c.self.invariant.1
    ∙ ap (λ (k : Kept). k.list ++ record { call = c.args.call; reply = c.args.reply } ∷ []) c.self.view_is)
