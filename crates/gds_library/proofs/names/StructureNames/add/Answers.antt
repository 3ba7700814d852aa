use Rattle.std.proofs.Common.{◌∙◌, ap, not}
use Rattle.gds_library.proofs.NameLaws.{any_name, any_name-insert_key, same_any}
use Rattle.gds_library.proofs.names.StructureNames.add.Goals as goal

pub returns-clause-new : goal.returns-clause-new
returns-clause-new c = c.in_ok-insert.ensures.added ∙ ap not (same_any c.args.name c.args.self.now.seen.keys)

pub returns-clause-added : goal.returns-clause-added
returns-clause-added c text = ap (λ keys. any_name keys text) c.in_ok-insert.ensures.keys
    ∙ any_name-insert_key c.args.name c.args.self.now.seen.keys text
