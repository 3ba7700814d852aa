use Rattle.std.proofs.Common.{List, ap, ◌∙◌}
use Rattle.std.specs.Option.{option_copied}
use Rattle.tech_rules.specs.declared.tech.RoleName.{RoleName}
use Rattle.cell_roles.specs.declared.leaf_role.LeafRole.TheVariants.{Common}
use Rattle.leaf_tables.specs.Leaves.{cell_named_for}
use Rattle.kit_rules.proofs.KitLaws.{no_cell}
use Rattle.kit_rules.proofs.layout.cell_of.Goals as goal

pub unreachable-requires : goal.unreachable-requires
unreachable-requires c =
    no_cell c.args.kit.now c.args.role (option_copied c.cell_named_for.result) c.requires
    (c.cell_named_for.ensures ∙ ap (λ (roles : List RoleName). cell_named_for roles (Common c.args.role)) c.as_slice.ensures)
    (ap option_copied c.in-None.is)
