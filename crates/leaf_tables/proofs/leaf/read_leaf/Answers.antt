use Rattle.std.proofs.Common.{◌≡◌, List, None, sym, subst}
use Rattle.tech_rules.specs.declared.tech.RoleName.{RoleName}
use Rattle.leaf_tables.specs.Leaves.{cell_named_for}
use Rattle.leaf_tables.proofs.LeafLaws.{has_cell}
use Rattle.leaf_tables.proofs.leaf.read_leaf.Goals as goal

pub unreachable-requires : goal.unreachable-requires
unreachable-requires c =
    has_cell c.args.tech.now c.args.role c.requires.cell (subst (λ (entries : List RoleName). cell_named_for entries c.args.role ≡ None) c.as_slice.ensures (sym c.in_default.ensures))
