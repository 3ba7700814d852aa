use Rattle.std.proofs.Common.{refl, true, false}
use Rattle.cell_roles.specs.declared.leaf_role.LeafRole.TheVariants.{Common, Fixed}
use Rattle.cell_roles.proofs.laws.leaf_tables_agree.Goals as goal

pub returns : goal.returns
returns c (Common role) = c.tables_agree.ensures role
returns c (Fixed false) = refl
returns c (Fixed true) = refl
