-- The leaf of a kit.
use Rattle.std.proofs.Common.{◌≡◌, Some}
use Rattle.leaf_tables.specs.Alignment.{leaf_in}
use Rattle.leaf_tables.proofs.RoleLaws.{leaf_there, near_in_kit, pins_in_kit}
use Rattle.leaf_tables.proofs.of_role.leaf_of.Goals as goal

pub returns-clause-near : goal.returns-clause-near
returns-clause-near c =
    let leaf = c.index-as_slice-role_number.result in
    let there : leaf_in c.args.kit.now.leaves c.args.role ≡ Some leaf = leaf_there c.args.kit.now c.args.role leaf c.as_slice.result.now c.role_number.result c.requires c.as_slice.ensures c.role_number.ensures c.index-as_slice-role_number.is in
    near_in_kit c.args.kit.now c.args.role leaf c.requires there

pub returns-clause-pins : goal.returns-clause-pins
returns-clause-pins c =
    let leaf = c.index-as_slice-role_number.result in
    let there : leaf_in c.args.kit.now.leaves c.args.role ≡ Some leaf = leaf_there c.args.kit.now c.args.role leaf c.as_slice.result.now c.role_number.result c.requires c.as_slice.ensures c.role_number.ensures c.index-as_slice-role_number.is in
    pins_in_kit c.args.kit.now c.args.role leaf c.requires there
