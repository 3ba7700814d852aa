use Rattle.std.proofs.Common.{◌≡◌, inr, List, Some, subst}
use Rattle.std.specs.Prelude.{slice_get}
use Rattle.cell_roles.specs.declared.role.Role.{Role}
use Rattle.leaf_tables.specs.Steps.{source_in}
use Rattle.leaf_tables.proofs.LeafLaws.{leaves_lack, leaves_more}
use Rattle.leaf_tables.proofs.leaf.read_leaves.Goals as goal

pub read_leaf-requires-clause-cell : goal.read_leaf-requires-clause-cell
read_leaf-requires-clause-cell c = (c.requires.tables c.role_at-role.result).cell

pub returns-in-Err-clause-fault : goal.returns-in-Err-clause-fault
returns-in-Err-clause-fault c =
    let role = c.role_at-role.result in
    inr (leaves_lack (source_in c.args.tech.now c.args.wire.now c.args.lib.now c.args.deck.now) c.loop-index.leaves c.loop-index.index role c.in-Err.fault
    (subst (λ (all : List Role). slice_get all c.loop-index.index ≡ Some role) c.all-all.ensures c.role_at-role.ensures) c.in-Err.ensures.fault c.loop-index.invariant)

pub loop-index-preserved : goal.loop-index-preserved
loop-index-preserved c =
    let role = c.role_at-role.result in
    leaves_more (source_in c.args.tech.now c.args.wire.now c.args.lib.now c.args.deck.now) c.loop-index.leaves c.push.new.self c.loop-index.index role c.in-Ok.leaf
    (subst (λ (all : List Role). slice_get all c.loop-index.index ≡ Some role) c.all-all.ensures c.role_at-role.ensures) c.in-Ok.ensures.leaf c.in_default.ensures.ok c.loop-index.invariant
