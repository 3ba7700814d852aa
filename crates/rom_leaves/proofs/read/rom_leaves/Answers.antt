use Rattle.rom_leaves.proofs.RomLeafLaws.{has_leaves, lacks_side}
use Rattle.rom_leaves.proofs.read.rom_leaves.Goals as goal

pub returns-clause-leaves : goal.returns-clause-leaves
returns-clause-leaves c =
    has_leaves c.args.kit.now c.leaf_of.result.now c.in-Ok.leaf c.in-Ok-fixed_leaf.leaf c.check_shared.result
    (record { wire = c.wire_of-wire.result.now; wired = c.wire_of-wire.ensures.is; there = c.leaf_of.ensures.is; first = c.in-Ok.ensures.leaf; second = c.in-Ok-fixed_leaf.ensures.leaf })
    c.check_shared.ensures.shared

pub returns-clause-fault : goal.returns-clause-fault
returns-clause-fault c =
    lacks_side c.args.kit.now c.leaf_of.result.now c.in-Ok.leaf c.in-Ok-fixed_leaf.leaf c.check_shared.result
    (record { wire = c.wire_of-wire.result.now; wired = c.wire_of-wire.ensures.is; there = c.leaf_of.ensures.is; first = c.in-Ok.ensures.leaf; second = c.in-Ok-fixed_leaf.ensures.leaf })
    c.check_shared.ensures.fault
