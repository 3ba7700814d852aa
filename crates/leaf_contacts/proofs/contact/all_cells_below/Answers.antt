use Rattle.std.proofs.Common.{List, subst}
use Rattle.gds_library.specs.declared.library.Structure.{Structure}
use Rattle.cell_chains.specs.Hierarchy.{IsChainFault}
use Rattle.leaf_contacts.proofs.CellLaws.{sound_no_fault}
use Rattle.leaf_contacts.proofs.contact.all_cells_below.Goals as goal

pub unreachable-requires : goal.unreachable-requires
unreachable-requires c =
    sound_no_fault c.args.lib.now.structs c.args.top.now c.in-Err.fault c.requires.sound (subst (λ (l : List Structure). IsChainFault l c.args.top.now c.in-Err.fault) c.as_slice.ensures c.in-Err.ensures.fault) c.in_default.not-Memory
