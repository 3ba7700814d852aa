use Rattle.std.proofs.lemmas.Option.{slice_get-get_or}
use Rattle.leaf_contacts.proofs.CellLaws.{content_is, structure_there}
use Rattle.leaf_contacts.proofs.references.content_of.Goals as goal

pub structure_at-structure-requires : goal.structure_at-structure-requires
structure_at-structure-requires c =
    structure_there c.args.tree.now c.args.cell _ c.requires.tree (slice_get-get_or c.args.tree.now.cells.now c.args.cell c.index-tree-cell.result c.requires.cell)

pub returns : goal.returns
returns c =
    content_is c.args.tree.now c.args.cell _ c.structure_at-structure.result.now _ _ c.requires.tree (slice_get-get_or c.args.tree.now.cells.now c.args.cell c.index-tree-cell.result c.requires.cell) c.structure_at-structure.ensures c.as_slice.ensures
    c.as_slice-2.ensures
