use Rattle.std.proofs.Common.{sym, ◌∙◌}
use Rattle.std.proofs.lemmas.Option.{slice_get-get_or}
use Rattle.leaf_contacts.proofs.CellLaws.{named_is, structure_there}
use Rattle.leaf_contacts.proofs.cells.is_cell_named.Goals as goal

pub structure_at-structure-requires : goal.structure_at-structure-requires
structure_at-structure-requires c =
    structure_there c.args.tree.now c.args.cell _ c.requires.tree (slice_get-get_or c.args.tree.now.cells.now c.args.cell c.index-tree-cell.result c.requires.cell)

pub returns : goal.returns
returns c =
    let both = named_is c.args.tree.now c.args.cell _ c.structure_at-structure.result.now c.args.name.now (slice_get-get_or c.args.tree.now.cells.now c.args.cell c.index-tree-cell.result c.requires.cell) c.structure_at-structure.ensures in (
      λ t. both.0 (c.is.ensures.0 t ∙ c.as_bytes.ensures),
      λ h. c.is.ensures.1 (both.1 h ∙ sym c.as_bytes.ensures),
    )
