-- The instances are those that are stated.
use Rattle.floorplan.proofs.PlaceLaws.{cell_from_none}
use Rattle.bitcell_array.proofs.array_cells.array_cell.Goals as goal

pub returns : goal.returns
returns c = cell_from_none _ _ _ _ _ c.in_ok-bare_cell.ensures c.new-instances.ensures.items c.in_ok-add_rows.ensures
