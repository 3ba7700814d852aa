-- The instances are those that are stated.
use Rattle.std.proofs.Common.{arith}
use Rattle.std.proofs.lemmas.Int.{ints}
use Rattle.floorplan.proofs.PlaceLaws.{cell_from_lists}
use Rattle.port_data.proofs.cell.data_cell.Goals as goal

pub returns : goal.returns
returns c = λ floorplan sense column. cell_from_lists _ _ _ _ _ _ _ _ _ c.in_ok-bare_cell.ensures c.new-instances.ensures.items c.in_ok-add_writes.ensures (c.in_ok-add_senses.ensures floorplan (let fits = c.ranges.sense_y in omega (arith, ints, fits, sense))) (c.in_ok-add_columns.ensures floorplan (let fits = c.ranges.column_y in omega (arith, ints, fits, column)))
