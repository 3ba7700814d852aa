use Rattle.floorplan.specs.LeafSides.{leaf_width}
use Rattle.control_logic.proofs.LogicLaws.{ArePlaced}
use Rattle.control_logic.proofs.cell.side_by_side.Given as goal

abbrev pub invariant-loop-cell : goal.invariant-loop-cell
invariant-loop-cell l = ArePlaced (leaf_width l.kit) l.gates l.roles l.placed.items l.cell l.x
