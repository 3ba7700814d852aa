use Rattle.floorplan.specs.LeafSides.{leaf_width}
use Rattle.control_logic.proofs.LogicLaws.{AreAdded}
use Rattle.control_logic.proofs.row.row_width.Given as goal

abbrev pub invariant-loop-role : goal.invariant-loop-role
invariant-loop-role l = AreAdded (leaf_width l.kit) l.row.roles.items l.role-index l.width
