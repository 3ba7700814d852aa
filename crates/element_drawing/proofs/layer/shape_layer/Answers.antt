use Rattle.std.proofs.lemmas.Int.{to_z-of_z}
use Rattle.element_drawing.proofs.layer.shape_layer.Goals as goal

pub returns-in-Some : goal.returns-in-Some
returns-in-Some c = rw (to_z-of_z _ c.args.number c.ranges.number, to_z-of_z _ c.args.datatype c.ranges.datatype) at c.in-Some.ensures.first

pub returns-in-None : goal.returns-in-None
returns-in-None c = rw (to_z-of_z _ c.args.number c.ranges.number, to_z-of_z _ c.args.datatype c.ranges.datatype) at c.in-None.ensures.first
