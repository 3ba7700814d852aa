use Rattle.std.proofs.Common.{rules}
use Rattle.element_drawing.proofs.shapes.drawn_on.Goals as goal

pub returns-in-Boundary : goal.returns-in-Boundary
returns-in-Boundary c = rw c.in-Boundary.is (search (c.shape_layer.ensures, rules))

pub returns-in-Path : goal.returns-in-Path
returns-in-Path c = rw c.in-Path.is (search (c.shape_layer-in-Path.ensures, rules))
