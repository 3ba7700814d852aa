use Rattle.std.proofs.Common.{◌⊎◌, drop}
use Rattle.std.specs.Prelude.{Contains}
use Rattle.or_geom.specs.declared.shape.Shape.{Shape}
use Rattle.or_geom.specs.Containing.{HoldsRect}
use Rattle.leaf_contacts.proofs.contact.hull_of.Given as goal

abbrev pub invariant-loop-shape : goal.invariant-loop-shape
invariant-loop-shape l = (shape : Shape) → Contains l.shapes shape → HoldsRect l.hull shape.rect ⊎ Contains (drop l.shape-index l.shapes) shape
