-- What elements draw is one set of shapes.
use Rattle.std.specs.Prelude.{List, Contains}
use Rattle.std.specs.List.{AllByRecursion}
use Rattle.or_geom.specs.declared.shape.Shape.{Shape}
use Rattle.gds_library.specs.declared.library.Element.{Element}
use Rattle.gds_library.specs.Writable.{IsWritableElement}
use Rattle.tech_rules.specs.declared.tech.Layer.{Layer}
use Rattle.element_drawing.specs.OwnShapes.{AreOwnShapes}

-- two lists of the shapes that some elements draw hold the same shapes
abbrev pub AreOneSet : Type 0
AreOneSet = (layers : List Layer) (elements : List Element) (a b : List Shape) → AllByRecursion IsWritableElement elements
    → AreOwnShapes layers elements a → AreOwnShapes layers elements b → (s : Shape) → Contains a s → Contains b s
