-- The shapes of a cell's own elements, on the layers of a technology.
use Rattle.std.specs.Prelude.{◌≡◌, ℕ, ℤ, List, [], ◌∷◌, ◌++◌, Option, Some, None, map, position}
use Rattle.or_geom.specs.declared.shape.Rect.{Rect}
use Rattle.or_geom.specs.declared.shape.Shape.{Shape}
use Rattle.or_geom.specs.Place.{IsWithin, low_corner, high_corner}
use Rattle.gds_library.specs.declared.library.Element.{Element}
use Rattle.gds_library.specs.declared.library.Element.TheVariants.{Boundary, Path, Sref, Aref, Text}
use Rattle.tech_rules.specs.declared.tech.Layer.{Layer}
use Rattle.tech_rules.specs.WireRules.{has_numbers}
use Rattle.element_drawing.specs.Drawing.{IsDrawing}

-- the place of the first layer whose shapes have these numbers
abbrev pub layer_with_numbers : List Layer → ℤ → ℤ → Option ℕ
layer_with_numbers layers number datatype = position (has_numbers number datatype) layers

-- the layer on which an element draws, if the technology has it
abbrev pub element_layer : List Layer → Element → Option ℕ
element_layer layers (Boundary layer datatype points props) = layer_with_numbers layers layer datatype
element_layer layers (Path layer datatype kind width points props) = layer_with_numbers layers layer datatype
element_layer layers (Sref name place props) = None
element_layer layers (Aref name place columns rows across down props) = None
element_layer layers (Text layer texttype at string props) = None

abbrev pub on_layer : ℕ → Rect → Shape
on_layer layer rect = record { layer = layer; rect = rect }

-- the rectangles of a drawing, on the layer; nothing where there is no layer
abbrev pub AreOn : Option ℕ → (List Rect → Type 0) → List Shape → Type 0
AreOn None IsDrawn shapes = shapes ≡ []
AreOn (Some layer) IsDrawn shapes = (rects : List Rect) × IsDrawn rects × (shapes ≡ map (on_layer layer) rects)

abbrev pub AreShapesOf : List Layer → Element → List Shape → Type 0
AreShapesOf layers e shapes = AreOn (element_layer layers e) (IsDrawing e) shapes

-- the shapes of the elements, one element after another
abbrev pub AreOwnShapes : List Layer → List Element → List Shape → Type 0
AreOwnShapes layers [] shapes = shapes ≡ []
AreOwnShapes layers (e ∷ es) shapes =
    (first : List Shape) × (rest : List Shape) × AreShapesOf layers e first × AreOwnShapes layers es rest × (shapes ≡ first ++ rest)

-- both corners lie within n
pub record IsRectWithin (n : ℕ) (r : Rect) : Type 0 where
  pub low : IsWithin n (low_corner r)
  pub high : IsWithin n (high_corner r)

abbrev pub IsShapeWithin : ℕ → Shape → Type 0
IsShapeWithin n s = IsRectWithin n s.rect
