-- The rectangles that an element draws: the slabs of a polygon, or the boxes of a path.
use Rattle.std.specs.Prelude.{◌≡◌, List, []}
use Rattle.or_geom.specs.declared.shape.Rect.{Rect}
use Rattle.gds_library.specs.declared.library.Element.{Element}
use Rattle.gds_library.specs.declared.library.Element.TheVariants.{Boundary, Path, Sref, Aref, Text}
use Rattle.rectilinear.specs.Slabs.{IsSlabList}
use Rattle.element_drawing.specs.Paths.{AreBoxes}

abbrev pub IsDrawing : Element → List Rect → Type 0
IsDrawing (Boundary layer datatype points props) rects = IsSlabList points rects
IsDrawing (Path layer datatype kind width points props) rects = AreBoxes kind width points rects
IsDrawing (Sref name place props) rects = rects ≡ []
IsDrawing (Aref name place columns rows across down props) rects = rects ≡ []
IsDrawing (Text layer texttype at string props) rects = rects ≡ []
