-- Boundaries as they are written: from the lowest corner, the leftmost of these, counter-clockwise.
use Rattle.std.specs.Prelude.{ℕ, suc, List, [], ◌∷◌, ◌++◌, Bool, false, ◌&&◌, ◌||◌, not, int_lt, if◌then◌else◌, take, drop, reverse, map}
use Rattle.std.specs.List.{list_all}
use Rattle.std.specs.Ordering.{int_eq}
use Rattle.or_geom.specs.declared.shape.Point.{Point}
use Rattle.rectilinear.specs.Ring.{side}
use Rattle.rectilinear.specs.Corners.{is_right}
use Rattle.gds_library.specs.declared.library.Element.{Element}
use Rattle.gds_library.specs.declared.library.Element.TheVariants.{Boundary, Path, Sref, Aref, Text}
use Rattle.gds_library.specs.declared.library.Structure.{Structure}
use Rattle.gds_library.specs.declared.library.Library.{Library}

-- lower, or as low and further left
abbrev pub is_lower : Point → Point → Bool
is_lower p q = int_lt p.y q.y || (int_eq p.y q.y && int_lt p.x q.x)

-- none of the corners is lower
abbrev pub is_lowest : Point → List Point → Bool
is_lowest p corners = list_all (λ q. not (is_lower q p)) corners

-- the index of the lowest corner, the leftmost of these
abbrev pub lowest_index : List Point → ℕ
lowest_index [] = 0
lowest_index (p ∷ ps) = if is_lowest p ps then 0 else suc (lowest_index ps)

-- the same ring, from the corner at this index on
abbrev pub begun_at : ℕ → List Point → List Point
begun_at index corners = drop index corners ++ take index corners

abbrev pub from_lowest : List Point → List Point
from_lowest corners = begun_at (lowest_index corners) corners

-- the first side goes right
abbrev pub goes_right : List Point → Bool
goes_right [] = false
goes_right (p ∷ []) = false
goes_right (p ∷ q ∷ ps) = is_right (side p q)

-- the same ring the other way round, from the same corner on
abbrev pub other_way : List Point → List Point
other_way [] = []
other_way (p ∷ ps) = p ∷ reverse ps

-- The ring from its lowest corner on, the leftmost of these, counter-clockwise: the first side goes right, and what lies
-- inside is above it.
abbrev pub turned_ring : List Point → List Point
turned_ring corners = if goes_right (from_lowest corners) then from_lowest corners else other_way (from_lowest corners)

abbrev pub turned_element : Element → Element
turned_element (Boundary layer datatype points props) = Boundary layer datatype (turned_ring points) props
turned_element (Path layer datatype kind width points props) = Path layer datatype kind width points props
turned_element (Sref name place props) = Sref name place props
turned_element (Aref name place columns rows across down props) = Aref name place columns rows across down props
turned_element (Text layer texttype at string props) = Text layer texttype at string props

abbrev pub turned_structure : Structure → Structure
turned_structure s = record { name = s.name; elements = map turned_element s.elements }

-- the library with its boundaries turned, and nothing else changed
abbrev pub turned_library : Library → Library
turned_library lib = record { name = lib.name; structs = map turned_structure lib.structs }
