-- What the writer adds, and the numbers of elements that have 16 bits by the types of the code.
use Rattle.std.specs.Prelude.{ℕ, ℤ, List, [], ◌∷◌, ◌++◌, FitsSigned}
use Rattle.std.specs.Int.{w16}
use Rattle.std.specs.List.{AllByRecursion}
use Rattle.or_geom.specs.declared.shape.Point.{Point}
use Rattle.or_geom.specs.declared.place.Place.{Place}
use Rattle.gds_records.specs.declared.code.TheConstants.{HEADER, BGNLIB, LIBNAME, UNITS, BOUNDARY, PATH, SREF, AREF, TEXT, DATATYPE, WIDTH, XY, SNAME, COLROW, TEXTTYPE, STRING, PATHTYPE}
use Rattle.gds_records.specs.Record.{StreamRecord}
use Rattle.gds_records.specs.Writing.{int16_bytes, int32_bytes, points_bytes, text_bytes, record_with}
use Rattle.gds_library.specs.declared.library.Prop.{Prop}
use Rattle.gds_library.specs.declared.library.Element.{Element}
use Rattle.gds_library.specs.declared.library.Element.TheVariants.{Boundary, Path, Sref, Aref, Text}
use Rattle.gds_library.specs.declared.library.Structure.{Structure}
use Rattle.gds_library.specs.Values.{displaced}
use Rattle.gds_library.specs.Writable.{props_of}
use Rattle.gds_stream.specs.Turned.{turned_ring}
use Rattle.gds_stream.specs.Canonical.{version, no_dates, nanometres, layered_records, orient_records, closed_ring}

abbrev pub HasShortAttribute : Prop → Type 0
HasShortAttribute p = FitsSigned w16 p.attr

abbrev pub HasShortLayers : Element → Type 0
HasShortLayers (Boundary layer datatype points props) = FitsSigned w16 layer × FitsSigned w16 datatype
HasShortLayers (Path layer datatype kind width points props) = FitsSigned w16 layer × FitsSigned w16 datatype
HasShortLayers (Sref name place props) = Unit {0}
HasShortLayers (Aref name place columns rows across down props) = Unit {0}
HasShortLayers (Text layer texttype at string props) = FitsSigned w16 layer × FitsSigned w16 texttype

-- layers, the numbers beside them and attributes fit 16 bits
pub record HasShortNumbers (e : Element) : Type 0 where
  pub layers : HasShortLayers e
  pub attributes : AllByRecursion HasShortAttribute (props_of e)

abbrev pub AreShortNumbers : Structure → Type 0
AreShortNumbers s = AllByRecursion HasShortNumbers s.elements

-- the records before the structures
abbrev pub head_records : List ℕ → List StreamRecord
head_records name =
    record_with HEADER version ∷ record_with BGNLIB no_dates ∷ record_with LIBNAME (text_bytes name) ∷ record_with UNITS nanometres ∷ []

-- COLROW and XY of an array
abbrev pub lattice_records : Place → ℤ → ℤ → Point → Point → List StreamRecord
lattice_records place columns rows across down =
    record_with COLROW (int16_bytes columns ++ int16_bytes rows)
    ∷ record_with XY (points_bytes (place.at ∷ displaced place.at columns across ∷ displaced place.at rows down ∷ [])) ∷ []

abbrev pub reference_records : ℕ → List ℕ → Place → List StreamRecord → List StreamRecord
reference_records code name place more = (record_with code [] ∷ record_with SNAME (text_bytes name) ∷ orient_records place.orient) ++ more

-- what an element is besides its properties
abbrev pub body_records : Element → List StreamRecord
body_records (Boundary layer datatype points props) =
    layered_records BOUNDARY DATATYPE layer datatype (record_with XY (points_bytes (closed_ring (turned_ring points))) ∷ [])
body_records (Path layer datatype kind width points props) =
    layered_records PATH DATATYPE layer datatype
    (record_with PATHTYPE (int16_bytes kind) ∷ record_with WIDTH (int32_bytes width) ∷ record_with XY (points_bytes points) ∷ [])
body_records (Sref name place props) = reference_records SREF name place (record_with XY (points_bytes (place.at ∷ [])) ∷ [])
body_records (Aref name place columns rows across down props) =
    reference_records AREF name place (lattice_records place columns rows across down)
body_records (Text layer texttype at string props) =
    layered_records TEXT TEXTTYPE layer texttype (record_with XY (points_bytes (at ∷ [])) ∷ record_with STRING (text_bytes string) ∷ [])
