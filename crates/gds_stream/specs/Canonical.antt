-- The one spelling that is written of a library: its records, and their bytes.
use Rattle.std.specs.Prelude.{ℕ, ℤ, List, [], ◌∷◌, ◌++◌, Bool, true, false, flat_map}
use Rattle.or_geom.specs.declared.shape.Point.{Point}
use Rattle.or_geom.specs.declared.place.Orient.{Orient}
use Rattle.or_geom.specs.declared.place.Orient.TheVariants.{R0}
use Rattle.gds_records.specs.declared.code.TheConstants.{HEADER, BGNLIB, LIBNAME, UNITS, ENDLIB, BGNSTR, STRNAME, ENDSTR, BOUNDARY, PATH, SREF, AREF, TEXT, LAYER, DATATYPE, WIDTH, XY, ENDEL, SNAME, COLROW, TEXTTYPE, STRING, STRANS, ANGLE, PATHTYPE, PROPATTR, PROPVALUE}
use Rattle.gds_records.specs.Record.{StreamRecord}
use Rattle.gds_records.specs.Writing.{int16_bytes, int32_bytes, point_bytes, points_bytes, text_bytes, record_with}
use Rattle.gds_records.specs.Bytes.{records_bytes}
use Rattle.gds_library.specs.declared.library.Prop.{Prop}
use Rattle.gds_library.specs.declared.library.Element.{Element}
use Rattle.gds_library.specs.declared.library.Element.TheVariants.{Boundary, Path, Sref, Aref, Text}
use Rattle.gds_library.specs.declared.library.Structure.{Structure}
use Rattle.gds_library.specs.declared.library.Library.{Library}
use Rattle.gds_library.specs.declared.limits.TheConstants.{MIRRORED}
use Rattle.gds_library.specs.declared.transform.Turn.{Turn}
use Rattle.gds_library.specs.declared.transform.Turn.TheVariants.{Zero, Quarter, Half, ThreeQuarters}
use Rattle.gds_library.specs.Values.{displaced, is_mirrored, turn_in}
use Rattle.gds_stream.specs.Turned.{turned_ring}

-- 600
abbrev pub version : List ℕ
version = 0x02 ∷ 0x58 ∷ []

-- twelve numbers, all of them zero
abbrev pub no_dates : List ℕ
no_dates = 0 ∷ 0 ∷ 0 ∷ 0 ∷ 0 ∷ 0 ∷ 0 ∷ 0 ∷ 0 ∷ 0 ∷ 0 ∷ 0 ∷ 0 ∷ 0 ∷ 0 ∷ 0 ∷ 0 ∷ 0 ∷ 0 ∷ 0 ∷ 0 ∷ 0 ∷ 0 ∷ 0 ∷ []

-- a thousandth, which is a nanometre in user units, and a nanometre in metres
abbrev pub nanometres : List ℕ
nanometres = 0x3E ∷ 0x41 ∷ 0x89 ∷ 0x37 ∷ 0x4B ∷ 0xC6 ∷ 0xA7 ∷ 0xF0 ∷ 0x39 ∷ 0x44 ∷ 0xB8 ∷ 0x2F ∷ 0xA0 ∷ 0x9B ∷ 0x5A ∷ 0x54 ∷ []

abbrev pub property_records : Prop → List StreamRecord
property_records p = record_with PROPATTR (int16_bytes p.attr) ∷ record_with PROPVALUE (text_bytes p.value) ∷ []

abbrev pub end_records : List Prop → List StreamRecord
end_records props = flat_map property_records props ++ record_with ENDEL [] ∷ []

-- the record that begins an element, LAYER and another number, before what follows
abbrev pub layered_records : ℕ → ℕ → ℤ → ℤ → List StreamRecord → List StreamRecord
layered_records code second layer kind more =
    record_with code [] ∷ record_with LAYER (int16_bytes layer) ∷ record_with second (int16_bytes kind) ∷ more

abbrev pub strans_bytes : Bool → List ℕ
strans_bytes true = MIRRORED ∷ 0 ∷ []
strans_bytes false = 0 ∷ 0 ∷ []

-- ANGLE, where the turn isn't 0
abbrev pub angle_records : Turn → List StreamRecord
angle_records Zero = []
angle_records Quarter = record_with ANGLE (0x42 ∷ 0x5A ∷ 0 ∷ 0 ∷ 0 ∷ 0 ∷ 0 ∷ 0 ∷ []) ∷ []
angle_records Half = record_with ANGLE (0x42 ∷ 0xB4 ∷ 0 ∷ 0 ∷ 0 ∷ 0 ∷ 0 ∷ 0 ∷ []) ∷ []
angle_records ThreeQuarters = record_with ANGLE (0x43 ∷ 0x10 ∷ 0xE0 ∷ 0 ∷ 0 ∷ 0 ∷ 0 ∷ 0 ∷ []) ∷ []

-- STRANS and ANGLE, where the orientation isn't R0
abbrev pub orient_records : Orient → List StreamRecord
orient_records R0 = []
orient_records orient = record_with STRANS (strans_bytes (is_mirrored orient)) ∷ angle_records (turn_in orient)

-- a ring with its first corner again
abbrev pub closed_ring : List Point → List Point
closed_ring [] = []
closed_ring (p ∷ ps) = p ∷ (ps ++ p ∷ [])

abbrev pub element_records : Element → List StreamRecord
element_records (Boundary layer datatype points props) =
    layered_records BOUNDARY DATATYPE layer datatype
    (record_with XY (points_bytes (closed_ring (turned_ring points))) ∷ end_records props)
element_records (Path layer datatype kind width points props) =
    layered_records PATH DATATYPE layer datatype
    (record_with PATHTYPE (int16_bytes kind) ∷ record_with WIDTH (int32_bytes width) ∷ record_with XY (points_bytes points) ∷ end_records props)
element_records (Sref name place props) =
    record_with SREF [] ∷ record_with SNAME (text_bytes name)
    ∷ (orient_records place.orient ++ record_with XY (point_bytes place.at) ∷ end_records props)
element_records (Aref name place columns rows across down props) =
    record_with AREF [] ∷ record_with SNAME (text_bytes name) ∷ (orient_records place.orient
    ++ record_with COLROW (int16_bytes columns ++ int16_bytes rows)
    ∷ record_with XY (points_bytes (place.at ∷ displaced place.at columns across ∷ displaced place.at rows down ∷ []))
    ∷ end_records props)
element_records (Text layer texttype at string props) =
    layered_records TEXT TEXTTYPE layer texttype
    (record_with XY (point_bytes at) ∷ record_with STRING (text_bytes string) ∷ end_records props)

abbrev pub structure_records : Structure → List StreamRecord
structure_records s =
    record_with BGNSTR no_dates ∷ record_with STRNAME (text_bytes s.name) ∷ (flat_map element_records s.elements ++ record_with ENDSTR [] ∷ [])

abbrev pub library_records : Library → List StreamRecord
library_records lib =
    record_with HEADER version ∷ record_with BGNLIB no_dates ∷ record_with LIBNAME (text_bytes lib.name) ∷ record_with UNITS nanometres
    ∷ (flat_map structure_records lib.structs ++ record_with ENDLIB [] ∷ [])

-- the bytes that are written of a library, and nothing after ENDLIB
abbrev pub canonical : Library → List ℕ
canonical lib = records_bytes (library_records lib)
