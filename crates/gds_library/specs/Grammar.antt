-- Which library some bytes spell: the records in their order, and what their data means.
use Rattle.std.specs.Prelude.{◌≡◌, ◌≢◌, ℕ, ℤ, pos, List, [], ◌∷◌, Option, Some, None}
use Rattle.std.specs.List.{AllByRecursion}
use Rattle.or_geom.specs.declared.shape.Point.{Point}
use Rattle.or_geom.specs.declared.place.Orient.{Orient}
use Rattle.or_geom.specs.declared.place.Orient.TheVariants.{R0}
use Rattle.gds_records.specs.declared.code.TheConstants.{HEADER, BGNLIB, LIBNAME, UNITS, ENDLIB, BGNSTR, STRNAME, ENDSTR, BOUNDARY, PATH, SREF, AREF, TEXT, LAYER, DATATYPE, WIDTH, XY, ENDEL, SNAME, COLROW, NODE, TEXTTYPE, PRESENTATION, STRING, STRANS, MAG, ANGLE, REFLIBS, FONTS, PATHTYPE, GENERATIONS, ATTRTABLE, ELFLAGS, NODETYPE, PROPATTR, PROPVALUE, BOX, BOXTYPE, PLEX, BGNEXTN, ENDEXTN}
use Rattle.gds_records.specs.declared.error.Demand.TheVariants as demand
use Rattle.gds_records.specs.Part.{Part, ◌▸◌, value, any, maybe, ◌or◌, nothing, refused, maybe_refused, through, gone, repeated_after, repeated}
use Rattle.gds_records.specs.Spelling.{IsSpelling}
use Rattle.gds_records.specs.Values.{Means, int16_of, string_of, point_of}
use Rattle.gds_library.specs.declared.library.Prop.{Prop}
use Rattle.gds_library.specs.declared.library.Element.{Element}
use Rattle.gds_library.specs.declared.library.Element.TheVariants.{Boundary, Path, Sref, Aref, Text}
use Rattle.gds_library.specs.declared.library.Structure.{Structure}
use Rattle.gds_library.specs.declared.library.Library.{Library}
use Rattle.gds_library.specs.declared.transform.Turn.TheVariants.{Zero}
use Rattle.gds_library.specs.Values.{units_of, IsOutline, IsSpine, path_kind_of, width_of, mirror_of, upright_of, turn_of, is_mirrored, turn_in, counts_of, IsLattice}

-- the record that begins an element, then [ELFLAGS] [PLEX]
abbrev pub begin : ℕ → Part
begin code = any code ▸ maybe ELFLAGS ▸ maybe PLEX

-- the same, then LAYER and another number
abbrev pub layered : ℕ → ℕ → ℤ → ℤ → Part
layered code second layer kind = begin code ▸ value demand.Plain LAYER (Means int16_of) layer
    ▸ value demand.Plain second (Means int16_of) kind

-- PROPATTR PROPVALUE
abbrev pub property : Prop → Part
property p = value demand.Plain PROPATTR (Means int16_of) p.attr
    ▸ value demand.Plain PROPVALUE (Means string_of) p.value

-- {PROPATTR PROPVALUE} ENDEL
abbrev pub end : List Prop → Part
end props = repeated property props ▸ any ENDEL

-- [WIDTH] [BGNEXTN] [ENDEXTN] XY: only a path with a width and without extensions is taken
abbrev pub spine : ℤ → List Point → Part
spine width points =
    (value demand.Track WIDTH (Means width_of) width ▸ maybe_refused demand.Track BGNEXTN
    ▸ maybe_refused demand.Track ENDEXTN ▸ value demand.Track XY IsSpine points)
    or (maybe_refused demand.Track BGNEXTN ▸ maybe_refused demand.Track ENDEXTN ▸ refused demand.Track XY)

-- [STRANS [MAG] [ANGLE]]
abbrev pub orientation : Orient → Part
orientation orient =
    (value demand.Transform STRANS (Means mirror_of) (is_mirrored orient)
    ▸ (value demand.Transform MAG (Means upright_of) tt or nothing (Unit {0}))
    ▸ (value demand.Transform ANGLE (Means turn_of) (turn_in orient) or nothing (turn_in orient ≡ Zero)))
    or nothing (orient ≡ R0)

-- the same, dropped
abbrev pub turn_dropped : Part
turn_dropped = (any STRANS ▸ maybe MAG ▸ maybe ANGLE) or nothing (Unit {0})

abbrev pub element : Element → Part
element (Boundary layer datatype points props) =
    layered BOUNDARY DATATYPE layer datatype ▸ value demand.Outline XY IsOutline points ▸ end props
element (Path layer datatype kind width points props) =
    layered PATH DATATYPE layer datatype
    ▸ (value demand.Track PATHTYPE (Means path_kind_of) kind or nothing (kind ≡ pos 0)) ▸ spine width points ▸ end props
element (Sref name place props) =
    begin SREF ▸ value demand.Plain SNAME (Means string_of) name ▸ orientation place.orient
    ▸ value demand.Plain XY (Means point_of) place.at ▸ end props
element (Aref name place columns rows across down props) =
    begin AREF ▸ value demand.Plain SNAME (Means string_of) name ▸ orientation place.orient
    ▸ value demand.Transform COLROW (Means counts_of) (columns, rows)
    ▸ value demand.Transform XY (IsLattice (columns, rows)) (place.at, (across, down)) ▸ end props
element (Text layer texttype at string props) =
    layered TEXT TEXTTYPE layer texttype ▸ maybe PRESENTATION ▸ maybe PATHTYPE ▸ maybe WIDTH ▸ turn_dropped
    ▸ value demand.Plain XY (Means point_of) at ▸ value demand.Plain STRING (Means string_of) string ▸ end props

-- LAYER, another number and XY, and properties that are dropped too
abbrev pub dropped_rest : ℕ → List Prop → Part
dropped_rest second props = any LAYER ▸ any second ▸ any XY ▸ end props

-- NODE or BOX, of which nothing is kept
abbrev pub dropped : List Prop → Part
dropped props = (begin NODE ▸ dropped_rest NODETYPE props) or (begin BOX ▸ dropped_rest BOXTYPE props)

-- an element, or one of which nothing is kept
abbrev pub item : Option Element → Part
item None = through gone dropped tt
item (Some e) = element e

abbrev pub kept_elements : List (Option Element) → List Element
kept_elements [] = []
kept_elements (None ∷ items) = kept_elements items
kept_elements (Some e ∷ items) = e ∷ kept_elements items

-- a name that no structure before has
abbrev pub IsNewText : List Structure → List ℕ → List ℕ → Type 0
IsNewText before name content = Means string_of name content × AllByRecursion (λ (s : Structure). s.name ≢ name) before

-- BGNSTR STRNAME {element} ENDSTR
abbrev pub structure : List Structure → Structure → Part
structure before s = any BGNSTR ▸ value demand.NewName STRNAME (IsNewText before) s.name
    ▸ through kept_elements (repeated item) s.elements ▸ any ENDSTR

-- HEADER BGNLIB LIBNAME [REFLIBS] [FONTS] [ATTRTABLE] [GENERATIONS] UNITS {structure} ENDLIB
abbrev pub library : Library → Part
library lib =
    any HEADER ▸ any BGNLIB ▸ value demand.Plain LIBNAME (Means string_of) lib.name ▸ maybe REFLIBS ▸ maybe FONTS
    ▸ maybe ATTRTABLE ▸ maybe GENERATIONS
    ▸ value demand.Units UNITS (Means units_of) tt ▸ repeated_after structure [] lib.structs ▸ any ENDLIB

-- records of the table that are those of the library, and then zero bytes
abbrev pub Spells : List ℕ → Library → Type 0
Spells bytes lib = IsSpelling library bytes lib
