-- Reading the elements of a structure, one record after the other.
use Rattle.std.specs.Prelude.{ℕ, ℤ, pos, ◌-ℤ◌, List, [], ◌∷◌, length, Bool, true, false, ◌&&◌, nat_le, int_div, int_rem, if◌then◌else◌, Option, Some, None, Ok}
use Rattle.std.specs.Ordering.{int_eq}
use Rattle.or_geom.specs.declared.shape.Point.{Point}
use Rattle.or_geom.specs.declared.place.Orient.{Orient}
use Rattle.or_geom.specs.declared.place.Orient.TheVariants.{R0, R90, R180, R270, MX, MX90, MX180, MX270}
use Rattle.gds_records.specs.declared.code.TheConstants.{BOUNDARY, PATH, SREF, AREF, TEXT, LAYER, DATATYPE, WIDTH, XY, ENDEL, SNAME, COLROW, NODE, TEXTTYPE, PRESENTATION, STRING, STRANS, MAG, ANGLE, PATHTYPE, NODETYPE, PROPATTR, PROPVALUE, BOX, BOXTYPE, BGNEXTN, ENDEXTN}
use Rattle.gds_records.specs.declared.error.Demand.TheVariants as demand
use Rattle.gds_records.specs.Reading.{Reader, as_value, then_at, past, taken_at, skip_at, or_at, bar_at, begin_at, fork_at, until_at, has_next, next_at, identity}
use Rattle.gds_records.specs.Values.{int16_of, string_of, point_of, points_from, first_point_of}
use Rattle.rectilinear.specs.Corners.{corners_of}
use Rattle.rectilinear.proofs.SimpleTest.{simple_test, straight_test}
use Rattle.gds_library.specs.declared.library.Prop.{Prop}
use Rattle.gds_library.specs.declared.library.Element.{Element}
use Rattle.gds_library.specs.declared.library.Element.TheVariants.{Boundary, Path, Sref, Aref, Text}
use Rattle.gds_library.specs.declared.transform.Turn.{Turn}
use Rattle.gds_library.specs.declared.transform.Turn.TheVariants.{Zero, Quarter, Half, ThreeQuarters}
use Rattle.gds_library.specs.Values.{last_point, is_same_point, segments, path_kind_of, width_of, mirror_of, upright_of, turn_of, counts_of, Lattice}

-- LAYER and another number, after the record that begins an element
unfoldable pub layers_at : ℕ → ℕ → Reader (ℤ × ℤ)
layers_at code second rs = then_at (past (begin_at code rs) (taken_at demand.Plain LAYER int16_of))
    (λ l. taken_at demand.Plain second int16_of)

-- PROPATTR PROPVALUE
abbrev pub as_property : ℤ × List ℕ → Prop
as_property z = record { attr = z.0; value = z.1 }

unfoldable pub property_at : Reader Prop
property_at rs = as_value as_property
    (then_at (taken_at demand.Plain PROPATTR int16_of rs) (λ a. taken_at demand.Plain PROPVALUE string_of))

-- {PROPATTR PROPVALUE} ENDEL
unfoldable pub properties_at : Reader (List Prop)
properties_at rs = until_at (λ seen. property_at) ENDEL (length rs) [] rs

-- BOUNDARY
abbrev pub is_closed : List Point → Bool
is_closed [] = false
is_closed (p ∷ ps) = is_same_point (last_point p ps) p

abbrev pub outline_in : Option (List Point) → Option (List Point)
outline_in None = None
outline_in (Some points) = if is_closed points
    && simple_test (corners_of points) then Some (corners_of points) else None

unfoldable pub outline_of : List ℕ → Option (List Point)
outline_of content = outline_in (points_from content)

abbrev pub as_boundary : (ℤ × ℤ) × (List Point × List Prop) → Element
as_boundary z = Boundary z.0.0 z.0.1 z.1.0 z.1.1

unfoldable pub boundary_at : Reader Element
boundary_at rs = as_value as_boundary
    (then_at (layers_at BOUNDARY DATATYPE rs)
    (λ ld rs. then_at (taken_at demand.Outline XY outline_of rs) (λ points. properties_at)))

-- PATH
abbrev pub spine_in : Option (List Point) → Option (List Point)
spine_in None = None
spine_in (Some points) = if nat_le 2 (length points) && straight_test (segments points) then Some points else None

unfoldable pub spine_of : List ℕ → Option (List Point)
spine_of content = spine_in (points_from content)

unfoldable pub drawn_at : Reader (List Point)
drawn_at rs = past (bar_at demand.Track BGNEXTN rs)
    (λ rs. past (bar_at demand.Track ENDEXTN rs) (taken_at demand.Track XY spine_of))

unfoldable pub wide_at : Reader (ℤ × List Point)
wide_at rs = then_at (taken_at demand.Track WIDTH width_of rs) (λ w. drawn_at)

unfoldable pub spine_at : Reader (ℤ × List Point)
spine_at rs = past (bar_at demand.Track BGNEXTN rs)
    (λ rs. past (bar_at demand.Track ENDEXTN rs) (λ rs. past (bar_at demand.Track XY rs) wide_at))

unfoldable pub track_at : Reader (ℤ × (ℤ × List Point))
track_at rs = then_at (or_at demand.Track PATHTYPE path_kind_of (pos 0) rs) (λ k. spine_at)

abbrev pub as_path : (ℤ × ℤ) × ((ℤ × (ℤ × List Point)) × List Prop) → Element
as_path z = Path z.0.0 z.0.1 z.1.0.0 z.1.0.1.0 z.1.0.1.1 z.1.1

unfoldable pub path_at : Reader Element
path_at rs = as_value as_path (then_at (layers_at PATH DATATYPE rs)
    (λ ld rs. then_at (track_at rs) (λ track. properties_at)))

-- SREF and AREF
unfoldable pub named_at : ℕ → Reader (List ℕ)
named_at code rs = past (begin_at code rs) (taken_at demand.Plain SNAME string_of)

abbrev pub orient_of : Bool → Turn → Orient
orient_of false Zero = R0
orient_of false Quarter = R90
orient_of false Half = R180
orient_of false ThreeQuarters = R270
orient_of true Zero = MX
orient_of true Quarter = MX90
orient_of true Half = MX180
orient_of true ThreeQuarters = MX270

abbrev pub as_orient : Bool × Turn → Orient
as_orient z = orient_of z.0 z.1

-- [MAG] [ANGLE]
unfoldable pub turn_at : Reader Turn
turn_at rs = past (or_at demand.Transform MAG upright_of tt rs) (or_at demand.Transform ANGLE turn_of Zero)

-- [STRANS [MAG] [ANGLE]]
unfoldable pub orient_at : Reader Orient
orient_at rs = if has_next STRANS rs then as_value as_orient
    (then_at (taken_at demand.Transform STRANS mirror_of rs) (λ m. turn_at)) else Ok (R0, rs)

unfoldable pub place_at : Reader (Orient × Point)
place_at rs = then_at (orient_at rs) (λ o. taken_at demand.Plain XY point_of)

abbrev pub as_sref : List ℕ × ((Orient × Point) × List Prop) → Element
as_sref z = Sref z.0 (record { orient = z.1.0.0; at = z.1.0.1 }) z.1.1

unfoldable pub sref_at : Reader Element
sref_at rs = as_value as_sref (then_at (named_at SREF rs) (λ n rs. then_at (place_at rs) (λ p. properties_at)))

-- the three points of a lattice
abbrev pub three_more : Point → Point → Option (Point × List ℕ) → Option (Point × (Point × Point))
three_more p q None = None
three_more p q (Some (s, [])) = Some (p, (q, s))
three_more p q (Some (s, b ∷ rest)) = None

abbrev pub two_more : Point → Option (Point × List ℕ) → Option (Point × (Point × Point))
two_more p None = None
two_more p (Some r) = three_more p r.0 (first_point_of r.1)

abbrev pub one_more : Option (Point × List ℕ) → Option (Point × (Point × Point))
one_more None = None
one_more (Some r) = two_more r.0 (first_point_of r.1)

unfoldable pub three_points_of : List ℕ → Option (Point × (Point × Point))
three_points_of content = one_more (first_point_of content)

abbrev pub displacement_of : Point → Point → Point
displacement_of p q = record { x = q.x -ℤ p.x; y = q.y -ℤ p.y }

-- the length of so many equal steps
unfoldable pub step_of : ℤ → ℤ → Option ℤ
step_of n length = if int_eq (int_rem length n) (pos 0) then Some (int_div length n) else None

abbrev pub with_steps : Option ℤ → Option ℤ → Option Point
with_steps None y = None
with_steps (Some x) None = None
with_steps (Some x) (Some y) = Some (record { x = x; y = y })

-- the pitch of so many steps that make a displacement
unfoldable pub pitch_of : ℤ → Point → Option Point
pitch_of n by = with_steps (step_of n by.x) (step_of n by.y)

abbrev pub with_pitches : Point → Option Point → Option Point → Option Lattice
with_pitches p None down = None
with_pitches p (Some across) None = None
with_pitches p (Some across) (Some down) = Some (p, (across, down))

abbrev pub lattice_in : ℤ × ℤ → Option (Point × (Point × Point)) → Option Lattice
lattice_in counts None = None
lattice_in counts (Some r) = with_pitches r.0 (pitch_of counts.0 (displacement_of r.0 r.1.0))
    (pitch_of counts.1 (displacement_of r.0 r.1.1))

unfoldable pub lattice_of : ℤ × ℤ → List ℕ → Option Lattice
lattice_of counts content = lattice_in counts (three_points_of content)

abbrev pub as_aref : List ℕ × (Orient × ((ℤ × ℤ) × (Lattice × List Prop))) → Element
as_aref z = Aref z.0 (record { orient = z.1.0; at = z.1.1.1.0.0 }) z.1.1.0.0 z.1.1.0.1 z.1.1.1.0.1.0 z.1.1.1.0.1.1
    z.1.1.1.1

unfoldable pub aref_at : Reader Element
aref_at rs = as_value as_aref (then_at (named_at AREF rs) (λ n rs. then_at (orient_at rs) (λ o rs.
    then_at (taken_at demand.Transform COLROW counts_of rs)
    (λ counts rs. then_at (taken_at demand.Transform XY (lattice_of counts) rs) (λ g. properties_at)))))

-- TEXT
unfoldable pub skip_turn_at : Reader (Unit {0})
skip_turn_at rs = if has_next STRANS rs then past (next_at STRANS rs) (λ rs. past (skip_at MAG rs) (skip_at ANGLE))
    else Ok (tt, rs)

unfoldable pub style_at : Reader (Unit {0})
style_at rs = past (skip_at PRESENTATION rs)
    (λ rs. past (skip_at PATHTYPE rs) (λ rs. past (skip_at WIDTH rs) skip_turn_at))

abbrev pub as_text : (ℤ × ℤ) × (Point × (List ℕ × List Prop)) → Element
as_text z = Text z.0.0 z.0.1 z.1.0 z.1.1.0 z.1.1.1

unfoldable pub text_at : Reader Element
text_at rs = as_value as_text (then_at (layers_at TEXT TEXTTYPE rs) (λ lt rs. past (style_at rs) (λ rs.
    then_at (taken_at demand.Plain XY point_of rs)
    (λ p rs. then_at (taken_at demand.Plain STRING string_of rs) (λ s. properties_at)))))

-- NODE and BOX
unfoldable pub dropped_at : ℕ → ℕ → Reader (List Prop)
dropped_at code second rs = past (begin_at code rs)
    (λ rs. past (next_at LAYER rs) (λ rs. past (next_at second rs) (λ rs. past (next_at XY rs) properties_at)))

abbrev pub nothing_kept : List Prop → Option Element
nothing_kept props = None

abbrev pub some : Element → Option Element
some e = Some e

unfoldable pub unkept_at : Reader (Option Element)
unkept_at = fork_at NODE nothing_kept nothing_kept (dropped_at NODE NODETYPE) (dropped_at BOX BOXTYPE)

unfoldable pub reference_at : Reader (Option Element)
reference_at = fork_at SREF some identity sref_at
    (fork_at AREF some identity aref_at (fork_at TEXT some identity text_at unkept_at))

unfoldable pub item_at : Reader (Option Element)
item_at = fork_at BOUNDARY some identity boundary_at (fork_at PATH some identity path_at reference_at)
