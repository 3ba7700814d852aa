-- The records of a library are orderly, part by part.
use Rattle.std.proofs.Common.{◌≡◌, inl, inr, ℕ, ℤ, ◌+◌, ◌*◌, List, [], ◌∷◌, ◌++◌, length, Option, Some, None, refl, subst, append_assoc, arith}
use Rattle.std.proofs.lemmas.Option.{same_Some}
use Rattle.or_geom.specs.declared.shape.Point.{Point}
use Rattle.or_geom.specs.declared.place.Orient.{Orient}
use Rattle.or_geom.proofs.ListLaws.{never_empty}
use Rattle.gds_records.specs.declared.code.TheConstants.{HEADER, BGNLIB, LIBNAME, UNITS, ENDLIB, BGNSTR, STRNAME, ENDSTR, BOUNDARY, PATH, SREF, AREF, TEXT, LAYER, DATATYPE, WIDTH, XY, ENDEL, SNAME, COLROW, NODE, TEXTTYPE, PRESENTATION, STRING, STRANS, MAG, ANGLE, REFLIBS, FONTS, PATHTYPE, GENERATIONS, ATTRTABLE, ELFLAGS, NODETYPE, PROPATTR, PROPVALUE, BOX, BOXTYPE, PLEX, BGNEXTN, ENDEXTN}
use Rattle.gds_records.specs.declared.error.Demand.TheVariants as demand
use Rattle.gds_records.specs.Record.{StreamRecord}
use Rattle.gds_records.specs.Part.{value, any, through, repeated}
use Rattle.gds_records.specs.Spelling.{IsAtEnd, all_count}
use Rattle.gds_records.specs.Values.{Means, int16_of, string_of, point_of, points_from, with_point, int32_of}
use Rattle.gds_library.specs.declared.library.Prop.{Prop}
use Rattle.gds_library.specs.declared.library.Element.{Element}
use Rattle.gds_library.specs.declared.library.Element.TheVariants.{Boundary, Path, Sref, Aref, Text}
use Rattle.gds_library.specs.declared.library.Structure.{Structure}
use Rattle.gds_library.specs.declared.library.Library.{Library}
use Rattle.gds_library.specs.Values.{units_of, IsOutline, IsSpine, path_kind_of, width_of, mirror_of, upright_of, turn_of, is_mirrored, turn_in, counts_of, Lattice, IsLattice}
use Rattle.gds_library.specs.Grammar.{begin, layered, property, end, spine, orientation, turn_dropped, element, dropped_rest, dropped, item, kept_elements, IsNewText, structure, library}
use Rattle.gds_library.specs.FirstFault.{IsBegun, wanted_after, points_wanted, HasWrongCount}
use Rattle.gds_library.proofs.OneFaultOrder.{IsCounted, IsOrderly, Turns, Closes, on, until, either, none, counts, rests, any_rests, any_moves, maybe_rests, refused_rests, free, each_turns}

-- how many bytes points have
one_more : (p : Point) (size : ℕ) (points : List Point) (read : Option (List Point))
    → ((ps : List Point) → read ≡ Some ps → 8 * length ps ≡ size) → with_point p read ≡ Some points
    → 8 * length points ≡ 8 + size
one_more p size points None f is = absurd cc
one_more p size points (Some ps) f is = let more = f ps refl in
    subst (λ (l : List Point). 8 * length l ≡ 8 + size) (same_Some (p ∷ ps) points is) (omega (arith, more))

points_size : (content : List ℕ) (points : List Point) → points_from content ≡ Some points
    → 8 * length points ≡ length content
unfolding points_from
points_size [] points is = subst (λ (l : List Point). 8 * length l ≡ 0) (same_Some [] points is) refl
points_size (a ∷ b ∷ c ∷ d ∷ e ∷ f ∷ g ∷ h ∷ rest) points is =
    let all : 8 * length points ≡ 8 + length rest =
    one_more (record { x = int32_of a b c d; y = int32_of e f g h }) (length rest) points (points_from rest)
    (λ ps. points_size rest ps) is in
    omega (arith, all)
points_size content points is = absurd cc

point_size : (content : List ℕ) (p : Point) → point_of content ≡ Some p → length content ≡ 8
point_size (a ∷ b ∷ c ∷ d ∷ e ∷ f ∷ g ∷ h ∷ []) p is = refl
point_size content p is = absurd cc

-- the XY of a reference or a label, and that of an array
one_point : (p : Point) → Turns (value demand.Plain XY (Means point_of) p) (Some 1) (Some 1)
one_point p =
    counts demand.Plain XY (Means point_of) p (Some 1) (Some 1) (record { last = refl; wanted = refl })
    (λ content means count named wanted. let one : 1 ≡ count = same_Some 1 count wanted in let size = point_size content p means in omega (arith, one, size))

three_points : (by : ℤ × ℤ) (g : Lattice) → Turns (value demand.Transform XY (IsLattice by) g) (Some 3) (Some 3)
three_points by g =
    counts demand.Transform XY (IsLattice by) g (Some 3) (Some 3) (record { last = refl; wanted = refl })
    (λ content means count named wanted. let three : 3 ≡ count = same_Some 3 count wanted in let size = points_size content _ means in omega (arith, three, size))

-- an element's first record, and its flags
begin_turns : (code : ℕ) (now next : Option ℕ) → Turns (any code) now next → Turns (begin code) now next
begin_turns code now next first = on first (on (maybe_rests ELFLAGS next refl) (maybe_rests PLEX next refl))

layered_turns : (code second : ℕ) (layer kind : ℤ) (now next : Option ℕ) → Turns (any code) now next
    → Turns (value demand.Plain second (Means int16_of) kind) next next
    → Turns (layered code second layer kind) now next
layered_turns code second layer kind now next first last =
    on (begin_turns code now next first) (on (rests demand.Plain LAYER (Means int16_of) layer next refl) last)

property_turns : (now : Option ℕ) (p : Prop) → Turns (property p) now now
property_turns now p = on (rests demand.Plain PROPATTR (Means int16_of) p.attr now refl)
    (rests demand.Plain PROPVALUE (Means string_of) p.value now refl)

-- the end of an element, after which nothing is wanted
end_turns : (now : Option ℕ) (props : List Prop) → Turns (end props) now None
end_turns now props = on (each_turns (λ before. property) now (λ before. property_turns now) props [])
    (any_moves ENDEL now None (record { last = refl; wanted = refl }) refl)

spine_turns : (width : ℤ) (points : List Point) → Turns (spine width points) None None
spine_turns width points =
    let first = refused_rests demand.Track BGNEXTN None refl in
    let second = refused_rests demand.Track ENDEXTN None refl in
    either
    (on (rests demand.Track WIDTH (Means width_of) width None refl)
    (on first (on second (free demand.Track IsSpine points))))
    (on first (on second (free demand.Track (λ (u : Unit {0}) content. ⊥) tt)))

-- how a reference is turned, and how a label is
turned_turns : (orient : Orient) (now : Option ℕ) → Turns (orientation orient) now now
turned_turns orient now =
    either
    (on (rests demand.Transform STRANS (Means mirror_of) (is_mirrored orient) now refl)
    (on (either (rests demand.Transform MAG (Means upright_of) tt now refl) (none now))
    (either (rests demand.Transform ANGLE (Means turn_of) (turn_in orient) now refl) (none now))))
    (none now)

dropped_turn : (now : Option ℕ) → Turns turn_dropped now now
dropped_turn now = either (on (any_rests STRANS now refl)
    (on (maybe_rests MAG now refl) (maybe_rests ANGLE now refl))) (none now)

-- an element, before and after which nothing is wanted
element_turns : (e : Element) → Turns (element e) None None
element_turns (Boundary layer datatype points props) =
    on (layered_turns BOUNDARY DATATYPE layer datatype None None (any_rests BOUNDARY None refl)
    (rests demand.Plain DATATYPE (Means int16_of) datatype None refl))
    (on (free demand.Outline IsOutline points) (end_turns None props))
element_turns (Path layer datatype kind width points props) =
    on (layered_turns PATH DATATYPE layer datatype None None (any_rests PATH None refl)
    (rests demand.Plain DATATYPE (Means int16_of) datatype None refl))
    (on (either (rests demand.Track PATHTYPE (Means path_kind_of) kind None refl) (none None))
    (on (spine_turns width points) (end_turns None props)))
element_turns (Sref name place props) =
    on (begin_turns SREF None (Some 1) (any_moves SREF None (Some 1) (record { last = refl; wanted = refl }) refl))
    (on (rests demand.Plain SNAME (Means string_of) name (Some 1) refl)
    (on (turned_turns place.orient (Some 1)) (on (one_point place.at) (end_turns (Some 1) props))))
element_turns (Aref name place columns rows across down props) =
    on (begin_turns AREF None (Some 3) (any_moves AREF None (Some 3) (record { last = refl; wanted = refl }) refl))
    (on (rests demand.Plain SNAME (Means string_of) name (Some 3) refl) (on (turned_turns place.orient (Some 3))
    (on (rests demand.Transform COLROW (Means counts_of) (columns, rows) (Some 3) refl)
    (on (three_points (columns, rows) (place.at, (across, down))) (end_turns (Some 3) props)))))
element_turns (Text layer texttype at string props) =
    on (layered_turns TEXT TEXTTYPE layer texttype None (Some 1)
    (any_moves TEXT None (Some 1) (record { last = refl; wanted = refl }) refl)
    (rests demand.Plain TEXTTYPE (Means int16_of) texttype (Some 1) refl))
    (on (maybe_rests PRESENTATION (Some 1) refl)
    (on (maybe_rests PATHTYPE (Some 1) refl) (on (maybe_rests WIDTH (Some 1) refl) (on (dropped_turn (Some 1))
    (on (one_point at) (on (rests demand.Plain STRING (Means string_of) string (Some 1) refl)
    (end_turns (Some 1) props)))))))

-- an element of which nothing is kept
rest_turns : (second : ℕ) (props : List Prop) → Turns (any second) None None
    → Turns (dropped_rest second props) None None
rest_turns second props also = on (any_rests LAYER None refl)
    (on also (on (free demand.Plain (λ (u : Unit {0}) content. Unit {0}) tt) (end_turns None props)))

dropped_turns : (props : List Prop) → Turns (dropped props) None None
dropped_turns props =
    either (on (begin_turns NODE None None (any_rests NODE None refl))
    (rest_turns NODETYPE props (any_rests NODETYPE None refl)))
    (on (begin_turns BOX None None (any_rests BOX None refl)) (rest_turns BOXTYPE props (any_rests BOXTYPE None refl)))

item_turns : (e : Option Element) → Turns (item e) None None
item_turns None = record { turns = λ K rs k s. (dropped_turns s.0).turns K rs k s.2 }
item_turns (Some e) = element_turns e

elements_turn : (elements : List Element) → Turns (through kept_elements (repeated item) elements) None None
elements_turn elements = record
    { turns = λ K rs k s. (each_turns (λ before. item) None (λ before. item_turns) s.0 []).turns K rs k s.2 }

structure_turns : (before : List Structure) (s : Structure) → Turns (structure before s) None None
structure_turns before s =
    on (any_rests BGNSTR None refl)
    (on (rests demand.NewName STRNAME (IsNewText before) s.name None refl)
    (on (elements_turn s.elements) (any_rests ENDSTR None refl)))

-- the last record
last_closes : Closes (any ENDLIB) None
last_closes = record { closes = at } where
  at : (rs : List StreamRecord) → any ENDLIB all_count IsAtEnd rs → IsOrderly None rs
  at [] s = absurd s
  at (e ∷ rs) s = (λ count named wanted. absurd cc, inl (s.1, s.3))

-- the records of a library are orderly
library_closes : (lib : Library) → Closes (library lib) None
library_closes lib =
    until (any_rests HEADER None refl)
    (until (any_rests BGNLIB None refl) (until (rests demand.Plain LIBNAME (Means string_of) lib.name None refl)
    (until (maybe_rests REFLIBS None refl)
    (until (maybe_rests FONTS None refl)
    (until (maybe_rests ATTRTABLE None refl) (until (maybe_rests GENERATIONS None refl)
    (until (rests demand.Units UNITS (Means units_of) tt None refl)
    (until (each_turns structure None structure_turns lib.structs []) last_closes))))))))

-- a record of a library has the points that are wanted
counted_at : (done : List StreamRecord) (e : StreamRecord) (more : List StreamRecord) (now : Option ℕ)
    → IsOrderly now (done ++ e ∷ more) → IsCounted (points_wanted now done) e.code e.content
counted_at [] e more now o = o.0
counted_at (d ∷ done) e more now o =
    elim o.1 [
      | inl h ↦ absurd (never_empty done e more h.1)
      | inr h ↦ counted_at done e more (wanted_after now d.code) h.1
    ]

-- a record that some library has there has no wrong count
pub right_count : (done : List StreamRecord) (e : StreamRecord) → IsBegun all_count (done ++ e ∷ [])
    → HasWrongCount done e → ⊥
right_count done e b h =
    let o = (library_closes b.1).closes (done ++ e ∷ b.0)
    (subst (library b.1 all_count IsAtEnd) (append_assoc done (e ∷ []) b.0) b.2) in
    h.other (counted_at done e b.0 None o h.count h.code h.wanted)

-- nothing follows ENDLIB
nothing_after : (done : List StreamRecord) (e : StreamRecord) (more : List StreamRecord) (now : Option ℕ)
    → IsOrderly now done → IsOrderly now (done ++ e ∷ more) → ⊥
nothing_after [] e more now whole o = whole
nothing_after (d ∷ done) e more now whole o = elim o.1 [
  | inl h ↦ never_empty done e more h.1
  | inr h ↦ elim whole.1 [ inl w ↦ h.0 w.0 | inr w ↦ nothing_after done e more (wanted_after now d.code) w.1 h.1 ]
]

-- no library goes on after a whole one
pub whole_ends : (lib : Library) (done : List StreamRecord) (e : StreamRecord) (more : List StreamRecord)
    → library lib all_count IsAtEnd done → IsBegun all_count (done ++ e ∷ more) → ⊥
whole_ends lib done e more s b =
    let longer = subst (library b.1 all_count IsAtEnd) (append_assoc done (e ∷ more) b.0) b.2 in
    nothing_after done e (more ++ b.0) None ((library_closes lib).closes done s)
    ((library_closes b.1).closes (done ++ e ∷ (more ++ b.0)) longer)
