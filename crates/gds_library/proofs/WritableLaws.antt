-- What is spelled is writable.
use Rattle.std.proofs.Common.{◌≡◌, ◌≢◌, ◌⊎◌, inl, ℕ, zero, suc, ◌<◌, List, [], ◌∷◌, ◌++◌, length, get_or, append_assoc, ℤ, pos, Option, Some, None, Result, Ok, Err, refl, sym, subst, arith}
use Rattle.std.proofs.lemmas.List.{append-nil}
use Rattle.std.proofs.lemmas.List.Quantifiers.{all_pairs_push}
use Rattle.std.specs.Prelude.{IfOk}
use Rattle.std.specs.List.{AllByRecursion, AllPairs}
use Rattle.or_geom.specs.declared.shape.Point.{Point}
use Rattle.or_geom.specs.declared.place.Orient.{Orient}
use Rattle.or_geom.specs.declared.place.Place.{Place}
use Rattle.gds_records.specs.declared.code.TheConstants.{HEADER, BGNLIB, LIBNAME, UNITS, ENDLIB, BGNSTR, STRNAME, ENDSTR, BOUNDARY, PATH, SREF, AREF, TEXT, LAYER, DATATYPE, WIDTH, XY, ENDEL, SNAME, COLROW, NODE, TEXTTYPE, PRESENTATION, STRING, STRANS, MAG, ANGLE, REFLIBS, FONTS, PATHTYPE, GENERATIONS, ATTRTABLE, ELFLAGS, NODETYPE, PROPATTR, PROPVALUE, BOX, BOXTYPE, PLEX, BGNEXTN, ENDEXTN}
use Rattle.gds_records.specs.declared.error.Demand.{Demand}
use Rattle.gds_records.specs.declared.error.Demand.TheVariants as demand
use Rattle.gds_records.specs.declared.form.Form.TheVariants as form
use Rattle.gds_records.specs.Record.{form_of}
use Rattle.gds_records.specs.Bytes.{AreBytes}
use Rattle.gds_records.specs.Part.{◌▸◌, value, any, maybe, ◌or◌, nothing, maybe_refused, through, gone, repeated_after, repeated}
use Rattle.gds_records.specs.Spelling.{IsAtEnd}
use Rattle.gds_records.specs.Values.{Means, int16_of, string_of, point_of, IsShort}
use Rattle.gds_library.specs.declared.library.Prop.{Prop}
use Rattle.gds_library.specs.declared.library.Element.{Element}
use Rattle.gds_library.specs.declared.library.Element.TheVariants.{Boundary, Path, Sref, Aref, Text}
use Rattle.gds_library.specs.declared.library.Structure.{Structure}
use Rattle.gds_library.specs.declared.library.Library.{Library}
use Rattle.gds_library.specs.Values.{units_of, IsOutline, IsSpine, IsLattice, width_of, path_kind_of, counts_of, mirror_of, upright_of, turn_of, is_mirrored, turn_in}
use Rattle.gds_library.specs.declared.fault.GdsFault.{GdsFault}
use Rattle.gds_library.specs.Grammar.{Spells, begin, layered, property, end, spine, orientation, turn_dropped, element, dropped_rest, dropped, item, kept_elements, IsNewText, structure, library}
use Rattle.gds_library.specs.Writable.{IsText, IsWritableProp, IsWritableRing, IsWritableElement, IsWritableCell, IsWritable, LibrariesAreWritable}
use Rattle.gds_library.proofs.SoundLaws.{IsData, sound, is_point, is_text_of}
use Rattle.gds_library.proofs.ShowLaws.{Shows, as_fact, both, past, before, shown, passed, passed_any, passed_maybe, passed_refused, either, none_shown, never, by_case, EachAfter, each_shown}
use Rattle.gds_library.proofs.ContentLaws.{ring, IsWidth, width_is, kind_is, track, AreCounts, counts_are, IsShortLattice, short_lattice}

-- a text
text_shown : (demand : Demand) (code : ℕ) (text : List ℕ) → form_of code ≡ form.Text
    → Shows (value demand code (Means string_of) text) (IsText text)
text_shown demand code text is =
    shown demand code (Means string_of) text (λ content d means. is_text_of code content text is d means)

point_shown : (demand : Demand) (p : Point) → Shows (value demand XY (Means point_of) p) (IsShort p)
point_shown demand p = shown demand XY (Means point_of) p (λ content d means. is_point content p d.bytes means)

-- what is passed
begin_passed : (code : ℕ) → Shows (begin code) (Unit {0})
begin_passed code = past (any code) (maybe ELFLAGS ▸ maybe PLEX) (passed_any code)
    (past (maybe ELFLAGS) (maybe PLEX) (passed_maybe ELFLAGS) (passed_maybe PLEX))

layered_passed : (code second : ℕ) (layer kind : ℤ) → Shows (layered code second layer kind) (Unit {0})
layered_passed code second layer kind =
    past (begin code) _ (begin_passed code)
    (past (value demand.Plain LAYER (Means int16_of) layer) (value demand.Plain second (Means int16_of) kind)
    (passed demand.Plain LAYER (Means int16_of) layer) (passed demand.Plain second (Means int16_of) kind))

turn_passed : Shows turn_dropped (Unit {0})
turn_passed =
    either (any STRANS ▸ maybe MAG ▸ maybe ANGLE) (nothing (Unit {0}))
    (past (any STRANS) (maybe MAG ▸ maybe ANGLE) (passed_any STRANS)
    (past (maybe MAG) (maybe ANGLE) (passed_maybe MAG) (passed_maybe ANGLE)))
    (none_shown (λ (u : Unit {0}). u))

turned_passed : (orient : Orient) → Shows (orientation orient) (Unit {0})
turned_passed orient =
    either _ _
    (past (value demand.Transform STRANS (Means mirror_of) (is_mirrored orient)) _
    (passed demand.Transform STRANS (Means mirror_of) (is_mirrored orient))
    (past _ _ (either _ _ (passed demand.Transform MAG (Means upright_of) tt) (none_shown (λ (u : Unit {0}). tt)))
    (either _ _ (passed demand.Transform ANGLE (Means turn_of) (turn_in orient)) (none_shown (λ e. tt)))))
    (none_shown (λ e. tt))

-- properties
property_shown : (p : Prop) → Shows (property p) (IsWritableProp p)
property_shown p = past (value demand.Plain PROPATTR (Means int16_of) p.attr) _
    (passed demand.Plain PROPATTR (Means int16_of) p.attr) (text_shown demand.Plain PROPVALUE p.value refl)

all_after : {X : Type 0} (F : X → Type 0) (xs front : List X) → EachAfter (λ (before : List X) x. F x) front xs
    → AllByRecursion F xs
all_after F [] front h = tt
all_after F (x ∷ xs) front h = (h.0, all_after F xs (front ++ x ∷ []) h.1)

end_shown : (props : List Prop) → Shows (end props) (AllByRecursion IsWritableProp props)
end_shown props =
    before (repeated property props) (any ENDEL)
    (as_fact (repeated property props) (all_after IsWritableProp props [])
    (each_shown (λ front. property) (λ front. IsWritableProp) (λ front. property_shown) props []))
    (passed_any ENDEL)

-- elements
record IsTrackRest (width : ℤ) (points : List Point) : Type 0 where
  wide : IsWidth width
  content : List ℕ
  d : IsData XY content
  spine : IsSpine points content

kind_shown : (kind : ℤ) → Shows (value demand.Track PATHTYPE (Means path_kind_of) kind or nothing (kind ≡ pos 0))
    ((kind ≡ pos 0) ⊎ (kind ≡ pos 2))
kind_shown kind =
    either (value demand.Track PATHTYPE (Means path_kind_of) kind) (nothing (kind ≡ pos 0))
    (shown demand.Track PATHTYPE (Means path_kind_of) kind (λ content d means. kind_is content kind means))
    (none_shown (λ e. inl e))

spine_shown : (width : ℤ) (points : List Point) → Shows (spine width points) (IsTrackRest width points)
spine_shown width points =
    either _ _
    (as_fact _ (λ (h : IsWidth width × ((content : List ℕ) × IsData XY content × IsSpine points content)). record
    { wide = h.0; content = h.1.0; d = h.1.1; spine = h.1.2 })
    (both (value demand.Track WIDTH (Means width_of) width) _
    (shown demand.Track WIDTH (Means width_of) width (λ content d means. width_is content width d.bytes means))
    (past (maybe_refused demand.Track BGNEXTN) _ (passed_refused demand.Track BGNEXTN)
    (past (maybe_refused demand.Track ENDEXTN) _ (passed_refused demand.Track ENDEXTN)
    (shown demand.Track XY IsSpine points (λ content d s. (content, d, s)))))))
    (past (maybe_refused demand.Track BGNEXTN) _ (passed_refused demand.Track BGNEXTN)
    (past (maybe_refused demand.Track ENDEXTN) _ (passed_refused demand.Track ENDEXTN)
    (never demand.Track XY)))

boundary_shown : (layer datatype : ℤ) (points : List Point) (props : List Prop)
    → Shows (element (Boundary layer datatype points props)) (IsWritableElement (Boundary layer datatype points props))
boundary_shown layer datatype points props =
    as_fact _ (λ (h : IsWritableRing points × AllByRecursion IsWritableProp props). record { body = h.0; props = h.1 })
    (past (layered BOUNDARY DATATYPE layer datatype) _ (layered_passed BOUNDARY DATATYPE layer datatype)
    (both (value demand.Outline XY IsOutline points) (end props)
    (shown demand.Outline XY IsOutline points (ring points)) (end_shown props)))

path_shown : (layer datatype kind width : ℤ) (points : List Point) (props : List Prop)
    → Shows (element (Path layer datatype kind width points props))
    (IsWritableElement (Path layer datatype kind width points props))
path_shown layer datatype kind width points props =
    as_fact _
    (λ (h : ((kind ≡ pos 0) ⊎ (kind ≡ pos 2)) × (IsTrackRest width points × AllByRecursion IsWritableProp props)).
    record { body = track kind width points h.1.0.content h.0 h.1.0.wide h.1.0.d h.1.0.spine; props = h.1.1 })
    (past (layered PATH DATATYPE layer datatype) _ (layered_passed PATH DATATYPE layer datatype)
    (both (value demand.Track PATHTYPE (Means path_kind_of) kind or nothing (kind ≡ pos 0)) _ (kind_shown kind)
    (both (spine width points) (end props) (spine_shown width points) (end_shown props))))

sref_shown : (name : List ℕ) (place : Place) (props : List Prop)
    → Shows (element (Sref name place props)) (IsWritableElement (Sref name place props))
sref_shown name place props =
    as_fact _ (λ (h : IsText name × (IsShort place.at × AllByRecursion IsWritableProp props)). record
    { body = record { named = h.0; at = h.1.0 }; props = h.1.1 })
    (past (begin SREF) _ (begin_passed SREF)
    (both (value demand.Plain SNAME (Means string_of) name) _ (text_shown demand.Plain SNAME name refl)
    (past (orientation place.orient) _ (turned_passed place.orient)
    (both (value demand.Plain XY (Means point_of) place.at) (end props) (point_shown demand.Plain place.at)
    (end_shown props)))))

aref_shown : (name : List ℕ) (place : Place) (columns rows : ℤ) (across down : Point) (props : List Prop)
    → Shows (element (Aref name place columns rows across down props))
    (IsWritableElement (Aref name place columns rows across down props))
aref_shown name place columns rows across down props =
    as_fact _
    (λ (h : IsText name × (AreCounts (columns, rows) × (IsShortLattice (columns, rows) (place.at, (across, down)) × AllByRecursion IsWritableProp props))).
    record {
      body = (
        h.0,
        record {
          some_columns = h.1.0.some_columns;
          few_columns = h.1.0.few_columns;
          some_rows = h.1.0.some_rows;
          few_rows = h.1.0.few_rows;
          at = h.1.1.0.at;
          by_columns = h.1.1.0.by_columns;
          by_rows = h.1.1.0.by_rows;
        },
      );
      props = h.1.1.1;
    })
    (past (begin AREF) _ (begin_passed AREF)
    (both (value demand.Plain SNAME (Means string_of) name) _ (text_shown demand.Plain SNAME name refl)
    (past (orientation place.orient) _ (turned_passed place.orient)
    (both (value demand.Transform COLROW (Means counts_of) (columns, rows)) _
    (shown demand.Transform COLROW (Means counts_of) (columns, rows)
    (λ content d means. counts_are content (columns, rows) d.bytes means))
    (both (value demand.Transform XY (IsLattice (columns, rows)) (place.at, (across, down))) (end props)
    (shown demand.Transform XY (IsLattice (columns, rows)) (place.at, (across, down))
    (λ content d is. short_lattice (columns, rows) (place.at, (across, down)) content d.bytes is))
    (end_shown props))))))

text_element_shown : (layer texttype : ℤ) (at : Point) (string : List ℕ) (props : List Prop)
    → Shows (element (Text layer texttype at string props)) (IsWritableElement (Text layer texttype at string props))
text_element_shown layer texttype at string props =
    as_fact _ (λ (h : IsShort at × (IsText string × AllByRecursion IsWritableProp props)). record
    { body = record { text = h.1.0; short = h.0 }; props = h.1.1 })
    (past (layered TEXT TEXTTYPE layer texttype) _ (layered_passed TEXT TEXTTYPE layer texttype)
    (past (maybe PRESENTATION) _ (passed_maybe PRESENTATION)
    (past (maybe PATHTYPE) _ (passed_maybe PATHTYPE)
    (past (maybe WIDTH) _ (passed_maybe WIDTH)
    (past turn_dropped _ turn_passed
    (both (value demand.Plain XY (Means point_of) at) _ (point_shown demand.Plain at)
    (both (value demand.Plain STRING (Means string_of) string) (end props)
    (text_shown demand.Plain STRING string refl) (end_shown props))))))))

element_shown : (e : Element) → Shows (element e) (IsWritableElement e)
element_shown (Boundary layer datatype points props) = boundary_shown layer datatype points props
element_shown (Path layer datatype kind width points props) = path_shown layer datatype kind width points props
element_shown (Sref name place props) = sref_shown name place props
element_shown (Aref name place columns rows across down props) = aref_shown name place columns rows across down props
element_shown (Text layer texttype at string props) = text_element_shown layer texttype at string props

-- an element where one is kept
abbrev IsKeptWritable : Option Element → Type 0
IsKeptWritable None = Unit {0}
IsKeptWritable (Some e) = IsWritableElement e

rest_passed : (second : ℕ) (props : List Prop) → Shows (dropped_rest second props) (Unit {0})
rest_passed second props = past (any LAYER) _ (passed_any LAYER)
    (past (any second) _ (passed_any second)
    (past (any XY) (end props) (passed_any XY) (as_fact (end props) (λ h. tt) (end_shown props))))

dropped_passed : (props : List Prop) → Shows (dropped props) (Unit {0})
dropped_passed props =
    either (begin NODE ▸ dropped_rest NODETYPE props) (begin BOX ▸ dropped_rest BOXTYPE props)
    (past (begin NODE) (dropped_rest NODETYPE props) (begin_passed NODE) (rest_passed NODETYPE props))
    (past (begin BOX) (dropped_rest BOXTYPE props) (begin_passed BOX) (rest_passed BOXTYPE props))

item_shown : (e : Option Element) → Shows (item e) (IsKeptWritable e)
item_shown None = by_case gone dropped tt (λ props is. dropped_passed props)
item_shown (Some e) = element_shown e

kept_are : (items : List (Option Element)) → AllByRecursion IsKeptWritable items
    → AllByRecursion IsWritableElement (kept_elements items)
kept_are [] h = tt
kept_are (None ∷ items) h = kept_are items h.1
kept_are (Some e ∷ items) h = (h.0, kept_are items h.1)

-- structures
record IsNewCell (before : List Structure) (s : Structure) : Type 0 where
  new : AllByRecursion (λ (t : Structure). t.name ≢ s.name) before
  cell : IsWritableCell s

elements_shown : (elements : List Element)
    → Shows (through kept_elements (repeated item) elements) (AllByRecursion IsWritableElement elements)
elements_shown elements = by_case kept_elements (repeated item) elements (λ items is.
    as_fact (repeated item items) (λ h. subst (λ l. AllByRecursion IsWritableElement l) is
    (kept_are items (all_after IsKeptWritable items [] h)))
    (each_shown (λ front. item) (λ front. IsKeptWritable) (λ front. item_shown) items []))

structure_shown : (before : List Structure) (s : Structure) → Shows (structure before s) (IsNewCell before s)
structure_shown front s =
    as_fact _
    (λ (h : (IsText s.name × AllByRecursion (λ (t : Structure). t.name ≢ s.name) front) × AllByRecursion IsWritableElement s.elements).
    record { new = h.0.1; cell = record { name = h.0.0; elements = h.1 } })
    (past (any BGNSTR) _ (passed_any BGNSTR)
    (both (value demand.NewName STRNAME (IsNewText front) s.name) _
    (shown demand.NewName STRNAME (IsNewText front) s.name
    (λ content d is. (is_text_of STRNAME content s.name refl d is.0, is.1)))
    (before (through kept_elements (repeated item) s.elements) (any ENDSTR) (elements_shown s.elements)
    (passed_any ENDSTR))))

-- each differs from those before
named_as : (cell : Structure) (xs : List Structure) → AllByRecursion (λ (s : Structure). s.name ≢ cell.name) xs
    → (k : ℕ) (d : Structure) → k < length xs → (get_or xs k d).name ≢ cell.name
named_as cell [] h k d lt = absurd (omega arith)
named_as cell (x ∷ xs) h zero d lt = h.0
named_as cell (x ∷ xs) h (suc k) d lt = named_as cell xs h.1 k d (omega arith)

abbrev AreNamed : List Structure → Type 0
AreNamed cells = AllPairs (λ a b. a.name ≢ b.name) cells

names_differ : (cells front : List Structure) → EachAfter IsNewCell front cells → AreNamed front
    → AreNamed (front ++ cells)
names_differ [] front h so_far = subst AreNamed (sym (append-nil front)) so_far
names_differ (cell ∷ cells) front h so_far =
    subst AreNamed (append_assoc front (cell ∷ []) cells)
    (names_differ cells (front ++ cell ∷ []) h.1
    (all_pairs_push (λ a b. a.name ≢ b.name) front cell so_far (named_as cell front h.0.new)))

cells_are : (cells front : List Structure) → EachAfter IsNewCell front cells → AllByRecursion IsWritableCell cells
cells_are [] front h = tt
cells_are (cell ∷ cells) front h = (h.0.cell, cells_are cells (front ++ cell ∷ []) h.1)

library_shown : (lib : Library) → Shows (library lib) (IsWritable lib)
library_shown lib =
    as_fact _ (λ (h : IsText lib.name × EachAfter IsNewCell [] lib.structs).
    record {
      name = h.0;
      names = names_differ lib.structs [] h.1 (λ i j d below within. absurd (omega arith));
      cells = cells_are lib.structs [] h.1;
    })
    (past (any HEADER) _ (passed_any HEADER)
    (past (any BGNLIB) _ (passed_any BGNLIB)
    (both (value demand.Plain LIBNAME (Means string_of) lib.name) _ (text_shown demand.Plain LIBNAME lib.name refl)
    (past (maybe REFLIBS) _ (passed_maybe REFLIBS)
    (past (maybe FONTS) _ (passed_maybe FONTS)
    (past (maybe ATTRTABLE) _ (passed_maybe ATTRTABLE)
    (past (maybe GENERATIONS) _ (passed_maybe GENERATIONS)
    (past (value demand.Units UNITS (Means units_of) tt) _ (passed demand.Units UNITS (Means units_of) tt)
    (before (repeated_after structure [] lib.structs) (any ENDLIB)
    (each_shown structure IsNewCell structure_shown lib.structs []) (passed_any ENDLIB))))))))))

pub libraries_are_writable : LibrariesAreWritable
libraries_are_writable bytes lib are s =
    let kept_sound = sound s.records s.zeros (subst AreBytes s.parts are) in
    ((library_shown lib).found IsAtEnd s.records kept_sound s.order).fact

-- the same of what is read
pub read_is_writable : (bytes : List ℕ) (read : Result Library GdsFault) → AreBytes bytes → IfOk read (Spells bytes)
    → IfOk read IsWritable
read_is_writable bytes (Ok lib) are s = libraries_are_writable bytes lib are s
read_is_writable bytes (Err fault) are s = tt
