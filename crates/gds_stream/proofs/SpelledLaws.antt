-- The records that are written of a library spell it.
use Rattle.std.proofs.Common.{◌≡◌, inl, inr, ℕ, ◌%◌, ◌≤◌, eqb, leb, List, [], ◌∷◌, ◌++◌, length, ℤ, pos, Bool, true, false, Some, refl, sym, ap, subst, arith, append_assoc}
use Rattle.std.proofs.lemmas.Bool.{and_from, le-leb, eq-eqb}
use Rattle.std.specs.Prelude.{flat_map, FitsSigned}
use Rattle.std.specs.Int.{w16}
use Rattle.std.specs.List.{AllByRecursion}
use Rattle.or_geom.specs.declared.shape.Point.{Point}
use Rattle.or_geom.specs.declared.place.Place.{Place}
use Rattle.or_geom.specs.declared.place.Orient.{Orient}
use Rattle.or_geom.specs.declared.place.Orient.TheVariants.{R0, R90, R180, R270, MX, MX90, MX180, MX270}
use Rattle.gds_records.specs.declared.code.TheConstants.{BOUNDARY, PATH, SREF, AREF, TEXT, LAYER, DATATYPE, WIDTH, XY, ENDEL, SNAME, COLROW, TEXTTYPE, STRING, STRANS, MAG, ANGLE, PATHTYPE, PROPATTR, PROPVALUE, ELFLAGS, PLEX, BGNEXTN, ENDEXTN, PRESENTATION}
use Rattle.gds_records.specs.declared.error.Demand.{Demand}
use Rattle.gds_records.specs.declared.error.Demand.TheVariants as demand
use Rattle.gds_records.specs.declared.form.Form.TheVariants as form
use Rattle.gds_records.specs.Record.{StreamRecord, is_formed, has_form, form_of, AreFormed}
use Rattle.gds_records.specs.Part.{Rest, Part, ◌▸◌, ◌or◌, value, any, maybe, nothing, maybe_refused, repeated, repeated_after}
use Rattle.gds_records.specs.Spelling.{all_count}
use Rattle.gds_records.specs.Values.{Means, int16_of, string_of, point_of, IsShort}
use Rattle.gds_records.proofs.JoinLaws.{formed_both}
use Rattle.gds_library.specs.declared.library.Prop.{Prop}
use Rattle.gds_library.specs.declared.library.Element.{Element}
use Rattle.gds_library.specs.declared.library.Element.TheVariants.{Boundary, Path, Sref, Aref, Text}
use Rattle.gds_library.specs.Grammar.{begin, layered, property, end, spine, orientation, turn_dropped, element}
use Rattle.gds_library.specs.declared.transform.Turn.TheVariants.{Zero}
use Rattle.gds_library.specs.Values.{IsOutline, IsSpine, IsLattice, displaced, path_kind_of, width_of, counts_of, mirror_of, upright_of, turn_of, is_mirrored, turn_in}
use Rattle.gds_library.specs.Writable.{IsText, IsWritableTrack, IsWritableLabel, IsWritableArray, IsWritableProp, IsWritableElement}
use Rattle.gds_stream.specs.Written.{HasShortAttribute, HasShortNumbers}
use Rattle.gds_records.specs.Writing.{int16_bytes, int32_bytes, point_bytes, points_bytes, text_bytes, record_with}
use Rattle.gds_stream.specs.Canonical.{property_records, end_records, strans_bytes, orient_records, closed_ring, element_records}
use Rattle.gds_stream.specs.Turned.{turned_ring, turned_element}
use Rattle.gds_stream.proofs.RotationLaws.{ring_turned}
use Rattle.gds_stream.proofs.OutlineLaws.{closed_outline, closed_some}
use Rattle.gds_stream.proofs.WrittenValues.{int16_back, kind_back, width_back, counts_back, point_back, points_back, points_length, text_bytes_back, text_formed}

-- formed records that are the part, whatever follows
pub record IsSpelled (P : Part) (es : List StreamRecord) : Type 1 where
  pub formed : AreFormed es
  pub order : (K : Rest) (rs : List StreamRecord) → K rs → P all_count K (es ++ rs)

pub one_value : {X : Type 0} (d : Demand) (code : ℕ) (V : X → List ℕ → Type 0) (x : X) (content : List ℕ)
    → is_formed (record_with code content) ≡ true → V x content → IsSpelled (value d code V x) (record_with code content ∷ [])
one_value d code V x content formed has =
    record { formed = (formed, tt); order = λ K rs k. (formed, refl, inl has, k) }

pub one_any : (code : ℕ) (content : List ℕ) → is_formed (record_with code content) ≡ true
    → IsSpelled (any code) (record_with code content ∷ [])
one_any code content formed = one_value demand.Plain code (λ (u : Unit {0}) content. Unit {0}) tt content formed tt

pub followed : (P Q : Part) (es fs : List StreamRecord) → IsSpelled P es → IsSpelled Q fs → IsSpelled (P ▸ Q) (es ++ fs)
followed P Q es fs p q = record {
  formed = formed_both es fs p.formed q.formed;
  order = λ K rs k. subst (P all_count (Q all_count K)) (sym (append_assoc es fs rs))
      (p.order (Q all_count K) (fs ++ rs) (q.order K rs k));
}

pub left_out : (code : ℕ) → IsSpelled (maybe code) []
left_out code = record { formed = tt; order = λ K rs k. inr k }

pub not_refused : (d : Demand) (code : ℕ) → IsSpelled (maybe_refused d code) []
not_refused d code = record { formed = tt; order = λ K rs k. inr k }

pub none_needed : (D : Type 0) → D → IsSpelled (nothing D) []
none_needed D h = record { formed = tt; order = λ K rs k. (h, k) }

pub first_way : (P Q : Part) (es : List StreamRecord) → IsSpelled P es → IsSpelled (P or Q) es
first_way P Q es p = record { formed = p.formed; order = λ K rs k. inl (p.order K rs k) }

pub second_way : (P Q : Part) (es : List StreamRecord) → IsSpelled Q es → IsSpelled (P or Q) es
second_way P Q es q = record { formed = q.formed; order = λ K rs k. inr (q.order K rs k) }

-- each record of its kind

number : (code : ℕ) (z : ℤ) → is_formed (record_with code (int16_bytes z)) ≡ true → FitsSigned w16 z
    → IsSpelled (value demand.Plain code (Means int16_of) z) (record_with code (int16_bytes z) ∷ [])
number code z formed fits = one_value demand.Plain code (Means int16_of) z (int16_bytes z) formed (int16_back z fits)

formed_text : (code : ℕ) (text : List ℕ) → form_of code ≡ form.Text → IsText text
    → is_formed (record_with code (text_bytes text)) ≡ true
unfolding is_formed
formed_text code text is t = subst (λ f. has_form f (text_bytes text) ≡ true) (sym is) (text_formed text t)

pub text : (d : Demand) (code : ℕ) (V : List ℕ → List ℕ → Type 0) (string : List ℕ) → form_of code ≡ form.Text → IsText string
    → V string (text_bytes string) → IsSpelled (value d code V string) (record_with code (text_bytes string) ∷ [])
text d code V string is t has = one_value d code V string (text_bytes string) (formed_text code string is t) has

pub plain_text : (code : ℕ) (string : List ℕ) → form_of code ≡ form.Text → IsText string
    → IsSpelled (value demand.Plain code (Means string_of) string) (record_with code (text_bytes string) ∷ [])
plain_text code string is t =
    text demand.Plain code (Means string_of) string is t (ap (λ (s : List ℕ). Some s) (text_bytes_back string t).string)

-- properties and ENDEL

property_spelled : (p : Prop) → IsWritableProp p → HasShortAttribute p → IsSpelled (property p) (property_records p)
unfolding is_formed
property_spelled p w fits =
    followed (value demand.Plain PROPATTR (Means int16_of) p.attr) (value demand.Plain PROPVALUE (Means string_of) p.value) _ _
    (number PROPATTR p.attr refl fits) (plain_text PROPVALUE p.value refl w)

-- {item}
each_spelled : {X : Type 0} (P : X → Part) (f : X → List StreamRecord) (Good : X → Type 0)
    → ((x : X) → Good x → IsSpelled (P x) (f x)) → (before xs : List X) → AllByRecursion Good xs
    → IsSpelled (repeated_after (λ before. P) before xs) (flat_map f xs)
each_spelled P f Good one before [] all = record { formed = tt; order = λ K rs k. k }
each_spelled P f Good one before (x ∷ xs) all =
    followed (P x) (repeated_after (λ before. P) (before ++ x ∷ []) xs) (f x) (flat_map f xs) (one x all.0)
    (each_spelled P f Good one (before ++ x ∷ []) xs all.1)

pub both_hold : {X : Type 0} (P Q : X → Type 0) (xs : List X) → AllByRecursion P xs → AllByRecursion Q xs
    → AllByRecursion (λ x. P x × Q x) xs
both_hold P Q [] a b = tt
both_hold P Q (x ∷ xs) a b = ((a.0, b.0), both_hold P Q xs a.1 b.1)

pub end_spelled : (props : List Prop) → AllByRecursion IsWritableProp props → AllByRecursion HasShortAttribute props
    → IsSpelled (end props) (end_records props)
unfolding is_formed
end_spelled props w fits =
    followed (repeated property props) (any ENDEL) (flat_map property_records props) (record_with ENDEL [] ∷ [])
    (each_spelled property property_records (λ p. IsWritableProp p × HasShortAttribute p)
    (λ p h. property_spelled p h.0 h.1) [] props (both_hold IsWritableProp HasShortAttribute props w fits))
    (one_any ENDEL [] refl)

-- how an element begins

begin_spelled : (code : ℕ) → is_formed (record_with code []) ≡ true → IsSpelled (begin code) (record_with code [] ∷ [])
begin_spelled code formed =
    followed (any code) (maybe ELFLAGS ▸ maybe PLEX) (record_with code [] ∷ []) [] (one_any code [] formed)
    (followed (maybe ELFLAGS) (maybe PLEX) [] [] (left_out ELFLAGS) (left_out PLEX))

layered_spelled : (code second : ℕ) (layer kind : ℤ) → is_formed (record_with code []) ≡ true
    → is_formed (record_with second (int16_bytes kind)) ≡ true → FitsSigned w16 layer → FitsSigned w16 kind
    → IsSpelled (layered code second layer kind)
    (record_with code [] ∷ record_with LAYER (int16_bytes layer) ∷ record_with second (int16_bytes kind) ∷ [])
unfolding is_formed
layered_spelled code second layer kind formed other fits_layer fits_kind =
    followed (begin code) (value demand.Plain LAYER (Means int16_of) layer ▸ value demand.Plain second (Means int16_of) kind) _ _
    (begin_spelled code formed)
    (followed (value demand.Plain LAYER (Means int16_of) layer) (value demand.Plain second (Means int16_of) kind) _ _
    (number LAYER layer refl fits_layer) (number second kind other fits_kind))

-- XY

formed_points : (points : List Point) → 1 ≤ length points → is_formed (record_with XY (points_bytes points)) ≡ true
unfolding is_formed
formed_points points some =
    let size = points_length points in
    and_from (leb 8 (length (points_bytes points))) (eqb (length (points_bytes points) % 8) 0)
    (le-leb 8 _ (omega (arith, size, some))) (eq-eqb _ 0 (omega (arith, size)))

points_value : {X : Type 0} (d : Demand) (V : X → List ℕ → Type 0) (x : X) (points : List Point) → 1 ≤ length points
    → V x (points_bytes points) → IsSpelled (value d XY V x) (record_with XY (points_bytes points) ∷ [])
points_value d V x points some has = one_value d XY V x (points_bytes points) (formed_points points some) has

point_spelled : (p : Point) → IsShort p → IsSpelled (value demand.Plain XY (Means point_of) p) (record_with XY (point_bytes p) ∷ [])
unfolding is_formed
point_spelled p short = one_value demand.Plain XY (Means point_of) p (point_bytes p) refl (point_back p short)

-- STRANS and ANGLE

abbrev Angled : Orient → Part
Angled orient = value demand.Transform ANGLE (Means turn_of) (turn_in orient) or nothing (turn_in orient ≡ Zero)

one_angle : (orient : Orient) (content : List ℕ) → is_formed (record_with ANGLE content) ≡ true
    → turn_of content ≡ Some (turn_in orient) → IsSpelled (Angled orient) (record_with ANGLE content ∷ [])
one_angle orient content formed means =
    first_way (value demand.Transform ANGLE (Means turn_of) (turn_in orient)) (nothing (turn_in orient ≡ Zero)) _
    (one_value demand.Transform ANGLE (Means turn_of) (turn_in orient) content formed means)

mirror_back : (mirrored : Bool) → mirror_of (strans_bytes mirrored) ≡ Some mirrored
mirror_back true = refl
mirror_back false = refl

formed_strans : (mirrored : Bool) → is_formed (record_with STRANS (strans_bytes mirrored)) ≡ true
unfolding is_formed
formed_strans true = refl
formed_strans false = refl

turned_spelled : (orient : Orient) (es : List StreamRecord) → IsSpelled (Angled orient) es
    → IsSpelled (orientation orient) (record_with STRANS (strans_bytes (is_mirrored orient)) ∷ es)
turned_spelled orient es angled =
    let upright = value demand.Transform MAG (Means upright_of) tt or nothing (Unit {0}) in
    first_way (value demand.Transform STRANS (Means mirror_of) (is_mirrored orient) ▸ upright ▸ Angled orient) (nothing (orient ≡ R0)) _
    (followed (value demand.Transform STRANS (Means mirror_of) (is_mirrored orient)) (upright ▸ Angled orient) _ _
    (one_value demand.Transform STRANS (Means mirror_of) (is_mirrored orient) _ (formed_strans (is_mirrored orient)) (mirror_back (is_mirrored orient)))
    (followed upright (Angled orient) [] es (second_way _ _ [] (none_needed (Unit {0}) tt)) angled))

orient_spelled : (orient : Orient) → IsSpelled (orientation orient) (orient_records orient)
unfolding is_formed
orient_spelled R0 = second_way _ _ [] (none_needed (R0 ≡ R0) refl)
orient_spelled R90 = turned_spelled R90 _ (one_angle R90 _ refl refl)
orient_spelled R180 = turned_spelled R180 _ (one_angle R180 _ refl refl)
orient_spelled R270 = turned_spelled R270 _ (one_angle R270 _ refl refl)
orient_spelled MX = turned_spelled MX _ (second_way _ _ [] (none_needed (turn_in MX ≡ Zero) refl))
orient_spelled MX90 = turned_spelled MX90 _ (one_angle MX90 _ refl refl)
orient_spelled MX180 = turned_spelled MX180 _ (one_angle MX180 _ refl refl)
orient_spelled MX270 = turned_spelled MX270 _ (one_angle MX270 _ refl refl)

-- the elements

path_spelled : (layer datatype kind width : ℤ) (points : List Point) (props : List Prop)
    → IsWritableTrack kind width points → FitsSigned w16 layer → FitsSigned w16 datatype → IsSpelled (end props) (end_records props)
    → IsSpelled (element (Path layer datatype kind width points props)) (element_records (Path layer datatype kind width points props))
unfolding is_formed
path_spelled layer datatype kind width points props w fits_layer fits_datatype ends =
    let two = w.two in
    let spine_is : IsSpine points (points_bytes points) = record { means = points_back points w.short; two = w.two; straight = w.straight } in
    followed (layered PATH DATATYPE layer datatype) _ _ _ (layered_spelled PATH DATATYPE layer datatype refl refl fits_layer fits_datatype)
    (followed (value demand.Track PATHTYPE (Means path_kind_of) kind or nothing (kind ≡ pos 0)) (spine width points ▸ end props) _ _
    (first_way _ (nothing (kind ≡ pos 0)) _ (one_value demand.Track PATHTYPE (Means path_kind_of) kind (int16_bytes kind) refl (kind_back kind w.ends)))
    (followed (spine width points) (end props) (record_with WIDTH (int32_bytes width) ∷ record_with XY (points_bytes points) ∷ []) _
    (first_way (value demand.Track WIDTH (Means width_of) width ▸ maybe_refused demand.Track BGNEXTN ▸ maybe_refused demand.Track ENDEXTN ▸ value demand.Track XY IsSpine points) _ _
    (followed (value demand.Track WIDTH (Means width_of) width) _ _ _
    (one_value demand.Track WIDTH (Means width_of) width (int32_bytes width) refl (width_back width w.positive w.most w.even))
    (followed (maybe_refused demand.Track BGNEXTN) _ [] _ (not_refused demand.Track BGNEXTN)
    (followed (maybe_refused demand.Track ENDEXTN) _ [] _ (not_refused demand.Track ENDEXTN)
    (points_value demand.Track IsSpine points points (omega (arith, two)) spine_is)))))
    ends))

text_spelled : (layer texttype : ℤ) (at : Point) (string : List ℕ) (props : List Prop)
    → IsWritableLabel string at → FitsSigned w16 layer → FitsSigned w16 texttype → IsSpelled (end props) (end_records props)
    → IsSpelled (element (Text layer texttype at string props)) (element_records (Text layer texttype at string props))
unfolding is_formed
text_spelled layer texttype at string props w fits_layer fits_texttype ends =
    followed (layered TEXT TEXTTYPE layer texttype) _ _ _ (layered_spelled TEXT TEXTTYPE layer texttype refl refl fits_layer fits_texttype)
    (followed (maybe PRESENTATION) _ [] _ (left_out PRESENTATION)
    (followed (maybe PATHTYPE) _ [] _ (left_out PATHTYPE)
    (followed (maybe WIDTH) _ [] _ (left_out WIDTH)
    (followed turn_dropped _ [] _ (second_way _ (nothing (Unit {0})) [] (none_needed (Unit {0}) tt))
    (followed (value demand.Plain XY (Means point_of) at) _ _ _ (point_spelled at w.short)
    (followed (value demand.Plain STRING (Means string_of) string) (end props) _ _ (plain_text STRING string refl w.text) ends))))))

array_spelled : (name : List ℕ) (place : Place) (columns rows : ℤ) (across down : Point) (props : List Prop)
    → IsText name → IsWritableArray place columns rows across down → IsSpelled (end props) (end_records props)
    → IsSpelled (element (Aref name place columns rows across down props)) (element_records (Aref name place columns rows across down props))
unfolding is_formed
array_spelled name place columns rows across down props t w ends =
    let points = place.at ∷ displaced place.at columns across ∷ displaced place.at rows down ∷ [] in
    let counts = counts_back columns rows (record { some = w.some_columns; few = w.few_columns }) (record { some = w.some_rows; few = w.few_rows }) in
    followed (begin AREF) _ _ _ (begin_spelled AREF refl)
    (followed (value demand.Plain SNAME (Means string_of) name) _ _ _ (plain_text SNAME name refl t)
    (followed (orientation place.orient) _ (orient_records place.orient) _ (orient_spelled place.orient)
    (followed (value demand.Transform COLROW (Means counts_of) (columns, rows)) _ _ _
    (one_value demand.Transform COLROW (Means counts_of) (columns, rows) (int16_bytes columns ++ int16_bytes rows) refl counts)
    (followed (value demand.Transform XY (IsLattice (columns, rows)) (place.at, (across, down))) (end props) _ _
    (points_value demand.Transform (IsLattice (columns, rows)) (place.at, (across, down)) points (omega arith)
    (points_back points (w.at, (w.by_columns, (w.by_rows, tt))))) ends))))

pub element_spelled : (e : Element) → IsWritableElement e → HasShortNumbers e → IsSpelled (element (turned_element e)) (element_records e)
unfolding is_formed
element_spelled (Boundary layer datatype points props) w n =
    let ring = ring_turned points w.body in
    followed (layered BOUNDARY DATATYPE layer datatype) _ _ _ (layered_spelled BOUNDARY DATATYPE layer datatype refl refl n.layers.0 n.layers.1)
    (followed (value demand.Outline XY IsOutline (turned_ring points)) (end props) _ _
    (points_value demand.Outline IsOutline (turned_ring points) (closed_ring (turned_ring points)) (closed_some (turned_ring points) ring) (closed_outline (turned_ring points) ring))
    (end_spelled props w.props n.attributes))
element_spelled (Path layer datatype kind width points props) w n =
    path_spelled layer datatype kind width points props w.body n.layers.0 n.layers.1 (end_spelled props w.props n.attributes)
element_spelled (Sref name place props) w n =
    followed (begin SREF) _ _ _ (begin_spelled SREF refl)
    (followed (value demand.Plain SNAME (Means string_of) name) _ _ _ (plain_text SNAME name refl w.body.named)
    (followed (orientation place.orient) _ (orient_records place.orient) _ (orient_spelled place.orient)
    (followed (value demand.Plain XY (Means point_of) place.at) (end props) _ _ (point_spelled place.at w.body.at)
    (end_spelled props w.props n.attributes))))
element_spelled (Aref name place columns rows across down props) w n =
    array_spelled name place columns rows across down props w.body.0 w.body.1 (end_spelled props w.props n.attributes)
element_spelled (Text layer texttype at string props) w n =
    text_spelled layer texttype at string props w.body n.layers.0 n.layers.1 (end_spelled props w.props n.attributes)
