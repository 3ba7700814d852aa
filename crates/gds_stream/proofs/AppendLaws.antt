-- Records that are added one after the other.
use Rattle.std.proofs.Common.{◌≡◌, ℕ, ◌+◌, ◌*◌, ◌≤◌, ℤ, Result, Ok, Err, List, [], ◌∷◌, ◌++◌, length, take, drop, Bool, cond, arith, refl, sym, ap, ◌∙◌, append_assoc}
use Rattle.std.proofs.lemmas.List.{append-nil, length-append}
use Rattle.gds_records.specs.declared.code.TheConstants.{SREF, AREF, SNAME, XY}
use Rattle.gds_records.specs.Record.{StreamRecord}
use Rattle.gds_records.specs.Bytes.{two_bytes, record_bytes, records_bytes}
use Rattle.gds_records.specs.Writing.{points_bytes, text_bytes, record_with}
use Rattle.std.specs.Prelude.{OnOk, FitsSigned}
use Rattle.std.specs.Int.{w16, w32}
use Rattle.std.proofs.lemmas.Int.{to_z-of_z}
use mir.Val.{to_z, of_z}
use Rattle.or_geom.specs.declared.shape.Point.{Point}
use Rattle.gds_library.specs.declared.library.Element.{Element}
use Rattle.gds_library.specs.declared.library.Element.TheVariants.{Boundary, Path, Sref, Aref, Text}
use Rattle.gds_library.specs.Writable.{props_of}
use Rattle.gds_stream.specs.Canonical.{orient_records, end_records, closed_ring, element_records}
use Rattle.gds_stream.specs.Turned.{lowest_index, from_lowest, goes_right, other_way, turned_ring}
use Rattle.gds_stream.specs.Written.{body_records, lattice_records}
use Rattle.gds_stream.proofs.WrittenValues.{points_length}
use Rattle.gds_stream.proofs.RotationLaws.{length_turned}

pub bytes_append : (es fs : List StreamRecord) → records_bytes (es ++ fs) ≡ records_bytes es ++ records_bytes fs
unfolding records_bytes
bytes_append [] fs = refl
bytes_append (e ∷ es) fs =
    ap (λ (l : List ℕ). record_bytes e ++ l) (bytes_append es fs)
    ∙ sym (append_assoc (record_bytes e) (records_bytes es) (records_bytes fs))

pub none_added : (a : List ℕ) → a ≡ a ++ records_bytes []
unfolding records_bytes
none_added a = sym (append-nil a)

pub one_added : (a b : List ℕ) (e : StreamRecord) → b ≡ a ++ record_bytes e → b ≡ a ++ records_bytes (e ∷ [])
unfolding records_bytes
one_added a b e is = is ∙ ap (λ (l : List ℕ). a ++ l) (sym (append-nil (record_bytes e)))

pub added : (a b c : List ℕ) (es fs : List StreamRecord) → b ≡ a ++ records_bytes es → c ≡ b ++ records_bytes fs
    → c ≡ a ++ records_bytes (es ++ fs)
added a b c es fs is more =
    more ∙ ap (λ (l : List ℕ). l ++ records_bytes fs) is ∙ append_assoc a (records_bytes es) (records_bytes fs)
    ∙ ap (λ (l : List ℕ). a ++ l) (sym (bytes_append es fs))

pub one_more_added : (a b c : List ℕ) (es : List StreamRecord) (e : StreamRecord) → b ≡ a ++ records_bytes es
    → c ≡ b ++ record_bytes e → c ≡ a ++ records_bytes (es ++ e ∷ [])
one_more_added a b c es e is more = added a b c es (e ∷ []) is (one_added b c e more)

-- what a loop has added, and what it is to add
pub goes_on : (a b c : List ℕ) (es fs : List StreamRecord) → b ++ records_bytes (es ++ fs) ≡ a → c ≡ b ++ records_bytes es
    → c ++ records_bytes fs ≡ a
goes_on a b c es fs is more =
    ap (λ (l : List ℕ). l ++ records_bytes fs) more ∙ append_assoc b (records_bytes es) (records_bytes fs)
    ∙ ap (λ (l : List ℕ). b ++ l) (sym (bytes_append es fs)) ∙ is

-- a loop has added all
pub all_added : (a b : List ℕ) (es : List StreamRecord) → b ++ records_bytes [] ≡ a ++ records_bytes es → b ≡ a ++ records_bytes es
all_added a b es is = none_added b ∙ is

-- an element's records are those of its body and then its properties
pub body_and_end : (e : Element) → body_records e ++ end_records (props_of e) ≡ element_records e
body_and_end (Boundary layer datatype points props) = refl
body_and_end (Path layer datatype kind width points props) = refl
body_and_end (Sref name place props) =
    let at = record_with XY (points_bytes (place.at ∷ [])) in
    ap (λ (l : List StreamRecord). record_with SREF [] ∷ record_with SNAME (text_bytes name) ∷ l)
    (append_assoc (orient_records place.orient) (at ∷ []) (end_records props))
body_and_end (Aref name place columns rows across down props) =
    ap (λ (l : List StreamRecord). record_with AREF [] ∷ record_with SNAME (text_bytes name) ∷ l)
    (append_assoc (orient_records place.orient) (lattice_records place columns rows across down) (end_records props))
body_and_end (Text layer texttype at string props) = refl

-- the head of a record, and then its data
pub headed : (a b c : List ℕ) (code size : ℕ) (content : List ℕ) → size ≡ length content
    → b ≡ a ++ (two_bytes (size + 4) ++ two_bytes code) → c ≡ b ++ content → c ≡ a ++ record_bytes (record_with code content)
headed a b c code size content fits is more =
    more ∙ ap (λ (l : List ℕ). l ++ content) is ∙ append_assoc a (two_bytes (size + 4) ++ two_bytes code) content
    ∙ ap (λ (n : ℕ). a ++ ((two_bytes (n + 4) ++ two_bytes code) ++ content)) fits

-- the corners from the lowest on, and those before it
pub ring_of : (corners from before : List Point) (first : Point) (others : List Point) (k : ℕ) (right : Bool)
    → k ≡ lowest_index corners → from ≡ drop k corners → before ≡ take k corners → from ≡ first ∷ others
    → right ≡ goes_right (from ++ before)
    → cond right (first ∷ (others ++ before)) (other_way (first ∷ (others ++ before))) ≡ turned_ring corners
ring_of corners from before first others k right index back front parts is =
    let begun : from ++ before ≡ from_lowest corners =
    (λ i. back i ++ front i) ∙ ap (λ (n : ℕ). drop n corners ++ take n corners) index in
    let whole : first ∷ (others ++ before) ≡ from_lowest corners = ap (λ (l : List Point). l ++ before) (sym parts) ∙ begun in
    let way : right ≡ goes_right (from_lowest corners) = is ∙ ap goes_right begun in
    λ i. cond (way i) (whole i) (other_way (whole i))

closed_length : (ring : List Point) → 1 ≤ length ring → length (closed_ring ring) ≡ length ring + 1
closed_length [] some = absurd (omega arith)
closed_length (p ∷ ps) some = omega (arith, length-append ps (p ∷ []))

pub ring_length : (corners : List Point) → 4 ≤ length corners
    → 8 * length corners + 8 ≡ length (points_bytes (closed_ring (turned_ring corners)))
ring_length corners four =
    let same = length_turned corners in
    let more = closed_length (turned_ring corners) (omega (arith, same, four)) in
    let bytes = points_length (closed_ring (turned_ring corners)) in
    omega (arith, same, more, bytes)

pub ok_weaker : {T E : Type 0} (r : Result T E) (P Q : Type 0) → (P → Q) → OnOk r P → OnOk r Q
ok_weaker (Ok x) P Q f h = f h
ok_weaker (Err e) P Q f h = h

-- a number that is passed stays what it is
pub kept_16 : (z : ℤ) → FitsSigned w16 z → to_z w16 (of_z w16 z) ≡ z
kept_16 z fits = to_z-of_z w16 z fits

pub kept_32 : (z : ℤ) → FitsSigned w32 z → to_z w32 (of_z w32 z) ≡ z
kept_32 z fits = to_z-of_z w32 z fits

pub none_left : {X : Type 0} (l : List X) → length l ≡ 0 → l ≡ []
none_left [] e = refl
none_left (x ∷ l) e = absurd (omega (arith, e))

pub three_added : (h x y z p q r : List ℕ) → p ≡ h ++ x → q ≡ p ++ y → r ≡ q ++ z → r ≡ h ++ (x ++ (y ++ z))
three_added h x y z p q r e f g =
    g ∙ ap (λ (l : List ℕ). l ++ z) (f ∙ ap (λ (l : List ℕ). l ++ y) e) ∙ append_assoc (h ++ x) y z ∙ append_assoc h x (y ++ z)
