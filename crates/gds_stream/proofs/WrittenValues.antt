-- What is written of a value means that value.
use Rattle.std.proofs.Common.{◌≡◌, ◌⊎◌, inl, inr, ℕ, zero, suc, ◌+◌, ◌-◌, ◌*◌, ◌%◌, ◌<◌, ◌≤◌, ◌^◌, List, [], ◌∷◌, ◌++◌, length, take, get_or, ℤ, pos, negsuc, ◌≤ℤ◌, Bool, true, false, cond, ◌&&◌, eqb, leb, ltb, Some, None, refl, sym, ap, subst, ◌∙◌, arith, int_le, int_rem}
use Rattle.std.proofs.lemmas.Int.{ints, to_z-of_z}
use Rattle.std.proofs.lemmas.Nat.{from_be_bytes-to_be_bytes_2, from_be_bytes-to_be_bytes_4}
use Rattle.std.proofs.lemmas.List.{length-append}
use Rattle.std.proofs.lemmas.Bool.{and_from, le-leb, eq-eqb, eqb-true}
use Rattle.std.proofs.Math.Facts.{Fits-of_z}
use Rattle.std.specs.Prelude.{FitsSigned}
use Rattle.std.specs.Int.{w16, w32, cast_signed, cast_unsigned, from_be_bytes}
use Rattle.std.specs.List.{AllByRecursion, list_all}
use Rattle.or_geom.specs.declared.shape.Point.{Point}
use Rattle.gds_records.specs.Record.{has_form, is_printable, is_record_text, unpadded}
use Rattle.gds_records.specs.declared.form.Form.TheVariants.{Text}
use Rattle.gds_records.specs.Values.{int16_of, point_of, points_from, with_point, IsShort}
use Rattle.gds_library.specs.Values.{width_of, path_kind_of, counts_of}
use Rattle.gds_library.specs.Writable.{IsPrintable, IsText}
use Rattle.gds_records.specs.Writing.{int16_bytes, int32_bytes, point_bytes, points_bytes, text_bytes}

-- numbers

small_16 : (z : ℤ) → FitsSigned w16 z → cast_unsigned w16 z < 2 ^ 16
small_16 z fits = (Fits-of_z {w = w16} {z = z} fits).fits

small_32 : (z : ℤ) → FitsSigned w32 z → cast_unsigned w32 z < 2 ^ 32
small_32 z fits = (Fits-of_z {w = w32} {z = z} fits).fits

signed_16 : (z : ℤ) → FitsSigned w16 z → cast_signed w16 (from_be_bytes w16 (int16_bytes z)) ≡ z
signed_16 z fits =
    ap (cast_signed w16) (from_be_bytes-to_be_bytes_2 (cast_unsigned w16 z) (small_16 z fits)) ∙ to_z-of_z w16 z fits

signed_32 : (z : ℤ) → FitsSigned w32 z → cast_signed w32 (from_be_bytes w32 (int32_bytes z)) ≡ z
signed_32 z fits =
    ap (cast_signed w32) (from_be_bytes-to_be_bytes_4 (cast_unsigned w32 z) (small_32 z fits)) ∙ to_z-of_z w32 z fits

pub int16_back : (z : ℤ) → FitsSigned w16 z → int16_of (int16_bytes z) ≡ Some z
int16_back z fits = ap (λ (n : ℤ). Some n) (signed_16 z fits)

-- points

pub point_back : (p : Point) → IsShort p → point_of (point_bytes p) ≡ Some p
point_back p short i = Some (record { x = signed_32 p.x short.x i; y = signed_32 p.y short.y i })

pub points_back : (points : List Point) → AllByRecursion IsShort points → points_from (points_bytes points) ≡ Some points
unfolding points_from
points_back [] short = refl
points_back (p ∷ ps) short =
    ap (with_point _) (points_back ps short.1)
    ∙ (λ i. Some (record { x = signed_32 p.x short.0.x i; y = signed_32 p.y short.0.y i } ∷ ps))

pub points_length : (points : List Point) → length (points_bytes points) ≡ 8 * length points
points_length [] = refl
points_length (p ∷ ps) = omega (arith, points_length ps)

-- texts

printable_back : (b : ℕ) → IsPrintable b → is_printable b ≡ true
printable_back b p = and_from (leb 32 b) (leb b 126) (le-leb 32 b p.above) (le-leb b 126 p.below)

all_printable_back : (text : List ℕ) → AllByRecursion IsPrintable text → list_all is_printable text ≡ true
all_printable_back [] all = refl
all_printable_back (b ∷ text) all =
    and_from (is_printable b) (list_all is_printable text) (printable_back b all.0) (all_printable_back text all.1)

pub text_back : (text : List ℕ) → IsText text → is_record_text text ≡ true
text_back text t =
    and_from (leb 1 (length text)) _ (le-leb 1 (length text) t.some)
    (and_from (leb (length text) 512) (list_all is_printable text) (le-leb (length text) 512 t.few)
    (all_printable_back text t.printable))

last_above : (text : List ℕ) → AllByRecursion IsPrintable text → (k : ℕ) → k < length text → 32 ≤ get_or text k 0
last_above [] all k lt = absurd (omega arith)
last_above (b ∷ text) all zero lt = all.0.above
last_above (b ∷ text) all (suc k) lt = last_above text all.1 k (omega (arith, lt))

last_padded : (text : List ℕ) → get_or (text ++ 0 ∷ []) (length text) 0 ≡ 0
last_padded [] = refl
last_padded (b ∷ text) = last_padded text

front_padded : (text : List ℕ) → take (length text) (text ++ 0 ∷ []) ≡ text
front_padded [] = refl
front_padded (b ∷ text) = ap (λ (l : List ℕ). b ∷ l) (front_padded text)

unpadded_even : (text : List ℕ) → IsText text → unpadded text ≡ text
unpadded_even text t =
    let last = last_above text t.printable (length text - 1) (omega (arith, t.some)) in
    let other : eqb (get_or text (length text - 1) 0) 0 ≡ false = grind (arith, last) in
    (λ i. cond (ltb 0 (length text) && other i) (take (length text - 1) text) text) ∙ grind arith

unpadded_odd : (text : List ℕ) → unpadded (text ++ 0 ∷ []) ≡ text
unpadded_odd text =
    let size : length (text ++ 0 ∷ []) ≡ length text + 1 = length-append text (0 ∷ []) in
    let less : length (text ++ 0 ∷ []) - 1 ≡ length text = omega (arith, size) in
    let some : ltb 0 (length (text ++ 0 ∷ [])) ≡ true = grind (arith, size) in
    let zero_last : eqb (get_or (text ++ 0 ∷ []) (length (text ++ 0 ∷ []) - 1) 0) 0 ≡ true =
    eq-eqb _ 0 (ap (λ (k : ℕ). get_or (text ++ 0 ∷ []) k 0) less ∙ last_padded text) in
    (λ i. cond (some i && zero_last i) (take (less i) (text ++ 0 ∷ [])) (text ++ 0 ∷ [])) ∙ front_padded text

-- the bytes of a text are the text again, and have the form of a text
pub record IsTextBack (text content : List ℕ) : Type 0 where
  pub string : unpadded content ≡ text
  pub even : length content % 2 ≡ 0

text_at : (text : List ℕ) → IsText text → (b : Bool) → eqb (length text % 2) 0 ≡ b
    → IsTextBack text (cond b text (text ++ 0 ∷ []))
text_at text t true is = record { string = unpadded_even text t; even = eqb-true (length text % 2) 0 is }
text_at text t false is =
    let size : length (text ++ 0 ∷ []) ≡ length text + 1 = length-append text (0 ∷ []) in
    let odd : length text % 2 ≡ 1 = grind (arith, is) in
    record { string = unpadded_odd text; even = omega (arith, size, odd) }

pub text_bytes_back : (text : List ℕ) → IsText text → IsTextBack text (text_bytes text)
text_bytes_back text t = text_at text t (eqb (length text % 2) 0) refl

pub text_formed : (text : List ℕ) → IsText text → has_form Text (text_bytes text) ≡ true
text_formed text t =
    let back = text_bytes_back text t in
    and_from (eqb (length (text_bytes text) % 2) 0) (is_record_text (unpadded (text_bytes text)))
    (eq-eqb _ 0 back.even) (ap is_record_text back.string ∙ text_back text t)

-- PATHTYPE, WIDTH and COLROW

pub kind_back : (kind : ℤ) → (kind ≡ pos 0) ⊎ (kind ≡ pos 2) → path_kind_of (int16_bytes kind) ≡ Some kind
kind_back kind (inl is) = subst (λ (k : ℤ). path_kind_of (int16_bytes k) ≡ Some k) (sym is) refl
kind_back kind (inr is) = subst (λ (k : ℤ). path_kind_of (int16_bytes k) ≡ Some k) (sym is) refl

fits_32 : (z : ℤ) → pos 1 ≤ℤ z → z ≤ℤ pos 0x7FFFFFFF → FitsSigned w32 z
fits_32 z low high = grind (arith, ints)

half_of : (width : ℤ) → pos 1 ≤ℤ width → int_rem width (pos 2) ≡ pos 0 → eqb (cast_unsigned w32 width % 256 % 2) 0 ≡ true
half_of (pos n) low even = let half : n % 2 ≡ 0 = cc in eq-eqb (n % 256 % 2) 0 (omega (arith, half))
half_of (negsuc n) low even = absurd low.le

pub width_back : (width : ℤ) → pos 1 ≤ℤ width → width ≤ℤ pos 0x7FFFFFFF → int_rem width (pos 2) ≡ pos 0
    → width_of (int32_bytes width) ≡ Some width
width_back width low high even =
    let is = signed_32 width (fits_32 width low high) in
    let positive : int_le (pos 1) (cast_signed w32 (from_be_bytes w32 (int32_bytes width))) ≡ true =
    subst (λ (z : ℤ). int_le (pos 1) z ≡ true) (sym is) (grind (arith, ints, low)) in
    let half = half_of width low even in
    (λ i. cond (positive i && half i) (Some (is i)) None)

fits_16 : (z : ℤ) → pos 1 ≤ℤ z → z ≤ℤ pos 32767 → FitsSigned w16 z
fits_16 z low high = grind (arith, ints)

-- one to 32767
pub record IsCount (z : ℤ) : Type 0 where
  pub some : pos 1 ≤ℤ z
  pub few : z ≤ℤ pos 32767

pub counts_back : (columns rows : ℤ) → IsCount columns → IsCount rows
    → counts_of (int16_bytes columns ++ int16_bytes rows) ≡ Some (columns, rows)
counts_back columns rows c r =
    let is_columns = signed_16 columns (fits_16 columns c.some c.few) in
    let is_rows = signed_16 rows (fits_16 rows r.some r.few) in
    let some_columns : int_le (pos 1) (cast_signed w16 (from_be_bytes w16 (int16_bytes columns))) ≡ true =
    subst (λ (z : ℤ). int_le (pos 1) z ≡ true) (sym is_columns) (grind (arith, ints, c.some)) in
    let some_rows : int_le (pos 1) (cast_signed w16 (from_be_bytes w16 (int16_bytes rows))) ≡ true =
    subst (λ (z : ℤ). int_le (pos 1) z ≡ true) (sym is_rows) (grind (arith, ints, r.some)) in
    (λ i. cond (some_columns i && some_rows i) (Some (is_columns i, is_rows i)) None)
