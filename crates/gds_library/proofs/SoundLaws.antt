-- What the bytes of a file say of its records, and what their data can be.
use Rattle.std.proofs.Common.{◌≡◌, ℕ, ◌+◌, ◌*◌, ◌<◌, List, [], ◌∷◌, ◌++◌, length, true, leb, eqb, Option, Some, None, refl, subst, append_assoc, arith}
use Rattle.std.proofs.lemmas.Bool.{and_parts}
use Rattle.std.proofs.lemmas.Option.{same_Some}
use Rattle.std.proofs.Math.Facts.{sfits_to_z}
use Rattle.std.specs.Int.{w16, w32, from_be_bytes}
use Rattle.std.specs.Prelude.{FitsSigned}
use Rattle.std.specs.List.{AllByRecursion, list_all}
use borrow.Author.Tests.{leb-true}
use Rattle.or_geom.specs.declared.shape.Point.{Point}
use Rattle.gds_records.specs.declared.form.Form.TheVariants.{Text}
use Rattle.gds_records.specs.Record.{StreamRecord, form_of, has_form, is_record_text, is_printable, unpadded}
use Rattle.gds_records.specs.Bytes.{records_bytes, AreBytes}
use Rattle.gds_records.specs.Values.{string_of, int32_of, point_of, points_from, with_point, IsShort}
use Rattle.gds_library.specs.Values.{int16_in}
use Rattle.gds_library.specs.Writable.{IsPrintable, IsText}

-- a record that can stand in a file
pub record IsSound (e : StreamRecord) : Type 0 where
  pub bytes : AreBytes e.content
  pub size : length e.content < 65532

abbrev pub AreSound : List StreamRecord → Type 0
AreSound es = AllByRecursion IsSound es

-- the data of such a record of this code
pub record IsData (code : ℕ) (content : List ℕ) : Type 0 where
  pub bytes : AreBytes content
  pub size : length content < 65532
  pub form : has_form (form_of code) content ≡ true

bytes_both : (xs ys : List ℕ) → AreBytes (xs ++ ys) → AreBytes xs × AreBytes ys
bytes_both [] ys are = (tt, are)
bytes_both (x ∷ xs) ys are = let both = bytes_both xs ys are.1 in ((are.0, both.0), both.1)

pub sound : (es : List StreamRecord) (zeros : List ℕ) → AreBytes (records_bytes es ++ zeros) → AreSound es
unfolding records_bytes
sound [] zeros are = tt
sound (e ∷ es) zeros are =
    let both = bytes_both e.content (records_bytes es ++ zeros)
    (subst AreBytes (append_assoc e.content (records_bytes es) zeros) are.1.1.1.1) in
    (record { bytes = both.0; size = omega (arith, are.0) }, sound es zeros both.1)

-- texts
printable_is : (b : ℕ) → is_printable b ≡ true → IsPrintable b
printable_is b is =
    let both = and_parts (leb 32 b) (leb b 126) is in
    record { above = leb-true 32 b both.0; below = leb-true b 126 both.1 }

all_printable : (text : List ℕ) → list_all is_printable text ≡ true → AllByRecursion IsPrintable text
all_printable [] is = tt
all_printable (b ∷ text) is =
    let both = and_parts (is_printable b) (list_all is_printable text) is in
    (printable_is b both.0, all_printable text both.1)

text_is : (text : List ℕ) → is_record_text text ≡ true → IsText text
text_is text is =
    let a = and_parts (leb 1 (length text)) _ is in
    let b = and_parts (leb (length text) 512) (list_all is_printable text) a.1 in
    record {
      some = leb-true 1 (length text) a.0;
      few = leb-true (length text) 512 b.0;
      printable = all_printable text b.1;
    }

pub is_text_of : (code : ℕ) (content text : List ℕ) → form_of code ≡ Text → IsData code content
    → string_of content ≡ Some text → IsText text
is_text_of code content text form d is =
    let has = subst (λ f. has_form f content ≡ true) form d.form in
    subst IsText (same_Some (unpadded content) text is)
    (text_is (unpadded content) (and_parts (eqb _ 0) (is_record_text (unpadded content)) has).1)

-- numbers
pub fits_32 : (a b c d : ℕ) → a < 256 → b < 256 → c < 256 → d < 256 → FitsSigned w32 (int32_of a b c d)
fits_32 a b c d ha hb hc hd = sfits_to_z {w = w32} {n = from_be_bytes w32 (a ∷ b ∷ c ∷ d ∷ [])}
    (record { fits = omega arith })

pub fits_16 : (a b : ℕ) → a < 256 → b < 256 → FitsSigned w16 (int16_in a b)
fits_16 a b ha hb = sfits_to_z {w = w16} {n = from_be_bytes w16 (a ∷ b ∷ [])} (record { fits = omega arith })

-- points
pub record ArePoints (content : List ℕ) (points : List Point) : Type 0 where
  pub short : AllByRecursion IsShort points
  pub size : 8 * length points ≡ length content

one_more : (p : Point) (rest content : List ℕ) (points : List Point) (read : Option (List Point)) → IsShort p
    → length content ≡ 8 + length rest
    → ((ps : List Point) → read ≡ Some ps → ArePoints rest ps) → with_point p read ≡ Some points
    → ArePoints content points
one_more p rest content points None short size f is = absurd cc
one_more p rest content points (Some ps) short size f is =
    let more = f ps refl in
    subst (ArePoints content) (same_Some (p ∷ ps) points is)
    (record { short = (short, more.short); size = omega (arith, more.size) })

pub are_points : (content : List ℕ) (points : List Point) → AreBytes content → points_from content ≡ Some points
    → ArePoints content points
unfolding points_from
are_points [] points are is = subst (ArePoints []) (same_Some [] points is) (record { short = tt; size = refl })
are_points (a ∷ b ∷ c ∷ d ∷ e ∷ f ∷ g ∷ h ∷ rest) points are is =
    let far = are.1.1.1.1 in
    one_more (record { x = int32_of a b c d; y = int32_of e f g h }) rest (a ∷ b ∷ c ∷ d ∷ e ∷ f ∷ g ∷ h ∷ rest)
    points (points_from rest)
    (record {
      x = fits_32 a b c d are.0 are.1.0 are.1.1.0 are.1.1.1.0;
      y = fits_32 e f g h far.0 far.1.0 far.1.1.0 far.1.1.1.0;
    }) (omega arith)
    (λ ps. are_points rest ps far.1.1.1.1) is
are_points content points are is = absurd cc

pub is_point : (content : List ℕ) (p : Point) → AreBytes content → point_of content ≡ Some p → IsShort p
is_point (a ∷ b ∷ c ∷ d ∷ e ∷ f ∷ g ∷ h ∷ []) p are is =
    let far = are.1.1.1.1 in
    subst IsShort (same_Some _ p is)
    (record {
      x = fits_32 a b c d are.0 are.1.0 are.1.1.0 are.1.1.1.0;
      y = fits_32 e f g h far.0 far.1.0 far.1.1.0 far.1.1.1.0;
    })
is_point content p are is = absurd cc
