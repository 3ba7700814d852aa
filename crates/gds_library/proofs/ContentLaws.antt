-- What rings, tracks and arrays the data of a file can give.
use Rattle.std.proofs.Common.{◌+◌, ◌≡◌, ◌⊎◌, inl, inr, ℕ, suc, ◌-◌, ◌%◌, ◌<◌, ◌≤◌, ◌^◌, List, [], ◌∷◌, length, ℤ, pos, negsuc, ◌≤ℤ◌, Bool, true, false, cond, ◌&&◌, eqb, ltb, Some, None, refl, ap, subst, ◌∙◌, arith, int_rem, int_le}
use Rattle.std.proofs.lemmas.Int.{ints}
use mir.Val.{sel}
use Rattle.std.proofs.lemmas.Bool.{eqb-true, and_parts}
use Rattle.std.proofs.lemmas.Option.{cond_some}
use Rattle.std.specs.Int.{w16, w32, from_be_bytes, cast_signed}
use Rattle.std.specs.Prelude.{FitsSigned}
use Rattle.std.specs.List.{AllByRecursion}
use Rattle.or_geom.specs.declared.shape.Point.{Point}
use Rattle.rectilinear.specs.Ring.{sides_of}
use Rattle.gds_records.specs.declared.code.TheConstants.{XY}
use Rattle.gds_records.specs.declared.limits.TheConstants.{MOST_POINTS}
use Rattle.gds_records.specs.Bytes.{AreBytes}
use Rattle.gds_records.specs.Values.{int32_of, IsShort}
use Rattle.gds_library.specs.Values.{IsOutline, IsSpine, Lattice, IsLattice, displaced, width_of, path_kind_of, counts_of, int16_in}
use Rattle.gds_library.specs.Writable.{IsWritableRing, IsWritableTrack}
use Rattle.gds_library.proofs.SoundLaws.{IsData, are_points, fits_16, fits_32}
use Rattle.gds_library.proofs.RingLaws.{short_corners, few_corners}
use Rattle.gds_library.proofs.TurnLaws.{AreTurning, corners_turn, nothing_dropped}
use Rattle.gds_library.proofs.LatticeLaws.{least_one}

-- a ring
pub ring : (corners : List Point) (content : List ℕ) → IsData XY content → IsOutline corners content
    → IsWritableRing corners
ring corners content d o =
    let all = are_points content o.points d.bytes o.means in
    let few = few_corners o.points o.closed in
    record {
      short = subst (λ l. AllByRecursion IsShort l) o.dropped (short_corners o.points all.short);
      few = subst (λ (l : List Point). length l + 1 ≤ MOST_POINTS) o.dropped (omega (arith, all.size, d.size, few));
      simple = o.simple;
      turning = nothing_dropped corners o.simple.straight
          (subst (λ l. AreTurning (sides_of l)) o.dropped (corners_turn o.points));
    }

-- a track
pub record IsWidth (width : ℤ) : Type 0 where
  pub positive : pos 1 ≤ℤ width
  pub most : width ≤ℤ pos 0x7FFFFFFF
  pub even : int_rem width (pos 2) ≡ pos 0

halves : (low : Bool) (n m : ℕ) → pos 1 ≤ℤ sel low (pos n) (negsuc m) → sel low (pos n) (negsuc m) ≡ pos n
halves true n m some = refl
halves false n m some = absurd (omega (arith, ints, some))

lower_half : (n : ℕ) → pos 1 ≤ℤ cast_signed w32 n → cast_signed w32 n ≡ pos n
lower_half n some = halves (ltb n (2 ^ 31)) n (2 ^ 32 - suc n) some

even_32 : (a b c d : ℕ) → a < 256 → b < 256 → c < 256 → d < 256 → d % 2 ≡ 0 → pos 1 ≤ℤ int32_of a b c d
    → int_rem (int32_of a b c d) (pos 2) ≡ pos 0
even_32 a b c d ha hb hc hd half some =
    let n = from_be_bytes w32 (a ∷ b ∷ c ∷ d ∷ []) in
    let is : int32_of a b c d ≡ pos n = lower_half n some in
    let none : n % 2 ≡ 0 = omega arith in
    ap (λ (z : ℤ). int_rem z (pos 2)) is ∙ ap (λ (m : ℕ). pos m) none

most_32 : (z : ℤ) → FitsSigned w32 z → z ≤ℤ pos 0x7FFFFFFF
most_32 z fits = omega (arith, ints)

most_16 : (z : ℤ) → FitsSigned w16 z → z ≤ℤ pos 32767
most_16 z fits = omega (arith, ints)

pub width_is : (content : List ℕ) (width : ℤ) → AreBytes content → width_of content ≡ Some width → IsWidth width
width_is (a ∷ b ∷ c ∷ d ∷ []) width are is =
    let chosen = cond_some (int_le (pos 1) (int32_of a b c d) && eqb (d % 2) 0) (int32_of a b c d) width is in
    let tests = and_parts (int_le (pos 1) (int32_of a b c d)) (eqb (d % 2) 0) chosen.0 in
    let some = least_one (int32_of a b c d) tests.0 in
    subst IsWidth chosen.1 (record {
      positive = some;
      most = most_32 (int32_of a b c d) (fits_32 a b c d are.0 are.1.0 are.1.1.0 are.1.1.1.0);
      even = even_32 a b c d are.0 are.1.0 are.1.1.0 are.1.1.1.0 (eqb-true (d % 2) 0 tests.1) some;
    })
width_is content width are is = absurd cc

kinds : (x y : Bool) (kind : ℤ) → cond x (Some (pos 0)) (cond y (Some (pos 2)) None) ≡ Some kind
    → (kind ≡ pos 0) ⊎ (kind ≡ pos 2)
kinds true y kind is = inl cc
kinds false true kind is = inr cc
kinds false false kind is = absurd cc

pub kind_is : (content : List ℕ) (kind : ℤ) → path_kind_of content ≡ Some kind → (kind ≡ pos 0) ⊎ (kind ≡ pos 2)
kind_is (a ∷ b ∷ []) kind is = kinds _ _ kind is
kind_is content kind is = absurd cc

pub track : (kind width : ℤ) (points : List Point) (content : List ℕ) → (kind ≡ pos 0) ⊎ (kind ≡ pos 2)
    → IsWidth width → IsData XY content → IsSpine points content → IsWritableTrack kind width points
track kind width points content ends wide d s =
    let all = are_points content points d.bytes s.means in
    record {
      ends = ends;
      positive = wide.positive;
      most = wide.most;
      even = wide.even;
      short = all.short;
      two = s.two;
      few = omega (arith, all.size, d.size);
      straight = s.straight;
    }

-- an array
pub record AreCounts (counts : ℤ × ℤ) : Type 0 where
  pub some_columns : pos 1 ≤ℤ counts.0
  pub few_columns : counts.0 ≤ℤ pos 32767
  pub some_rows : pos 1 ≤ℤ counts.1
  pub few_rows : counts.1 ≤ℤ pos 32767

pub counts_are : (content : List ℕ) (counts : ℤ × ℤ) → AreBytes content → counts_of content ≡ Some counts
    → AreCounts counts
counts_are (a ∷ b ∷ c ∷ d ∷ []) counts are is =
    let chosen = cond_some (int_le (pos 1) (int16_in a b) && int_le (pos 1) (int16_in c d))
    (int16_in a b, int16_in c d) counts is in
    let tests = and_parts (int_le (pos 1) (int16_in a b)) (int_le (pos 1) (int16_in c d)) chosen.0 in
    subst AreCounts chosen.1 (record {
      some_columns = least_one (int16_in a b) tests.0;
      few_columns = most_16 (int16_in a b) (fits_16 a b are.0 are.1.0);
      some_rows = least_one (int16_in c d) tests.1;
      few_rows = most_16 (int16_in c d) (fits_16 c d are.1.1.0 are.1.1.1.0);
    })
counts_are content counts are is = absurd cc

pub record IsShortLattice (counts : ℤ × ℤ) (g : Lattice) : Type 0 where
  pub at : IsShort g.0
  pub by_columns : IsShort (displaced g.0 counts.0 g.1.0)
  pub by_rows : IsShort (displaced g.0 counts.1 g.1.1)

pub short_lattice : (counts : ℤ × ℤ) (g : Lattice) (content : List ℕ) → AreBytes content → IsLattice counts g content
    → IsShortLattice counts g
short_lattice counts g content are is =
    let all = are_points content _ are is in
    record { at = all.short.0; by_columns = all.short.1.0; by_rows = all.short.1.1.0 }
