-- What the data of outlines and spines means, as it is tested.
use Rattle.std.proofs.Common.{◌≡◌, inr, ℕ, List, [], ◌∷◌, length, ℤ, pos, true, ◌&&◌, leb, Option, Some, None, refl, sym, ap, subst, arith}
use Rattle.std.proofs.lemmas.Int.{ints}
use Rattle.std.proofs.lemmas.Bool.{le-leb, and_parts}
use Rattle.std.proofs.lemmas.Bool.Decides.{Decides-int_eq}
use Rattle.std.proofs.lemmas.Option.{cond_some}
use Rattle.std.specs.Ordering.{int_eq}
use borrow.Author.Tests.{leb-true}
use Rattle.or_geom.specs.declared.shape.Point.{Point}
use Rattle.gds_records.specs.declared.code.TheConstants.{XY}
use Rattle.gds_records.specs.Record.{is_formed}
use Rattle.gds_records.specs.Values.{points_from}
use Rattle.gds_records.proofs.PartLaws.{IsMeaning}
use Rattle.rectilinear.specs.Corners.{corners_of}
use Rattle.rectilinear.specs.Simple.{IsSimple}
use Rattle.rectilinear.proofs.SimpleTest.{simple_test, test_simple, simple_tested, straight_test, test_straight, straight_tested, square, square_is_simple}
use Rattle.gds_library.specs.Values.{last_point, is_same_point, IsClosed, IsOutline, segments, IsSpine}
use Rattle.gds_library.specs.ReadElements.{is_closed, outline_in, outline_of, spine_in, spine_of}

same_number : (a b : ℤ) → int_eq a b ≡ true → a ≡ b
same_number a b is = (Decides-int_eq a b).0 is

same_point : (p q : Point) → is_same_point p q ≡ true → p ≡ q
same_point p q is =
    let both = and_parts (int_eq p.x q.x) (int_eq p.y q.y) is in
    let x = same_number p.x q.x both.0 in
    let y = same_number p.y q.y both.1 in
    λ i. record { x = x i; y = y i }

itself : (p : Point) → is_same_point p p ≡ true
itself p =
    let x : int_eq p.x p.x ≡ true = (Decides-int_eq p.x p.x).1 refl in
    let y : int_eq p.y p.y ≡ true = (Decides-int_eq p.y p.y).1 refl in
    rw (x, y) refl

closed_is : (points : List Point) → is_closed points ≡ true → IsClosed points
closed_is [] is = absurd cc
closed_is (p ∷ ps) is = same_point (last_point p ps) p is

is_tested_closed : (points : List Point) → IsClosed points → is_closed points ≡ true
is_tested_closed [] h = absurd h
is_tested_closed (p ∷ ps) h = subst (λ (q : Point). is_same_point q p ≡ true) (sym h) (itself p)

outline_gives_at : (content : List ℕ) (x : List Point) (o : Option (List Point)) → points_from content ≡ o
    → outline_in o ≡ Some x → IsOutline x content
outline_gives_at content x None means is = absurd cc
outline_gives_at content x (Some points) means is =
    let both = cond_some (is_closed points && simple_test (corners_of points)) (corners_of points) x is in
    let tests = and_parts (is_closed points) (simple_test (corners_of points)) both.0 in
    record {
      points = points;
      means = means;
      closed = closed_is points tests.0;
      dropped = both.1;
      simple = subst IsSimple both.1 (test_simple (corners_of points) tests.1);
    }

outline_gives : (content : List ℕ) (x : List Point) → outline_of content ≡ Some x → IsOutline x content
unfolding outline_of
outline_gives content x is = outline_gives_at content x (points_from content) refl is

outline_only : (content : List ℕ) (x : List Point) → IsOutline x content → outline_of content ≡ Some x
unfolding outline_of
outline_only content x o =
    let closed : is_closed o.points ≡ true = is_tested_closed o.points o.closed in
    let simple : simple_test (corners_of o.points) ≡ true =
    simple_tested (corners_of o.points) (subst IsSimple (sym o.dropped) o.simple) in
    rw (o.means, closed, simple) (ap (λ (l : List Point). Some l) o.dropped)

abbrev square_bytes : List ℕ
square_bytes =
    0 ∷ 0 ∷ 0 ∷ 0 ∷ 0 ∷ 0 ∷ 0 ∷ 0 ∷ 0 ∷ 0 ∷ 0 ∷ 4 ∷ 0 ∷ 0 ∷ 0 ∷ 0 ∷ 0 ∷ 0 ∷ 0 ∷ 4 ∷ 0 ∷ 0 ∷ 0 ∷ 4 ∷ 0 ∷ 0 ∷ 0 ∷ 0 ∷ 0
    ∷ 0 ∷ 0 ∷ 4 ∷ 0 ∷ 0 ∷ 0 ∷ 0 ∷ 0 ∷ 0 ∷ 0 ∷ 0 ∷ []

pub outline_meaning : IsMeaning XY IsOutline outline_of
unfolding is_formed points_from
outline_meaning = record {
  gives = outline_gives;
  only = outline_only;
  content = square_bytes;
  x = square;
  formed = refl;
  has = record { points = _; means = refl; closed = refl; dropped = refl; simple = square_is_simple };
}

spine_gives_at : (content : List ℕ) (x : List Point) (o : Option (List Point)) → points_from content ≡ o
    → spine_in o ≡ Some x → IsSpine x content
spine_gives_at content x None means is = absurd cc
spine_gives_at content x (Some points) means is =
    let both = cond_some (leb 2 (length points) && straight_test (segments points)) points x is in
    let tests = and_parts (leb 2 (length points)) (straight_test (segments points)) both.0 in
    subst (λ (l : List Point). IsSpine l content) both.1
    (record {
      means = means;
      two = leb-true 2 (length points) tests.0;
      straight = test_straight (segments points) tests.1;
    })

spine_gives : (content : List ℕ) (x : List Point) → spine_of content ≡ Some x → IsSpine x content
unfolding spine_of
spine_gives content x is = spine_gives_at content x (points_from content) refl is

spine_only : (content : List ℕ) (x : List Point) → IsSpine x content → spine_of content ≡ Some x
unfolding spine_of
spine_only content x s =
    let two : leb 2 (length x) ≡ true = le-leb 2 (length x) s.two in
    let straight : straight_test (segments x) ≡ true = straight_tested (segments x) s.straight in
    rw (s.means, two, straight) refl

pub spine_meaning : IsMeaning XY IsSpine spine_of
unfolding is_formed points_from
spine_meaning = record {
  gives = spine_gives;
  only = spine_only;
  content = 0 ∷ 0 ∷ 0 ∷ 0 ∷ 0 ∷ 0 ∷ 0 ∷ 0 ∷ 0 ∷ 0 ∷ 0 ∷ 4 ∷ 0 ∷ 0 ∷ 0 ∷ 0 ∷ [];
  x = record { x = pos 0; y = pos 0 } ∷ record { x = pos 4; y = pos 0 } ∷ [];
  formed = refl;
  has = record { means = refl; two = omega arith; straight = (inr (refl, λ e. absurd (omega (arith, ints))), tt) };
}
