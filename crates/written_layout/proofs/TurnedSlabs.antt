-- A ring from another corner on, or the other way round, has the same slabs.
use Rattle.std.proofs.Common.{◌≡◌, inl, inr, List, [], ◌∷◌, ◌++◌, map, ℤ, Bool, true, false, cond, ◌&&◌, ◌↔◌, refl, sym, ap, subst, ◌∙◌}
use Rattle.std.specs.Prelude.{reverse, int_le}
use Rattle.std.proofs.lemmas.List.{reverse-append}
use Rattle.or_geom.specs.declared.shape.Point.{Point}
use Rattle.or_geom.specs.declared.shape.Rect.{Rect}
use Rattle.rectilinear.specs.declared.ring.RingSide.{RingSide}
use Rattle.rectilinear.specs.Ring.{sides_of}
use Rattle.rectilinear.specs.Simple.{IsStraight, AllStraight}
use Rattle.rectilinear.specs.Slabs.{xor, is_below, passes, is_left_of, is_odd_left, HasHeight, IsSlab, IsSlabList}
use Rattle.gds_library.specs.Writable.{IsWritableRing}
use Rattle.gds_stream.specs.Turned.{from_lowest, lowest_index, goes_right, other_way, turned_ring}
use Rattle.gds_stream.proofs.RotationLaws.{shifted, begun_stays, sides_shifted, flipped, sides_other_way, ring_begun}

-- counting by two

xor_swap : (a b : Bool) → xor a b ≡ xor b a
xor_swap true true = refl
xor_swap true false = refl
xor_swap false true = refl
xor_swap false false = refl

xor_group : (a b c : Bool) → xor a (xor b c) ≡ xor (xor a b) c
xor_group true true true = refl
xor_group true true false = refl
xor_group true false true = refl
xor_group true false false = refl
xor_group false b c = refl

xor_none : (a : Bool) → xor a false ≡ a
xor_none true = refl
xor_none false = refl

xor_both : (a : Bool) → xor a a ≡ false
xor_both true = refl
xor_both false = refl

odd_more : (ss : List RingSide) (s : RingSide) (x y : ℤ)
    → is_odd_left (ss ++ s ∷ []) x y ≡ xor (is_left_of s x y) (is_odd_left ss x y)
odd_more [] s x y = refl
odd_more (t ∷ ts) s x y =
    ap (λ (b : Bool). xor (is_left_of t x y) b) (odd_more ts s x y)
    ∙ xor_group (is_left_of t x y) (is_left_of s x y) (is_odd_left ts x y)
    ∙ ap (λ (b : Bool). xor b (is_odd_left ts x y)) (xor_swap (is_left_of t x y) (is_left_of s x y))
    ∙ sym (xor_group (is_left_of s x y) (is_left_of t x y) (is_odd_left ts x y))

odd_shifted : (ss : List RingSide) (x y : ℤ) → is_odd_left (shifted ss) x y ≡ is_odd_left ss x y
odd_shifted [] x y = refl
odd_shifted (s ∷ ss) x y = odd_more ss s x y

-- a straight side passes the same cells from its end to its beginning
left_flipped : (s : RingSide) (x y : ℤ) → IsStraight s → is_left_of (flipped s) x y ≡ is_left_of s x y
left_flipped s x y (inl h) =
    λ i. xor_swap (is_below s.b y) (is_below s.a y) i && int_le (sym h.0 i) x
left_flipped s x y (inr h) =
    let none : passes s y ≡ false = ap (λ (z : ℤ). xor (int_le z y) (is_below s.b y)) h.0 ∙ xor_both (is_below s.b y) in
    let back : passes (flipped s) y ≡ false = xor_swap (is_below s.b y) (is_below s.a y) ∙ none in
    ap (λ (b : Bool). b && int_le s.b.x x) back ∙ sym (ap (λ (b : Bool). b && int_le s.a.x x) none)

reverse_more : {X : Type 0} (x : X) (xs : List X) → reverse (x ∷ xs) ≡ reverse xs ++ x ∷ []
reverse_more x xs = reverse-append (x ∷ []) xs

odd_back : (ss : List RingSide) (x y : ℤ) → AllStraight ss → is_odd_left (reverse (map flipped ss)) x y ≡ is_odd_left ss x y
odd_back [] x y h = refl
odd_back (s ∷ ss) x y h =
    ap (λ (l : List RingSide). is_odd_left l x y) (reverse_more (flipped s) (map flipped ss))
    ∙ odd_more (reverse (map flipped ss)) (flipped s) x y
    ∙ (λ i. xor (left_flipped s x y h.0 i) (odd_back ss x y h.1 i))

-- heights

height_more : (ps : List Point) (p : Point) (h : ℤ) → HasHeight (ps ++ p ∷ []) h ↔ HasHeight (p ∷ ps) h
height_more [] p h = (λ has. has, λ has. has)
height_more (q ∷ qs) p h =
    let more = height_more qs p h in (
      λ has. elim has [
        | inl e ↦ inr (inl e)
        | inr f ↦ elim (more.0 f) [ inl e ↦ inl e | inr g ↦ inr (inr g) ]
      ],
      λ has. elim has [
        | inl e ↦ inr (more.1 (inl e))
        | inr f ↦ elim f [ inl e ↦ inl e | inr g ↦ inr (more.1 (inr g)) ]
      ],
    )

height_back : (ps : List Point) (h : ℤ) → HasHeight (reverse ps) h ↔ HasHeight ps h
height_back [] h = (λ has. has, λ has. has)
height_back (p ∷ ps) h =
    let more = height_more (reverse ps) p h in
    let back = height_back ps h in
    subst (λ (l : List Point). HasHeight l h ↔ HasHeight (p ∷ ps) h) (sym (reverse_more p ps)) (
      λ has. elim (more.0 has) [ inl e ↦ inl e | inr f ↦ inr (back.0 f) ],
      λ has. more.1 (elim has as (λ k. HasHeight (p ∷ reverse ps) h) [ inl e ↦ inl e | inr f ↦ inr (back.1 f) ]),
    )

-- rings with the same heights and the same cells inside

pub record SameInside (a b : List Point) : Type 0 where
  pub heights : (h : ℤ) → HasHeight a h ↔ HasHeight b h
  pub odd : (x y : ℤ) → is_odd_left (sides_of a) x y ≡ is_odd_left (sides_of b) x y

same_back : (a b : List Point) → SameInside a b → SameInside b a
same_back a b s = record { heights = λ h. ((s.heights h).1, (s.heights h).0); odd = λ x y. sym (s.odd x y) }

same_on : (a b c : List Point) → SameInside a b → SameInside b c → SameInside a c
same_on a b c s t = record {
  heights = λ h. (λ has. (t.heights h).0 ((s.heights h).0 has), λ has. (s.heights h).1 ((t.heights h).1 has));
  odd = λ x y. s.odd x y ∙ t.odd x y;
}

same_shifted : (ps : List Point) → SameInside (shifted ps) ps
same_shifted [] = record { heights = λ h. (λ has. has, λ has. has); odd = λ x y. refl }
same_shifted (p ∷ ps) = record {
  heights = λ h. height_more ps p h;
  odd = λ x y. ap (λ (l : List RingSide). is_odd_left l x y) (sides_shifted (p ∷ ps)) ∙ odd_shifted (sides_of (p ∷ ps)) x y;
}

other_heights : (ps : List Point) (h : ℤ) → HasHeight (other_way ps) h ↔ HasHeight ps h
other_heights [] h = (λ has. has, λ has. has)
other_heights (p ∷ ps) h =
    let back = height_back ps h in (
      λ has. elim has [ inl e ↦ inl e | inr f ↦ inr (back.0 f) ],
      λ has. elim has [ inl e ↦ inl e | inr f ↦ inr (back.1 f) ],
    )

same_other_way : (ps : List Point) → AllStraight (sides_of ps) → SameInside (other_way ps) ps
same_other_way ps straight = record {
  heights = λ h. other_heights ps h;
  odd = λ x y. ap (λ (l : List RingSide). is_odd_left l x y) (sides_other_way ps) ∙ odd_back (sides_of ps) x y straight;
}

same_ring : (corners : List Point) → SameInside corners corners
same_ring corners = record { heights = λ h. (λ has. has, λ has. has); odd = λ x y. refl }

same_turned : (corners : List Point) → IsWritableRing corners → SameInside (turned_ring corners) corners
same_turned corners w =
    let begun : SameInside (from_lowest corners) corners =
    begun_stays (λ (l : List Point). SameInside l corners) (λ l s. same_on (shifted l) l corners (same_shifted l) s)
    (lowest_index corners) corners (same_ring corners) in
    let straight = (ring_begun (lowest_index corners) corners w).simple.straight in
    elim (goes_right (from_lowest corners)) as
    (λ b. SameInside (cond b (from_lowest corners) (other_way (from_lowest corners))) corners) [
      | true ↦ begun
      | false ↦ same_on (other_way (from_lowest corners)) (from_lowest corners) corners
          (same_other_way (from_lowest corners) straight) begun
    ]

-- slabs

same_slab : (a b : List Point) (r : Rect) → SameInside a b → IsSlab a r → IsSlab b r
same_slab a b r s slab = record {
  heights = record {
    has_low = (s.heights r.y1).0 slab.heights.has_low;
    has_high = (s.heights r.y2).0 slab.heights.has_high;
    below = slab.heights.below;
    none = λ h has above. slab.heights.none h ((s.heights h).1 has) above;
  };
  inside = λ x y has. sym (s.odd x y) ∙ slab.inside x y has;
  left_end = λ y ge lt is. slab.left_end y ge lt (s.odd _ y ∙ is);
  right_end = λ y ge lt is. slab.right_end y ge lt (s.odd r.x2 y ∙ is);
}

same_list : (a b : List Point) (rects : List Rect) → SameInside a b → IsSlabList a rects → IsSlabList b rects
same_list a b rects s list = record {
  exact = λ r. (
    λ among. same_slab a b r s ((list.exact r).0 among),
    λ slab. (list.exact r).1
        (same_slab b a r (same_back a b s) slab),
  );
  distinct = list.distinct;
}

-- a ring has the slabs of the ring turned
pub turned_slabs : (corners : List Point) (rects : List Rect) → IsWritableRing corners
    → IsSlabList (turned_ring corners) rects ↔ IsSlabList corners rects
turned_slabs corners rects w =
    let same = same_turned corners w in (
      same_list (turned_ring corners) corners rects same,
      same_list corners (turned_ring corners) rects (same_back (turned_ring corners) corners same),
    )
