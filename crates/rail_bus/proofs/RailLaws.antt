-- The highest taps of rails, and the shapes of taps and rails.
use Rattle.std.proofs.Common.{◌≡◌, ◌≢◌, ◌⊎◌, inl, inr, ℕ, ◌+◌, ◌<◌, ℤ, ◌≤ℤ◌, ◌+ℤ◌, pos, List, [], ◌∷◌, ◌++◌, length, get_or, get_or-set_same, get_or-set_other, w64, to_z, of_z, refl, sym, ap, subst, ◌∙◌, arith}
use Rattle.std.specs.Prelude.{Contains, slice_get, slice_index, Some, slice_set}
use Rattle.std.specs.Int.{int_max}
use Rattle.std.proofs.lemmas.Bool.{cases_eq}
use Rattle.std.proofs.lemmas.Option.{slice_get-get_or, slice_get_within, get_or_from_slice_get}
use Rattle.std.proofs.lemmas.Int.{ints, clamps, by_lt_z}
use Rattle.std.proofs.lemmas.List.{length-set, length-map, get_or-map}
use Rattle.std.proofs.lemmas.List.Elements.{All-contains, Contains-append_left, Contains-append_right, Contains-append_cases}
use Rattle.or_geom.specs.declared.shape.Shape.{Shape}
use Rattle.or_geom.specs.Distance.{IsNear}
use Rattle.or_geom.proofs.ListLaws.{contains_cases, contains_none, contains_first, below_or, one_at}
use Rattle.or_geom.specs.Adds.{Adds}
use Rattle.or_geom.specs.Gathering.{SomeGives}
use Rattle.or_geom.proofs.AddsLaws.{adds_one, adds_both, adds_as}
use Rattle.wire_drawing.proofs.DrawingLaws.{same_box}
use Rattle.wire_drawing.specs.declared.route.Tap.{Tap}
use Rattle.tech_rules.specs.declared.tech.Wire.{Wire}
use Rattle.wire_drawing.specs.Drawing.{IsBox, IsVia}
use Rattle.rail_bus.specs.Rails.{AreNearTaps, AreRails, AreTapped, IsHighest, IsNearTap, IsOfTap, IsRail, IsTapOf, tap_ys}
use Rattle.rail_bus.specs.Highest.{IsHighestAbove, AreHighestAbove, IsRailTo, IsRailBelow}

pub kept : (z : ℤ) → IsNear z → to_z w64 (of_z w64 z) ≡ z
kept z near = omega (arith, ints, near.above, near.below)

tap_of_more : (front : List Tap) (tap : Tap) (rail : ℕ) (y : ℤ) → IsTapOf front rail y → IsTapOf (front ++ tap ∷ []) rail y
tap_of_more front tap rail y t = record { tap = t.tap; listed = Contains-append_left front (tap ∷ []) t.tap t.listed; of_rail = t.of_rail; at_y = t.at_y }

tap_of_last : (front : List Tap) (tap : Tap) (m : ℤ) → m ≡ tap.y → IsTapOf (front ++ tap ∷ []) tap.rail m
tap_of_last front tap m is = record { tap = tap; listed = Contains-append_right front (tap ∷ []) tap (contains_first tap []); of_rail = refl; at_y = sym is }

tap_of_cases : (front : List Tap) (tap : Tap) (rail : ℕ) (y : ℤ) → IsTapOf (front ++ tap ∷ []) rail y → IsTapOf front rail y ⊎ ((tap.rail ≡ rail) × (tap.y ≡ y))
tap_of_cases front tap rail y t = elim (Contains-append_cases front (tap ∷ []) t.tap t.listed) [
  | inl before ↦ inl (record { tap = t.tap; listed = before; of_rail = t.of_rail; at_y = t.at_y })
  | inr last ↦ elim (contains_cases tap [] t.tap last) [
    | inl is ↦ inr (ap (λ (u : Tap). u.rail) (sym is) ∙ t.of_rail, ap (λ (u : Tap). u.y) (sym is) ∙ t.at_y)
    | inr none ↦ absurd (contains_none t.tap none)
  ]
]

-- one tap more of another rail
higher_elsewhere : (low : ℤ) (front : List Tap) (tap : Tap) (rail : ℕ) (y : ℤ) → (rail ≡ tap.rail → ⊥) → IsHighestAbove low front rail y → IsHighestAbove low (front ++ tap ∷ []) rail y
higher_elsewhere low front tap rail y other h = record {
  above = h.above;
  reached = elim h.reached [ inl is ↦ inl is | inr t ↦ inr (tap_of_more front tap rail y t) ];
  highest = λ z t. elim (tap_of_cases front tap rail z t) [ inl before ↦ h.highest z before | inr here ↦ absurd (other (sym here.0)) ];
}

-- one tap more of this rail
higher_here : (low : ℤ) (front : List Tap) (tap : Tap) (y m : ℤ) → y ≤ℤ m → tap.y ≤ℤ m → (m ≡ y) ⊎ (m ≡ tap.y) → IsHighestAbove low front tap.rail y → IsHighestAbove low (front ++ tap ∷ []) tap.rail m
higher_here low front tap y m above_y above_tap one h = record {
  above = let a = h.above in omega (arith, ints, a, above_y);
  reached = reached one h.reached;
  highest = λ z t. elim (tap_of_cases front tap tap.rail z t) [
    | inl before ↦ let le = h.highest z before in omega (arith, ints, le, above_y)
    | inr here ↦ let e = here.1 in omega (arith, ints, e, above_tap)
  ];
} where
  reached : (m ≡ y) ⊎ (m ≡ tap.y) → (y ≡ low) ⊎ IsTapOf front tap.rail y → (m ≡ low) ⊎ IsTapOf (front ++ tap ∷ []) tap.rail m
  reached (inl same) (inl is) = inl (same ∙ is)
  reached (inl same) (inr t) = inr (tap_of_more front tap tap.rail m (subst (λ (z : ℤ). IsTapOf front tap.rail z) (sym same) t))
  reached (inr is) _ = inr (tap_of_last front tap m is)

pub highest_more : (low : ℤ) (rails : ℕ) (front : List Tap) (tap : Tap) (highest : List ℤ) (m : ℤ) → AreHighestAbove low rails front highest → tap.rail < rails → get_or highest tap.rail low ≤ℤ m → tap.y ≤ℤ m
    → (m ≡ get_or highest tap.rail low) ⊎ (m ≡ tap.y) → AreHighestAbove low rails (front ++ tap ∷ []) (slice_set highest tap.rail m)
highest_more low rails front tap highest m are inside above_old above_tap one = record {
  each = length-set highest tap.rail m ∙ are.each;
  is = λ rail lt. elim (cases_eq rail tap.rail) [
    | inl same ↦ subst (λ (r : ℕ). IsHighestAbove low (front ++ tap ∷ []) r (get_or (slice_set highest tap.rail m) r low)) (sym same) here
    | inr other ↦ elsewhere rail lt other
  ];
} where
  here : IsHighestAbove low (front ++ tap ∷ []) tap.rail (get_or (slice_set highest tap.rail m) tap.rail low)
  here = let sized : tap.rail < length highest = let e = are.each in omega (arith, e, inside) in rw get_or-set_same (higher_here low front tap (get_or highest tap.rail low) m above_old above_tap one (are.is tap.rail inside))

  elsewhere : (rail : ℕ) → rail < rails → (rail ≡ tap.rail → ⊥) → IsHighestAbove low (front ++ tap ∷ []) rail (get_or (slice_set highest tap.rail m) rail low)
  elsewhere rail lt other = let ne : rail ≢ tap.rail = other in rw get_or-set_other (higher_elsewhere low front tap rail (get_or highest rail low) other (are.is rail lt))

pub max_of : (a b m : ℤ) → m ≡ int_max a b → (a ≤ℤ m) × (b ≤ℤ m) × ((m ≡ a) ⊎ (m ≡ b))
max_of a b m is = (
  omega (arith, ints, clamps, is),
  omega (arith, ints, clamps, is),
  by_lt_z {P = (m ≡ a) ⊎ (m ≡ b)} a b (λ less. inr (omega (arith, ints, clamps, is, less))) (λ more. inl (omega (arith, ints, clamps, is, more))),
)

-- one rail more
pub rail_more : (low : ℤ) (xs highest : List ℤ) (wire : Wire) (k : ℕ) (old now new : List Shape) (shape : Shape) → Adds old now (IsRailBelow low xs highest wire k) → new ≡ now ++ shape ∷ [] → IsRailTo low xs highest wire k shape → Adds old new (IsRailBelow low xs highest wire (k + 1))
rail_more low xs highest wire k old now new shape before grown drawn =
    adds_as old new (λ s. IsRailBelow low xs highest wire k s ⊎ IsRailTo low xs highest wire k s) (IsRailBelow low xs highest wire (k + 1))
    (λ s rail. elim rail [ inl below ↦ (let lt = below.1 in (below.0, omega (arith, lt), below.2)) | inr here ↦ (k, omega arith, here) ])
    (λ s rail. elim (below_or rail.0 k rail.1) [
      | inl lt ↦ inl (rail.0, lt, rail.2)
      | inr same ↦ inr (subst (λ (r : ℕ). IsRailTo low xs highest wire r s) same rail.2)
    ])
    (adds_both old now new (IsRailBelow low xs highest wire k) (IsRailTo low xs highest wire k) before (adds_one now new shape (IsRailTo low xs highest wire k) grown drawn once)) where
      once : (s : Shape) → IsRailTo low xs highest wire k s → s ≡ shape
      once s r =
          let x = one_at xs k r.x drawn.x r.at_x drawn.at_x in
          let y = one_at highest k r.y drawn.y r.at_y drawn.at_y in
          let same : IsBox (slice_index wire.metals 3) drawn.x low (drawn.x +ℤ wire.width) (drawn.y +ℤ wire.width) s =
          subst (λ (z : ℤ). IsBox (slice_index wire.metals 3) drawn.x low (drawn.x +ℤ wire.width) (z +ℤ wire.width) s) y
          (subst (λ (z : ℤ). IsBox (slice_index wire.metals 3) z low (z +ℤ wire.width) (r.y +ℤ wire.width) s) x r.drawn) in
          same_box (slice_index wire.metals 3) drawn.x low (drawn.x +ℤ wire.width) (drawn.y +ℤ wire.width) s shape same drawn.drawn

-- the wire and the cut of one tap
pub tap_adds : (xs : List ℤ) (wire : Wire) (tap : Tap) (x : ℤ) (old now new : List Shape) (a b : Shape) → slice_get xs tap.rail ≡ Some x → now ≡ old ++ a ∷ [] → new ≡ now ++ b ∷ []
    → IsBox (slice_index wire.metals 2) x tap.y tap.end (tap.y +ℤ wire.width) a → IsVia wire 2 x tap.y b → Adds old new (IsOfTap xs wire tap)
tap_adds xs wire tap x old now new a b at_x grown more is_wire is_cut =
    let IsWire : Shape → Type 0 = IsBox (slice_index wire.metals 2) x tap.y tap.end (tap.y +ℤ wire.width) in
    adds_as old new (λ s. IsWire s ⊎ IsVia wire 2 x tap.y s) (IsOfTap xs wire tap)
    (λ s kind. record { x = x; at_x = at_x; kind = kind })
    (λ s of_tap. subst (λ (z : ℤ). IsBox (slice_index wire.metals 2) z tap.y tap.end (tap.y +ℤ wire.width) s ⊎ IsVia wire 2 z tap.y s) (one_at xs tap.rail of_tap.x x of_tap.at_x at_x) of_tap.kind)
    (adds_both old now new IsWire (IsVia wire 2 x tap.y)
    (adds_one old now a IsWire grown is_wire (λ s w. same_box (slice_index wire.metals 2) x tap.y tap.end (tap.y +ℤ wire.width) s a w is_wire))
    (adds_one now new b (IsVia wire 2 x tap.y) more is_cut (λ s w. same_box _ _ _ _ _ s b w is_cut)))

-- the highest of the lower end and the taps of a rail that has one there or above
highest_tap : (low : ℤ) (xs : List ℤ) (taps : List Tap) (rail : ℕ) (y : ℤ) → AreTapped low xs taps → rail < length xs → IsHighestAbove low taps rail y → IsHighest taps rail y
highest_tap low xs taps rail y tapped inside above = record { tap = by above.reached; highest = above.highest } where
  by : (y ≡ low) ⊎ IsTapOf taps rail y → IsTapOf taps rail y
  by (inr t) = t
  by (inl is) =
      let some = tapped rail inside in
      let le = above.highest some.0 some.1 in
      let ge = some.2 in
      let e : some.0 ≡ y = omega (arith, ints, le, ge, is) in
      subst (λ (z : ℤ). IsTapOf taps rail z) e some.1

-- a rail up to the y of its highest tap is a rail, and back
rail_from : (low : ℤ) (xs highest : List ℤ) (taps : List Tap) (wire : Wire) (s : Shape) → AreHighestAbove low (length xs) taps highest → AreTapped low xs taps → IsRailBelow low xs highest wire (length xs) s → (rail : ℕ) × IsRail low xs taps wire rail s
rail_from low xs highest taps wire s are tapped (rail, inside, r) =
    let at : get_or highest rail low ≡ r.y = get_or_from_slice_get highest rail r.y low r.at_y in
    let above = subst (λ (y : ℤ). IsHighestAbove low taps rail y) at (are.is rail inside) in
    (rail, record { x = r.x; at_x = r.at_x; y = r.y; highest = highest_tap low xs taps rail r.y tapped inside above; drawn = r.drawn })

rail_to : (low : ℤ) (xs highest : List ℤ) (taps : List Tap) (wire : Wire) (s : Shape) → AreHighestAbove low (length xs) taps highest → AreTapped low xs taps → (rail : ℕ) → IsRail low xs taps wire rail s → IsRailBelow low xs highest wire (length xs) s
rail_to low xs highest taps wire s are tapped rail r =
    let inside : rail < length xs = slice_get_within xs rail r.x r.at_x in
    let sized : rail < length highest = let e = are.each in omega (arith, e, inside) in
    let other = highest_tap low xs taps rail (get_or highest rail low) tapped inside (are.is rail inside) in
    let le = other.highest r.y r.highest.tap in
    let ge = r.highest.highest (get_or highest rail low) other.tap in
    let e : get_or highest rail low ≡ r.y = omega (arith, ints, le, ge) in
    (rail, inside, record { x = r.x; at_x = r.at_x; y = r.y; at_y = slice_get-get_or highest rail low sized ∙ ap Some e; drawn = r.drawn })

-- what is added for the taps and then for the rails are all shapes
pub all_drawn : (low : ℤ) (xs highest : List ℤ) (taps : List Tap) (wire : Wire) (none now new : List Shape) → none ≡ [] → AreHighestAbove low (length xs) taps highest → AreTapped low xs taps
    → Adds none now (SomeGives (IsOfTap xs wire) taps) → Adds now new (IsRailBelow low xs highest wire (length xs)) → AreRails low xs taps wire new
all_drawn low xs highest taps wire none now new empty are tapped first second =
    let both = adds_both none now new (SomeGives (IsOfTap xs wire) taps) (IsRailBelow low xs highest wire (length xs)) first second in
    let is : new ≡ both.added = both.is ∙ ap (λ (l : List Shape). l ++ both.added) empty in
    record {
      all = λ s shape. subst (λ (l : List Shape). Contains l s) (sym is) (both.each s (elim shape [ inl tap ↦ inl tap | inr rail ↦ inr (rail_to low xs highest taps wire s are tapped rail.0 rail.1) ]));
      only = λ s there. elim (both.only s (subst (λ (l : List Shape). Contains l s) is there)) [ inl tap ↦ inl tap | inr rail ↦ inr (rail_from low xs highest taps wire s are tapped rail) ];
    }

default : (xs : List ℤ) (k : ℕ) (a b : ℤ) → k < length xs → get_or xs k a ≡ get_or xs k b
default xs k a b lt = get_or_from_slice_get xs k (get_or xs k b) a (slice_get-get_or xs k b lt)

-- the highest taps of rails are near, and none lies below the lower end
pub near_highest : (low : ℤ) (rails : ℕ) (taps : List Tap) (highest : List ℤ) → IsNear low → AreNearTaps taps → AreHighestAbove low rails taps highest → (k : ℕ) (d : ℤ) → k < length highest → IsNear (get_or highest k d)
near_highest low rails taps highest near near_taps are k d lt =
    let inside : k < rails = let e = are.each in omega (arith, e, lt) in
    subst IsNear (default highest k low d lt) (by (are.is k inside).reached) where
      by : (get_or highest k low ≡ low) ⊎ IsTapOf taps k (get_or highest k low) → IsNear (get_or highest k low)
      by (inl is) = subst IsNear (sym is) near
      by (inr t) = subst IsNear t.at_y (All-contains IsNearTap taps t.tap near_taps t.listed).y

pub above_low : (low : ℤ) (rails : ℕ) (taps : List Tap) (highest : List ℤ) → AreHighestAbove low rails taps highest → (k : ℕ) (d : ℤ) → k < length highest → low ≤ℤ get_or highest k d
above_low low rails taps highest are k d lt =
    let inside : k < rails = let e = are.each in omega (arith, e, lt) in
    subst (λ (y : ℤ). low ≤ℤ y) (default highest k low d lt) (are.is k inside).above

-- the places of near taps are near
pub near_ys : (taps : List Tap) → AreNearTaps taps → (k : ℕ) (d : ℤ) → k < length (tap_ys taps) → IsNear (get_or (tap_ys taps) k d)
near_ys taps near k d lt =
    let none : Tap = record { rail = 0; y = pos 0; end = pos 0 } in
    let inside : k < length taps = let e = length-map taps (λ (tap : Tap). tap.y) in omega (arith, e, lt) in
    subst IsNear (sym (get_or-map (λ (tap : Tap). tap.y) taps k none d inside)) (near k none inside).y
