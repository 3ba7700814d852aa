-- The far points of a structure whose chains are sound are listed.
use Rattle.std.proofs.Common.{◌≡◌, ◌⊎◌, inl, inr, ℕ, ℤ, pos, ◌+ℤ◌, ◌^◌, List, refl, sym, ap, ◌∙◌, arith}
use Rattle.std.specs.List.{AllByRecursion}
use Rattle.std.specs.Prelude.{FitsSigned}
use Rattle.std.specs.Int.{w32}
use Rattle.std.proofs.lemmas.Int.{ints, by_lt_z}
use Rattle.or_geom.specs.declared.shape.Point.{Point}
use Rattle.or_geom.specs.declared.shape.Shape.{Shape}
use Rattle.or_geom.proofs.PlaceLaws.{same_point}
use Rattle.gds_records.specs.Values.{IsShort}
use Rattle.gds_library.specs.declared.library.Structure.{Structure}
use Rattle.gds_library.specs.Writable.{IsWritableCell}
use Rattle.tech_rules.specs.declared.tech.Layer.{Layer}
use Rattle.element_drawing.specs.PlainLabel.{PlainLabel}
use Rattle.cell_chains.specs.Chains.{IsSound}
use Rattle.cell_hierarchy.specs.FlatSet.{IsFlatShape, IsFlatLabel, IsCorner, IsCornerOfFlat, IsPointOfLabel, IsFar}
use Rattle.flat_answers.proofs.DecisionLaws.{Decided, decide_as, decide_both, decide_not}
use Rattle.flat_answers.proofs.ListedLaws.{Listed, listed_as, listed_either, listed_one, listed_over, listed_where}
use Rattle.flat_answers.proofs.FlatThereLaws.{flat_shapes_listed, flat_labels_listed}

decide_fits : (z : ℤ) → Decided (FitsSigned w32 z)
decide_fits z = by_lt_z (z +ℤ pos (2 ^ 31)) (pos 0) (λ lt. inr (λ f. omega (arith, ints, f, lt)))
    (λ low. by_lt_z z (pos (2 ^ 31)) (λ high. inl (omega (arith, ints, low, high))) (λ ge. inr (λ f. omega (arith, ints, f, ge))))

decide_short : (p : Point) → Decided (IsShort p)
decide_short p = decide_as (FitsSigned w32 p.x × FitsSigned w32 p.y) (IsShort p) (λ h. record { x = h.0; y = h.1 }) (λ s. (s.x, s.y))
    (decide_both _ _ (decide_fits p.x) (decide_fits p.y))

abbrev IsEither : ℤ → ℤ → ℤ → Type 0
IsEither a b z = (z ≡ a) ⊎ (z ≡ b)

listed_two : (a b : ℤ) → Listed (IsEither a b)
listed_two a b = listed_either (λ (z : ℤ). z ≡ a) (λ (z : ℤ). z ≡ b) (listed_one a) (listed_one b)

abbrev point : ℤ → ℤ → Point
point x y = record { x = x; y = y }

listed_corners : (s : Shape) → Listed (IsCorner s)
listed_corners s =
    let r = s.rect in
    listed_as (λ (p : Point). (x : ℤ) × IsEither r.x1 r.x2 x × ((y : ℤ) × IsEither r.y1 r.y2 y × (p ≡ point x y))) (IsCorner s)
    (λ p h. record {
      x = elim h.1 [ inl e ↦ inl (ap (λ (q : Point). q.x) h.2.2 ∙ e) | inr e ↦ inr (ap (λ (q : Point). q.x) h.2.2 ∙ e) ];
      y = elim h.2.1 [ inl e ↦ inl (ap (λ (q : Point). q.y) h.2.2 ∙ e) | inr e ↦ inr (ap (λ (q : Point). q.y) h.2.2 ∙ e) ];
    })
    (λ p c. (p.x, c.x, (p.y, c.y, same_point p (point p.x p.y) refl refl)))
    (listed_over (IsEither r.x1 r.x2) (λ (x : ℤ) (p : Point). (y : ℤ) × IsEither r.y1 r.y2 y × (p ≡ point x y)) (listed_two r.x1 r.x2)
    (λ x. listed_over (IsEither r.y1 r.y2) (λ (y : ℤ) (p : Point). p ≡ point x y) (listed_two r.y1 r.y2) (λ y. listed_one (point x y))))

module _ (layers : List Layer) (structs : List Structure) (top : List ℕ) (w : AllByRecursion IsWritableCell structs)
    (sound : IsSound structs top) where
  flat_corners : Listed (IsCornerOfFlat layers structs top)
  flat_corners = listed_as (λ (p : Point). (s : Shape) × IsFlatShape layers structs top s × IsCorner s p) (IsCornerOfFlat layers structs top)
      (λ p h. record { shape = h.0; flat = h.1; corner = h.2 }) (λ p c. (c.shape, c.flat, c.corner))
      (listed_over (IsFlatShape layers structs top) IsCorner (flat_shapes_listed layers structs top w sound) listed_corners)

  label_points : Listed (IsPointOfLabel layers structs top)
  label_points = listed_as (λ (p : Point). (l : PlainLabel) × IsFlatLabel layers structs top l × (p ≡ l.at)) (IsPointOfLabel layers structs top)
      (λ p h. record { label = h.0; flat = h.1; is = sym h.2 }) (λ p o. (o.label, o.flat, sym o.is))
      (listed_over (IsFlatLabel layers structs top) (λ (l : PlainLabel) (p : Point). p ≡ l.at) (flat_labels_listed layers structs top sound)
      (λ l. listed_one l.at))

  pub far_listed : Listed (IsFar layers structs top)
  far_listed = listed_as (λ (p : Point). (IsCornerOfFlat layers structs top p ⊎ IsPointOfLabel layers structs top p) × (IsShort p → ⊥))
      (IsFar layers structs top)
      (λ p h. record { stands = h.0; far = h.1 }) (λ p f. (f.stands, f.far))
      (listed_where (λ (p : Point). IsCornerOfFlat layers structs top p ⊎ IsPointOfLabel layers structs top p) (λ (p : Point). IsShort p → ⊥)
      (listed_either (IsCornerOfFlat layers structs top) (IsPointOfLabel layers structs top) flat_corners label_points)
      (λ p. decide_not (IsShort p) (decide_short p)))
