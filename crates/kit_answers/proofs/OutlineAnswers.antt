-- A cell has an outline, or none.
use Rattle.std.proofs.Common.{◌≡◌, ◌⊎◌, inl, inr, ℕ, pos, ◌≤ℤ◌, List, [], ◌∷◌, refl, sym, subst, ◌∙◌}
use Rattle.std.specs.Prelude.{Contains}
use Rattle.std.proofs.lemmas.Bool.{cases_eq}
use Rattle.or_geom.specs.declared.shape.Rect.{Rect}
use Rattle.or_geom.specs.declared.shape.Shape.{Shape}
use Rattle.or_geom.specs.Containing.{HoldsRect}
use Rattle.or_geom.proofs.ListLaws.{contained_at, contains_cases, contains_first, contains_later, contains_none}
use Rattle.tech_rules.specs.declared.tech.Wire.{Wire}
use Rattle.leaf_shapes.specs.declared.fit.CellSize.{CellSize}
use Rattle.leaf_shapes.specs.Outline.{AreAll, IsAlone, IsCellOutline, IsOn, IsWireLayer, LieInside}
use Rattle.kit_answers.proofs.DecidingLaws.{Decided, all_or_first, decide_at_most, decide_both, decide_int, good_contained, turned}
use Rattle.kit_answers.proofs.ShapeLaws.{decide_holds, decide_shape}

decide_number : (numbers : List ℕ) (n : ℕ) → Decided (Contains numbers n)
decide_number [] n = inr (λ h. contains_none n h)
decide_number (m ∷ ms) n = elim (cases_eq n m) [
  | inl here ↦ inl (subst (λ (k : ℕ). Contains (m ∷ ms) k) (sym here) (contains_first m ms))
  | inr other ↦ elim (decide_number ms n) [
    | inl later ↦ inl (contains_later m ms n later)
    | inr none ↦ inr (λ h. elim (contains_cases m ms n h) [ inl here ↦ other here | inr later ↦ none later ])
  ]
]

module _ (wire : Wire) (outline : ℕ) (shapes : List Shape) where
  -- the first shape on the layer is alone there, or none is
  others_same : (one : Shape) → IsOn outline shapes one → Decided (AreAll outline shapes one)
  others_same one on =
      let Other : Shape → Type 0 = λ s. (s.layer ≡ outline) × (s ≡ one → ⊥) in
      let Same : Shape → Type 0 = λ s. s.layer ≡ outline → s ≡ one in
      elim (all_or_first Same Other shapes (λ k s there. same_or_other s (cases_eq s.layer outline) (decide_shape s one))) [
        | inl same ↦ inl (λ s is. good_contained Same shapes same s is.listed is.on)
        | inr first ↦
            inr (λ all. first.bad.1 (all first.item (record { listed = contained_at shapes first.place first.item first.there; on = first.bad.0 })))
      ]
    where
      same_or_other : (s : Shape) → Decided (s.layer ≡ outline) → Decided (s ≡ one)
          → (s.layer ≡ outline → s ≡ one) ⊎ ((s.layer ≡ outline) × (s ≡ one → ⊥))
      same_or_other s (inr off) same = inl (λ here. absurd (off here))
      same_or_other s (inl here) (inl same) = inl (λ here. same)
      same_or_other s (inl here) (inr other) = inr (here, other)

  alone_or_none : ((one : Shape) × IsAlone outline shapes one) ⊎ ((one : Shape) → IsAlone outline shapes one → ⊥)
  alone_or_none =
      elim (all_or_first (λ (s : Shape). s.layer ≡ outline → ⊥) (λ (s : Shape). s.layer ≡ outline) shapes
      (λ k s there. turned (s.layer ≡ outline) (cases_eq s.layer outline))) [
        | inl none ↦ inr (λ one alone. good_contained (λ (s : Shape). s.layer ≡ outline → ⊥) shapes none one alone.there.listed alone.there.on)
        | inr first ↦
            let on : IsOn outline shapes first.item = record { listed = contained_at shapes first.place first.item first.there; on = first.bad } in
            elim (others_same first.item on) [
              | inl only ↦ inl (first.item, record { there = on; only = only })
              | inr more ↦ inr (λ one alone. more (λ s is. alone.only s is ∙ sym (alone.only first.item on)))
            ]
      ]

  decide_wire_layer : (layer : ℕ) → Decided (IsWireLayer wire layer)
  decide_wire_layer layer = elim (decide_number wire.metals layer) [
    | inl metal ↦ inl (inl metal)
    | inr no_metal ↦ elim (decide_number wire.cuts layer) [
      | inl cut ↦ inl (inr cut)
      | inr no_cut ↦ inr (λ h. elim h [ inl metal ↦ no_metal metal | inr cut ↦ no_cut cut ])
    ]
  ]

  -- shapes on metals and cuts lie inside, or one doesn't
  inside_or_not : (outer : Rect) → Decided (LieInside wire outer shapes)
  inside_or_not outer =
      let In : Shape → Type 0 = λ s. IsWireLayer wire s.layer → HoldsRect outer s.rect in
      let Out : Shape → Type 0 = λ s. IsWireLayer wire s.layer × (HoldsRect outer s.rect → ⊥) in
      elim (all_or_first In Out shapes (λ k s there. in_or_out s (decide_wire_layer s.layer) (decide_holds outer s.rect))) [
        | inl inside ↦ inl (λ s listed. good_contained In shapes inside s listed)
        | inr first ↦ inr (λ all. first.bad.1 (all first.item (contained_at shapes first.place first.item first.there) first.bad.0))
      ]
    where
      in_or_out : (s : Shape) → Decided (IsWireLayer wire s.layer) → Decided (HoldsRect outer s.rect)
          → (IsWireLayer wire s.layer → HoldsRect outer s.rect) ⊎ (IsWireLayer wire s.layer × (HoldsRect outer s.rect → ⊥))
      in_or_out s (inr off) inside = inl (λ here. absurd (off here))
      in_or_out s (inl here) (inl inside) = inl (λ here. inside)
      in_or_out s (inl here) (inr out) = inr (here, out)

  -- what the one shape has to be
  abbrev Fits : Shape → Type 0
  Fits s = ((s.rect.x1 ≡ pos 0) × (s.rect.y1 ≡ pos 0)) × (((s.rect.x2 ≤ℤ pos 65536) × (s.rect.y2 ≤ℤ pos 65536)) × LieInside wire s.rect shapes)

  decide_fit : (s : Shape) → Decided (Fits s)
  decide_fit s =
      decide_both ((s.rect.x1 ≡ pos 0) × (s.rect.y1 ≡ pos 0)) (((s.rect.x2 ≤ℤ pos 65536) × (s.rect.y2 ≤ℤ pos 65536)) × LieInside wire s.rect shapes)
      (decide_both (s.rect.x1 ≡ pos 0) (s.rect.y1 ≡ pos 0) (decide_int s.rect.x1 (pos 0)) (decide_int s.rect.y1 (pos 0)))
      (decide_both ((s.rect.x2 ≤ℤ pos 65536) × (s.rect.y2 ≤ℤ pos 65536)) (LieInside wire s.rect shapes)
      (decide_both (s.rect.x2 ≤ℤ pos 65536) (s.rect.y2 ≤ℤ pos 65536) (decide_at_most s.rect.x2 (pos 65536)) (decide_at_most s.rect.y2 (pos 65536)))
      (inside_or_not s.rect))

  fits_outline : (size : CellSize) (o : IsCellOutline wire outline shapes size) → Fits o.shape
  fits_outline size o = (
    (o.is.left, o.is.low),
    ((subst (λ z. z ≤ℤ pos 65536) (sym o.is.right) o.narrow, subst (λ z. z ≤ℤ pos 65536) (sym o.is.high) o.low), o.inside),
  )

  pub outline_or_none : ((size : CellSize) × IsCellOutline wire outline shapes size)
      ⊎ ((size : CellSize) → IsCellOutline wire outline shapes size → ⊥)
  outline_or_none = elim alone_or_none [
    | inr none ↦ inr (λ size o. none o.shape o.alone)
    | inl one ↦ elim (decide_fit one.0) [
      | inl fits ↦ inl (
        record { width = one.0.rect.x2; height = one.0.rect.y2 },
        record {
          shape = one.0;
          alone = one.1;
          is = record { on = one.1.there.on; left = fits.0.0; low = fits.0.1; right = refl; high = refl };
          narrow = fits.1.0.0;
          low = fits.1.0.1;
          inside = fits.1.1;
        },
      )
      | inr not ↦ inr (λ size o. not (subst Fits (one.1.only o.shape o.alone.there) (fits_outline size o)))
    ]
  ]
