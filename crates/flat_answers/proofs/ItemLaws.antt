-- The items of a structure are listed.
use Rattle.std.proofs.Common.{◌≡◌, ℕ, suc, ◌<◌, ℤ, pos, ◌<ℤ◌, List, [], ◌∷◌, refl, sym, ap, subst, arith, ◌↔◌}
use Rattle.std.specs.Prelude.{unsigned_abs}
use Rattle.std.proofs.lemmas.Int.{ints, by_lt_z}
use Rattle.or_geom.specs.declared.shape.Point.{Point}
use Rattle.or_geom.specs.declared.place.Place.{Place}
use Rattle.gds_library.specs.declared.library.Prop.{Prop}
use Rattle.gds_library.specs.declared.library.Element.{Element}
use Rattle.gds_library.specs.declared.library.Element.TheVariants.{Boundary, Path, Sref, Aref, Text}
use Rattle.gds_library.specs.declared.library.Structure.{Structure}
use Rattle.cell_chains.specs.Instances.{Item, HasItem, IsReferenceItem, IsArrayItem, reference_name, array_name, item_place}
use Rattle.cell_chains.specs.Chains.{elements_of, IsItemFrom, IsItemOf}
use Rattle.flat_answers.proofs.ListedLaws.{Listed, listed_none, listed_one, listed_as, listed_either, listed_over, listed_below}

abbrev item : List ℕ → List ℕ → Place → Item
item name cell place = record { name = name; cell = cell; place = place }

same_item : (a b : Item) → a.name ≡ b.name → a.cell ≡ b.cell → a.place ≡ b.place → a ≡ b
same_item a b name cell place = λ i. record { name = name i; cell = cell i; place = place i }

-- as many as the number says, none where it is negative
count_of : (z : ℤ) → (count : ℕ) × ((k : ℕ) → (pos k <ℤ z) ↔ (k < count))
count_of z = by_lt_z z (pos 0)
    (λ lt. (0, λ k. (λ h. omega (arith, ints, lt, h), λ h. omega (arith, ints, h))))
    (λ ge. (unsigned_abs z, λ k. (λ h. omega (arith, ints, ge, h), λ h. omega (arith, ints, ge, h))))

listed_places : (z : ℤ) → Listed (λ (k : ℕ). pos k <ℤ z)
listed_places z = let c = count_of z in listed_as (λ (k : ℕ). k < c.0) (λ (k : ℕ). pos k <ℤ z) (λ k. (c.1 k).1) (λ k. (c.1 k).0) (listed_below c.0)

abbrev Spot : ℤ → ℤ → ℕ × ℕ → Type 0
Spot columns rows spot = (pos spot.0 <ℤ columns) × (pos spot.1 <ℤ rows)

listed_spots : (columns rows : ℤ) → Listed (Spot columns rows)
listed_spots columns rows =
    listed_as (λ (spot : ℕ × ℕ). (c : ℕ) × (pos c <ℤ columns) × ((r : ℕ) × (pos r <ℤ rows) × (spot ≡ (c, r)))) (Spot columns rows)
    (λ spot h. let e = h.2.2 in (subst_spot columns rows spot h.0 h.2.0 e h.1 h.2.1))
    (λ spot h. (spot.0, h.0, (spot.1, h.1, refl)))
    (listed_over (λ (c : ℕ). pos c <ℤ columns) (λ (c : ℕ) (spot : ℕ × ℕ). (r : ℕ) × (pos r <ℤ rows) × (spot ≡ (c, r))) (listed_places columns)
    (λ c. listed_over (λ (r : ℕ). pos r <ℤ rows) (λ (r : ℕ) (spot : ℕ × ℕ). spot ≡ (c, r)) (listed_places rows) (λ r. listed_one (c, r))))
  where
    subst_spot : (columns rows : ℤ) (spot : ℕ × ℕ) (c r : ℕ) → spot ≡ (c, r) → pos c <ℤ columns → pos r <ℤ rows → Spot columns rows spot
    subst_spot columns rows spot c r e in_columns in_rows = subst (Spot columns rows) (sym e) (in_columns, in_rows)

listed_array : (n : ℕ) (name : List ℕ) (place : Place) (columns rows : ℤ) (across down : Point)
    → Listed (IsArrayItem n name place columns rows across down)
listed_array n name place columns rows across down =
    listed_as (λ (i : Item). (spot : ℕ × ℕ) × Spot columns rows spot × (i ≡ at spot)) (IsArrayItem n name place columns rows across down)
    (λ i h. record {
      column = h.0.0;
      row = h.0.1;
      in_columns = h.1.0;
      in_rows = h.1.1;
      named = ap (λ (x : Item). x.name) h.2;
      cell = ap (λ (x : Item). x.cell) h.2;
      placed = ap (λ (x : Item). x.place) h.2;
    })
    (λ i h. ((h.column, h.row), (h.in_columns, h.in_rows), same_item i (at (h.column, h.row)) h.named h.cell h.placed))
    (listed_over (Spot columns rows) (λ (spot : ℕ × ℕ) (i : Item). i ≡ at spot) (listed_spots columns rows) (λ spot. listed_one (at spot)))
  where
    at : ℕ × ℕ → Item
    at spot = item (array_name n spot.0 spot.1) name (item_place place spot.0 spot.1 across down)

listed_reference : (n : ℕ) (name : List ℕ) (place : Place) (props : List Prop) → Listed (IsReferenceItem n name place props)
listed_reference n name place props =
    let one : Item = item (reference_name n props) name place in
    listed_as (λ (i : Item). i ≡ one) (IsReferenceItem n name place props)
    (λ i e. record { named = ap (λ (x : Item). x.name) e; cell = ap (λ (x : Item). x.cell) e; placed = ap (λ (x : Item). x.place) e })
    (λ i h. same_item i one h.named h.cell h.placed) (listed_one one)

listed_item : (n : ℕ) (e : Element) → Listed (HasItem n e)
listed_item n (Boundary layer datatype points props) = listed_none (λ (i : Item). ⊥) (λ i h. h)
listed_item n (Path layer datatype kind width points props) = listed_none (λ (i : Item). ⊥) (λ i h. h)
listed_item n (Sref name place props) = listed_reference n name place props
listed_item n (Aref name place columns rows across down props) = listed_array n name place columns rows across down
listed_item n (Text layer texttype at string props) = listed_none (λ (i : Item). ⊥) (λ i h. h)

listed_items : (n : ℕ) (es : List Element) → Listed (IsItemFrom n es)
listed_items n [] = listed_none (λ (i : Item). ⊥) (λ i h. h)
listed_items n (e ∷ es) = listed_either (HasItem n e) (IsItemFrom (suc n) es) (listed_item n e) (listed_items (suc n) es)

pub listed_items_of : (structs : List Structure) (name : List ℕ) → Listed (IsItemOf structs name)
listed_items_of structs name = listed_items 0 (elements_of structs name)
