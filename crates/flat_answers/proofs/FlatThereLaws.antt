-- The flat shapes and labels of a structure whose chains are sound are listed.
use Rattle.std.proofs.Common.{◌≡◌, ◌⊎◌, inl, inr, ℕ, zero, suc, ◌≤◌, List, [], ◌∷◌, length, refl, sym, subst, arith, ◌↔◌}
use Rattle.std.specs.List.{AllByRecursion}
use Rattle.or_geom.specs.declared.shape.Shape.{Shape}
use Rattle.or_geom.specs.declared.place.Place.{Place}
use Rattle.or_geom.specs.Place.{placed, low_corner, high_corner}
use Rattle.or_geom.proofs.PlaceLaws.{corners_differ}
use Rattle.gds_library.specs.declared.library.Structure.{Structure}
use Rattle.gds_library.specs.Writable.{IsWritableCell}
use Rattle.tech_rules.specs.declared.tech.Layer.{Layer}
use Rattle.element_drawing.specs.PlainLabel.{PlainLabel}
use Rattle.element_drawing.specs.OwnLabels.{own_labels}
use Rattle.cell_chains.specs.Instances.{Item}
use Rattle.cell_chains.specs.Chains.{elements_of, IsItemOf, IsChain, IsSound}
use Rattle.cell_chains.proofs.ChainLaws.{writable_elements}
use Rattle.cell_hierarchy.specs.FlatSet.{IsOwnShape, IsMoved, IsShapeBy, IsFlatShape, path_under, IsLabelMoved, IsLabelBy, IsFlatLabel}
use Rattle.cell_hierarchy.proofs.ComposeLaws.{has_between}
use Rattle.cell_hierarchy.proofs.MovedLaws.{moved_once}
use Rattle.cell_hierarchy.proofs.OneSetLaws.{one_set}
use Rattle.flat_answers.proofs.ListedLaws.{Listed, listed_as, listed_either, listed_one, listed_over}
use Rattle.flat_answers.proofs.ItemLaws.{listed_items_of}
use Rattle.flat_answers.proofs.DrawnLaws.{shapes_there}

-- What stands at the ends of chains, where each structure's own things are listed and each item takes a thing over as one.
module _ {X : Type 0} (structs : List Structure) (By : List ℕ → List Item → X → Type 0) (Moved : Item → X → X → Type 0) where
  -- it stands at the end of a chain of at most n references
  abbrev IsByAtMost : ℕ → List ℕ → X → Type 0
  IsByAtMost n name x = (chain : List Item) × ((length chain ≤ n) × By name chain x)

  -- an item of the structure takes over what stands at the end of such a chain from its own structure
  abbrev IsTakenBy : ℕ → List ℕ → X → Type 0
  IsTakenBy n name x = (item : Item) × IsItemOf structs name item × ((inner : X) × IsByAtMost n item.cell inner × Moved item inner x)

  listed_at_most : ((name : List ℕ) → Listed (By name [])) → ((item : Item) (inner : X) → Listed (Moved item inner))
      → ((name : List ℕ) (item : Item) (items : List Item) (x : X)
      → By name (item ∷ items) x ↔ (IsItemOf structs name item × (inner : X) × By item.cell items inner × Moved item inner x))
      → (n : ℕ) (name : List ℕ) → Listed (IsByAtMost n name)
  listed_at_most own moved next zero name =
      listed_as (By name []) (IsByAtMost zero name) (λ x h. ([], (omega arith, h))) (λ x h. by x h.0 h.1.0 h.1.1) (own name)
    where
      by : (x : X) (chain : List Item) → length chain ≤ zero → By name chain x → By name [] x
      by x [] le h = h
      by x (item ∷ items) le h = absurd (omega (arith, le))
  listed_at_most own moved next (suc n) name = listed_as (λ (x : X). By name [] x ⊎ IsTakenBy n name x) (IsByAtMost (suc n) name)
      (λ x h. elim h [
        | inl here ↦ ([], (omega arith, here))
        | inr t ↦ let i = t.2 in let short = i.1.1.0 in (t.0 ∷ i.1.0, (omega (arith, short), (next name t.0 i.1.0 x).1 (t.1, i.0, i.1.1.1, i.2)))
      ])
      (λ x h. by x h.0 h.1.0 h.1.1)
      (listed_either (By name []) (IsTakenBy n name) (own name)
      (listed_over (IsItemOf structs name) (λ (item : Item) (x : X). (inner : X) × IsByAtMost n item.cell inner × Moved item inner x)
      (listed_items_of structs name) (λ item.
      listed_over (IsByAtMost n item.cell) (Moved item) (listed_at_most own moved next n item.cell) (moved item))))
    where
      by : (x : X) (chain : List Item) → length chain ≤ suc n → By name chain x → By name [] x ⊎ IsTakenBy n name x
      by x [] le h = inl h
      by x (item ∷ items) le h = let k = (next name item items x).0 h in inr (item, k.0, (k.1, (items, (omega (arith, le), k.2)), k.3))

-- An item takes a shape or a label over as one.
listed_moved : (place : Place) (inner : Shape) → Listed (IsMoved place inner)
listed_moved place inner =
    let c = corners_differ place inner.rect in
    let b = has_between (placed place (low_corner inner.rect)) (placed place (high_corner inner.rect)) c.0 c.1 in
    let s : Shape = record { layer = inner.layer; rect = b.rect } in
    let moved : IsMoved place inner s = record { layer = refl; image = b.is } in
    listed_as (λ (t : Shape). t ≡ s) (IsMoved place inner) (λ t e. subst (IsMoved place inner) (sym e) moved)
    (λ t m. moved_once place inner t s m moved) (listed_one s)

listed_label : (item : Item) (inner : PlainLabel) → Listed (IsLabelMoved item inner)
listed_label item inner =
    let l : PlainLabel = record { path = path_under item.name inner.path; name = inner.name; layer = inner.layer; at = placed item.place inner.at } in
    let moved : IsLabelMoved item inner l = record { path = refl; name = refl; layer = refl; at = refl } in
    listed_as (λ (k : PlainLabel). k ≡ l) (IsLabelMoved item inner) (λ k e. subst (IsLabelMoved item inner) (sym e) moved)
    (λ k m. λ i. record { path = m.path i; name = m.name i; layer = m.layer i; at = m.at i }) (listed_one l)

module _ (layers : List Layer) (structs : List Structure) where
  shape_chain : (name : List ℕ) (chain : List Item) (s : Shape) → IsShapeBy layers structs name chain s
      → (to : List ℕ) × IsChain structs name chain to
  shape_chain name [] s h = (name, refl)
  shape_chain name (item ∷ items) s h = let rest = shape_chain item.cell items h.1 h.2 in (rest.0, (h.0, rest.1))

  label_chain : (name : List ℕ) (chain : List Item) (l : PlainLabel) → IsLabelBy layers structs name chain l
      → (to : List ℕ) × IsChain structs name chain to
  label_chain name [] l h = (name, refl)
  label_chain name (item ∷ items) l h = let rest = label_chain item.cell items h.1 h.2 in (rest.0, (h.0, rest.1))

  own_shapes_listed : AllByRecursion IsWritableCell structs → (name : List ℕ) → Listed (IsOwnShape layers (elements_of structs name))
  own_shapes_listed w name =
      let es = elements_of structs name in
      let writable = writable_elements structs name w in
      let drawn = shapes_there layers es writable in (
        drawn.0,
        λ s. (
          λ h. record { shapes = drawn.0; drawn = drawn.1; among = h },
          λ o. one_set layers es o.shapes drawn.0 writable o.drawn drawn.1 s o.among,
        ),
      )

  pub flat_shapes_listed : (top : List ℕ) → AllByRecursion IsWritableCell structs → IsSound structs top → Listed (IsFlatShape layers structs top)
  flat_shapes_listed top w sound =
      listed_as (IsByAtMost structs (IsShapeBy layers structs) (λ item. IsMoved item.place) 32 top) (IsFlatShape layers structs top)
      (λ s h. record { chain = h.0; stands = h.1.1 })
      (λ s f. let c = shape_chain top f.chain s f.stands in (f.chain, (sound.short f.chain c.0 c.1, f.stands)))
      (listed_at_most structs (IsShapeBy layers structs) (λ item. IsMoved item.place) (own_shapes_listed w) (λ item. listed_moved item.place)
      (λ name item items s. (λ h. h, λ h. h)) 32 top)

  pub flat_labels_listed : (top : List ℕ) → IsSound structs top → Listed (IsFlatLabel layers structs top)
  flat_labels_listed top sound =
      listed_as (IsByAtMost structs (IsLabelBy layers structs) IsLabelMoved 32 top) (IsFlatLabel layers structs top)
      (λ l h. record { chain = h.0; stands = h.1.1 })
      (λ l f. let c = label_chain top f.chain l f.stands in (f.chain, (sound.short f.chain c.0 c.1, f.stands)))
      (listed_at_most structs (IsLabelBy layers structs) IsLabelMoved
      (λ name. (own_labels layers (elements_of structs name), λ l. (λ h. h, λ h. h))) listed_label (λ name item items l. (λ h. h, λ h. h)) 32 top)
