-- Shapes of an instance that are on the net of no port: where they touch nothing outside of it, whatever they are on one net with is such a shape.
use Rattle.std.proofs.Common.{inl, inr, List, Contains, subst}
use Rattle.or_geom.specs.declared.shape.Shape.{Shape}
use Rattle.or_geom.specs.declared.place.Place.{Place}
use Rattle.tech_rules.specs.declared.tech.Connect.{Connect}
use Rattle.tech_rules.specs.Touch.{Touch}
use Rattle.tech_rules.specs.Net.{AreOnOneNet}
use Rattle.tech_rules.proofs.LinkedLaws.{linked_carries}
use Rattle.cell_hierarchy.specs.FlatSet.{IsMoved}
use Rattle.net_extractor.proofs.ExtractLaws.{touch_turned}
use Rattle.good_nets.specs.Parts.{Parts, IsShapeOf, IsFree, IsOutside, AreParts}
use Rattle.good_nets.proofs.MovedLaws.{touch_moved}
use Rattle.good_nets.proofs.PortLaws.{port_spreads}

module _ {N : Type 0} (connections : List Connect) (parts : Parts N) (shapes : List Shape) (are : AreParts connections parts shapes)
    (apart : (i : parts.Instance) (inner s t : Shape) → IsShapeOf connections parts i inner s → IsFree connections parts i inner → IsOutside connections parts i t → Touch connections s t → ⊥) where
  pub record IsFreeIn (i : parts.Instance) (s : Shape) : Type 0 where
    pub inner : Shape
    pub is : IsShapeOf connections parts i inner s
    pub free : IsFree connections parts i inner

  -- what touches one is one (which nobody has to decide)
  free_touch : (i : parts.Instance) (s t : Shape) → IsFreeIn i s → Contains shapes t → Touch connections s t → (IsFreeIn i t → ⊥) → ⊥
  free_touch i s t f listed touch none = elim (are.all t listed) [
    | inl h ↦ apart i f.inner s t f.is f.free (inl (record { other = h.0; differ = λ twin. own h.0 h.1 h.2 twin; inner = h.1; is = h.2 })) touch
    | inr wire ↦ apart i f.inner s t f.is f.free (inr wire) touch
  ] where
    own : (j : parts.Instance) (inner : Shape) → IsShapeOf connections parts j inner t → parts.Twin i j → ⊥
    own j inner is twin =
        let twins = are.twins i j twin in
        let there = subst (λ (xs : List Shape). Contains xs inner) twins.cell is.listed in
        let moved = subst (λ (p : Place). IsMoved p inner t) twins.place is.moved in
        none (record {
          inner = inner;
          is = record { listed = there; moved = moved };
          free = λ port on. f.free port (port_spreads connections (parts.cell i) (parts.Bound i) port inner f.inner on f.is.listed ((touch_moved connections (parts.place i) inner f.inner t s (are.plain i) moved f.is.moved).1 (touch_turned connections s t touch)));
        })

  -- So is what it is on one net with.
  pub free_net : (i : parts.Instance) (s t : Shape) → IsFreeIn i s → AreOnOneNet connections shapes s t → (IsFreeIn i t → ⊥) → ⊥
  free_net i s t f net =
      linked_carries (Contains shapes) (Touch connections) (λ (x : Shape). (IsFreeIn i x → ⊥) → ⊥) (λ x y held listed touch none. held (λ of. free_touch i x y of listed touch none)) s t (λ none. none f) net
