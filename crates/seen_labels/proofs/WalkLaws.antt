-- What is on one net with a shape of a net, in a layout whose nets are right, is of the net too.
use Rattle.std.proofs.Common.{◌≡◌, inl, inr, ℕ, List, Contains, Some, sym, subst}
use Rattle.std.specs.Prelude.{slice_get}
use Rattle.or_geom.specs.declared.shape.Shape.{Shape}
use Rattle.or_geom.specs.declared.place.Place.{Place}
use Rattle.netlist.specs.declared.rows.RowPin.{RowPin}
use Rattle.element_drawing.specs.PlainLabel.{PlainLabel}
use Rattle.tech_rules.specs.declared.tech.Connect.{Connect}
use Rattle.tech_rules.specs.Net.{AreOnOneNet}
use Rattle.tech_rules.specs.Touch.{Touch}
use Rattle.tech_rules.proofs.LinkedLaws.{linked_carries}
use Rattle.cell_hierarchy.specs.FlatSet.{IsMoved}
use Rattle.net_extractor.specs.PlainNetLabel.{PlainNetLabel}
use Rattle.net_extractor.proofs.ExtractLaws.{touch_turned}
use Rattle.good_nets.specs.Parts.{Parts, IsShapeOf, IsOnPortOf, IsOfNet, AreRightParts}
use Rattle.good_nets.specs.Ports.{IsOnPort}
use Rattle.good_nets.proofs.MovedLaws.{touch_moved}
use Rattle.good_nets.proofs.PortLaws.{port_spreads}
use Rattle.good_nets.proofs.SeenLaws.{touching_pins}
use Rattle.good_nets.proofs.WindowLaws.{IsOnNet, instances_touch, wire_touches, touches_wire}

module _ {N : Type 0} (connections : List Connect) (parts : Parts N) (shapes : List Shape) (plain : List PlainLabel) (labels : List PlainNetLabel) (pins : List RowPin) (right : AreRightParts connections parts shapes plain labels pins) where
  -- the inner shape of the instance is on a port of the net
  abbrev pub IsOn : parts.Instance → Shape → N → Type 0
  IsOn i inner n = IsOnNet connections parts shapes plain labels pins right i inner n

  -- a shape of the same instance, given in another way
  same_touch : (i j : parts.Instance) → parts.Twin i j → (a : ℕ) (k : N) (x y s t : Shape) → IsShapeOf connections parts i x s → IsOnPortOf connections parts i a x → slice_get (parts.ports i) a ≡ Some k → IsShapeOf connections parts j y t → Touch connections s t → IsOn j y k
  same_touch i j twin a k x y s t is on has other touch =
      let twins = right.parts_are.twins i j twin in
      let listed = subst (λ (xs : List Shape). Contains xs y) twins.cell other.listed in
      let moved = subst (λ (p : Place). IsMoved p y t) twins.place other.moved in
      let here = port_spreads connections (parts.cell i) (parts.Bound i) a x y on listed ((touch_moved connections (parts.place i) x y s t (right.parts_are.plain i) is.moved moved).1 touch) in
      record {
        port = a;
        on = subst (λ (xs : List Shape). IsOnPort connections xs (parts.Bound j) a y) (sym twins.cell) (record { bound = here.bound; is = (twins.bound a here.bound).0 here.is; net = here.net });
        has = subst (λ (ns : List N). slice_get ns a ≡ Some k) (sym twins.ports) has;
      }

  -- What touches a shape of the net: an instance's shape is on a port of the net,
  pub touches_instance : (k : N) (v t : Shape) → IsOfNet connections parts k v → Touch connections v t → (j : parts.Instance) (y : Shape) → IsShapeOf connections parts j y t → (IsOn j y k → ⊥) → ⊥
  touches_instance k v t (inl o) touch j y is none =
      instances_touch connections parts shapes plain labels pins right o.i j o.port k o.inner y v t (λ twin. none (same_touch o.i j twin o.port k o.inner y v t o.is o.on o.has is touch)) o.is o.on o.has is touch none
  touches_instance k v t (inr wire) touch j y is none = touches_wire connections parts shapes plain labels pins right j k y t v is wire (touch_turned connections v t touch) none

  -- and a wire is one of the net.
  pub touches_other_wire : (k n : N) (v t : Shape) → IsOfNet connections parts k v → Touch connections v t → parts.Wire n t → k ≡ n
  touches_other_wire k n v t (inl o) touch wire = wire_touches connections parts shapes plain labels pins right o.i o.port k n o.inner v t o.is o.on o.has wire touch
  touches_other_wire k n v t (inr own) touch wire =
      let a = right.wired k v own in
      let b = right.wired n t wire in
      right.same a.0 b.0 a.1 b.1 k n a.2 b.2 a.3 b.3 a.4 b.4
      (touching_pins connections shapes plain labels pins right.nets right.alike a.2 b.2 (right.listed a.0 a.1 a.2 a.4) (right.listed b.0 b.1 b.2 b.4) v t a.5 b.5 (right.parts_are.wires n t wire) touch)

  spreads : (k : N) (v t : Shape) → IsOfNet connections parts k v → Contains shapes t → Touch connections v t → (IsOfNet connections parts k t → ⊥) → ⊥
  spreads k v t of listed touch none = elim (right.parts_are.all t listed) [
    | inl h ↦ touches_instance k v t of touch h.0 h.1 h.2 (λ on. none (inl (record { i = h.0; inner = h.1; is = h.2; port = on.port; on = on.on; has = on.has })))
    | inr w ↦ none (inr (subst (λ (n : N). parts.Wire n t) (sym (touches_other_wire k w.0 v t of touch w.1)) w.1))
  ]

  -- What is on one net with a shape of the net is of the net.
  pub net_walks : (k : N) (s t : Shape) → IsOfNet connections parts k s → AreOnOneNet connections shapes s t → (IsOfNet connections parts k t → ⊥) → ⊥
  net_walks k s t of net =
      linked_carries (Contains shapes) (Touch connections) (λ u. (IsOfNet connections parts k u → ⊥) → ⊥) (λ u v on listed touch. λ no. on (λ is. spreads k u v is listed touch no)) s t (λ no. no of) net
