-- The rails of leaf instances at bars: each supply port is joined with its supply's trunk.
use Rattle.std.proofs.Common.{◌≡◌, ◌⊎◌, inl, inr, ℕ, ℤ, pos, ◌≤ℤ◌, ◌+ℤ◌, refl, ◌∙◌, arith}
use Rattle.std.proofs.lemmas.Int.{ints}
use Rattle.or_geom.specs.declared.shape.Shape.{Shape}
use Rattle.or_geom.specs.declared.place.Place.{Place}
use Rattle.tech_rules.specs.declared.tech.Tech.{Tech}
use Rattle.cell_hierarchy.specs.Plain.{FlatLists}
use Rattle.leaf_shapes.specs.declared.demand.Metal.TheVariants.{M1}
use Rattle.leaf_shapes.specs.declared.fit.Fit.TheVariants.{LowerRail, UpperRail}
use Rattle.sram_netlist.specs.Instances.{LeafInstance}
use Rattle.sram_netlist.specs.Netlist.{role}
use Rattle.sram_netlist.specs.Membership.{HasLeafInstance}
use Rattle.macro_layout.specs.Places.{IsPlaceOf}
use Rattle.macro_layout.specs.Wires.{trunk_x, ground_x, IsSupplyTrunk, IsPowerBarAt, IsGroundBarAt}
use Rattle.kit_nets.specs.StatedParts.{Source}
use Rattle.kit_nets.specs.Hubs.{IsPortJoined}
use Rattle.kit_nets.specs.RolePins.{IsDrawnPin}
use Rattle.kit_nets.proofs.ArrayNetLaws.{pin_at}
use Rattle.kit_nets.proofs.PinJoinLaws.{standing, pin_joined_by}
use Rattle.kit_nets.proofs.SupplyHubLaws.{IsAtBar, at_power_bar, at_ground_bar}
use Rattle.supply_nets.specs.LaidMacro.{IsLaidMacro}
use Rattle.supply_nets.proofs.LevelLaws.{IsLevel}
use Rattle.supply_nets.proofs.SpanLaws.{IsSpan}
use Rattle.supply_nets.proofs.RailShapeLaws.{IsRail}

-- the rail lies along a bar at this height, or ends at its lower edge
pub along : (w y low high x : ℤ) (width : ℕ) (p : Shape) → IsRail x width low high p.rect → low ≡ y → high ≡ y +ℤ w → IsAtBar w y p
along w y low high x width p rail is_low is_high = record { is = inl (rail.y1 ∙ is_low, rail.y2 ∙ is_high) }

pub below : (w y low high x : ℤ) (width : ℕ) (p : Shape) → IsRail x width low high p.rect → high ≡ y → IsAtBar w y p
below w y low high x width p rail is_high = record { is = inr (rail.y2 ∙ is_high) }

module _ (tech : Tech) (s : Source) (flat : FlatLists) (k : IsLaidMacro tech s flat) where
  -- A port of a leaf with a rail at a bar of vdd is joined with its trunk,
  pub power_at : (leaf : LeafInstance) (has : HasLeafInstance s.plan leaf) (place at : Place) (stands : IsPlaceOf s.plan s.kit s.floorplan leaf place) (port : ℕ) (from x y low high : ℤ) (hub : Shape) → place ≡ at → IsPowerBarAt s.plan s.kit s.wire s.floorplan from y → IsLevel s y
      → IsSpan s from x (s.kit.width (role s.plan leaf)) → IsDrawnPin s (role s.plan leaf) port M1 LowerRail ⊎ IsDrawnPin s (role s.plan leaf) port M1 UpperRail → IsRail x (s.kit.width (role s.plan leaf)) low high (pin_at s leaf at port 0).rect → IsAtBar s.wire.width y (pin_at s leaf at port 0)
      → IsSupplyTrunk s.kit s.wire s.floorplan (trunk_x s.plan s.kit s.wire s.floorplan) hub → IsPortJoined tech.connects s flat (standing tech.connects s flat k.by leaf has place stands) port hub
  power_at leaf has place at stands port from x y low high hub same bar level span drawn rail lies is_hub =
      let trunk = trunk_x s.plan s.kit s.wire s.floorplan in
      let width = s.kit.width (role s.plan leaf) in
      let r = (pin_at s leaf at port 0).rect in
      pin_joined_by tech.connects s flat k.by leaf has place at stands port 0 hub same (elim drawn [ inl lower ↦ lower.bound | inr upper ↦ upper.bound ])
      (at_power_bar tech s flat k.by k.joins k.sizes k.first from y (pin_at s leaf at port 0) hub bar is_hub (reaches from x trunk width span.left span.right) level.low level.high refl
      (begins from x r.x1 span.left rail.x1) (ends x r.x2 trunk s.wire.width width span.right rail.x2 k.sizes.width.from) lies)
    where
      reaches : (from x trunk : ℤ) (width : ℕ) → from ≤ℤ x → (x +ℤ pos width) ≤ℤ trunk → from ≤ℤ trunk
      reaches from x trunk width a b = omega (arith, ints, a, b)

      begins : (from x x1 : ℤ) → from ≤ℤ x → x1 ≡ x → from ≤ℤ x1
      begins from x x1 a e = omega (arith, ints, a, e)

      ends : (x x2 trunk w : ℤ) (width : ℕ) → (x +ℤ pos width) ≤ℤ trunk → x2 ≡ x +ℤ pos width → pos 1 ≤ℤ w → x2 ≤ℤ (trunk +ℤ w)
      ends x x2 trunk w width a e some = omega (arith, ints, a, e, some)

  -- and one at a bar of gnd with gnd's.
  pub ground_at : (leaf : LeafInstance) (has : HasLeafInstance s.plan leaf) (place at : Place) (stands : IsPlaceOf s.plan s.kit s.floorplan leaf place) (port : ℕ) (from x y low high : ℤ) (hub : Shape) → place ≡ at → IsGroundBarAt s.plan s.kit s.floorplan from y → IsLevel s y
      → IsSpan s from x (s.kit.width (role s.plan leaf)) → IsDrawnPin s (role s.plan leaf) port M1 LowerRail ⊎ IsDrawnPin s (role s.plan leaf) port M1 UpperRail → IsRail x (s.kit.width (role s.plan leaf)) low high (pin_at s leaf at port 0).rect → IsAtBar s.wire.width y (pin_at s leaf at port 0)
      → IsSupplyTrunk s.kit s.wire s.floorplan (ground_x s.plan s.kit s.wire s.floorplan) hub → IsPortJoined tech.connects s flat (standing tech.connects s flat k.by leaf has place stands) port hub
  ground_at leaf has place at stands port from x y low high hub same bar level span drawn rail lies is_hub =
      let trunk = trunk_x s.plan s.kit s.wire s.floorplan in
      let width = s.kit.width (role s.plan leaf) in
      let r = (pin_at s leaf at port 0).rect in
      pin_joined_by tech.connects s flat k.by leaf has place at stands port 0 hub same (elim drawn [ inl lower ↦ lower.bound | inr upper ↦ upper.bound ])
      (at_ground_bar tech s flat k.by k.joins k.sizes k.first from y (pin_at s leaf at port 0) hub bar is_hub (reaches from x trunk s.wire.width s.wire.space width span.left span.right k.sizes.width.from k.sizes.space.from) level.low level.high refl
      (begins from x r.x1 span.left rail.x1) (ends x r.x2 trunk s.wire.width s.wire.space width span.right rail.x2 k.sizes.width.from k.sizes.space.from) lies)
    where
      reaches : (from x trunk w space : ℤ) (width : ℕ) → from ≤ℤ x → (x +ℤ pos width) ≤ℤ trunk → pos 1 ≤ℤ w → pos 1 ≤ℤ space → from ≤ℤ (trunk +ℤ (w +ℤ space))
      reaches from x trunk w space width a b c d = omega (arith, ints, a, b, c, d)

      begins : (from x x1 : ℤ) → from ≤ℤ x → x1 ≡ x → from ≤ℤ x1
      begins from x x1 a e = omega (arith, ints, a, e)

      ends : (x x2 trunk w space : ℤ) (width : ℕ) → (x +ℤ pos width) ≤ℤ trunk → x2 ≡ x +ℤ pos width → pos 1 ≤ℤ w → pos 1 ≤ℤ space → x2 ≤ℤ ((trunk +ℤ (w +ℤ space)) +ℤ w)
      ends x x2 trunk w space width a e some more = omega (arith, ints, a, e, some, more)
