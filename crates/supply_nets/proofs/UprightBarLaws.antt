-- The rails of upright cells at their bars.
use Rattle.std.proofs.Common.{◌≡◌, inl, inr, ℕ, ℤ, pos, ◌+ℤ◌, ◌-ℤ◌, refl, arith}
use Rattle.std.proofs.lemmas.Int.{ints}
use Rattle.or_geom.specs.declared.shape.Shape.{Shape}
use Rattle.or_geom.specs.declared.place.Place.{Place}
use Rattle.tech_rules.specs.declared.tech.Tech.{Tech}
use Rattle.cell_hierarchy.specs.Plain.{FlatLists}
use Rattle.sram_netlist.specs.Instances.{LeafInstance}
use Rattle.sram_netlist.specs.Netlist.{role}
use Rattle.sram_netlist.specs.Membership.{HasLeafInstance}
use Rattle.macro_layout.specs.Places.{IsPlaceOf, upright}
use Rattle.macro_layout.specs.Wires.{trunk_x, ground_x, IsSupplyTrunk, IsPowerBarAt, IsGroundBarAt}
use Rattle.kit_nets.specs.StatedParts.{Source}
use Rattle.kit_nets.specs.Hubs.{IsPortJoined}
use Rattle.kit_nets.proofs.ArrayNetLaws.{pin_at}
use Rattle.kit_nets.proofs.PinJoinLaws.{standing}
use Rattle.supply_nets.specs.Rails.{power_port, ground_port, IsPowerAbove, IsGroundAbove}
use Rattle.supply_nets.specs.LaidMacro.{IsLaidMacro}
use Rattle.supply_nets.proofs.LevelLaws.{IsLevel}
use Rattle.supply_nets.proofs.SpanLaws.{IsSpan}
use Rattle.supply_nets.proofs.RailShapeLaws.{lower_upright, upper_upright}
use Rattle.supply_nets.proofs.RailDemandLaws.{upper_power, lower_ground, upper_ground, lower_power}
use Rattle.supply_nets.proofs.BarLaws.{along, below, power_at, ground_at}

from_low : (a : ℤ) → a +ℤ pos 0 ≡ a
from_low a = omega (arith, ints)

under_high : (a z w : ℤ) (h : ℕ) → a +ℤ pos h ≡ z → a +ℤ (pos h -ℤ w) ≡ z -ℤ w
under_high a z w h e = omega (arith, ints, e)

at_high : (a z w : ℤ) (h : ℕ) → a +ℤ pos h ≡ z → a +ℤ pos h ≡ (z -ℤ w) +ℤ w
at_high a z w h e = omega (arith, ints, e)

module _ (tech : Tech) (s : Source) (flat : FlatLists) (k : IsLaidMacro tech s flat) (leaf : LeafInstance) (has : HasLeafInstance s.plan leaf) (place : Place) (stands : IsPlaceOf s.plan s.kit s.floorplan leaf place) (from x y : ℤ) (at : place ≡ upright x y) (span : IsSpan s from x (s.kit.width (role s.plan leaf))) where
  abbrev h : ℕ
  h = s.kit.height (role s.plan leaf)

  abbrev w : ℤ
  w = s.wire.width

  abbrev width : ℕ
  width = s.kit.width (role s.plan leaf)

  -- Where vdd is above: a bar of vdd along the upper edge, and one of gnd along the lower.
  pub upright_upper_power : (upper : ℤ) (hub : Shape) → IsPowerAbove (role s.plan leaf) → y +ℤ pos (s.kit.height (role s.plan leaf)) ≡ upper → IsPowerBarAt s.plan s.kit s.wire s.floorplan from (upper -ℤ s.wire.width) → IsLevel s (upper -ℤ s.wire.width)
      → IsSupplyTrunk s.kit s.wire s.floorplan (trunk_x s.plan s.kit s.wire s.floorplan) hub → IsPortJoined tech.connects s flat (standing tech.connects s flat k.by leaf has place stands) (power_port (role s.plan leaf)) hub
  upright_upper_power upper hub above high bar level is_hub =
      let port = power_port (role s.plan leaf) in
      let drawn = upper_power s k.pins (role s.plan leaf) above in
      let rail = upper_upright s leaf port x y drawn in
      power_at tech s flat k leaf has place (upright x y) stands port from x (upper -ℤ w) (y +ℤ (pos h -ℤ w)) (y +ℤ pos h) hub at bar level span (inr drawn) rail
      (along w (upper -ℤ w) (y +ℤ (pos h -ℤ w)) (y +ℤ pos h) x width (pin_at s leaf (upright x y) port 0) rail (under_high y upper w h high) (at_high y upper w h high)) is_hub

  pub upright_lower_ground : (hub : Shape) → IsPowerAbove (role s.plan leaf) → IsGroundBarAt s.plan s.kit s.floorplan from y → IsLevel s y
      → IsSupplyTrunk s.kit s.wire s.floorplan (ground_x s.plan s.kit s.wire s.floorplan) hub → IsPortJoined tech.connects s flat (standing tech.connects s flat k.by leaf has place stands) (ground_port (role s.plan leaf)) hub
  upright_lower_ground hub above bar level is_hub =
      let port = ground_port (role s.plan leaf) in
      let drawn = lower_ground s k.pins (role s.plan leaf) above in
      let rail = lower_upright s leaf port x y drawn in
      ground_at tech s flat k leaf has place (upright x y) stands port from x y (y +ℤ pos 0) (y +ℤ w) hub at bar level span (inl drawn) rail
      (along w y (y +ℤ pos 0) (y +ℤ w) x width (pin_at s leaf (upright x y) port 0) rail (from_low y) refl) is_hub

  -- Where gnd is above: a bar of vdd along the lower edge, and one of gnd that begins at the upper.
  pub upright_lower_power : (hub : Shape) → IsGroundAbove (role s.plan leaf) → IsPowerBarAt s.plan s.kit s.wire s.floorplan from y → IsLevel s y
      → IsSupplyTrunk s.kit s.wire s.floorplan (trunk_x s.plan s.kit s.wire s.floorplan) hub → IsPortJoined tech.connects s flat (standing tech.connects s flat k.by leaf has place stands) (power_port (role s.plan leaf)) hub
  upright_lower_power hub above bar level is_hub =
      let port = power_port (role s.plan leaf) in
      let drawn = lower_power s k.pins (role s.plan leaf) above in
      let rail = lower_upright s leaf port x y drawn in
      power_at tech s flat k leaf has place (upright x y) stands port from x y (y +ℤ pos 0) (y +ℤ w) hub at bar level span (inl drawn) rail
      (along w y (y +ℤ pos 0) (y +ℤ w) x width (pin_at s leaf (upright x y) port 0) rail (from_low y) refl) is_hub

  pub upright_upper_ground : (upper : ℤ) (hub : Shape) → IsGroundAbove (role s.plan leaf) → y +ℤ pos (s.kit.height (role s.plan leaf)) ≡ upper → IsGroundBarAt s.plan s.kit s.floorplan from upper → IsLevel s upper
      → IsSupplyTrunk s.kit s.wire s.floorplan (ground_x s.plan s.kit s.wire s.floorplan) hub → IsPortJoined tech.connects s flat (standing tech.connects s flat k.by leaf has place stands) (ground_port (role s.plan leaf)) hub
  upright_upper_ground upper hub above high bar level is_hub =
      let port = ground_port (role s.plan leaf) in
      let drawn = upper_ground s k.pins (role s.plan leaf) above in
      let rail = upper_upright s leaf port x y drawn in
      ground_at tech s flat k leaf has place (upright x y) stands port from x upper (y +ℤ (pos h -ℤ w)) (y +ℤ pos h) hub at bar level span (inr drawn) rail
      (below w upper (y +ℤ (pos h -ℤ w)) (y +ℤ pos h) x width (pin_at s leaf (upright x y) port 0) rail high) is_hub
