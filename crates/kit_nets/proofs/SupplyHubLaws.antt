-- Supply shapes along a bar, or ending where one begins, are joined with the supply's trunk.
use Rattle.std.proofs.Common.{◌≡◌, ◌⊎◌, inl, inr, ℤ, pos, ◌≤ℤ◌, ◌+ℤ◌, Contains, refl, arith}
use Rattle.std.specs.Prelude.{slice_index}
use Rattle.std.proofs.lemmas.Int.{ints}
use Rattle.or_geom.specs.declared.shape.Shape.{Shape}
use Rattle.or_geom.specs.Joined.{AreJoined}
use Rattle.tech_rules.specs.declared.tech.Tech.{Tech}
use Rattle.wire_drawing.specs.Drawing.{IsBox}
use Rattle.tech_rules.specs.WireRules.{margin}
use Rattle.tech_rules.specs.Facts.{AreSizes}
use Rattle.tech_rules.specs.Net.{AreOnOneNet}
use Rattle.cell_hierarchy.specs.Plain.{FlatLists}
use Rattle.leaf_shapes.specs.declared.demand.Metal.TheVariants.{M1}
use Rattle.sram_netlist.specs.Nets.{Net, Vdd, Gnd}
use Rattle.macro_layout.specs.Floorplan.{upper_y}
use Rattle.macro_layout.specs.Wires.{trunk_x, ground_x, IsBar, IsSupplyTrunk, IsPowerBarAt, IsGroundBarAt}
use Rattle.good_nets.proofs.NetLaws.{nets_on}
use Rattle.joined_nets.specs.Joints.{JoinsWires, IsOnWireLayer}
use Rattle.joined_nets.specs.WireNets.{IsWireOfNet}
use Rattle.joined_nets.proofs.SupplyLaws.{bar_on_trunk, shape_in_bar, shape_below_bar}
use Rattle.kit_nets.specs.StatedParts.{Source, stated_parts, IsStatedBy}
use Rattle.leaf_shapes.specs.FirstLayers.{AreFirstLayers}
use Rattle.kit_nets.proofs.DemandLaws.{metal_conducts}
use Rattle.kit_nets.proofs.PartsLaws.{stated_are_parts}
use Rattle.kit_nets.proofs.PinJoinLaws.{facing_joined}
use Rattle.kit_nets.proofs.ChannelDrawnLaws.{drawn_as_is, box_there}

-- the shape lies along the bar at this height, or ends at its lower edge
pub record IsAtBar (w y : ℤ) (p : Shape) : Type 0 where
  pub is : ((p.rect.y1 ≡ y) × (p.rect.y2 ≡ y +ℤ w)) ⊎ (p.rect.y2 ≡ y)

module _ (tech : Tech) (s : Source) (flat : FlatLists) (by : IsStatedBy tech.connects s flat) (joins : JoinsWires tech.connects s.wire) (sizes : AreSizes s.wire) (first : AreFirstLayers s.layers s.wire) where
  -- with a trunk and a bar that stand
  at_bar : (trunk x y upper : ℤ) (p hub : Shape) → ((u : Shape) → IsBar s.wire trunk x y u → IsOnWireLayer s.wire u → Contains flat.shapes u) → IsBox (slice_index s.wire.metals 1) trunk (pos 0) (trunk +ℤ s.wire.width) upper hub → Contains flat.shapes hub
      → x ≤ℤ trunk → pos 0 ≤ℤ y → (y +ℤ s.wire.width) ≤ℤ upper → p.layer ≡ slice_index s.wire.metals 0 → x ≤ℤ p.rect.x1 → p.rect.x2 ≤ℤ (trunk +ℤ s.wire.width) → IsAtBar s.wire.width y p → AreOnOneNet tech.connects flat.shapes p hub
  at_bar trunk x y upper p hub stands is_hub has_hub begins low high on left right at =
      let w = sizes.width.from in
      let cut = sizes.cut.from in
      let bar = box_there (slice_index s.wire.metals 0) x y (trunk +ℤ s.wire.width) (y +ℤ s.wire.width) (omega (arith, ints, w, begins)) (omega (arith, ints, w)) in
      let via = box_there (slice_index s.wire.cuts 0) (trunk +ℤ margin s.wire) (y +ℤ margin s.wire) ((trunk +ℤ margin s.wire) +ℤ s.wire.cut) ((y +ℤ margin s.wire) +ℤ s.wire.cut) (omega (arith, ints, cut)) (omega (arith, ints, cut)) in
      let has_bar = stands bar.0 (inl bar.1) (inl (record { place = 0; below = omega arith; on = bar.1.on })) in
      let has_via = stands via.0 (inr via.1) (inr (record { place = 0; below = omega arith; on = via.1.on })) in
      nets_on tech.connects flat.shapes p bar.0 hub
      (facing_joined tech.connects s flat by (slice_index s.wire.metals 0) p bar.0 (metal_conducts tech.connects s.wire joins M1) on bar.1.on (met bar.0 bar.1 at.is) has_bar)
      (bar_on_trunk tech.connects s.wire flat.shapes x y trunk upper bar.0 via.0 hub joins sizes bar.1 via.1 is_hub begins low high has_via has_hub)
    where
      met : (bar : Shape) → IsBox (slice_index s.wire.metals 0) x y (trunk +ℤ s.wire.width) (y +ℤ s.wire.width) bar → ((p.rect.y1 ≡ y) × (p.rect.y2 ≡ y +ℤ s.wire.width)) ⊎ (p.rect.y2 ≡ y) → AreJoined p.rect bar.rect
      met bar box (inl along) = shape_in_bar (slice_index s.wire.metals 0) x y (trunk +ℤ s.wire.width) s.wire.width p.rect bar box left right along.0 along.1
      met bar box (inr below) = shape_below_bar (slice_index s.wire.metals 0) x y (trunk +ℤ s.wire.width) (y +ℤ s.wire.width) p.rect bar box left right below

  -- a macro's supply wires stand
  supply_stands : (n : Net) (u : Shape) → IsWireOfNet s.plan s.kit s.wire s.tracks s.floorplan n u → IsOnWireLayer s.wire u → Contains flat.shapes u
  supply_stands n u is on = (stated_are_parts tech.connects s flat by).wires n u (drawn_as_is s.layers s.wire (IsWireOfNet s.plan s.kit s.wire s.tracks s.floorplan n) u first on is)

  -- The trunks, which are the hubs of vdd and gnd

  pub power_trunk_is : (hub : Shape) → IsSupplyTrunk s.kit s.wire s.floorplan (trunk_x s.plan s.kit s.wire s.floorplan) hub → (stated_parts s).Wire Vdd hub
  power_trunk_is hub is = drawn_as_is s.layers s.wire (IsWireOfNet s.plan s.kit s.wire s.tracks s.floorplan Vdd) hub first (inl (record { place = 1; below = omega arith; on = is.on })) (inl (inr (inl (refl, inl is))))

  pub ground_trunk_is : (hub : Shape) → IsSupplyTrunk s.kit s.wire s.floorplan (ground_x s.plan s.kit s.wire s.floorplan) hub → (stated_parts s).Wire Gnd hub
  ground_trunk_is hub is = drawn_as_is s.layers s.wire (IsWireOfNet s.plan s.kit s.wire s.tracks s.floorplan Gnd) hub first (inl (record { place = 1; below = omega arith; on = is.on })) (inl (inr (inr (refl, inl is))))

  -- A shape at a bar of vdd is joined with its trunk,
  pub at_power_bar : (x y : ℤ) (p hub : Shape) → IsPowerBarAt s.plan s.kit s.wire s.floorplan x y → IsSupplyTrunk s.kit s.wire s.floorplan (trunk_x s.plan s.kit s.wire s.floorplan) hub → x ≤ℤ trunk_x s.plan s.kit s.wire s.floorplan → pos 0 ≤ℤ y → (y +ℤ s.wire.width) ≤ℤ upper_y s.kit s.floorplan
      → p.layer ≡ slice_index s.wire.metals 0 → x ≤ℤ p.rect.x1 → p.rect.x2 ≤ℤ (trunk_x s.plan s.kit s.wire s.floorplan +ℤ s.wire.width) → IsAtBar s.wire.width y p → AreOnOneNet tech.connects flat.shapes p hub
  at_power_bar x y p hub at is_hub begins low high on left right lies =
      at_bar (trunk_x s.plan s.kit s.wire s.floorplan) x y (upper_y s.kit s.floorplan) p hub (λ u bar layer. supply_stands Vdd u (inl (inr (inl (refl, inr (x, y, at, bar))))) layer)
      is_hub ((stated_are_parts tech.connects s flat by).wires Vdd hub (power_trunk_is hub is_hub)) begins low high on left right lies

  -- and one at a bar of gnd with gnd's
  pub at_ground_bar : (x y : ℤ) (p hub : Shape) → IsGroundBarAt s.plan s.kit s.floorplan x y → IsSupplyTrunk s.kit s.wire s.floorplan (ground_x s.plan s.kit s.wire s.floorplan) hub → x ≤ℤ ground_x s.plan s.kit s.wire s.floorplan → pos 0 ≤ℤ y → (y +ℤ s.wire.width) ≤ℤ upper_y s.kit s.floorplan
      → p.layer ≡ slice_index s.wire.metals 0 → x ≤ℤ p.rect.x1 → p.rect.x2 ≤ℤ (ground_x s.plan s.kit s.wire s.floorplan +ℤ s.wire.width) → IsAtBar s.wire.width y p → AreOnOneNet tech.connects flat.shapes p hub
  at_ground_bar x y p hub at is_hub begins low high on left right lies =
      at_bar (ground_x s.plan s.kit s.wire s.floorplan) x y (upper_y s.kit s.floorplan) p hub (λ u bar layer. supply_stands Gnd u (inl (inr (inr (refl, inr (x, y, at, bar))))) layer)
      is_hub ((stated_are_parts tech.connects s flat by).wires Gnd hub (ground_trunk_is hub is_hub)) begins low high on left right lies
