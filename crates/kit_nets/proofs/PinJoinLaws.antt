-- What one of a port's shapes is joined with, all are: as the port stands in a macro.
use Rattle.std.proofs.Common.{◌≡◌, inl, ℕ, List, Contains, sym, subst}
use Rattle.or_geom.specs.declared.shape.Shape.{Shape}
use Rattle.or_geom.specs.declared.place.Place.{Place}
use Rattle.or_geom.specs.Joined.{AreJoined}
use Rattle.cell_roles.specs.Roles.{role_ports}
use Rattle.tech_rules.specs.declared.tech.Connect.{Connect}
use Rattle.tech_rules.specs.Touch.{IsConductor, Touch}
use Rattle.tech_rules.specs.Net.{AreOnOneNet}
use Rattle.tech_rules.proofs.LinkedLaws.{linked_next}
use Rattle.cell_hierarchy.specs.Plain.{FlatLists}
use Rattle.cell_hierarchy.specs.FlatSet.{IsMoved}
use Rattle.sram_netlist.specs.Instances.{LeafInstance}
use Rattle.sram_netlist.specs.Netlist.{role}
use Rattle.sram_netlist.specs.Membership.{HasLeafInstance}
use Rattle.macro_layout.specs.Places.{IsPlaceOf}
use Rattle.good_nets.proofs.CellLaws.{has_image, net_moved}
use Rattle.good_nets.proofs.NetLaws.{nets_on}
use Rattle.kit_nets.specs.Bound.{BindsForPort}
use Rattle.kit_nets.specs.StatedParts.{Source, Standing, leaf_lists, IsStatedBy}
use Rattle.kit_nets.specs.Hubs.{IsPortJoined}
use Rattle.kit_nets.proofs.RightLaws.{right_ports}
use Rattle.kit_nets.proofs.PartsLaws.{stands_plain, stated_are_parts}
use Rattle.kit_nets.proofs.ArrayNetLaws.{pin_of, pin_at, IsBoundPin}

module _ (connections : List Connect) (s : Source) (flat : FlatLists) (by : IsStatedBy connections s flat) where
  abbrev pub standing : (leaf : LeafInstance) (has : HasLeafInstance s.plan leaf) (place : Place) → IsPlaceOf s.plan s.kit s.floorplan leaf place → Standing s
  standing leaf has place stands = record { leaf = leaf; has = has; place = place; stands = stands }

  -- Where one of the port's shapes, as it stands, is on one net with the hub, all are.
  pub port_joined_by : (i : Standing s) (port : ℕ) (inner shape hub : Shape) → BindsForPort (leaf_lists s i.leaf) (role_ports (role s.plan i.leaf)) port inner → IsMoved i.place inner shape → AreOnOneNet connections flat.shapes shape hub → IsPortJoined connections s flat i port hub
  port_joined_by i port inner shape hub bound moved net other other_shape other_bound other_moved =
      let lists = leaf_lists s i.leaf in
      let pins = role_ports (role s.plan i.leaf) in
      let right = right_ports connections lists pins (by.right (role s.plan i.leaf)) in
      nets_on connections flat.shapes other_shape shape hub
      (net_moved connections lists.shapes flat.shapes i.place (stands_plain s i.leaf i.place i.stands) (λ x t listed at. (stated_are_parts connections s flat by).stands i x t (record { listed = listed; moved = at })) other inner other_shape shape other_moved moved (right.one port other inner other_bound bound))
      net

  -- so where the demanded shape is
  pub pin_joined_by : (leaf : LeafInstance) (has : HasLeafInstance s.plan leaf) (place at : Place) (stands : IsPlaceOf s.plan s.kit s.floorplan leaf place) (port metal : ℕ) (hub : Shape) → place ≡ at → IsBoundPin s leaf port metal
      → AreOnOneNet connections flat.shapes (pin_at s leaf at port metal) hub → IsPortJoined connections s flat (standing leaf has place stands) port hub
  pin_joined_by leaf has place at stands port metal hub same bound net =
      let image = has_image place (pin_of s leaf port metal) in
      let whole : image.0 ≡ pin_at s leaf place port metal = λ k. record { layer = image.1.layer k; rect = image.0.rect } in
      port_joined_by (standing leaf has place stands) port (pin_of s leaf port metal) image.0 hub bound image.1
      (subst (λ (x : Shape). AreOnOneNet connections flat.shapes x hub) (sym whole) (subst (λ (p : Place). AreOnOneNet connections flat.shapes (pin_at s leaf p port metal) hub) (sym same) net))

  -- two shapes of one port, as they stand
  pub pins_joined : (leaf : LeafInstance) (has : HasLeafInstance s.plan leaf) (place : Place) (stands : IsPlaceOf s.plan s.kit s.floorplan leaf place) (port metal other : ℕ) → IsBoundPin s leaf port metal → IsBoundPin s leaf port other
      → AreOnOneNet connections flat.shapes (pin_at s leaf place port metal) (pin_at s leaf place port other)
  pins_joined leaf has place stands port metal other bound other_bound =
      let lists = leaf_lists s leaf in
      let pins = role_ports (role s.plan leaf) in
      let right = right_ports connections lists pins (by.right (role s.plan leaf)) in
      let one = has_image place (pin_of s leaf port metal) in
      let two = has_image place (pin_of s leaf port other) in
      let whole_one : one.0 ≡ pin_at s leaf place port metal = λ k. record { layer = one.1.layer k; rect = one.0.rect } in
      let whole_two : two.0 ≡ pin_at s leaf place port other = λ k. record { layer = two.1.layer k; rect = two.0.rect } in
      subst (λ (x : Shape). AreOnOneNet connections flat.shapes x (pin_at s leaf place port other)) whole_one
      (subst (λ (x : Shape). AreOnOneNet connections flat.shapes one.0 x) whole_two
      (net_moved connections lists.shapes flat.shapes place (stands_plain s leaf place stands) (λ x t listed at. (stated_are_parts connections s flat by).stands (standing leaf has place stands) x t (record { listed = listed; moved = at }))
      (pin_of s leaf port metal) (pin_of s leaf port other) one.0 two.0 one.1 two.1 (right.one port (pin_of s leaf port metal) (pin_of s leaf port other) bound other_bound)))

  -- two shapes of pins on one metal that are joined
  pub facing_joined : (layer : ℕ) (a b : Shape) → IsConductor connections layer → a.layer ≡ layer → b.layer ≡ layer → AreJoined a.rect b.rect → Contains flat.shapes b → AreOnOneNet connections flat.shapes a b
  facing_joined layer a b conductor on_a on_b joined listed =
      let on : a.layer ≡ b.layer = λ k. same k in
      linked_next (Contains flat.shapes) (Touch connections) a b listed (inl (record { one_layer = on; conductor = subst (IsConductor connections) (sym on_a) conductor; joined = joined }))
    where
      same : a.layer ≡ b.layer
      same = subst (λ (l : ℕ). a.layer ≡ l) (sym on_b) on_a
