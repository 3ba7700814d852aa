-- Word lines and bit lines of a stated layout: the shapes of their pins are on one net.
use Rattle.std.proofs.Common.{◌≡◌, inl, ℕ, ◌<◌, ◌+ℤ◌, pos, List, Contains, Some, refl, subst}
use Rattle.std.specs.Prelude.{slice_get, slice_index}
use Rattle.or_geom.specs.declared.shape.Shape.{Shape}
use Rattle.or_geom.specs.declared.place.Place.{Place}
use Rattle.cell_roles.specs.declared.role.Role.TheVariants.{Bitcell, Driver}
use Rattle.cell_roles.specs.Roles.{role_ports}
use Rattle.tech_rules.specs.declared.tech.Connect.{Connect}
use Rattle.tech_rules.specs.Touch.{IsConductor, Touch}
use Rattle.tech_rules.specs.Net.{AreOnOneNet}
use Rattle.tech_rules.proofs.LinkedLaws.{linked_next}
use Rattle.cell_hierarchy.specs.Plain.{FlatLists}
use Rattle.sram_netlist.specs.Organization.{bank_rows, columns_of, banks_of}
use Rattle.sram_netlist.specs.Nets.{Net, Wl, Bl, Br}
use Rattle.sram_netlist.specs.Instances.{LeafInstance, BitAt, DriverAt}
use Rattle.sram_netlist.specs.Netlist.{role, ports}
use Rattle.sram_netlist.specs.Membership.{HasLeafInstance}
use Rattle.macro_layout.specs.Places.{IsPlaceOf, in_row_at, bank_x, column_x, gate_width}
use Rattle.good_nets.proofs.CellLaws.{has_image}
use Rattle.joined_nets.specs.Lines.{IsAcrossCell, IsUpThroughCell, shape_on, HasPinShape}
use Rattle.joined_nets.specs.Facing.{FaceAcross}
use Rattle.joined_nets.proofs.LineLaws.{word_line_joined, bit_line_joined}
use Rattle.joined_nets.proofs.FacingLaws.{driver_joined}
use Rattle.kit_nets.specs.Bound.{BindsForPort}
use Rattle.kit_nets.specs.StatedParts.{Source, leaf_lists, IsStatedBy}
use Rattle.kit_nets.proofs.PartsLaws.{stated_are_parts}

-- the demanded shape of a role's port on a metal
abbrev pub pin_of : (s : Source) → LeafInstance → ℕ → ℕ → Shape
pin_of s leaf port metal = record { layer = slice_index s.wire.metals metal; rect = s.kit.pin (role s.plan leaf) port metal }

-- it is one that labels of the port bind
abbrev pub IsBoundPin : Source → LeafInstance → ℕ → ℕ → Type 0
IsBoundPin s leaf port metal = BindsForPort (leaf_lists s leaf) (role_ports (role s.plan leaf)) port (pin_of s leaf port metal)

-- as it stands in the macro
abbrev pub pin_at : (s : Source) → LeafInstance → Place → ℕ → ℕ → Shape
pin_at s leaf place port metal = shape_on (slice_index s.wire.metals metal) (has_image place (pin_of s leaf port metal)).0.rect

module _ (connections : List Connect) (s : Source) (flat : FlatLists) (by : IsStatedBy connections s flat) where
  -- The demanded shape of a port is among the macro's shapes, where the layout has its pin.
  pub pin_listed : (leaf : LeafInstance) (place : Place) (port metal : ℕ) (net : Net) → HasLeafInstance s.plan leaf → IsPlaceOf s.plan s.kit s.floorplan leaf place → slice_get (ports s.plan leaf) port ≡ Some net → IsBoundPin s leaf port metal
      → HasPinShape s.plan s.kit s.floorplan flat.shapes (slice_index s.wire.metals metal) leaf port metal net (pin_at s leaf place port metal).rect
  pin_listed leaf place port metal net has stands on bound =
      let image = has_image place (pin_of s leaf port metal) in
      record {
        pin = record { has = has; on = on; place = place; stands = stands; image = image.1.image };
        listed =
            let there = (stated_are_parts connections s flat by).stands (record { leaf = leaf; has = has; place = place; stands = stands }) (pin_of s leaf port metal) image.0 (record { listed = bound.binds.binds.listed; moved = image.1 }) in
            let same : image.0 ≡ shape_on (slice_index s.wire.metals metal) image.0.rect = λ k. record { layer = image.1.layer k; rect = image.0.rect } in
            subst (Contains flat.shapes) same there;
      }

  abbrev pub bit_place : ℕ → ℕ → ℕ → Place
  bit_place b r c = in_row_at s.kit s.floorplan.array_y r (bank_x s.floorplan b (column_x s.plan s.kit s.floorplan c))

  abbrev pub driver_place : ℕ → ℕ → Place
  driver_place b r = in_row_at s.kit s.floorplan.array_y r (bank_x s.floorplan b (s.floorplan.row_x +ℤ pos (gate_width s.plan s.kit)))

  abbrev pub bit_pin : ℕ → ℕ → ℕ → ℕ → ℕ → Shape
  bit_pin b r c port metal = pin_at s (BitAt b r c) (bit_place b r c) port metal

  -- The word line of a row: its pins in the bitcells are on one net with that in the first.
  pub word_line_net : IsConductor connections (slice_index s.wire.metals 0) → IsAcrossCell s.kit → IsBoundPin s (BitAt 0 0 0) 2 0 → (b r : ℕ) → b < banks_of s.plan → r < bank_rows s.plan → (c : ℕ) → c < columns_of s.plan
      → AreOnOneNet connections flat.shapes (bit_pin b r 0 2 0) (bit_pin b r c 2 0)
  word_line_net conductor across bound b r of_bank of_row c lt =
      word_line_joined s.plan s.kit s.floorplan connections flat.shapes (slice_index s.wire.metals 0) conductor across b r (λ (k : ℕ). (bit_pin b r k 2 0).rect)
      (λ k below. pin_listed (BitAt b r k) (bit_place b r k) 2 0 (Wl b r) (of_bank, (of_row, below)) refl refl bound) c lt

  -- and so is its pin in the driver
  pub driver_net : IsConductor connections (slice_index s.wire.metals 0) → FaceAcross (s.kit.pin Driver 2 0) (s.kit.pin Bitcell 2 0) (s.kit.width Driver) → IsBoundPin s (BitAt 0 0 0) 2 0 → IsBoundPin s (DriverAt 0 0) 2 0 → (b r : ℕ) → b < banks_of s.plan → r < bank_rows s.plan → 0 < columns_of s.plan
      → AreOnOneNet connections flat.shapes (pin_at s (DriverAt b r) (driver_place b r) 2 0) (bit_pin b r 0 2 0)
  driver_net conductor face bound of_driver b r of_bank of_row some =
      let driver = pin_listed (DriverAt b r) (driver_place b r) 2 0 (Wl b r) (of_bank, of_row) refl refl of_driver in
      let bit = pin_listed (BitAt b r 0) (bit_place b r 0) 2 0 (Wl b r) (of_bank, (of_row, some)) refl refl bound in
      let joined = driver_joined s.plan s.kit s.floorplan b r (pin_at s (DriverAt b r) (driver_place b r) 2 0).rect (bit_pin b r 0 2 0).rect face driver.pin bit.pin in
      linked_next (Contains flat.shapes) (Touch connections) (pin_at s (DriverAt b r) (driver_place b r) 2 0) (bit_pin b r 0 2 0) bit.listed (inl (record { one_layer = refl; conductor = conductor; joined = joined }))

  -- A bit line of a column: its pins in the bitcells are on one net with that in the lowest.
  pub bit_line_net : IsConductor connections (slice_index s.wire.metals 1) → IsUpThroughCell s.kit 0 → IsBoundPin s (BitAt 0 0 0) 0 1 → (b c : ℕ) → b < banks_of s.plan → c < columns_of s.plan → (r : ℕ) → r < bank_rows s.plan
      → AreOnOneNet connections flat.shapes (bit_pin b 0 c 0 1) (bit_pin b r c 0 1)
  bit_line_net conductor up bound b c of_bank of_column r lt =
      bit_line_joined s.plan s.kit s.floorplan connections flat.shapes (slice_index s.wire.metals 1) conductor 0 up b c (Bl b c) (λ (k : ℕ). (bit_pin b k c 0 1).rect)
      (λ k below. pin_listed (BitAt b k c) (bit_place b k c) 0 1 (Bl b c) (of_bank, (below, of_column)) refl refl bound) r lt

  pub other_line_net : IsConductor connections (slice_index s.wire.metals 1) → IsUpThroughCell s.kit 1 → IsBoundPin s (BitAt 0 0 0) 1 1 → (b c : ℕ) → b < banks_of s.plan → c < columns_of s.plan → (r : ℕ) → r < bank_rows s.plan
      → AreOnOneNet connections flat.shapes (bit_pin b 0 c 1 1) (bit_pin b r c 1 1)
  other_line_net conductor up bound b c of_bank of_column r lt =
      bit_line_joined s.plan s.kit s.floorplan connections flat.shapes (slice_index s.wire.metals 1) conductor 1 up b c (Br b c) (λ (k : ℕ). (bit_pin b k c 1 1).rect)
      (λ k below. pin_listed (BitAt b k c) (bit_place b k c) 1 1 (Br b c) (of_bank, (below, of_column)) refl refl bound) r lt
