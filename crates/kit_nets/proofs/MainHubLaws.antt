-- Pins at the main channel: each is joined with the channel's wires of its net.
use Rattle.std.proofs.Common.{◌≡◌, inl, inr, ℕ, zero, suc, ◌+◌, ◌*◌, ◌<◌, ℤ, pos, ◌+ℤ◌, Contains, length, Some, refl, ap, subst, arith}
use Rattle.std.specs.Prelude.{slice_get, slice_index}
use Rattle.std.proofs.lemmas.Int.{ints}
use Rattle.or_geom.specs.declared.shape.Shape.{Shape}
use Rattle.or_geom.specs.declared.place.Place.{Place}
use Rattle.cell_roles.specs.declared.role.Role.{Role}
use Rattle.cell_roles.specs.declared.role.Role.TheVariants.{Bitcell, Precharge, Mux, Tie, Sense, Write, RowNand2, RowNand3, Driver, Nand2, Nand3, Inv, Dff, Delay}
use Rattle.cell_roles.specs.Roles.{role_ports}
use Rattle.tech_rules.specs.declared.tech.Tech.{Tech}
use Rattle.wire_drawing.specs.Drawing.{IsBox}
use Rattle.tech_rules.specs.Facts.{AreSizes}
use Rattle.tech_rules.specs.Net.{AreOnOneNet}
use Rattle.cell_hierarchy.specs.Plain.{FlatLists}
use Rattle.channel_router.specs.Channel.{IsPinOf}
use Rattle.leaf_shapes.specs.declared.demand.Metal.TheVariants.{M2, M4}
use Rattle.leaf_shapes.specs.declared.fit.Fit.TheVariants.{Top, Bottom}
use Rattle.sram_netlist.specs.Organization.{Organization, words_per_row}
use Rattle.sram_netlist.specs.Nets.{Net}
use Rattle.sram_netlist.specs.Instances.{LogicCell, WriteAt, LogicAt, Clki, Csd, Wed, Csi, Wei, Wln, Wli, Wrn, Wri, Rdn, Rdi, Dlay, Senn, Seni, Ad, Ai, Dd, Dm, Pn, Pi, Ln, Li, Kn, Ki, Gn, Gi}
use Rattle.sram_netlist.specs.Netlist.{ports, role, gate_of, logic_role, enable_inputs}
use Rattle.sram_netlist.specs.Membership.{HasLeafInstance}
use Rattle.macro_layout.specs.Places.{IsPlaceOf, upright, bank_x, column_x}
use Rattle.macro_layout.specs.Floorplan.{IsFloorplan}
use Rattle.macro_layout.specs.Pins.{main_nets}
use Rattle.macro_layout.specs.Channels.{IsMainChannel}
use Rattle.good_nets.proofs.NetLaws.{nets_on, net_back}
use Rattle.joined_nets.specs.Joints.{JoinsWires}
use Rattle.joined_nets.proofs.FacingLaws.{wire_above, wire_below}
use Rattle.joined_nets.proofs.WireNetLaws.{place_below}
use Rattle.kit_nets.specs.StatedParts.{Source, IsStatedBy}
use Rattle.kit_nets.specs.RolePins.{IsDemand, IsDrawnPin, AreRolePins}
use Rattle.kit_nets.specs.Hubs.{IsPortJoined}
use Rattle.kit_nets.specs.DrawnChannels.{IsDrawnChannel}
use Rattle.leaf_shapes.specs.FirstLayers.{AreFirstLayers}
use Rattle.kit_nets.proofs.DemandLaws.{metal_conducts}
use Rattle.kit_nets.proofs.ArrayNetLaws.{pin_of, pin_at, pin_listed}
use Rattle.kit_nets.proofs.PinJoinLaws.{standing, pin_joined_by, facing_joined}
use Rattle.kit_nets.proofs.ChannelDrawnLaws.{IsOfMain, main_stands, main_wires_joined}
use Rattle.kit_nets.proofs.ColumnHubLaws.{bottom_branch, top_branch, pin_shifted}
use Rattle.kit_nets.proofs.DataHubLaws.{write_place}

-- The logic row's cells draw their signal ports on the second metal, at the upper edge

abbrev pub IsLogicRole : Role → Type 0
IsLogicRole Nand2 = Unit {0}
IsLogicRole Nand3 = Unit {0}
IsLogicRole Inv = Unit {0}
IsLogicRole Dff = Unit {0}
IsLogicRole Delay = Unit {0}
IsLogicRole role = ⊥

is_gate : (n : ℕ) → IsLogicRole (gate_of n)
is_gate zero = tt
is_gate (suc zero) = tt
is_gate (suc (suc zero)) = tt
is_gate (suc (suc (suc n))) = tt

pub is_logic_role : (plan : Organization) (cell : LogicCell) → IsLogicRole (logic_role plan cell)
is_logic_role plan Clki = tt
is_logic_role plan Csd = tt
is_logic_role plan Wed = tt
is_logic_role plan Csi = tt
is_logic_role plan Wei = tt
is_logic_role plan Wln = tt
is_logic_role plan Wli = tt
is_logic_role plan Wrn = tt
is_logic_role plan Wri = tt
is_logic_role plan Rdn = tt
is_logic_role plan Rdi = tt
is_logic_role plan Dlay = tt
is_logic_role plan Senn = tt
is_logic_role plan Seni = tt
is_logic_role plan (Ad i) = tt
is_logic_role plan (Ai i) = tt
is_logic_role plan (Dd i) = tt
is_logic_role plan (Dm m) = tt
is_logic_role plan (Pn o b k) = is_gate b
is_logic_role plan (Pi o b k) = tt
is_logic_role plan (Ln b) = tt
is_logic_role plan (Li b) = tt
is_logic_role plan (Kn b) = tt
is_logic_role plan (Ki b) = tt
is_logic_role plan (Gn b m) = is_gate (length (enable_inputs plan b m))
is_logic_role plan (Gi b m) = tt

pub signal_demand : (role : Role) (port : ℕ) → IsLogicRole role → port + 2 < length (role_ports role) → IsDemand role port M2 Top
signal_demand Nand2 zero is lt = record { place = 0; name = _; there = refl; named = refl }
signal_demand Nand2 (suc zero) is lt = record { place = 1; name = _; there = refl; named = refl }
signal_demand Nand2 (suc (suc zero)) is lt = record { place = 2; name = _; there = refl; named = refl }
signal_demand Nand2 (suc (suc (suc port))) is lt = absurd (omega (arith, lt))
signal_demand Nand3 zero is lt = record { place = 0; name = _; there = refl; named = refl }
signal_demand Nand3 (suc zero) is lt = record { place = 1; name = _; there = refl; named = refl }
signal_demand Nand3 (suc (suc zero)) is lt = record { place = 2; name = _; there = refl; named = refl }
signal_demand Nand3 (suc (suc (suc zero))) is lt = record { place = 3; name = _; there = refl; named = refl }
signal_demand Nand3 (suc (suc (suc (suc port)))) is lt = absurd (omega (arith, lt))
signal_demand Inv zero is lt = record { place = 0; name = _; there = refl; named = refl }
signal_demand Inv (suc zero) is lt = record { place = 1; name = _; there = refl; named = refl }
signal_demand Inv (suc (suc port)) is lt = absurd (omega (arith, lt))
signal_demand Dff zero is lt = record { place = 0; name = _; there = refl; named = refl }
signal_demand Dff (suc zero) is lt = record { place = 1; name = _; there = refl; named = refl }
signal_demand Dff (suc (suc zero)) is lt = record { place = 2; name = _; there = refl; named = refl }
signal_demand Dff (suc (suc (suc port))) is lt = absurd (omega (arith, lt))
signal_demand Delay zero is lt = record { place = 0; name = _; there = refl; named = refl }
signal_demand Delay (suc zero) is lt = record { place = 1; name = _; there = refl; named = refl }
signal_demand Delay (suc (suc port)) is lt = absurd (omega (arith, lt))
signal_demand Bitcell port is lt = absurd is
signal_demand Precharge port is lt = absurd is
signal_demand Mux port is lt = absurd is
signal_demand Tie port is lt = absurd is
signal_demand Sense port is lt = absurd is
signal_demand Write port is lt = absurd is
signal_demand RowNand2 port is lt = absurd is
signal_demand RowNand3 port is lt = absurd is
signal_demand Driver port is lt = absurd is

module _ (tech : Tech) (s : Source) (flat : FlatLists) (by : IsStatedBy tech.connects s flat) (joins : JoinsWires tech.connects s.wire) (sizes : AreSizes s.wire) (first : AreFirstLayers s.layers s.wire) (pins : AreRolePins s) (fp : IsFloorplan s.plan s.kit s.wire s.tracks s.floorplan) (m : IsDrawnChannel (IsMainChannel s.plan s.kit s.wire s.floorplan) s.wire s.tracks.main) where
  in_main : (number : ℕ) (net : Net) → slice_get (main_nets s.plan) number ≡ Some net → number < m.channel.nets
  in_main number net named = let lt = place_below (main_nets s.plan) number net named in let count = m.routed.meant.nets in omega (arith, lt, count)

  -- A signal port of a cell of the logic row, as high as the channel's lower end, is joined with each wire of its net.
  pub logic_joined : (cell : LogicCell) (has : HasLeafInstance s.plan (LogicAt cell)) (place : Place) (stands : IsPlaceOf s.plan s.kit s.floorplan (LogicAt cell) place) (port number : ℕ) (net : Net) (hub : Shape) → s.kit.height (role s.plan (LogicAt cell)) ≡ s.kit.height Inv
      → slice_get (ports s.plan (LogicAt cell)) port ≡ Some net → port + 2 < length (ports s.plan (LogicAt cell)) → slice_get (main_nets s.plan) number ≡ Some net → IsOfMain tech s flat by joins sizes first m number hub
      → IsPortJoined tech.connects s flat (standing tech.connects s flat by (LogicAt cell) has place stands) port hub
  logic_joined cell has place stands port number net hub tall on signal named of_hub =
      let sized = by.sized (LogicAt cell) has in
      let drawn = pins.drawn (logic_role s.plan cell) port M2 Top (signal_demand (logic_role s.plan cell) port (is_logic_role s.plan cell) (omega (arith, signal, sized))) in
      let x0 = stands_x place stands in
      let at = upright x0.0 (pos 0) in
      let on_at = subst (IsPlaceOf s.plan s.kit s.floorplan (LogicAt cell)) x0.1 stands in
      let p = pin_at s (LogicAt cell) at port 1 in
      let pin = pin_listed tech.connects s flat by (LogicAt cell) at port 1 net has on_at on drawn.bound in
      let met = (m.routed.meant.bottom number p.rect.x1).1 (net, named, (cell, port, record { rect = p.rect; is = pin.pin; begins = refl })) in
      let branch = bottom_branch (IsMainChannel s.plan s.kit s.wire s.floorplan) s.wire s.tracks.main sizes m number p.rect.x1 (in_main number net named) met in
      let here = pin_shifted s (LogicAt cell) x0.0 (pos 0) port 1 in
      let upper = here.y2 in
      let top = drawn.fits.0 in
      let low = m.routed.meant.low in
      let same : pos (s.kit.height (role s.plan (LogicAt cell))) ≡ pos (s.kit.height Inv) = ap pos tall in
      let joined = wire_above (slice_index s.wire.metals 1) p.rect.x1 m.channel.low branch.1 s.wire.width p.rect branch.0 sizes.width.from refl (omega (arith, ints, upper, top, same, low)) branch.2.box in
      pin_joined_by tech.connects s flat by (LogicAt cell) has place at stands port 1 hub x0.1 drawn.bound
      (nets_on tech.connects flat.shapes p branch.0 hub
      (facing_joined tech.connects s flat by (slice_index s.wire.metals 1) p branch.0 (metal_conducts tech.connects s.wire joins M2) refl branch.2.box.on joined (main_stands tech s flat by joins sizes first m number branch.0 branch.2.of))
      (main_wires_joined tech s flat by joins sizes first m number branch.0 hub branch.2.of of_hub))
    where
      stands_x : (place : Place) → IsPlaceOf s.plan s.kit s.floorplan (LogicAt cell) place → (x : ℤ) × (place ≡ upright x (pos 0))
      stands_x place is = (_, is.at)

  -- A shape that begins at the channel's upper end, where the channel has a pin, is joined with each wire of the net.
  pub above_main : (number : ℕ) (net : Net) (p hub : Shape) → slice_get (main_nets s.plan) number ≡ Some net → IsPinOf m.channel.top number p.rect.x1 → p.layer ≡ slice_index s.wire.metals 3 → p.rect.y1 ≡ s.floorplan.write_y → Contains flat.shapes p → IsOfMain tech s flat by joins sizes first m number hub
      → AreOnOneNet tech.connects flat.shapes p hub
  above_main number net p hub named met on lower listed of_hub =
      let branch = top_branch (IsMainChannel s.plan s.kit s.wire s.floorplan) s.wire s.tracks.main sizes m number p.rect.x1 (in_main number net named) met in
      let low = m.routed.meant.low in
      let upper = fp.write_y in
      let high = branch.2.box.high in
      let box : IsBox (slice_index s.wire.metals 3) p.rect.x1 branch.1 (p.rect.x1 +ℤ s.wire.width) s.floorplan.write_y branch.0 = record { on = branch.2.box.on; left = branch.2.box.left; low = branch.2.box.low; right = branch.2.box.right; high = omega (arith, ints, low, upper, high) } in
      let joined = wire_below (slice_index s.wire.metals 3) p.rect.x1 branch.1 s.floorplan.write_y s.wire.width p.rect branch.0 sizes.width.from refl lower box in
      let stands = main_stands tech s flat by joins sizes first m number branch.0 branch.2.of in
      nets_on tech.connects flat.shapes p branch.0 hub
      (net_back tech.connects flat.shapes branch.0 p stands (facing_joined tech.connects s flat by (slice_index s.wire.metals 3) branch.0 p (metal_conducts tech.connects s.wire joins M4) branch.2.box.on on joined listed))
      (main_wires_joined tech s flat by joins sizes first m number branch.0 hub branch.2.of of_hub)

  data_drawn : IsDrawnPin s Write 0 M4 Bottom
  data_drawn = pins.drawn Write 0 M4 Bottom (record { place = 0; name = _; there = refl; named = refl })

  enable_drawn : IsDrawnPin s Write 3 M4 Bottom
  enable_drawn = pins.drawn Write 3 M4 Bottom (record { place = 3; name = _; there = refl; named = refl })

  write_low : (b i port : ℕ) → (pin_of s (WriteAt b i) port 3).rect.y1 ≡ pos 0 → (pin_at s (WriteAt b i) (write_place s b i) port 3).rect.y1 ≡ s.floorplan.write_y
  write_low b i port low = let here = (pin_shifted s (WriteAt b i) (bank_x s.floorplan b (column_x s.plan s.kit s.floorplan (i * words_per_row s.plan))) s.floorplan.write_y port 3).y1 in omega (arith, ints, here, low)

  -- A write cell's data
  pub din_joined : (b i number : ℕ) (has : HasLeafInstance s.plan (WriteAt b i)) (place : Place) (stands : IsPlaceOf s.plan s.kit s.floorplan (WriteAt b i) place) (net : Net) (hub : Shape) → slice_get (ports s.plan (WriteAt b i)) 0 ≡ Some net → slice_get (main_nets s.plan) number ≡ Some net → IsOfMain tech s flat by joins sizes first m number hub
      → IsPortJoined tech.connects s flat (standing tech.connects s flat by (WriteAt b i) has place stands) 0 hub
  din_joined b i number has place stands net hub on named of_hub =
      let p = pin_at s (WriteAt b i) (write_place s b i) 0 3 in
      let pin = pin_listed tech.connects s flat by (WriteAt b i) (write_place s b i) 0 3 net has refl on data_drawn.bound in
      let met = (m.routed.meant.top number p.rect.x1).1 (net, named, (b, has.0, inr (inl (i, record { rect = p.rect; is = pin.pin; begins = refl })))) in
      pin_joined_by tech.connects s flat by (WriteAt b i) has place (write_place s b i) stands 0 3 hub stands data_drawn.bound (above_main number net p hub named met refl (write_low b i 0 data_drawn.fits.0) pin.listed of_hub)

  -- and its enable
  pub enable_joined : (b i number : ℕ) (has : HasLeafInstance s.plan (WriteAt b i)) (place : Place) (stands : IsPlaceOf s.plan s.kit s.floorplan (WriteAt b i) place) (net : Net) (hub : Shape) → slice_get (ports s.plan (WriteAt b i)) 3 ≡ Some net → slice_get (main_nets s.plan) number ≡ Some net → IsOfMain tech s flat by joins sizes first m number hub
      → IsPortJoined tech.connects s flat (standing tech.connects s flat by (WriteAt b i) has place stands) 3 hub
  enable_joined b i number has place stands net hub on named of_hub =
      let p = pin_at s (WriteAt b i) (write_place s b i) 3 3 in
      let pin = pin_listed tech.connects s flat by (WriteAt b i) (write_place s b i) 3 3 net has refl on enable_drawn.bound in
      let met = (m.routed.meant.top number p.rect.x1).1 (net, named, (b, has.0, inr (inr (inl (i, record { rect = p.rect; is = pin.pin; begins = refl }))))) in
      pin_joined_by tech.connects s flat by (WriteAt b i) has place (write_place s b i) stands 3 3 hub stands enable_drawn.bound (above_main number net p hub named met refl (write_low b i 3 enable_drawn.fits.0) pin.listed of_hub)
