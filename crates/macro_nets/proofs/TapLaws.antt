-- Pins that have taps are joined with the main channel's wires: the pins of a row's cells and those of upright cells.
use Rattle.std.proofs.Common.{◌≡◌, ℕ, ◌+◌, ◌<◌, ℤ, pos, ◌<ℤ◌, ◌≤ℤ◌, ◌+ℤ◌, Bool, true, false, cond, Some, refl, sym, subst, arith}
use Rattle.std.specs.Prelude.{slice_get, ◌%◌, ◌==◌}
use Rattle.std.proofs.lemmas.Int.{ints, clamps}
use Rattle.or_geom.specs.declared.shape.Rect.{Rect}
use Rattle.or_geom.specs.declared.shape.Shape.{Shape}
use Rattle.or_geom.specs.declared.place.Place.{Place}
use Rattle.or_geom.specs.Place.{placed, IsImage}
use Rattle.tech_rules.specs.declared.tech.Tech.{Tech}
use Rattle.cell_hierarchy.specs.Plain.{FlatLists}
use Rattle.leaf_shapes.specs.declared.demand.Metal.TheVariants.{M3}
use Rattle.leaf_shapes.specs.declared.fit.Fit.TheVariants.{Anywhere}
use Rattle.sram_netlist.specs.Organization.{banks_of}
use Rattle.sram_netlist.specs.Nets.{Net}
use Rattle.sram_netlist.specs.Instances.{LeafInstance}
use Rattle.sram_netlist.specs.Netlist.{role, ports}
use Rattle.sram_netlist.specs.Membership.{HasLeafInstance}
use Rattle.macro_layout.specs.Places.{IsPlaceOf, upright, mirrored_at, in_row_at, bank_x, bit_height}
use Rattle.macro_layout.specs.Floorplan.{rail_x}
use Rattle.macro_layout.specs.Pins.{main_nets, rail_nets, IsRailOf}
use Rattle.macro_layout.specs.Wires.{row_y, IsPinTap, IsTapOfNet}
use Rattle.good_nets.proofs.CellLaws.{has_image}
use Rattle.joined_nets.specs.WireNets.{in_bank}
use Rattle.kit_nets.specs.StatedParts.{Source}
use Rattle.kit_nets.specs.Hubs.{IsPortJoined}
use Rattle.kit_nets.specs.RolePins.{IsDrawnPin}
use Rattle.kit_nets.proofs.ArrayNetLaws.{pin_of, pin_at, pin_listed}
use Rattle.kit_nets.proofs.ChannelDrawnLaws.{IsOfMain}
use Rattle.kit_nets.proofs.ColumnHubLaws.{pin_shifted}
use Rattle.kit_nets.proofs.PinJoinLaws.{standing, pin_joined_by}
use Rattle.kit_nets.proofs.RailHubLaws.{HighestTap}
use Rattle.kit_nets.proofs.RowTapLaws.{row_tapped, upright_tapped}
use Rattle.supply_nets.specs.LaidMacro.{IsLaidMacro}
use Rattle.supply_nets.proofs.LevelLaws.{write_under_row}
use Rattle.supply_nets.proofs.RowBarLaws.{next_row}
use Rattle.wire_nets.proofs.RailLaws.{one_rail}
use Rattle.wire_nets.proofs.NamedLaws.{bank_rail}
use Rattle.good_wires.specs.Held.{DoRailsReach}
use Rattle.macro_nets.proofs.RailNumberLaws.{HasRail, rail_before}

-- a pin of a row's cell lies above the row's lower edge
row_pin_low : (even : Bool) (x y y' : ℤ) (h : ℕ) (box s : Rect) → y +ℤ pos h ≡ y' → pos 0 ≤ℤ box.y1 → box.y2 ≤ℤ pos h → IsImage (placed (cond even (upright x y) (mirrored_at x y'))) box s → y ≤ℤ s.y1
row_pin_low true x y y' h box s next low high image =
    let tall : box.y1 <ℤ box.y2 = box.tall in
    let a = image.y1 in
    omega (arith, ints, clamps)
row_pin_low false x y y' h box s next low high image =
    let tall : box.y1 <ℤ box.y2 = box.tall in
    let a = image.y1 in
    omega (arith, ints, clamps)

over : (a b c : ℤ) → a ≤ℤ b → b ≤ℤ c → a ≤ℤ c
over a b c one two = omega (arith, ints, one, two)

upright_low : (a y in_low low : ℤ) → a ≤ℤ y → pos 0 ≤ℤ in_low → low ≡ in_low +ℤ y → a ≤ℤ low
upright_low a y in_low low one two at = omega (arith, ints, one, two, at)

module _ (tech : Tech) (s : Source) (flat : FlatLists) (k : IsLaidMacro tech s flat) (reach : DoRailsReach s.plan s.kit s.wire s.tracks.column s.floorplan) where
  abbrev Highest : ℤ → Net → Type 0
  Highest x net = HighestTap tech s flat k.by k.joins k.sizes k.first k.pins k.floor k.main x net

  -- The highest tap of a rail that has one.
  pub highest : (x y end : ℤ) (net : Net) → IsRailOf s.plan s.wire s.floorplan 0 net x → IsTapOfNet s.plan s.kit s.wire s.tracks.column s.floorplan net x y end → s.floorplan.write_y ≤ℤ y → HighestTap tech s flat k.by k.joins k.sizes k.first k.pins k.floor k.main x net
  highest x y end net rail tap above =
      let top = reach x y end (record { net = net; rail = rail; tap = tap }) in
      let same = one_rail s.plan s.wire s.floorplan net top.tap.net x k.sizes rail top.tap.rail in
      record {
        y = top.top;
        end = top.end;
        tap = subst (λ (n : Net). IsTapOfNet s.plan s.kit s.wire s.tracks.column s.floorplan n x top.top top.end) (sym same) top.tap.tap;
        highest = top.highest;
        above = over s.floorplan.write_y y top.top above (top.highest y end (record { net = net; rail = rail; tap = tap }));
      }

  abbrev row_place : ℕ → ℕ → ℤ → Place
  row_place b r x = in_row_at s.kit s.floorplan.array_y r (bank_x s.floorplan b x)

  abbrev rail_at : ℕ → ℤ
  rail_at j = bank_x s.floorplan 0 (rail_x s.wire j)

  -- A pin of a row's cell in bank b, and of the same cell in bank 0, which has its tap.
  pub row_pin_joined : (leaf home : LeafInstance) (has : HasLeafInstance s.plan leaf) (has_home : HasLeafInstance s.plan home) (place : Place) (stands : IsPlaceOf s.plan s.kit s.floorplan leaf place) (b r port number : ℕ) (x : ℤ) (net on : Net) (hub : Shape)
      → b < banks_of s.plan → place ≡ in_row_at s.kit s.floorplan.array_y r (bank_x s.floorplan b x) → IsPlaceOf s.plan s.kit s.floorplan home (in_row_at s.kit s.floorplan.array_y r (bank_x s.floorplan 0 x)) → pin_of s leaf port 2 ≡ pin_of s home port 2
      → IsDrawnPin s (role s.plan leaf) port M3 Anywhere → IsDrawnPin s (role s.plan home) port M3 Anywhere → s.kit.height (role s.plan home) ≡ bit_height s.kit → s.floorplan.row_x ≤ℤ x
      → slice_get (ports s.plan home) port ≡ Some net → HasRail s.plan net → on ≡ in_bank b net → ((x' y end : ℤ) → IsPinTap s.plan s.kit s.floorplan home net y end → IsTapOfNet s.plan s.kit s.wire s.tracks.column s.floorplan net x' y end)
      → slice_get (main_nets s.plan) number ≡ Some on → IsOfMain tech s flat k.by k.joins k.sizes k.first k.main number hub → IsPortJoined tech.connects s flat (standing tech.connects s flat k.by leaf has place stands) port hub
  row_pin_joined leaf home has has_home place stands b r port number x net on hub of_bank at stands_home same drawn drawn_home tall right has_net rail is_on taps named of_hub =
      let p0 = pin_at s home (row_place 0 r x) port 2 in
      let pin = pin_listed tech.connects s flat k.by home (row_place 0 r x) port 2 net has_home stands_home has_net drawn_home.bound in
      let tap = taps (rail_at rail.rail) p0.rect.y1 p0.rect.x2 (record { port = port; rect = p0.rect; pin = pin.pin; at = refl; ends = refl }) in
      let above = over s.floorplan.write_y (row_y s.kit s.floorplan r) p0.rect.y1 (write_under_row s k.sizes k.floor k.inside r)
      (row_pin_low (r % 2 == 0) (bank_x s.floorplan 0 x) (row_y s.kit s.floorplan r) (row_y s.kit s.floorplan (r + 1)) (s.kit.height (role s.plan home)) (pin_of s home port 2).rect p0.rect (next_row tech s flat k r (s.kit.height (role s.plan home)) tall)
      (k.inside.low (role s.plan home) port 2) (k.inside.high (role s.plan home) port 2) (has_image (row_place 0 r x) (pin_of s home port 2)).1.image) in
      let is_rail : IsRailOf s.plan s.wire s.floorplan 0 net (rail_at rail.rail) = record { rail = rail.rail; on = rail.on; at = refl } in
      let of_rail_b = subst (λ (n : Net). slice_get (rail_nets s.plan b) rail.rail ≡ Some n) (sym is_on) (bank_rail s.plan b rail.rail net rail.on) in
      pin_joined_by tech.connects s flat k.by leaf has place (row_place b r x) stands port 2 hub at drawn.bound
      (row_tapped tech s flat k.by k.joins k.sizes k.first k.pins k.floor k.main leaf home b r port rail.rail number x net on hub of_bank same drawn_home.fits (k.inside.left (role s.plan home) port 2)
      (over (rail_x s.wire rail.rail +ℤ s.wire.width) s.floorplan.row_x x (rail_before s.plan s.wire rail.rail net s.floorplan.row_x k.sizes rail.on k.floor.row_x) right)
      rail.on of_rail_b named tap (highest (rail_at rail.rail) p0.rect.y1 p0.rect.x2 net is_rail tap above) above of_hub)

  -- A pin of an upright cell at x in bank b, and that of a cell of its kind at x0 or further right in bank 0, which has its tap.
  pub upright_pin_joined : (leaf home : LeafInstance) (has : HasLeafInstance s.plan leaf) (has_home : HasLeafInstance s.plan home) (place : Place) (stands : IsPlaceOf s.plan s.kit s.floorplan leaf place) (b port number : ℕ) (x x0 y : ℤ) (net on : Net) (hub : Shape)
      → b < banks_of s.plan → place ≡ upright (bank_x s.floorplan b x) y → IsPlaceOf s.plan s.kit s.floorplan home (upright (bank_x s.floorplan 0 x0) y) → pin_of s leaf port 2 ≡ pin_of s home port 2
      → IsDrawnPin s (role s.plan leaf) port M3 Anywhere → IsDrawnPin s (role s.plan home) port M3 Anywhere → s.floorplan.row_x ≤ℤ x → x ≤ℤ x0 → s.floorplan.write_y ≤ℤ y
      → slice_get (ports s.plan home) port ≡ Some net → HasRail s.plan net → on ≡ in_bank b net → ((x' low end : ℤ) → IsPinTap s.plan s.kit s.floorplan home net low end → IsTapOfNet s.plan s.kit s.wire s.tracks.column s.floorplan net x' low end)
      → slice_get (main_nets s.plan) number ≡ Some on → IsOfMain tech s flat k.by k.joins k.sizes k.first k.main number hub → IsPortJoined tech.connects s flat (standing tech.connects s flat k.by leaf has place stands) port hub
  upright_pin_joined leaf home has has_home place stands b port number x x0 y net on hub of_bank at stands_home same drawn drawn_home right order low has_net rail is_on taps named of_hub =
      let p0 = pin_at s home (upright (bank_x s.floorplan 0 x0) y) port 2 in
      let pin = pin_listed tech.connects s flat k.by home (upright (bank_x s.floorplan 0 x0) y) port 2 net has_home stands_home has_net drawn_home.bound in
      let tap = taps (rail_at rail.rail) p0.rect.y1 p0.rect.x2 (record { port = port; rect = p0.rect; pin = pin.pin; at = refl; ends = refl }) in
      let above = upright_low s.floorplan.write_y y (pin_of s home port 2).rect.y1 p0.rect.y1 low (k.inside.low (role s.plan home) port 2) (pin_shifted s home (bank_x s.floorplan 0 x0) y port 2).y1 in
      let is_rail : IsRailOf s.plan s.wire s.floorplan 0 net (rail_at rail.rail) = record { rail = rail.rail; on = rail.on; at = refl } in
      let of_rail_b = subst (λ (n : Net). slice_get (rail_nets s.plan b) rail.rail ≡ Some n) (sym is_on) (bank_rail s.plan b rail.rail net rail.on) in
      pin_joined_by tech.connects s flat k.by leaf has place (upright (bank_x s.floorplan b x) y) stands port 2 hub at drawn.bound
      (upright_tapped tech s flat k.by k.joins k.sizes k.first k.pins k.floor k.main leaf home b port rail.rail number x x0 y net on hub of_bank same drawn_home.fits (k.inside.left (role s.plan home) port 2)
      (over (rail_x s.wire rail.rail +ℤ s.wire.width) s.floorplan.row_x x (rail_before s.plan s.wire rail.rail net s.floorplan.row_x k.sizes rail.on k.floor.row_x) right)
      order rail.on of_rail_b named tap (highest (rail_at rail.rail) p0.rect.y1 p0.rect.x2 net is_rail tap above) above of_hub)
