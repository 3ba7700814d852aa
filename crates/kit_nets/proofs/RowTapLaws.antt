-- The pins that have taps, row gates' inputs, drivers' enables, and the enables of sense and precharge cells, are joined with the main channel's wires.
use Rattle.std.proofs.Common.{◌≡◌, ℕ, ◌+◌, ◌*◌, ◌<◌, ℤ, pos, ◌<ℤ◌, ◌≤ℤ◌, ◌+ℤ◌, ◌-ℤ◌, ◌*ℤ◌, Bool, true, false, cond, Some, refl, sym, subst, ◌∙◌, arith}
use Rattle.std.specs.Prelude.{slice_get, ◌%◌, ◌==◌}
use Rattle.std.proofs.lemmas.Int.{ints, clamps}
use Rattle.or_geom.specs.declared.shape.Rect.{Rect}
use Rattle.or_geom.specs.declared.shape.Shape.{Shape}
use Rattle.or_geom.specs.declared.place.Place.{Place}
use Rattle.or_geom.specs.Place.{placed, IsImage}
use Rattle.tech_rules.specs.declared.tech.Tech.{Tech}
use Rattle.tech_rules.specs.Facts.{AreSizes}
use Rattle.tech_rules.specs.Net.{AreOnOneNet}
use Rattle.cell_hierarchy.specs.Plain.{FlatLists}
use Rattle.sram_netlist.specs.Organization.{banks_of}
use Rattle.sram_netlist.specs.Nets.{Net}
use Rattle.sram_netlist.specs.Instances.{LeafInstance}
use Rattle.macro_layout.specs.Places.{upright, mirrored_at, in_row_at, bank_x, bit_height}
use Rattle.macro_layout.specs.Floorplan.{IsFloorplan, rail_x}
use Rattle.macro_layout.specs.Pins.{main_nets, rail_nets}
use Rattle.macro_layout.specs.Channels.{IsMainChannel}
use Rattle.macro_layout.specs.Wires.{IsTapOfNet}
use Rattle.good_nets.proofs.CellLaws.{has_image}
use Rattle.joined_nets.specs.Joints.{JoinsWires}
use Rattle.kit_nets.specs.StatedParts.{Source, IsStatedBy}
use Rattle.kit_nets.specs.RolePins.{AreRolePins}
use Rattle.kit_nets.specs.DrawnChannels.{IsDrawnChannel}
use Rattle.leaf_shapes.specs.FirstLayers.{AreFirstLayers}
use Rattle.kit_nets.proofs.ArrayNetLaws.{pin_of, pin_at}
use Rattle.kit_nets.proofs.ChannelDrawnLaws.{IsOfMain}
use Rattle.kit_nets.proofs.ColumnHubLaws.{zero_times, pin_shifted}
use Rattle.kit_nets.proofs.RailHubLaws.{HighestTap, tapped}

ends_right : (rail w x0 bw in_box left right : ℤ) → (rail +ℤ w) ≤ℤ x0 → pos 0 ≤ℤ in_box → left ≡ in_box +ℤ (x0 +ℤ (pos 0 *ℤ bw)) → left <ℤ right → ((rail +ℤ (pos 0 *ℤ bw)) +ℤ w) ≤ℤ right
ends_right rail w x0 bw in_box left right beyond inside at wide = let none = zero_times bw in omega (arith, ints, none, beyond, inside, at, wide)

begins_right : (rail w x bw in_box here d : ℤ) → pos 1 ≤ℤ w → (rail +ℤ w) ≤ℤ x → pos 0 ≤ℤ in_box → here ≡ in_box +ℤ (x +ℤ d) → ((rail +ℤ (pos 0 *ℤ bw)) +ℤ d) ≤ℤ here
begins_right rail w x bw in_box here d some beyond inside at = let none = zero_times bw in omega (arith, ints, none, some, beyond, inside, at)

ends_before : (x x0 bw in_box here last d : ℤ) → x ≤ℤ x0 → here ≡ in_box +ℤ (x +ℤ d) → last ≡ in_box +ℤ (x0 +ℤ (pos 0 *ℤ bw)) → here ≤ℤ (last +ℤ d)
ends_before x x0 bw in_box here last d le at last_at = let none = zero_times bw in omega (arith, ints, none, le, at, last_at)

as_high_as : (in_low in_high y w low here : ℤ) → in_high -ℤ in_low ≡ w → low ≡ in_low +ℤ y → here ≡ in_high +ℤ y → here ≡ low +ℤ w
as_high_as in_low in_high y w low here a b c = omega (arith, ints, a, b, c)

-- the images of a box in one row, the second d further right than the first, which begins at x
record AreInRows (box : Rect) (x d : ℤ) (s t : Rect) : Type 0 where
  begins : s.x1 ≡ box.x1 +ℤ x
  left : t.x1 ≡ s.x1 +ℤ d
  right : t.x2 ≡ s.x2 +ℤ d
  low : t.y1 ≡ s.y1
  high : t.y2 ≡ s.y2
  wide : s.x1 <ℤ s.x2
  tall : s.y2 -ℤ s.y1 ≡ box.y2 -ℤ box.y1

in_rows : (turned : Bool) (x x' d y y' : ℤ) (box s t : Rect) → x' ≡ x +ℤ d → IsImage (placed (cond turned (upright x y) (mirrored_at x y'))) box s → IsImage (placed (cond turned (upright x' y) (mirrored_at x' y'))) box t → AreInRows box x d s t
in_rows true x x' d y y' box s t far one two =
    let wide : box.x1 <ℤ box.x2 = box.wide in
    let tall : box.y1 <ℤ box.y2 = box.tall in
    let a1 = one.x1 in
    let a2 = one.x2 in
    let a3 = one.y1 in
    let a4 = one.y2 in
    let b1 = two.x1 in
    let b2 = two.x2 in
    record { begins = omega (arith, ints, clamps); left = omega (arith, ints, clamps); right = omega (arith, ints, clamps); low = two.y1 ∙ sym one.y1; high = two.y2 ∙ sym one.y2; wide = s.wide; tall = omega (arith, ints, clamps) }
in_rows false x x' d y y' box s t far one two =
    let wide : box.x1 <ℤ box.x2 = box.wide in
    let tall : box.y1 <ℤ box.y2 = box.tall in
    let a1 = one.x1 in
    let a2 = one.x2 in
    let a3 = one.y1 in
    let a4 = one.y2 in
    let b1 = two.x1 in
    let b2 = two.x2 in
    record { begins = omega (arith, ints, clamps); left = omega (arith, ints, clamps); right = omega (arith, ints, clamps); low = two.y1 ∙ sym one.y1; high = two.y2 ∙ sym one.y2; wide = s.wide; tall = omega (arith, ints, clamps) }

module _ (tech : Tech) (s : Source) (flat : FlatLists) (by : IsStatedBy tech.connects s flat) (joins : JoinsWires tech.connects s.wire) (sizes : AreSizes s.wire) (first : AreFirstLayers s.layers s.wire) (pins : AreRolePins s) (fp : IsFloorplan s.plan s.kit s.wire s.tracks s.floorplan) (m : IsDrawnChannel (IsMainChannel s.plan s.kit s.wire s.floorplan) s.wire s.tracks.main) where
  abbrev row_place : ℕ → ℕ → ℤ → Place
  row_place b r x = in_row_at s.kit s.floorplan.array_y r (bank_x s.floorplan b x)

  -- A pin of a row's cell, which stands at x in bank 0, on the net of rail j, with its tap there.
  pub row_tapped : (leaf home : LeafInstance) (b r port j number : ℕ) (x : ℤ) (net on : Net) (hub : Shape) → b < banks_of s.plan → pin_of s leaf port 2 ≡ pin_of s home port 2
      → (pin_of s home port 2).rect.y2 -ℤ (pin_of s home port 2).rect.y1 ≡ s.wire.width → pos 0 ≤ℤ (pin_of s home port 2).rect.x1 → (rail_x s.wire j +ℤ s.wire.width) ≤ℤ x
      → slice_get (rail_nets s.plan 0) j ≡ Some net → slice_get (rail_nets s.plan b) j ≡ Some on → slice_get (main_nets s.plan) number ≡ Some on
      → IsTapOfNet s.plan s.kit s.wire s.tracks.column s.floorplan net (bank_x s.floorplan 0 (rail_x s.wire j)) (pin_at s home (row_place 0 r x) port 2).rect.y1 (pin_at s home (row_place 0 r x) port 2).rect.x2
      → HighestTap tech s flat by joins sizes first pins fp m (bank_x s.floorplan 0 (rail_x s.wire j)) net → s.floorplan.write_y ≤ℤ (pin_at s home (row_place 0 r x) port 2).rect.y1 → IsOfMain tech s flat by joins sizes first m number hub
      → AreOnOneNet tech.connects flat.shapes (pin_at s leaf (row_place b r x) port 2) hub
  row_tapped leaf home b r port j number x net on hub of_bank same high inside beyond of_rail of_rail_b named tap top above of_hub =
      let d = pos b *ℤ s.floorplan.bank_width in
      let none = zero_times s.floorplan.bank_width in
      let box = (pin_of s home port 2).rect in
      let p0 = pin_at s home (row_place 0 r x) port 2 in
      let p = pin_at s leaf (row_place b r x) port 2 in
      let y = s.floorplan.array_y +ℤ pos (r * bit_height s.kit) in
      let y' = s.floorplan.array_y +ℤ pos ((r + 1) * bit_height s.kit) in
      let two = subst (λ (q : Shape). IsImage (placed (row_place b r x)) q.rect p.rect) same (has_image (row_place b r x) (pin_of s leaf port 2)).1.image in
      let are = in_rows (r % 2 == 0) (bank_x s.floorplan 0 x) (bank_x s.floorplan b x) d y y' box p0.rect p.rect (far x s.floorplan.bank_width b) (has_image (row_place 0 r x) (pin_of s home port 2)).1.image two in
      tapped tech s flat by joins sizes first pins fp m b j number net on (bank_x s.floorplan 0 (rail_x s.wire j)) p0.rect.y1 p0.rect.x2 p hub of_bank of_rail refl tap top above
      (ends (rail_x s.wire j) s.wire.width x s.floorplan.bank_width box.x1 p0.rect.x1 p0.rect.x2 beyond inside are.begins are.wide) of_rail_b named of_hub refl
      (begins (rail_x s.wire j) s.wire.width x s.floorplan.bank_width box.x1 p0.rect.x1 p.rect.x1 d sizes.width.from beyond inside are.begins are.left) (up_to p.rect.x2 (p0.rect.x2 +ℤ d) are.right) are.low (as_high p0.rect.y1 p0.rect.y2 p.rect.y2 box.y1 box.y2 s.wire.width high are.high are.tall)
    where
      far : (x w : ℤ) (b : ℕ) → x +ℤ (pos b *ℤ w) ≡ (x +ℤ (pos 0 *ℤ w)) +ℤ (pos b *ℤ w)
      far x w b = let none = zero_times w in omega (arith, ints, none)

      ends : (rail w x bw in_box left right : ℤ) → (rail +ℤ w) ≤ℤ x → pos 0 ≤ℤ in_box → left ≡ in_box +ℤ (x +ℤ (pos 0 *ℤ bw)) → left <ℤ right → ((rail +ℤ (pos 0 *ℤ bw)) +ℤ w) ≤ℤ right
      ends rail w x bw in_box left right beyond inside at wide = let none = zero_times bw in omega (arith, ints, none, beyond, inside, at, wide)

      begins : (rail w x bw in_box left here d : ℤ) → pos 1 ≤ℤ w → (rail +ℤ w) ≤ℤ x → pos 0 ≤ℤ in_box → left ≡ in_box +ℤ (x +ℤ (pos 0 *ℤ bw)) → here ≡ left +ℤ d → ((rail +ℤ (pos 0 *ℤ bw)) +ℤ d) ≤ℤ here
      begins rail w x bw in_box left here d some beyond inside at moved = let none = zero_times bw in omega (arith, ints, none, some, beyond, inside, at, moved)

      up_to : (a b : ℤ) → a ≡ b → a ≤ℤ b
      up_to a b e = omega (arith, ints, e)

      as_high : (low high here in_low in_high w : ℤ) → in_high -ℤ in_low ≡ w → here ≡ high → high -ℤ low ≡ in_high -ℤ in_low → here ≡ low +ℤ w
      as_high low high here in_low in_high w a b c = omega (arith, ints, a, b, c)

  -- A pin of an upright cell at x in bank b, on the net of rail j, along the tap of a cell of its kind at x0 or further right in bank 0.
  pub upright_tapped : (leaf home : LeafInstance) (b port j number : ℕ) (x x0 y : ℤ) (net on : Net) (hub : Shape) → b < banks_of s.plan → pin_of s leaf port 2 ≡ pin_of s home port 2
      → (pin_of s home port 2).rect.y2 -ℤ (pin_of s home port 2).rect.y1 ≡ s.wire.width → pos 0 ≤ℤ (pin_of s home port 2).rect.x1 → (rail_x s.wire j +ℤ s.wire.width) ≤ℤ x → x ≤ℤ x0
      → slice_get (rail_nets s.plan 0) j ≡ Some net → slice_get (rail_nets s.plan b) j ≡ Some on → slice_get (main_nets s.plan) number ≡ Some on
      → IsTapOfNet s.plan s.kit s.wire s.tracks.column s.floorplan net (bank_x s.floorplan 0 (rail_x s.wire j)) (pin_at s home (upright (bank_x s.floorplan 0 x0) y) port 2).rect.y1 (pin_at s home (upright (bank_x s.floorplan 0 x0) y) port 2).rect.x2
      → HighestTap tech s flat by joins sizes first pins fp m (bank_x s.floorplan 0 (rail_x s.wire j)) net → s.floorplan.write_y ≤ℤ (pin_at s home (upright (bank_x s.floorplan 0 x0) y) port 2).rect.y1 → IsOfMain tech s flat by joins sizes first m number hub
      → AreOnOneNet tech.connects flat.shapes (pin_at s leaf (upright (bank_x s.floorplan b x) y) port 2) hub
  upright_tapped leaf home b port j number x x0 y net on hub of_bank same high inside beyond order of_rail of_rail_b named tap top above of_hub =
      let d = pos b *ℤ s.floorplan.bank_width in
      let box = (pin_of s home port 2).rect in
      let p0 = pin_at s home (upright (bank_x s.floorplan 0 x0) y) port 2 in
      let p = pin_at s leaf (upright (bank_x s.floorplan b x) y) port 2 in
      let here = pin_shifted s leaf (bank_x s.floorplan b x) y port 2 in
      let there = pin_shifted s home (bank_x s.floorplan 0 x0) y port 2 in
      let x1 = subst (λ (q : Shape). p.rect.x1 ≡ q.rect.x1 +ℤ bank_x s.floorplan b x) same here.x1 in
      let x2 = subst (λ (q : Shape). p.rect.x2 ≡ q.rect.x2 +ℤ bank_x s.floorplan b x) same here.x2 in
      let y1 = subst (λ (q : Shape). p.rect.y1 ≡ q.rect.y1 +ℤ y) same here.y1 in
      let y2 = subst (λ (q : Shape). p.rect.y2 ≡ q.rect.y2 +ℤ y) same here.y2 in
      tapped tech s flat by joins sizes first pins fp m b j number net on (bank_x s.floorplan 0 (rail_x s.wire j)) p0.rect.y1 p0.rect.x2 p hub of_bank of_rail refl tap top above
      (ends_right (rail_x s.wire j) s.wire.width x0 s.floorplan.bank_width box.x1 p0.rect.x1 p0.rect.x2 (farther (rail_x s.wire j +ℤ s.wire.width) x x0 beyond order) inside there.x1 p0.rect.wide) of_rail_b named of_hub refl
      (begins_right (rail_x s.wire j) s.wire.width x s.floorplan.bank_width box.x1 p.rect.x1 d sizes.width.from beyond inside x1)
      (ends_before x x0 s.floorplan.bank_width box.x2 p.rect.x2 p0.rect.x2 d order x2 there.x2) (y1 ∙ sym there.y1) (as_high_as box.y1 box.y2 y s.wire.width p0.rect.y1 p.rect.y2 high there.y1 y2)
    where
      farther : (a x x0 : ℤ) → a ≤ℤ x → x ≤ℤ x0 → a ≤ℤ x0
      farther a x x0 one two = omega (arith, ints, one, two)
