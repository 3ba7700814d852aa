-- The wires of a routed channel stand in a macro, in each bank, and those of one net are joined.
use Rattle.std.proofs.Common.{◌≡◌, inl, inr, ℕ, zero, suc, ◌*◌, ◌<◌, ◌≤◌, ℤ, pos, negsuc, ◌<ℤ◌, ◌≤ℤ◌, ◌+ℤ◌, ◌*ℤ◌, List, Contains, length, Some, refl, sym, ap, subst, ◌∙◌, arith}
use Rattle.std.specs.Prelude.{slice_get, slice_index}
use Rattle.std.proofs.lemmas.Int.{ints, clamps}
use Rattle.or_geom.specs.declared.shape.Shape.{Shape}
use Rattle.or_geom.specs.declared.place.Place.{Place}
use Rattle.tech_rules.specs.declared.tech.Layer.{Layer}
use Rattle.tech_rules.specs.declared.tech.Tech.{Tech}
use Rattle.tech_rules.specs.declared.tech.Wire.{Wire}
use Rattle.wire_drawing.specs.Drawing.{IsBox}
use Rattle.tech_rules.specs.Facts.{AreSizes}
use Rattle.tech_rules.specs.Net.{AreOnOneNet}
use Rattle.element_drawing.specs.OwnShapes.{layer_with_numbers}
use Rattle.cell_hierarchy.specs.Plain.{FlatLists}
use Rattle.cell_hierarchy.specs.FlatSet.{IsMoved}
use Rattle.channel_router.specs.declared.channel.Channel.{Channel}
use Rattle.channel_router.specs.Wires.{IsOfNet}
use Rattle.sram_netlist.specs.Organization.{banks_of}
use Rattle.sram_netlist.specs.Nets.{Net}
use Rattle.macro_layout.specs.Pins.{main_nets, column_nets}
use Rattle.macro_layout.specs.Channels.{IsColumnChannel, IsMainChannel}
use Rattle.macro_layout.specs.Stated.{IsOnFirstLayer, IsShifted}
use Rattle.good_nets.specs.Ports.{upright_place}
use Rattle.good_nets.proofs.CellLaws.{net_moved}
use Rattle.joined_nets.specs.Joints.{JoinsWires, IsOnWireLayer}
use Rattle.joined_nets.specs.WireNets.{in_bank, IsWireOfNet}
use Rattle.joined_nets.proofs.ChannelLaws.{channel_joined}
use Rattle.joined_nets.proofs.WireNetLaws.{item_there, place_below}
use Rattle.kit_nets.specs.StatedParts.{Source, stated_parts, IsStatedBy}
use Rattle.kit_nets.specs.DrawnChannels.{IsDrawnChannel}
use Rattle.leaf_shapes.specs.FirstLayers.{IsFirstLayer, AreFirstLayers}
use Rattle.kit_nets.proofs.PartsLaws.{stated_are_parts}
pub use Rattle.joined_nets.proofs.ChannelLaws.{on_wire_layer}

-- what is drawn on a layer of the wires stands on it
on_first_layer : (layers : List Layer) (Drawn : Shape → Type 0) (u : Shape) (index : ℕ) → IsFirstLayer layers index → u.layer ≡ index → Drawn u → IsOnFirstLayer layers Drawn u
on_first_layer layers Drawn u index first on drawn = record {
  wire = u;
  drawn = drawn;
  layer = first.layer;
  on = ap (slice_get layers) on ∙ first.there;
  first = subst (λ (k : ℕ). layer_with_numbers layers first.layer.number first.layer.datatype ≡ Some k) (sym on) first.first;
  rect = refl;
}

pub drawn_as_is : (layers : List Layer) (wire : Wire) (Drawn : Shape → Type 0) (u : Shape) → AreFirstLayers layers wire → IsOnWireLayer wire u → Drawn u → IsOnFirstLayer layers Drawn u
drawn_as_is layers wire Drawn u first (inl metal) drawn = on_first_layer layers Drawn u (slice_index wire.metals metal.place) (first.there (slice_index wire.metals metal.place) (inl (first.metals metal.place metal.below))) metal.on drawn
drawn_as_is layers wire Drawn u first (inr cut) drawn = on_first_layer layers Drawn u (slice_index wire.cuts cut.place) (first.there (slice_index wire.cuts cut.place) (inr (first.cuts cut.place cut.below))) cut.on drawn

-- a shape moved right and up
pub moved_is_shifted : (dx dy : ℤ) (a b : Shape) → IsMoved (upright_place dx dy) a b → IsShifted dx dy a b
moved_is_shifted dx dy a b moved =
    let r = a.rect in
    let wide : r.x1 <ℤ r.x2 = r.wide in
    let tall : r.y1 <ℤ r.y2 = r.tall in
    let a1 = moved.image.x1 in
    let a2 = moved.image.x2 in
    let b1 = moved.image.y1 in
    let b2 = moved.image.y2 in
    record { layer = moved.layer; x1 = omega (arith, ints, clamps); y1 = omega (arith, ints, clamps); x2 = omega (arith, ints, clamps); y2 = omega (arith, ints, clamps) }

pub moved_layer : (wire : Wire) (a b : Shape) → b.layer ≡ a.layer → IsOnWireLayer wire a → IsOnWireLayer wire b
moved_layer wire a b same (inl metal) = inl (record { place = metal.place; below = metal.below; on = same ∙ metal.on })
moved_layer wire a b same (inr cut) = inr (record { place = cut.place; below = cut.below; on = same ∙ cut.on })

-- the number of a channel's wire is a net's
net_there : (IsMeant : Channel → Type 0) (wire : Wire) (tracks : ℕ) (nets : List Net) (c : IsDrawnChannel IsMeant wire tracks) → ((ch : Channel) → IsMeant ch → ch.nets ≡ length nets) → (number : ℕ) (u : Shape) → IsOfNet c.channel wire c.intervals c.track tracks number u → (n : Net) × (slice_get nets number ≡ Some n)
net_there IsMeant wire tracks nets c counted number u of =
    let lt = place_below c.intervals number of.interval of.has.there in
    let each = c.routed.nets.each in
    let count = counted c.channel c.routed.meant in
    item_there nets number (omega (arith, lt, each, count))

module _ (tech : Tech) (s : Source) (flat : FlatLists) (by : IsStatedBy tech.connects s flat) (joins : JoinsWires tech.connects s.wire) (sizes : AreSizes s.wire) (first : AreFirstLayers s.layers s.wire) where
  module _ (c : IsDrawnChannel (IsColumnChannel s.plan s.kit s.wire s.floorplan) s.wire s.tracks.column) where
    abbrev pub IsOfColumn : ℕ → Shape → Type 0
    IsOfColumn number u = IsOfNet c.channel s.wire c.intervals c.track s.tracks.column number u

    abbrev pub bank_shift : ℕ → Place
    bank_shift b = upright_place (pos b *ℤ s.floorplan.bank_width) (pos 0)

    -- A wire of the column channel stands in each bank.
    pub column_stands : (b number : ℕ) (inner u : Shape) → b < banks_of s.plan → IsOfColumn number inner → IsMoved (bank_shift b) inner u → Contains flat.shapes u
    column_stands b number inner u of_bank of moved =
        let net = net_there (IsColumnChannel s.plan s.kit s.wire s.floorplan) s.wire s.tracks.column (column_nets s.plan) c (λ ch meant. meant.nets) number inner of in
        let layer = moved_layer s.wire inner u moved.layer (on_wire_layer c.channel s.wire c.intervals c.track s.tracks.column number inner of) in
        let drawn : IsWireOfNet s.plan s.kit s.wire s.tracks s.floorplan (in_bank b net.0) u = inr (record {
          bank = b;
          below = of_bank;
          net = net.0;
          named = refl;
          inner = inner;
          is = inl (record { channel = c.channel; intervals = c.intervals; track = c.track; routed = c.routed; number = number; named = net.1; drawn = of });
          shifted = moved_is_shifted (pos b *ℤ s.floorplan.bank_width) (pos 0) inner u moved;
        }) in
        (stated_are_parts tech.connects s flat by).wires (in_bank b net.0) u (drawn_as_is s.layers s.wire (IsWireOfNet s.plan s.kit s.wire s.tracks s.floorplan (in_bank b net.0)) u first layer drawn)

    -- Wires of one net of it are on one net.
    pub column_wires_joined : (b number : ℕ) (inner other u v : Shape) → b < banks_of s.plan → IsOfColumn number inner → IsOfColumn number other → IsMoved (bank_shift b) inner u → IsMoved (bank_shift b) other v → AreOnOneNet tech.connects flat.shapes u v
    column_wires_joined b number inner other u v of_bank of of_other moved other_moved =
        net_moved tech.connects c.list flat.shapes (bank_shift b) (inl (record { x = _; y = _; is = refl }))
        (λ x t listed at. let is = c.wires.only x listed in column_stands b is.0 x t of_bank is.1 at) inner other u v moved other_moved
        (channel_joined tech s.wire c.channel c.intervals c.track s.tracks.column number c.list c.list inner other joins sizes c.routed.nets c.routed.count.below c.wires (λ x listed. listed) of of_other)

  module _ (c : IsDrawnChannel (IsMainChannel s.plan s.kit s.wire s.floorplan) s.wire s.tracks.main) where
    abbrev pub IsOfMain : ℕ → Shape → Type 0
    IsOfMain number u = IsOfNet c.channel s.wire c.intervals c.track s.tracks.main number u

    -- A wire of the main channel is of its net.
    pub main_wire : (number : ℕ) (net : Net) (u : Shape) → slice_get (main_nets s.plan) number ≡ Some net → IsOfMain number u → (stated_parts s).Wire net u
    main_wire number net u named of =
        drawn_as_is s.layers s.wire (IsWireOfNet s.plan s.kit s.wire s.tracks s.floorplan net) u first (on_wire_layer c.channel s.wire c.intervals c.track s.tracks.main number u of)
        (inl (inl (record { channel = c.channel; intervals = c.intervals; track = c.track; routed = c.routed; number = number; named = named; drawn = of })))

    pub main_stands : (number : ℕ) (u : Shape) → IsOfMain number u → Contains flat.shapes u
    main_stands number u of =
        let net = net_there (IsMainChannel s.plan s.kit s.wire s.floorplan) s.wire s.tracks.main (main_nets s.plan) c (λ ch meant. meant.nets) number u of in
        (stated_are_parts tech.connects s flat by).wires net.0 u (main_wire number net.0 u net.1 of)

    pub main_wires_joined : (number : ℕ) (u v : Shape) → IsOfMain number u → IsOfMain number v → AreOnOneNet tech.connects flat.shapes u v
    main_wires_joined number u v of_u of_v =
        channel_joined tech s.wire c.channel c.intervals c.track s.tracks.main number c.list flat.shapes u v joins sizes c.routed.nets c.routed.count.below c.wires (λ x listed. let is = c.wires.only x listed in main_stands is.0 x is.1) of_u of_v

-- Boxes

pub box_there : (layer : ℕ) (x1 y1 x2 y2 : ℤ) → x1 <ℤ x2 → y1 <ℤ y2 → (u : Shape) × IsBox layer x1 y1 x2 y2 u
box_there layer x1 y1 x2 y2 wide tall = (record { layer = layer; rect = record { x1 = x1; y1 = y1; x2 = x2; y2 = y2; wide = wide; tall = tall } }, record { on = refl; left = refl; low = refl; right = refl; high = refl })

times_up : (a b q : ℕ) → a ≤ b → a * q ≤ b * q
times_up zero b q le = omega arith
times_up (suc a) zero q le = absurd (omega (arith, le))
times_up (suc a) (suc b) q le = let rest = times_up a b q (omega (arith, le)) in omega (arith, rest)

-- tracks above each other
pub track_above : (t : ℕ) (p : ℤ) → pos 0 ≤ℤ p → pos 0 ≤ℤ (pos t *ℤ p)
track_above t (pos q) some = omega (arith, ints)
track_above t (negsuc q) some = absurd (omega (arith, ints, some))

pub track_below : (t n : ℕ) (p : ℤ) → pos 0 ≤ℤ p → t < n → ((pos t *ℤ p) +ℤ p) ≤ℤ (pos n *ℤ p)
track_below t n (pos q) some lt = let up = times_up (suc t) n q (omega (arith, lt)) in omega (arith, ints, up)
track_below t n (negsuc q) some lt = absurd (omega (arith, ints, some))
