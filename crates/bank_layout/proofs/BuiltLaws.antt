-- What a bank that is built stands on: a kit, a plan, and its floorplan.
use Rattle.std.proofs.Common.{◌≡◌, ℕ, ◌*◌, ◌<◌, ◌≤◌, ℤ, pos, negsuc, ◌*ℤ◌, ◌≤ℤ◌, List, [], ◌∷◌, ◌++◌, map, length, get_or, Option, Some, None, refl, ap, sym, ◌∙◌, append_assoc, arith}
use Rattle.std.specs.Prelude.{option_map}
use Rattle.std.specs.List.{AllByRecursion}
use Rattle.std.proofs.lemmas.Int.{ints}
use Rattle.std.proofs.lemmas.List.{length-append}
use Rattle.or_geom.specs.Distance.{IsNear}
use Rattle.or_geom.specs.Place.{IsNearPoint}
use Rattle.or_geom.specs.declared.shape.Shape.{Shape}
use Rattle.or_geom.proofs.ListLaws.{all_contained}
use Rattle.cell_roles.specs.declared.role.Role.{Role}
use Rattle.cell_roles.specs.declared.role.Role.TheVariants.{Bitcell, Driver}
use Rattle.tech_rules.specs.declared.tech.Layer.{Layer}
use Rattle.tech_rules.specs.declared.tech.Wire.{Wire}
use Rattle.wire_drawing.specs.Drawing.{pitch}
use Rattle.tech_rules.specs.Facts.{AreSizes, IsWire}
use Rattle.channel_router.specs.declared.channel.Channel.{Channel}
use Rattle.channel_router.specs.declared.channel.ChannelPin.{ChannelPin}
use Rattle.channel_router.specs.declared.channel.Routed.{Routed}
use Rattle.channel_router.specs.Tracks.{AreTracksBelow}
use Rattle.cell_builder.specs.declared.cell.PlacedInstance.{PlacedInstance}
use Rattle.sram_netlist.specs.Organization.{Organization, columns_of}
use Rattle.sram_netlist.specs.Netlist.{row_gate}
use Rattle.leaf_tables.specs.declared.kit.Kit.{Kit}
use Rattle.leaf_tables.specs.declared.kit.Leaf.{Leaf}
use Rattle.leaf_tables.specs.Alignment.{leaf_in}
use Rattle.leaf_tables.specs.Kits.{IsKit}
use Rattle.macro_layout.specs.Places.{Floorplan, bit_width}
use Rattle.macro_layout.specs.Floorplan.{IsFloorplan, choice_count}
use Rattle.macro_layout.specs.Cells.{pre_cell, precharge_at}
use Rattle.floorplan.specs.LeafSides.{side_of}
use Rattle.floorplan.specs.LayoutOfKit.{layout_kit}
use Rattle.macro_bounds.specs.Near.{IsCoordinate, IsChannelWithin, IsWireShape, RoutedShapesAreNear}
use Rattle.leaf_tables.proofs.RoleLaws.{near_in_kit}
use Rattle.port_data.specs.Column as column
use Rattle.bank_layout.specs.Near.{IsWireWithin, IsNearRouted}
use Rattle.bank_layout.proofs.GivenLaws.{few_wide}
use Rattle.bank_layout.proofs.GoodLaws.{pos_of}
use Rattle.bank_layout.proofs.WithinLaws.{AreNarrow, AreStacked, made_all}
use Rattle.bank_layout.proofs.HighestLaws.{IsRaised}

-- Widths

few_side : (z : ℤ) → z ≤ℤ pos 65536 → side_of (Some z) ≤ 65536
few_side (pos n) le = omega (arith, ints, le)
few_side (negsuc n) le = omega arith

pub width_few : (kit : Kit) (role : Role) → IsKit kit → (layout_kit kit).width role ≤ 65536
width_few kit role is = by (leaf_in kit.leaves role) refl where
  by : (found : Option Leaf) → leaf_in kit.leaves role ≡ found → side_of (option_map (λ (l : Leaf). l.width) found) ≤ 65536
  by None there = omega arith
  by (Some leaf) there = few_side leaf.width (near_in_kit kit role leaf is there).width.below

pub narrow_of : (kit : Kit) (plan : Organization) → IsKit kit → columns_of plan ≤ 256 → AreNarrow kit plan
narrow_of kit plan is few =
    let gate = width_few kit (row_gate plan.groups) is in
    let driver = width_few kit Driver is in
    record { is = is; few = few; narrow = width_few kit Bitcell is; drive = omega (arith, gate, driver) }

-- the precharge cells lie near
pub pre_near : (kit : Kit) (plan : Organization) (n : List ℕ) → AreNarrow kit plan → AllByRecursion (λ (i : PlacedInstance). IsNearPoint i.place.at) (pre_cell plan (layout_kit kit) n).instances
pre_near kit plan n s = made_all (λ (i : PlacedInstance). IsNearPoint i.place.at) (columns_of plan) (precharge_at plan (layout_kit kit)) (λ c lt. record { x = near_x c lt; y = record { above = omega (arith, ints); below = omega (arith, ints) } }) where
  near_x : (c : ℕ) → c < columns_of plan → IsNear (pos (c * bit_width (layout_kit kit)))
  near_x c lt =
      let few = s.few in
      let most : c * bit_width (layout_kit kit) ≤ 16777216 = few_wide c 256 (bit_width (layout_kit kit)) (omega (arith, lt, few)) (omega arith) s.narrow in
      record { above = omega (arith, ints); below = omega (arith, ints, most) }

-- Heights

pub stacked_of : (kit : Kit) (plan : Organization) (wire : Wire) (main tracks : ℕ) (fl : Floorplan) → AreSizes wire → IsFloorplan plan (layout_kit kit) wire (record { main = main; column = tracks }) fl → AreStacked (layout_kit kit) plan fl
stacked_of kit plan wire main tracks fl sizes stands =
    let space = sizes.space in
    let width = sizes.width in
    let q = pos_of (pitch wire) (omega (arith, ints, width.from, space.from)) in
    let step = q.is in
    let far : pos tracks *ℤ pitch wire ≡ pos (tracks * q.n) = ap (λ (z : ℤ). pos tracks *ℤ z) step in
    let sense_y = stands.sense_y in
    let column_y = stands.column_y in
    let array_y = stands.array_y in
    record {
      write = omega (arith, ints, sense_y);
      sense = omega (arith, ints, column_y, far, space.from);
      column = omega (arith, ints, array_y);
    }

pub raised_of : (kit : Kit) (plan : Organization) (wire : Wire) (main : ℕ) (routed : Routed) (fl : Floorplan) → IsKit kit → kit.tech.wire ≡ Some wire → AreSizes wire → IsFloorplan plan (layout_kit kit) wire (record { main = main; column = routed.tracks }) fl
    → AreTracksBelow routed.track routed.tracks → choice_count plan.col_bits ≤ length routed.track → IsRaised kit plan wire routed.track fl
raised_of kit plan wire main routed fl is wired sizes stands below each =
    let space = sizes.space in
    let width = sizes.width in
    let q = pos_of (pitch wire) (omega (arith, ints, width.from, space.from)) in
    let step = q.is in
    let far : pos routed.tracks *ℤ pitch wire ≡ pos (routed.tracks * q.n) = ap (λ (z : ℤ). pos routed.tracks *ℤ z) step in
    let sense_y = stands.sense_y in
    let column_y = stands.column_y in
    let array_y = stands.array_y in
    let precharge_y = stands.precharge_y in
    record {
      is = is;
      wired = wired;
      sizes = sizes;
      tracks = routed.tracks;
      below = below;
      each = each;
      channel = omega (arith, ints, column_y);
      sense = omega (arith, ints);
      column = omega (arith, ints, array_y);
      array = precharge_y;
      above = omega (arith, ints, sense_y, column_y, array_y, precharge_y, far, space.from);
      rows = omega (arith, ints, sense_y, column_y, array_y, far, space.from);
    }

-- The column channel lies near.

within : (wire : Wire) (s : Shape) → IsWireShape wire 1073741824 s → IsWireWithin 1073741824 wire s
within wire s near = record {
  layer = near.on;
  corners = record {
    low = record { x_above = near.left.above; x_below = near.left.below; y_above = near.low.above; y_below = near.low.below };
    high = record { x_above = near.right.above; x_below = near.right.below; y_above = near.high.above; y_below = near.high.below };
  };
}

coordinates : (pins : List ChannelPin) → column.AreNearPins pins → (k : ℕ) (d : ChannelPin) → k < length pins → IsCoordinate 268435456 (get_or pins k d).x
coordinates pins all k d lt = let near = all k d lt in record { above = near.above; below = near.below }

channel_near : (ch : Channel) → column.IsNearColumnChannel ch → IsChannelWithin ch
channel_near ch near = record { low = record { above = near.low.above; below = near.low.below }; top = coordinates ch.top near.top; bottom = coordinates ch.bottom near.bottom; exits = coordinates ch.exits near.exits }

pub column_near : RoutedShapesAreNear → (layers : List Layer) (kit : Kit) (plan : Organization) (wire : Wire) (routed : Routed) → IsWire layers wire → kit.tech.wire ≡ Some wire → column.IsColumnOf kit plan routed → IsNearRouted wire (choice_count plan.col_bits) routed
column_near law layers kit plan wire routed is wired of =
    let near = of.near wire wired in
    let few = of.few in
    let each = of.each in
    record {
      shapes = λ s there. within wire s (all_contained (IsWireShape wire 1073741824) routed.shapes s
          (law near.channel wire near.intervals routed (record { sizes = is.sizes; four = is.four; three = is.three }) (channel_near near.channel near.near) near.is (omega (arith, few))) there);
      tracks = record { each = omega (arith, each); few = λ number t at. let below = near.is.count.below number t at in omega (arith, below, few) };
    }

-- Loops

-- an edge more of a list that is mapped
pub mapped_more : {A B : Type 0} (f : A → B) (rest others : List A) (e : A) (now new all : List B) (x : B) → rest ≡ e ∷ others → new ≡ now ++ x ∷ [] → x ≡ f e → now ++ map f rest ≡ all → new ++ map f others ≡ all
mapped_more {A} {B} f rest others e now new all x front added is before =
    ap (λ (l : List B). l ++ map f others) (added ∙ ap (λ (y : B). now ++ y ∷ []) is) ∙ (append_assoc now (f e ∷ []) (map f others) ∙ (ap (λ (l : List A). now ++ map f l) (sym front) ∙ before))

-- Counts of cells

pub more_cells : {X : Type 0} (old new : List X) (a b d : X) → new ≡ old ++ a ∷ b ∷ d ∷ [] → length old < 1073741824 → length new < 1073741827
more_cells old new a b d is few = let long = ap length is in let counted = length-append old (a ∷ b ∷ d ∷ []) in omega (arith, long, counted, few)

pub one_more_cell : {X : Type 0} (old new : List X) (a : X) → new ≡ old ++ a ∷ [] → length old < 1073741827 → length new < 1073741828
one_more_cell old new a is few = let long = ap length is in let counted = length-append old (a ∷ []) in omega (arith, long, counted, few)
