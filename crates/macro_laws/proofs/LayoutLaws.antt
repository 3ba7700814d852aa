-- A macro is laid out in one way.
use Rattle.std.proofs.Common.{◌≡◌, ◌⊎◌, ℕ, suc, ◌+◌, ◌*◌, ◌<◌, ◌≤◌, ℤ, pos, ◌+ℤ◌, length, Some, refl, sym, ap, subst, ◌∙◌, arith}
use Rattle.std.specs.Prelude.{◌↔◌, slice_get}
use Rattle.tech_rules.specs.declared.tech.Wire.{Wire}
use Rattle.wire_drawing.specs.Drawing.{pitch}
use Rattle.tech_rules.specs.Facts.{AreSizes}
use Rattle.channel_router.specs.declared.channel.Channel.{Channel}
use Rattle.channel_router.specs.declared.channel.Routed.{Routed}
use Rattle.channel_router.specs.Wires.{channel_height}
use Rattle.cell_roles.specs.declared.role.Role.TheVariants.{Sense}
use Rattle.sram_netlist.specs.Organization.{Organization, bank_rows, columns_of}
use Rattle.leaf_tables.specs.declared.kit.Kit.{Kit}
use Rattle.macro_layout.specs.LayoutKit.{LayoutKit}
use Rattle.macro_layout.specs.Places.{Floorplan, bit_width, bit_height, drive_width}
use Rattle.macro_layout.specs.Floorplan.{Tracks, IsFloorplan, column_channel_y, column_role, write_height}
use Rattle.macro_layout.specs.Channels.{IsColumnChannel, IsTrunkAt}
use Rattle.macro_layout.specs.Moved.{IsChannelMoved}
use Rattle.macro_layout.proofs.RoutingLaws.{item_at}
use Rattle.floorplan.specs.LayoutOfKit.{layout_kit}
use Rattle.port_data.specs.Column.{IsBankFloorplan, IsColumnRouted, IsColumnOf}
use Rattle.sram_macro.specs.Layout.{IsMainRouted}
use Rattle.sram_macro.proofs.MainChannelLaws.{same_pins, one_channel}
use Rattle.macro_laws.proofs.RouteLaws.{same_by_places, one_end, IsOneRouting, one_routing, one_height}

-- floorplans

pub one_floorplan : (plan : Organization) (kit : LayoutKit) (wire : Wire) (tracks : Tracks) (f g : Floorplan) → IsFloorplan plan kit wire tracks f → IsFloorplan plan kit wire tracks g → f ≡ g
one_floorplan plan kit wire tracks f g p q =
    let logic_x = p.logic_x ∙ sym q.logic_x in
    let row_x = p.row_x ∙ sym q.row_x in
    let write_y = p.write_y ∙ sym q.write_y in
    let sense_y = p.sense_y ∙ ap (λ (z : ℤ). z +ℤ pos (write_height plan kit)) write_y ∙ sym q.sense_y in
    let column_y = p.column_y ∙ ap (λ (z : ℤ). (z +ℤ pos (kit.height Sense)) +ℤ channel_height wire tracks.column) sense_y ∙ sym q.column_y in
    let array_y = p.array_y ∙ ap (λ (z : ℤ). z +ℤ pos (kit.height (column_role plan.col_bits))) column_y ∙ sym q.array_y in
    let precharge_y = p.precharge_y ∙ ap (λ (z : ℤ). z +ℤ pos (bank_rows plan * bit_height kit)) array_y ∙ sym q.precharge_y in
    let bank_width = p.bank_width ∙ ap (λ (z : ℤ). (z +ℤ pos (drive_width plan kit)) +ℤ pos (columns_of plan * bit_width kit)) row_x ∙ sym q.bank_width in
    λ i. record { logic_x = logic_x i; row_x = row_x i; write_y = write_y i; sense_y = sense_y i; column_y = column_y i; array_y = array_y i; precharge_y = precharge_y i; bank_width = bank_width i }

-- the column channel

one_column : (plan : Organization) (kit : LayoutKit) (wire : Wire) (floorplan : Floorplan) (c e : Channel) → IsColumnChannel plan kit wire floorplan c → IsColumnChannel plan kit wire floorplan e → IsChannelMoved (pos 0) (pos 0) c e
one_column plan kit wire floorplan c e a b = record {
  low = one_end c.low e.low _ a.low b.low;
  nets = b.nets ∙ sym a.nets;
  top = same_pins c.top e.top _ a.top b.top;
  bottom = same_pins c.bottom e.bottom _ a.bottom b.bottom;
  exits = same_pins c.exits e.exits _ a.exits b.exits;
}

-- both have the trunks of the column channel, on their tracks
record AreColumns (plan : Organization) (kit : LayoutKit) (wire : Wire) (floorplan : Floorplan) (a b : Routed) : Type 0 where
  sizes : AreSizes wire
  some : 0 < length a.track
  sized : length a.track ≡ length b.track
  first : IsColumnRouted plan kit wire floorplan a
  second : IsColumnRouted plan kit wire floorplan b

trunk_of : (plan : Organization) (kit : LayoutKit) (wire : Wire) (floorplan : Floorplan) (a : Routed) → IsColumnRouted plan kit wire floorplan a → (k t : ℕ) → slice_get a.track k ≡ Some t
    → IsTrunkAt (IsColumnChannel plan kit wire floorplan) wire a.tracks k (column_channel_y kit floorplan +ℤ channel_height wire t)
trunk_of plan kit wire floorplan a is k t at = (is.trunks k (column_channel_y kit floorplan +ℤ channel_height wire t)).1 (t, at, refl)

one_count : (plan : Organization) (kit : LayoutKit) (wire : Wire) (floorplan : Floorplan) (a b : Routed) → AreColumns plan kit wire floorplan a b → a.tracks ≡ b.tracks
one_count plan kit wire floorplan a b are =
    let some = are.some in
    let sized = are.sized in
    let t = item_at a.track 0 some in
    let u = item_at b.track 0 (omega (arith, some, sized)) in
    let v = trunk_of plan kit wire floorplan a are.first 0 t.item t.is in
    let w = trunk_of plan kit wire floorplan b are.second 0 u.item u.is in
    (one_routing (pitch wire) v.channel w.channel v.intervals w.intervals v.track w.track a.tracks b.tracks (one_column plan kit wire floorplan v.channel w.channel v.routed.meant w.routed.meant) v.routed.nets w.routed.nets
    (record { lowest = v.routed.lowest; count = v.routed.count }) (record { lowest = w.routed.lowest; count = w.routed.count })).count

columns_are_one : (plan : Organization) (kit : LayoutKit) (wire : Wire) (floorplan : Floorplan) (a b : Routed) → AreColumns plan kit wire floorplan a b → IsOneRouting a.track b.track a.tracks b.tracks
columns_are_one plan kit wire floorplan a b are = record {
  tracks = same_by_places a.track b.track are.sized each;
  count = count;
}
  where
    count : a.tracks ≡ b.tracks
    count = one_count plan kit wire floorplan a b are

    each : (k : ℕ) → k < length a.track → slice_get a.track k ≡ slice_get b.track k
    each k lt =
        let t = item_at a.track k lt in
        let y = column_channel_y kit floorplan +ℤ channel_height wire t.item in
        let there = subst (λ (n : ℕ). IsTrunkAt (IsColumnChannel plan kit wire floorplan) wire n k y) count (trunk_of plan kit wire floorplan a are.first k t.item t.is) in
        let u = (are.second.trunks k y).0 there in
        t.is ∙ ap (λ (n : ℕ). Some n) (one_height wire (column_channel_y kit floorplan) t.item u.0 are.sizes u.2) ∙ sym u.1

pub one_column_routing : (kit : Kit) (plan : Organization) (wire : Wire) (floorplan : Floorplan) (a b : Routed) → AreSizes wire → kit.tech.wire ≡ Some wire → 0 < plan.word_size → IsBankFloorplan plan (layout_kit kit) wire floorplan
    → IsColumnOf kit plan a → IsColumnOf kit plan b → IsOneRouting a.track b.track a.tracks b.tracks
one_column_routing kit plan wire floorplan a b sizes wired some bank p q =
    let each = p.each in
    columns_are_one plan (layout_kit kit) wire floorplan a b (record { sizes = sizes; some = omega (arith, each, some); sized = p.each ∙ sym q.each; first = p.stated wire floorplan wired bank; second = q.stated wire floorplan wired bank })

-- the main channel

pub one_main_routing : (plan : Organization) (kit : LayoutKit) (wire : Wire) (tracks : Tracks) (floorplan : Floorplan) (a b : Routed) → IsFloorplan plan kit wire tracks floorplan → IsMainRouted plan kit wire a → IsMainRouted plan kit wire b
    → IsOneRouting a.track b.track a.tracks b.tracks
one_main_routing plan kit wire tracks floorplan a b stands p q =
    one_routing (pitch wire) p.channel q.channel p.intervals q.intervals a.track b.track a.tracks b.tracks (one_channel plan kit wire floorplan p.channel q.channel (p.is.stated tracks floorplan stands) (q.is.stated tracks floorplan stands))
    p.routed_as.nets q.routed_as.nets (record { lowest = p.routed_as.lowest; count = p.routed_as.count }) (record { lowest = q.routed_as.lowest; count = q.routed_as.count })
