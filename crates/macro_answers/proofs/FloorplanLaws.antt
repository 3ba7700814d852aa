-- The sides of a kit's leaf cells, and a floorplan with its ends.
use Rattle.std.proofs.Common.{ℕ, zero, suc, ◌*◌, ◌<◌, ◌≤◌, ℤ, pos, ◌+ℤ◌, ◌*ℤ◌, ◌≤ℤ◌, List, [], ◌∷◌, length, refl, arith}
use Rattle.std.specs.Int.{int_max}
use Rattle.std.proofs.lemmas.Int.{ints, clamps}
use Rattle.cell_roles.specs.declared.role.Role.{Role}
use Rattle.cell_roles.specs.declared.role.Role.TheVariants.{Bitcell, Driver, Inv, Precharge, Sense, Write}
use Rattle.tech_rules.specs.declared.tech.Wire.{Wire}
use Rattle.wire_drawing.specs.Drawing.{pitch}
use Rattle.tech_rules.specs.Facts.{IsWire}
use Rattle.sram_netlist.specs.Organization.{Organization, banks_of, written_bits}
use Rattle.sram_netlist.specs.InstanceList.{logic_cells}
use Rattle.sram_netlist.specs.Instances.{LogicAt, LogicCell}
use Rattle.sram_netlist.specs.Netlist.{role, row_gate}
use Rattle.sram_netlist.specs.Numbers.{ArePlanNumbers}
use Rattle.sram_plan.specs.declared.numbers.Plan.{Plan}
use Rattle.sram_plan.specs.PlanNumbers.{numbers_of, organization}
use Rattle.leaf_tables.specs.declared.kit.Kit.{Kit}
use Rattle.leaf_tables.specs.Kits.{IsKit}
use Rattle.port_data.proofs.KitLaws.{leaf_exists}
use Rattle.floorplan.specs.LayoutOfKit.{layout_kit}
use Rattle.floorplan.specs.LeafSides.{leaf_height, leaf_width}
use Rattle.floorplan.proofs.SideLaws.{height_is, width_is}
use Rattle.macro_layout.specs.LayoutKit.{LayoutKit}
use Rattle.macro_layout.specs.Places.{Floorplan, gate_width, total_width}
use Rattle.macro_layout.specs.Floorplan.{IsFloorplan, Tracks, column_role, upper_y, write_height}
use Rattle.macro_layout.specs.Wires.{ground_x, trunk_x}
use Rattle.macro_bounds.specs.Floorplans.{AreFewTracks, IsFloorplanWithin, IsSmallKit}
use Rattle.macro_bounds.specs.Near.{IsLengthUpTo}
use Rattle.macro_bounds.proofs.CountLaws.{logic_cells_are_few}
use Rattle.macro_bounds.proofs.FloorplanLaws.{floorplans_are_near, pitch_up}
use Rattle.floorplan.specs.declared.sides.LeafSides.{LeafSides}
use Rattle.floorplan.specs.declared.numbers.FloorplanNumbers.{FloorplanNumbers}
use Rattle.floorplan.specs.FloorplanNumbers.{IsNearFloorplan, IsUpTo, columns_from, floorplan_of}
use Rattle.floorplan.specs.Sides.{AreLeafSides, AreSidesOf, IsLeafSize}
use Rattle.floorplan.specs.Trunks.{IsBehind}
use Rattle.port_lists.proofs.NumberLaws.{banks_are}
use Rattle.sram_macro.specs.declared.extents.Extents.{Extents}
use Rattle.sram_macro.specs.Extents.{AreExtents, AreNearExtents}
use Rattle.sram_macro.proofs.ExtentLaws.{few_banks, first_width, four_times, some_banks}
use Rattle.sram_macro.proofs.KitFacts.{small_kit}
use Rattle.sram_macro.proofs.LayoutLaws.{seven_layers, some_floorplan}

-- Sides

tall : (kit : Kit) → IsKit kit → (role : Role) → IsLeafSize (leaf_height kit role)
tall kit is role = let leaf = leaf_exists kit is role in let side = height_is kit is role leaf.0 leaf.1 in record { from = side.some; to = side.few }

wide : (kit : Kit) → IsKit kit → (role : Role) → IsLeafSize (leaf_width kit role)
wide kit is role = let leaf = leaf_exists kit is role in let side = width_is kit is role leaf.0 leaf.1 in record { from = side.some; to = side.few }

written_few : (w n : ℕ) → n ≤ 65536 → written_bits w n ≤ 65536
written_few zero n few = omega arith
written_few (suc w) n few = few

abbrev pub kit_sides : Kit → Organization → LeafSides
kit_sides kit plan = record {
  inv_height = leaf_height kit Inv;
  write_height = write_height plan (layout_kit kit);
  sense_height = leaf_height kit Sense;
  end_height = leaf_height kit (column_role plan.col_bits);
  precharge_height = leaf_height kit Precharge;
  bit_height = leaf_height kit Bitcell;
  bit_width = leaf_width kit Bitcell;
  gate_width = gate_width plan (layout_kit kit);
  driver_width = leaf_width kit Driver;
}

pub sides_are : (kit : Kit) (plan : Organization) → IsKit kit → AreLeafSides (kit_sides kit plan)
sides_are kit plan is = record {
  inv_height = tall kit is Inv;
  write_height = written_few plan.write_size (leaf_height kit Write) (tall kit is Write).to;
  sense_height = tall kit is Sense;
  end_height = tall kit is (column_role plan.col_bits);
  precharge_height = tall kit is Precharge;
  bit_height = tall kit is Bitcell;
  bit_width = wide kit is Bitcell;
  gate_width = wide kit is (row_gate plan.groups);
  driver_width = wide kit is Driver;
}

pub sides_of : (kit : Kit) (plan : Organization) → AreSidesOf plan (layout_kit kit) (kit_sides kit plan)
sides_of kit plan = record { inv_height = refl; write_height = refl; sense_height = refl; end_height = refl; precharge_height = refl; bit_height = refl; bit_width = refl; gate_width = refl; driver_width = refl }

-- The floorplan

-- the floorplan of a macro, with so many tracks, and where it ends
pub record HasPlaces (kit : Kit) (plan : Organization) (wire : Wire) (tracks : Tracks) : Type 0 where
  pub numbers : FloorplanNumbers
  pub stands : IsFloorplan plan (layout_kit kit) wire tracks (floorplan_of numbers)
  pub near : IsNearFloorplan numbers
  pub within : IsFloorplanWithin (floorplan_of numbers)
  pub ends : Extents
  pub ends_are : AreExtents plan (layout_kit kit) wire (floorplan_of numbers) ends
  pub near_ends : AreNearExtents ends
  pub power : IsBehind (kit_sides kit plan) numbers ends.power_x
  pub ground : IsBehind (kit_sides kit plan) numbers ends.ground_x

abbrev numbers_in : Floorplan → FloorplanNumbers
numbers_in f = record {
  logic_x = f.logic_x;
  row_x = f.row_x;
  write_y = f.write_y;
  sense_y = f.sense_y;
  column_y = f.column_y;
  array_y = f.array_y;
  precharge_y = f.precharge_y;
  bank_width = f.bank_width;
}

up_to : (most : ℕ) (z : ℤ) → IsLengthUpTo most z → IsUpTo most z
up_to most z is = record { above = is.above; below = is.below }

near_numbers : (n : FloorplanNumbers) → IsFloorplanWithin (floorplan_of n) → IsNearFloorplan n
near_numbers n is = record {
  logic_x = up_to _ _ is.logic_x;
  row_x = up_to _ _ is.row_x;
  write_y = up_to _ _ is.write_y;
  sense_y = up_to _ _ is.sense_y;
  column_y = up_to _ _ is.column_y;
  array_y = up_to _ _ is.array_y;
  precharge_y = up_to _ _ is.precharge_y;
  bank_width = up_to _ _ is.bank_width;
}

-- The ends

row_few : (plan : Organization) (kit : LayoutKit) (cells : List LogicCell) → IsSmallKit kit → total_width plan kit cells ≤ 65536 * length cells
row_few plan kit [] small = omega arith
row_few plan kit (c ∷ cs) small = let one = small.widths (role plan (LogicAt c)) in let rest = row_few plan kit cs small in omega (arith, one, rest)

trunk_near : (a b s : ℤ) (n : ℕ) → IsUpTo 134217728 a → IsUpTo 131072 b → n ≤ 183500800 → pos 1 ≤ℤ s → s ≤ℤ pos 65536
    → IsUpTo 183697408 (int_max a (b +ℤ pos n) +ℤ s)
trunk_near a b s n banks logic few from to =
    let a0 = banks.above in
    let a1 = banks.below in
    let b0 = logic.above in
    let b1 = logic.below in
    record { above = omega (arith, ints, clamps, a0, b0, from); below = omega (arith, ints, clamps, a1, b1, few, to) }

ends_near : (t p h : ℤ) (k : ℕ) → IsUpTo 183697408 t → pos 0 ≤ℤ p → p ≤ℤ pos 131072 → IsUpTo 1073741824 h → k ≤ 65536
    → AreNearExtents (record { power_x = t; ground_x = t +ℤ p; width = t +ℤ (pos 2 *ℤ p); height = h +ℤ pos k })
ends_near t p h k trunk low high up few =
    let t0 = trunk.above in
    let t1 = trunk.below in
    let h0 = up.above in
    let h1 = up.below in
    record {
      power_x = record { above = t0; below = omega (arith, ints, t1) };
      ground_x = record { above = omega (arith, ints, t0, low); below = omega (arith, ints, t1, high) };
      width = record { above = omega (arith, ints, t0, low); below = omega (arith, ints, t1, high) };
      height = record { above = omega (arith, ints, h0); below = omega (arith, ints, h1, few) };
    }

over_logic : (a b s : ℤ) (n : ℕ) → pos 1 ≤ℤ s → b ≤ℤ (int_max a (b +ℤ pos n) +ℤ s)
over_logic a b s n from = omega (arith, ints, clamps, from)

over_columns : (a b s c w : ℤ) (n : ℕ) → pos 1 ≤ℤ s → c ≤ℤ w → w ≤ℤ a → c ≤ℤ (int_max a (b +ℤ pos n) +ℤ s)
over_columns a b s c w n from first all = omega (arith, ints, clamps, from, first, all)

behind_columns : (kit : Kit) (plan : Organization) (wire : Wire) (tracks : Tracks) (n : FloorplanNumbers)
    → IsFloorplan plan (layout_kit kit) wire tracks (floorplan_of n) → columns_from (kit_sides kit plan) n ≤ℤ n.bank_width
behind_columns kit plan wire tracks n stands = let width = stands.bank_width in omega (arith, ints, width)

pub places_there : (kit : Kit) (plan : Plan) (wire : Wire) (tracks : Tracks) → IsKit kit → ArePlanNumbers (numbers_of plan)
    → IsWire kit.tech.layers wire → AreFewTracks tracks → HasPlaces kit (organization plan) wire tracks
places_there kit plan wire tracks is planned wired few =
    let p = organization plan in
    let lk = layout_kit kit in
    let found = some_floorplan p lk wire tracks in
    let n = numbers_in found.0 in
    let f = floorplan_of n in
    let at = found.1 in
    let stands : IsFloorplan p lk wire tracks f = record {
      logic_x = at.logic_x;
      row_x = at.row_x;
      write_y = at.write_y;
      sense_y = at.sense_y;
      column_y = at.column_y;
      array_y = at.array_y;
      precharge_y = at.precharge_y;
      bank_width = at.bank_width;
    } in
    let small = small_kit kit is in
    let within = floorplans_are_near p lk wire tracks f planned.plan small (seven_layers kit.tech.layers wire wired) few stands in
    let near = near_numbers n within in
    let count = banks_are (numbers_of plan) planned in
    let four : banks_of p ≤ 4 = let le = few_banks (numbers_of plan) planned in omega (arith, le, count) in
    let some : 0 < banks_of p = let lt = some_banks (numbers_of plan) planned in omega (arith, lt, count) in
    let cells = logic_cells_are_few p planned.plan in
    let row = row_few p lk (logic_cells p) small in
    let banks = pos (banks_of p) *ℤ f.bank_width in
    let space = wired.sizes.space in
    let trunk = trunk_near banks f.logic_x wire.space (total_width p lk (logic_cells p)) (four_times (banks_of p) f.bank_width four near.bank_width) near.logic_x (omega (arith, row, cells)) space.from space.to in
    let pitch_is = pitch_up wire wired.sizes in
    let first = first_width (banks_of p) f.bank_width some four near.bank_width.above in
    let columns = behind_columns kit p wire tracks n stands in
    let logic = over_logic banks f.logic_x wire.space (total_width p lk (logic_cells p)) space.from in
    let right = over_columns banks f.logic_x wire.space (columns_from (kit_sides kit p) n) f.bank_width (total_width p lk (logic_cells p)) space.from columns first in
    let t = trunk.below in
    let low = pitch_is.0 in
    let high = pitch_is.1 in
    record {
      numbers = n;
      stands = stands;
      near = near;
      within = within;
      ends = record { power_x = trunk_x p lk wire f; ground_x = ground_x p lk wire f; width = trunk_x p lk wire f +ℤ (pos 2 *ℤ pitch wire); height = upper_y lk f };
      ends_are = record { power_x = refl; ground_x = refl; width = refl; height = refl };
      near_ends = ends_near (trunk_x p lk wire f) (pitch wire) f.precharge_y (leaf_height kit Precharge) trunk low high near.precharge_y (tall kit is Precharge).to;
      power = record { logic = logic; columns = right; near = omega (arith, ints, t) };
      ground = record { logic = omega (arith, ints, logic, low); columns = omega (arith, ints, right, low); near = omega (arith, ints, t, high) };
    }
