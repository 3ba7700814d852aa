-- A bank's numbers are near.
use Rattle.std.proofs.Common.{◌≡◌, inl, inr, ℕ, ◌-◌, ◌*◌, ◌<◌, ◌≤◌, ℤ, pos, ◌+ℤ◌, ◌*ℤ◌, ◌<ℤ◌, List, [], ◌∷◌, length, Option, Some, refl, ap, subst, arith}
use Rattle.std.specs.Prelude.{IfSome}
use Rattle.std.specs.List.{AllByRecursion}
use Rattle.std.proofs.lemmas.Int.{ints}
use Rattle.std.proofs.lemmas.Nat.{mul-le}
use Rattle.tech_rules.specs.declared.tech.Wire.{Wire}
use Rattle.wire_drawing.specs.Drawing.{pitch}
use Rattle.tech_rules.specs.Facts.{IsWire}
use Rattle.channel_router.specs.declared.channel.Routed.{Routed}
use Rattle.sram_netlist.specs.Organization.{IsGroupSize, IsWritten, columns_of, words_per_row}
use Rattle.sram_netlist.proofs.Bounds.{written_all}
use Rattle.sram_netlist.specs.Numbers.{ArePlanNumbers}
use Rattle.sram_plan.specs.PlanNumbers.{numbers_of, organization}
use Rattle.sram_plan.specs.declared.numbers.Plan.{Plan}
use Rattle.cell_roles.specs.declared.role.Role.TheVariants.{Write}
use Rattle.leaf_tables.specs.declared.kit.Kit.{Kit}
use Rattle.leaf_tables.specs.Kits.{IsKit}
use Rattle.macro_layout.specs.Places.{bit_width}
use Rattle.macro_layout.specs.Cells.{slice_x}
use Rattle.macro_layout.specs.Floorplan.{line_count, choice_count, rail_count}
use Rattle.floorplan.specs.LayoutOfKit.{layout_kit}
use Rattle.floorplan.specs.declared.sides.LeafSides.{LeafSides}
use Rattle.floorplan.specs.declared.numbers.FloorplanNumbers.{FloorplanNumbers}
use Rattle.floorplan.specs.Sides.{AreLeafSides, AreSidesOf}
use Rattle.floorplan.specs.FloorplanNumbers.{floorplan_of, IsNearFloorplan}
use Rattle.floorplan.proofs.SideLaws.{height_is}
use Rattle.floorplan.proofs.CountLaws.{counted}
use Rattle.port_data.proofs.KitLaws.{leaf_exists}
use Rattle.row_decoder.proofs.TapLaws.{few_in_group}
use Rattle.bank_layout.specs.Near.{IsBankGiven}
use Rattle.bank_layout.proofs.GoodLaws.{pos_of}
use Rattle.bank_layout.proofs.SiteLaws.{IsSite}

lines_few : (groups : List ℕ) → AllByRecursion IsGroupSize groups → line_count groups ≤ 8 * length groups
lines_few [] all = omega arith
lines_few (b ∷ bs) all = let few = few_in_group b all.0 in let rest = lines_few bs all.1 in omega (arith, few, rest)

pub rails_few : (plan : Plan) → ArePlanNumbers (numbers_of plan) → rail_count (organization plan) ≤ 64
rails_few plan are =
    let lines = lines_few (organization plan).groups are.plan.sizes in
    let choices = counted (organization plan).col_bits (choice_count (organization plan).col_bits) are.plan.choices refl in
    elim are.plan.groups [ inl two ↦ omega (arith, lines, choices, two) | inr three ↦ omega (arith, lines, choices, three) ]

-- the kit's wire
pub wire_of_kit : (kit : Kit) (wire : Wire) → IsKit kit → kit.tech.wire ≡ Some wire → IsWire kit.tech.layers wire
wire_of_kit kit wire is e = subst (λ (w : Option Wire). IfSome w (IsWire kit.tech.layers)) e is.tech.wire

-- what a bank is drawn of
pub record AreGiven (kit : Kit) (plan : Plan) (sides : LeafSides) (n : FloorplanNumbers) (wire : Wire) (routed : Routed) : Type 0 where
  pub is : IsKit kit
  pub plan_is : ArePlanNumbers (numbers_of plan)
  pub sides_are : AreLeafSides sides
  pub sides_of : AreSidesOf (organization plan) (layout_kit kit) sides
  pub near : IsNearFloorplan n
  pub wired : kit.tech.wire ≡ Some wire
  pub given : IsBankGiven (organization plan) (layout_kit kit) wire (floorplan_of n) routed

-- so many columns are at most 2^24 wide
pub few_wide : (a n w : ℕ) → a ≤ n → n ≤ 256 → w ≤ 65536 → a * w ≤ 16777216
few_wide a n w le few narrow = let most : a * w ≤ 256 * 65536 = mul-le a w 256 65536 (omega (arith, le, few)) narrow in omega (arith, most)

pub site_of : (kit : Kit) (plan : Plan) (sides : LeafSides) (n : FloorplanNumbers) (wire : Wire) (routed : Routed) → AreGiven kit plan sides n wire routed → IsSite kit (organization plan) wire (floorplan_of n) routed.track
site_of kit plan sides n wire routed g =
    let org = organization plan in
    let lk = layout_kit kit in
    let fl = floorplan_of n in
    let sizes = (wire_of_kit kit wire g.is g.wired).sizes in
    let near = g.near in
    let stands = g.given.stands.1 in
    let width = sizes.width in
    let space = sizes.space in
    let p = pos_of (pitch wire) (omega (arith, ints, width.from, space.from)) in
    let step = p.is in
    let far : pos routed.tracks *ℤ pitch wire ≡ pos (routed.tracks * p.n) = ap (λ (z : ℤ). pos routed.tracks *ℤ z) step in
    let sense_y = stands.sense_y in
    let column_y = stands.column_y in
    let array_y = stands.array_y in
    let precharge_y = stands.precharge_y in
    let write = g.sides_of.write_height in
    let write_few = g.sides_are.write_height in
    let sense = g.sides_of.sense_height in
    let sense_few = g.sides_are.sense_height.to in
    let gate = g.sides_of.gate_width in
    let gate_few = g.sides_are.gate_width.to in
    let drive = g.sides_of.driver_width in
    let drive_few = g.sides_are.driver_width.to in
    let bit = g.sides_of.bit_width in
    let bit_few = g.sides_are.bit_width.to in
    let columns = g.plan_is.plan.columns in
    let before : (org.word_size - 1) * words_per_row org ≤ columns_of org = mul-le (org.word_size - 1) (words_per_row org) org.word_size (words_per_row org) (omega arith) (omega arith) in
    let slice : slice_x org lk (org.word_size - 1) ≤ 16777216 = few_wide ((org.word_size - 1) * words_per_row org) (columns_of org) (bit_width lk) before columns (omega (arith, bit, bit_few)) in
    let column : (columns_of org - 1) * bit_width lk ≤ 16777216 = few_wide (columns_of org - 1) (columns_of org) (bit_width lk) (omega arith) columns (omega (arith, bit, bit_few)) in
    record {
      is = g.is;
      built = g.plan_is.plan;
      sizes = sizes;
      few = rails_few plan g.plan_is;
      row_x = stands.row_x;
      array = omega (arith, ints, sense_y, column_y, array_y, far, space.from);
      array_near = omega (arith, ints, near.array_y.below, near.write_y.above);
      sense = omega (arith, ints, sense_y);
      sense_near = omega (arith, ints, near.sense_y.below, near.write_y.above);
      precharge = omega (arith, ints, sense_y, column_y, array_y, precharge_y, far, space.from);
      precharge_near = omega (arith, ints, near.precharge_y.below, near.write_y.above);
      low = omega (arith, ints, sense_y);
      low_near = omega (arith, ints, sense_y, write, write_few, sense, sense_few);
      slice_near = omega (arith, ints, near.row_x.below, gate, gate_few, drive, drive_few, slice);
      column_near = omega (arith, ints, near.row_x.below, gate, gate_few, drive, drive_few, column);
      tracks = g.given.near.tracks;
    }

-- a write cell is above nothing
write_tall : (kit : Kit) → IsKit kit → 0 < (layout_kit kit).height Write
write_tall kit is = let leaf = leaf_exists kit is Write in (height_is kit is Write leaf.0 leaf.1).some

-- where there are any, the sense cells stand above these
pub sense_above : (kit : Kit) (plan : Plan) (sides : LeafSides) (n : FloorplanNumbers) (wire : Wire) (routed : Routed) → AreGiven kit plan sides n wire routed → (n.sense_y ≡ n.write_y +ℤ pos sides.write_height) × (IsWritten (organization plan) → n.write_y <ℤ n.sense_y)
sense_above kit plan sides n wire routed g =
    let sense_y = g.given.stands.1.sense_y in
    let write = g.sides_of.write_height in
    let some = write_tall kit g.is in
    (omega (arith, ints, sense_y, write), λ written. let all = written_all plan.write_size ((layout_kit kit).height Write) written in omega (arith, ints, sense_y, write, some, all))
