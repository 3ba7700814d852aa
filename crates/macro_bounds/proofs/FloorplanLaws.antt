-- Floorplans near the origin.
use Rattle.std.proofs.Common.{◌≡◌, ℕ, zero, suc, ◌+◌, ◌*◌, ◌≤◌, ◌^◌, ℤ, pos, negsuc, ◌+ℤ◌, ◌*ℤ◌, ◌≤ℤ◌, List, [], ◌∷◌, length, sym, subst, arith}
use Rattle.std.specs.List.{AllByRecursion}
use Rattle.std.proofs.Math.Nat.{mul-le-mul_left}
use Rattle.std.proofs.lemmas.Int.{ints}
use Rattle.cell_roles.specs.declared.role.Role.TheVariants.{Bitcell, Driver, Inv, Write, Sense}
use Rattle.tech_rules.specs.declared.tech.Wire.{Wire}
use Rattle.wire_drawing.specs.Drawing.{pitch}
use Rattle.tech_rules.specs.Facts.{AreSizes}
use Rattle.channel_router.specs.Wires.{channel_height}
use Rattle.sram_netlist.specs.Organization.{Organization, bank_rows, columns_of, IsBuildable, IsGroupSize}
use Rattle.sram_netlist.specs.Netlist.{row_gate}
use Rattle.sram_netlist.proofs.Bounds.{twice_up, written_most, size_small}
use Rattle.macro_layout.specs.Places.{Floorplan, bit_width, bit_height, drive_width}
use Rattle.macro_layout.specs.Floorplan.{line_count, choice_count, rail_count, write_height, column_role}
use Rattle.macro_bounds.specs.Near.{IsLengthUpTo}
use Rattle.macro_bounds.specs.Floorplans.{IsFloorplanWithin, FloorplansAreNear}
use Rattle.macro_bounds.proofs.CountLaws.{three_groups}

lines_few : (gs : List ℕ) → AllByRecursion IsGroupSize gs → line_count gs ≤ 8 * length gs
lines_few [] all = omega arith
lines_few (b ∷ bs) all = let one = twice_up b 3 (size_small b all.0).1 in let rest = lines_few bs all.1 in omega (arith, one, rest)

choices_few : (m : ℕ) → m ≤ 3 → choice_count m ≤ 8
choices_few zero le = omega arith
choices_few (suc m) le = let few = twice_up (suc m) 3 le in omega (arith, few)

rails_few : (plan : Organization) → IsBuildable plan → rail_count plan ≤ 35
rails_few plan p =
    let lines = lines_few plan.groups p.sizes in
    let three = three_groups plan.groups p.groups in
    let choices = choices_few plan.col_bits p.choices in
    omega (arith, lines, three, choices)

-- so many pitches
pub product_up : (n m : ℕ) (p : ℤ) → n ≤ m → pos 0 ≤ℤ p → p ≤ℤ pos 131072 → (pos 0 ≤ℤ (pos n *ℤ p)) × ((pos n *ℤ p) ≤ℤ pos (m * 131072))
product_up n m (pos p) few low high =
    let small : p ≤ 131072 = omega (arith, ints, high) in
    let le = mul-le-mul_left n small in
    let all : n * p ≤ m * 131072 = omega (arith, le, few) in
    (omega (arith, ints, all), omega (arith, ints, all))
product_up n m (negsuc p) few low high = absurd (omega (arith, ints, low))

pub sides : (a b m : ℕ) → a ≤ m → b ≤ 65536 → a * b ≤ m * 65536
sides a b m few small = let le = mul-le-mul_left a small in omega (arith, le, few)

pub pitch_up : (wire : Wire) → AreSizes wire → (pos 0 ≤ℤ pitch wire) × (pitch wire ≤ℤ pos 131072)
pitch_up wire s =
    let a = s.width.from in
    let b = s.width.to in
    let c = s.space.from in
    let d = s.space.to in
    (omega (arith, ints, a, c), omega (arith, ints, b, d))

pub height_up : (wire : Wire) (t m : ℕ) → AreSizes wire → t ≤ m → (pos 0 ≤ℤ channel_height wire t) × (channel_height wire t ≤ℤ pos (65536 + m * 131072))
height_up wire t m s few =
    let p = pitch_up wire s in
    let h = product_up t m (pitch wire) few p.0 p.1 in
    let low = s.space.from in
    let high = s.space.to in
    sum_up wire.space (pos t *ℤ pitch wire) (m * 131072) low high h.0 h.1
  where
    sum_up : (a b : ℤ) (m : ℕ) → pos 1 ≤ℤ a → a ≤ℤ pos 65536 → pos 0 ≤ℤ b → b ≤ℤ pos m → (pos 0 ≤ℤ (a +ℤ b)) × ((a +ℤ b) ≤ℤ pos (65536 + m))
    sum_up a b m l h l2 h2 = (omega (arith, ints, l, l2), omega (arith, ints, h, h2))

-- the heights, one upon another
heights_rise : (f : Floorplan) (inv write sense column rows : ℕ) (main channel : ℤ) → IsLengthUpTo (2 ^ 17) f.logic_x → IsLengthUpTo (2 ^ 23) f.row_x → IsLengthUpTo (2 ^ 25) f.bank_width
    → inv ≤ 65536 → write ≤ 65536 → sense ≤ 65536 → column ≤ 65536 → rows ≤ 16777216 → pos 0 ≤ℤ main → main ≤ℤ pos 536936448 → pos 0 ≤ℤ channel → channel ≤ℤ pos 268500992
    → f.write_y ≡ pos inv +ℤ main → f.sense_y ≡ f.write_y +ℤ pos write → f.column_y ≡ (f.sense_y +ℤ pos sense) +ℤ channel → f.array_y ≡ f.column_y +ℤ pos column → f.precharge_y ≡ f.array_y +ℤ pos rows → IsFloorplanWithin f
heights_rise f inv write sense column rows main channel logic_x row_x bank_width a b c d e m0 m1 c0 c1 w s k y p = record {
  logic_x = logic_x;
  row_x = row_x;
  bank_width = bank_width;
  write_y = record { above = omega (arith, ints, w, m0); below = omega (arith, ints, w, a, m1) };
  sense_y = record { above = omega (arith, ints, w, s, m0); below = omega (arith, ints, w, s, a, b, m1) };
  column_y = record { above = omega (arith, ints, w, s, k, m0, c0); below = omega (arith, ints, w, s, k, a, b, c, m1, c1) };
  array_y = record { above = omega (arith, ints, w, s, k, y, m0, c0); below = omega (arith, ints, w, s, k, y, a, b, c, d, m1, c1) };
  precharge_y = record { above = omega (arith, ints, w, s, k, y, p, m0, c0); below = omega (arith, ints, w, s, k, y, p, a, b, c, d, e, m1, c1) };
  to_sense = omega (arith, ints, s);
  to_column = omega (arith, ints, s, k, c0);
  to_array = omega (arith, ints, s, k, y, c0);
  to_precharge = omega (arith, ints, s, k, y, p, c0);
}

width_up : (b x : ℤ) (drive columns : ℕ) → IsLengthUpTo (2 ^ 23) x → drive ≤ 131072 → columns ≤ 16777216 → b ≡ (x +ℤ pos drive) +ℤ pos columns → IsLengthUpTo (2 ^ 25) b
width_up b x drive columns up d c e = let low = up.above in let high = up.below in record { above = omega (arith, ints, low, e); below = omega (arith, ints, high, d, c, e) }

rail_up : (x p : ℤ) (n : ℕ) → n ≤ 36 → pos 0 ≤ℤ p → p ≤ℤ pos 131072 → x ≡ pos n *ℤ p → IsLengthUpTo (2 ^ 23) x
rail_up x p n few low high is = let h = product_up n 36 p few low high in let a = h.0 in let b = h.1 in subst (IsLengthUpTo (2 ^ 23)) (sym is) (record { above = a; below = omega (arith, ints, b) })

logic_up : (x p : ℤ) → pos 0 ≤ℤ p → p ≤ℤ pos 131072 → x ≡ p → IsLengthUpTo (2 ^ 17) x
logic_up x p low high is = record { above = omega (arith, ints, low, is); below = omega (arith, ints, high, is) }

pub floorplans_are_near : FloorplansAreNear
floorplans_are_near plan kit wire tracks f p small w few is =
    let pitches = pitch_up wire w.sizes in
    let rails = rails_few plan p in
    let row_x = rail_up f.row_x (pitch wire) (rail_count plan + 1) (omega (arith, rails)) pitches.0 pitches.1 is.row_x in
    let gate = small.widths (row_gate plan.groups) in
    let driver = small.widths Driver in
    let columns = sides (columns_of plan) (bit_width kit) 256 p.columns (small.widths Bitcell) in
    let rows = sides (bank_rows plan) (bit_height kit) 256 p.rows (small.heights Bitcell) in
    let write = small.heights Write in
    let written = written_most plan.write_size (kit.height Write) in
    let main = height_up wire tracks.main 4096 w.sizes few.main in
    let channel = height_up wire tracks.column 2048 w.sizes few.column in
    heights_rise f (kit.height Inv) (write_height plan kit) (kit.height Sense) (kit.height (column_role plan.col_bits)) (bank_rows plan * bit_height kit) (channel_height wire tracks.main) (channel_height wire tracks.column)
    (logic_up f.logic_x (pitch wire) pitches.0 pitches.1 is.logic_x) row_x (width_up f.bank_width f.row_x (drive_width plan kit) (columns_of plan * bit_width kit) row_x (omega (arith, gate, driver)) (omega (arith, columns)) is.bank_width)
    (small.heights Inv) (omega (arith, written, write)) (small.heights Sense) (small.heights (column_role plan.col_bits)) (omega (arith, rows)) main.0 main.1 channel.0 channel.1 is.write_y is.sense_y is.column_y is.array_y is.precharge_y
